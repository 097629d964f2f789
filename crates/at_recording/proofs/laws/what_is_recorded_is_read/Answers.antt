use Rattle.std.proofs.Common.{arith}
use Rattle.std.specs.Prelude.{None}
use Rattle.at_recording.specs.Recordings.{front, records_of}
use Rattle.at_recording.proofs.RecordLemmas.{records_fit}
use Rattle.at_recording.proofs.laws.what_is_recorded_is_read.Goals as goal

pub returns : goal.returns
returns c = λ sent fit.
    c.what_is_written_is_read.ensures front 65535 (records_of sent) (omega arith)
    (records_fit None sent (omega arith) fit)
