use Rattle.at_adsp.proofs.PlainHistories.{reads_beginnings}
use Rattle.at_adsp.proofs.laws.what_is_read_begins_what_was_written.Goals as goal

pub returns : goal.returns
returns c = reads_beginnings
