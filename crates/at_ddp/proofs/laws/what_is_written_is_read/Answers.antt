use Rattle.at_ddp.proofs.Spellings.{what_is_written_is_read, one_reading}
use Rattle.at_ddp.proofs.Readings.{no_fault}
use Rattle.at_ddp.proofs.laws.what_is_written_is_read.Goals as goal

pub returns : goal.returns
returns c = record { read = what_is_written_is_read; alone = one_reading; faultless = no_fault }
