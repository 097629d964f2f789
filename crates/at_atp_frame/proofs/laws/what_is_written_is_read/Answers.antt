use Rattle.at_atp_frame.proofs.FrameLemmas.{no_fault}
use Rattle.at_atp_frame.proofs.laws.what_is_written_is_read.Goals as goal
use Rattle.at_atp_frame.proofs.SpellingLemmas.{written_is_read, one_packet}

pub returns : goal.returns
returns c = record { read = written_is_read; alone = one_packet; faultless = no_fault }
