use Rattle.at_adsp_frame.proofs.SegmentLemmas.{one_segment}
use Rattle.at_adsp_frame.proofs.laws.what_is_written_is_read.Goals as goal
use Rattle.at_adsp_frame.proofs.SpellingLemmas.{written_is_read, no_fault}

pub returns : goal.returns
returns c = record { read = written_is_read; alone = one_segment; faultless = no_fault }
