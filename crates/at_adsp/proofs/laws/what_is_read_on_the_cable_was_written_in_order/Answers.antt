use Rattle.at_adsp.proofs.NearHistories.{near_reads}
use Rattle.at_adsp.proofs.laws.what_is_read_on_the_cable_was_written_in_order.Goals as goal

pub returns : goal.returns
returns c = near_reads
