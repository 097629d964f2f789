use Rattle.at_adsp.proofs.FlowHistories.{reads_in_order}
use Rattle.at_adsp.proofs.laws.what_is_read_was_written_in_order.Goals as goal

pub returns : goal.returns
returns c = reads_in_order
