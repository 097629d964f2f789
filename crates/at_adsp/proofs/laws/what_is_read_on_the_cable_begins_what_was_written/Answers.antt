use Rattle.at_adsp.proofs.NearHistories.{near_begins}
use Rattle.at_adsp.proofs.laws.what_is_read_on_the_cable_begins_what_was_written.Goals as goal

pub returns : goal.returns
returns c = near_begins
