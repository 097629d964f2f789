use Rattle.at_steps.proofs.Protocols.Atp.Holding.{holds_none}
use Rattle.at_steps.proofs.laws.a_number_that_is_not_held_has_no_record.Goals as goal

pub returns : goal.returns
returns c = holds_none
