use Rattle.at_steps.proofs.Protocols.Streams.Holding.{holds_no_end}
use Rattle.at_steps.proofs.laws.streams.an_identifier_that_is_not_held_has_no_end.Goals as goal

pub returns : goal.returns
returns c = holds_no_end
