use Rattle.at_nbp.proofs.Histories.{finds_stood}
use Rattle.at_nbp.proofs.LookupLaws.{none_drawn}
use Rattle.at_nbp.proofs.laws.finds_stood_since_their_lookup_began.Goals as goal

pub returns : goal.returns
returns c = record { stood = finds_stood; drawn = none_drawn }
