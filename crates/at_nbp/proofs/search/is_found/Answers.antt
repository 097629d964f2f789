use Rattle.std.proofs.Common.{◌∙◌}
use Rattle.at_nbp.proofs.KnownLemmas.{known_as}
use Rattle.at_nbp.proofs.search.is_found.Goals as goal

pub returns : goal.returns
returns g c = c.contains.ensures ∙ known_as c.args.find.now c.args.finds.now.keys
