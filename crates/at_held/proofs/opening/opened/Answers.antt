use Rattle.std.proofs.Common.{◌∙◌, sym}
use Rattle.at_held.proofs.OpeningLemmas.{no_node}
use Rattle.at_held.proofs.opening.opened.Goals as goal

pub returns-then-not-is_set_up-clause-fault : goal.returns-then-not-is_set_up-clause-fault
returns-then-not-is_set_up-clause-fault c =
    no_node c.args.setup.now c.args.number (sym c.is_set_up.ensures ∙ c.if-not-is_set_up.true)
