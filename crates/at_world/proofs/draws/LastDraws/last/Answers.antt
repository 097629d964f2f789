use Rattle.std.proofs.Common.{nat_eq, refl, ◌∙◌, ap}
use Rattle.at_node.specs.contracts.numbers.DrawPartialEq.TheImpl as equality
use Rattle.at_world.specs.Draws.{Draws, last_of}
use Rattle.at_world.proofs.DrawLemmas.{found, kinds_apart}
use Rattle.at_world.proofs.draws.LastDraws.last.Goals as goal

pub returns : goal.returns
returns g c = c.copied.ensures ∙ c.get.ensures.value
    ∙ found nat_eq (equality.ghosts).eq (λ a b. refl)
    kinds_apart c.self.inside.events.entries c.args.node c.args.draw
    ∙ ap (λ (d : Draws). last_of d c.args.node c.args.draw) c.self.view_is
