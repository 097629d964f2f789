use Rattle.std.proofs.Common.{refl, ◌∙◌, ap}
use Rattle.at_world.specs.Draws.{Draws, drawn_at}
use Rattle.at_world.proofs.DrawLemmas.{inserted, kinds_apart}
use Rattle.at_world.proofs.draws.LastDraws.note.Goals as goal

pub returns : goal.returns
returns g c = record {
  ok = c.in_ok-insert.ensures.entries
      ∙ inserted _ _ (λ a b. refl)
      kinds_apart c.self.inside.events.entries c.args.node c.args.draw c.args.event
      ∙ ap (λ (d : Draws). drawn_at d c.args.node c.args.draw c.args.event) c.self.view_is;
}
