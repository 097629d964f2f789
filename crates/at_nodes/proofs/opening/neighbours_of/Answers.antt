use Rattle.std.proofs.Common.{◌∷◌, ◌++◌, [], Some, None, sym, ap, ◌∙◌, append-nil}
use Rattle.at_setup.specs.declared.setup.NodeSetup.{NodeSetup}
use Rattle.at_nodes.proofs.SetupLemmas.{neighbours_more}
use Rattle.at_nodes.proofs.opening.neighbours_of.Goals as goal
use Rattle.at_nodes.proofs.opening.neighbours_of.Goals.{in-Some+in_ok-push, in_default}

pub loop-n-preserved : goal.loop-n-preserved
loop-n-preserved g c =
    let n : NodeSetup = c.n-item.result in
    let more = neighbours_more c.args.nodes.now c.loop-n.n-index n in
    elim c.match-n.branch [
      | in-Some+in_ok-push w ↦
          ap (λ v. v.items) w.neighbours-is ∙ w.in_ok-push.ensures.items
          ∙ (λ i. c.loop-n.invariant i ++ record { node = (c.n-item.is i).node; zone = w.copy_of.ensures i } ∷ [])
          ∙ sym (more (Some w.in-Some.zone) c.loop-n-test.true
          (ap (λ (x : NodeSetup). x.zone) (sym c.n-item.is) ∙ w.in-Some.is))
      | in_default w ↦ ap (λ v. v.items) w.neighbours-is ∙ c.loop-n.invariant ∙ sym (append-nil _)
          ∙ sym (more None c.loop-n-test.true (ap (λ (x : NodeSetup). x.zone) (sym c.n-item.is) ∙ w.in_default.is))
    ]
