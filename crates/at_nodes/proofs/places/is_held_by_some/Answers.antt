use Rattle.std.proofs.Common.{ap, sym, ◌∙◌, arith}
use Rattle.at_node.specs.Numbers.{holds}
use Rattle.at_nodes.proofs.Seeking.{holds_further, holds_here, holds_nowhere}
use Rattle.at_nodes.proofs.places.is_held_by_some.Goals as goal

pub returns-then-holds : goal.returns-then-holds
returns-then-holds g c =
    holds_here (λ n. holds n c.args.node c.args.draw) c.args.nodes.now c.loop-place.place c.index-nodes-place.result
    (omega (arith, c.loop-place-test.true))
    (ap (λ n. holds n c.args.node c.args.draw) (sym c.index-nodes-place.is) ∙ sym c.holds.ensures ∙ c.if-holds.true)
    ∙ sym c.loop-place.invariant

pub loop-place-preserved : goal.loop-place-preserved
loop-place-preserved g c =
    c.loop-place.invariant
    ∙ holds_further (λ n. holds n c.args.node c.args.draw) c.args.nodes.now c.loop-place.place
    c.index-nodes-place.result
    (omega (arith, c.loop-place-test.true))
    (ap (λ n. holds n c.args.node c.args.draw) (sym c.index-nodes-place.is) ∙ sym c.holds.ensures ∙ c.if-holds.false)

pub returns : goal.returns
returns g c =
    holds_nowhere (λ n. holds n c.args.node c.args.draw) c.args.nodes.now c.loop-place.place
    (omega (arith, c.loop-place-test.false, c.loop-place.auto.place-end)) ∙ sym c.loop-place.invariant
