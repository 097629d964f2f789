use Rattle.std.proofs.Common.{ap, sym, ◌∙◌, arith}
use Rattle.std.proofs.lemmas.Bool.{eq-eqb, ne_eqb}
use Rattle.at_nodes.specs.Nodes.{is_numbered}
use Rattle.at_nodes.proofs.Seeking.{found_here, found_nowhere, passed_here}
use Rattle.at_nodes.proofs.places.place_of.Goals as goal

pub returns-then-number : goal.returns-then-number
returns-then-number g c =
    let n = c.index-nodes-place.result in
    found_here (is_numbered c.args.number) c.args.nodes.now c.loop-place.place n (omega (arith, c.loop-place-test.true))
    (ap (is_numbered c.args.number) (sym c.index-nodes-place.is)
    ∙ eq-eqb n.seat.number c.args.number (sym c.number.ensures ∙ c.if-number.true)) ∙ sym c.loop-place.invariant

pub loop-place-preserved : goal.loop-place-preserved
loop-place-preserved g c =
    let n = c.index-nodes-place.result in
    c.loop-place.invariant
    ∙ passed_here (is_numbered c.args.number) c.args.nodes.now c.loop-place.place n
    (omega (arith, c.loop-place-test.true))
    (ap (is_numbered c.args.number) (sym c.index-nodes-place.is)
    ∙ ne_eqb n.seat.number c.args.number (λ is. c.if-number.false (c.number.ensures ∙ is)))

pub returns : goal.returns
returns g c =
    found_nowhere (is_numbered c.args.number) c.args.nodes.now c.loop-place.place
    (omega (arith, c.loop-place-test.false, c.loop-place.auto.place-end)) ∙ sym c.loop-place.invariant
