use Rattle.std.proofs.Common.{◌≡◌, ◌∙◌, Some, None, ap, subst, sym}
use Rattle.at_node.specs.Nodes.{NodeState}
use Rattle.at_node.specs.Numbers.{DrawsBy}
use Rattle.at_node.specs.declared.numbers.Draw.TheVariants.{Conn}
use Rattle.at_node.proofs.DrawLemmas.{end_of}
use Rattle.at_node.proofs.NumberLemmas.{nat_same}
use Rattle.at_zone_socket.proofs.Opened.{opened}
use Rattle.at_node.proofs.node.Node.draw_of_segment.Goals as goal

pub returns-in-Some-clause-only : goal.returns-in-Some-clause-only
returns-in-Some-clause-only g c draw h =
    let n : NodeState = opened c.self.view_is in
    let inside = subst (λ (n : NodeState). DrawsBy n c.args.packet.now draw) (sym c.self.view_is) h in
    let its = end_of n c.args.packet.now draw c.requires inside in
    ap (λ x. Some (Conn x)) (nat_same c.in-Some.id its.0 (sym c.in-Some.is ∙ c.made_by.ensures.only its.0 its.1))
    ∙ ap Some (sym its.2)

pub returns-in-None-clause-only : goal.returns-in-None-clause-only
returns-in-None-clause-only g c draw h =
    let n : NodeState = opened c.self.view_is in
    let inside = subst (λ (n : NodeState). DrawsBy n c.args.packet.now draw) (sym c.self.view_is) h in
    let its = end_of n c.args.packet.now draw c.requires inside in
    let both : None ≡ Some its.0 = sym c.in-None.is ∙ c.made_by.ensures.only its.0 its.1 in absurd (cc)
