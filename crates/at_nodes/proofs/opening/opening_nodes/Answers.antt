use Rattle.std.proofs.Common.{◌≡◌, ◌∷◌, ◌++◌, [], List, Some, None, cond, get_or, map, take, sym, ap, subst, ◌∙◌}
use Rattle.std.proofs.Common.{arith}
use Rattle.std.proofs.lemmas.List.{map-append, take_all, take_more}
use Rattle.at_ddp.proofs.Alls.{all_both}
use Rattle.at_node.specs.Limits.{IsWithin}
use Rattle.at_node.specs.Nodes.{opening}
use Rattle.at_nodes.specs.Openings.{neighbours_of, opening_node, router_of}
use Rattle.at_nodes.specs.Nodes.{AreWithin}
use Rattle.at_setup.specs.declared.setup.NodeSetup.{NodeSetup}
use Rattle.at_nodes.proofs.opening.opening_nodes.Goals as goal

pub loop-n-preserved : goal.loop-n-preserved
loop-n-preserved g c =
    let s = c.args.setup.now in
    let setups = c.as_slice-setups.result.now in
    let n : NodeSetup = c.n-item.result in
    let i = c.loop-n.n-index in
    let same : setups ≡ s.nodes = c.as_slice-setups.ensures in
    let router = c.router_of-router.ensures ∙ ap router_of same in
    let known = c.in_ok-neighbours.ensures
    ∙ ap (λ (l : List NodeSetup). cond n.router (Some (neighbours_of l)) None) same in
    let node : c.new-node.result ≡ opening_node s n = c.new-node.ensures
    ∙ (λ k. opening (record { net = s.net; number = n.node; router = router k }) (c.zone_of-zone.ensures k)
    (c.in_ok-tables.ensures k) (known k) (c.rooms_of-rooms.ensures.value k)) in
    let name : get_or setups i n ≡ n = sym c.n-item.is in (
      c.in_ok-push.ensures.items ∙ (λ k. c.loop-n.invariant.0 k ++ node k ∷ [])
          ∙ sym (ap (map (opening_node s)) (take_more setups i n c.loop-n-test.true)
          ∙ map-append (opening_node s) (take i setups) (get_or setups i n ∷ [])
          ∙ ap (λ x. map (opening_node s) (take i setups) ++ opening_node s x ∷ []) name),
      subst AreWithin (sym c.in_ok-push.ensures.items)
          (all_both IsWithin c.loop-n.nodes.items (c.new-node.result ∷ []) c.loop-n.invariant.1 (c.limits.ensures, tt)),
    )

pub returns-clause-nodes : goal.returns-clause-nodes
returns-clause-nodes g c =
    let s = c.args.setup.now in
    let setups = c.as_slice-setups.result.now in
    let same : setups ≡ s.nodes = c.as_slice-setups.ensures in
    c.loop-n.invariant.0 ∙ ap (map (opening_node s))
    (take_all c.loop-n.n-index setups (omega (arith, c.loop-n-test.false)) ∙ same)

pub returns-clause-within : goal.returns-clause-within
returns-clause-within g c = c.loop-n.invariant.1
