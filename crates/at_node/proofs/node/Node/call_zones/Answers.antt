use Rattle.std.proofs.Common.{refl, subst}
use Rattle.at_node.specs.Nodes.{NodeState, called, with_atp}
use Rattle.at_event.specs.Outcomes.{IsStep, over}
use Rattle.at_zone_socket.specs.ZoneSocket.{set_zones_called}
use Rattle.at_event.specs.declared.Call.{Call}
use Rattle.at_event.specs.declared.Call.TheVariants.{Zones}
use Rattle.at_event.specs.declared.zones.ZoneCall.TheVariants.{Set}
use Rattle.at_event.proofs.OutcomeLemmas.{step_over}
use Rattle.at_zone_socket.proofs.Opened.{opened}
use Rattle.at_node.proofs.node.Node.call_zones.Goals as goal
use Rattle.at_zone_socket.specs.AtpParts.{with_zones}

pub returns-in-Set : goal.returns-in-Set
returns-in-Set g c =
    let self = c.self in
    let inside : NodeState = opened c.self.view_is in
    let new : NodeState = record inside { atp = c.set_zones.new.self } in
    let items = c.args.out.now.items in
    let call : Call g.row.A.Denot = Zones (Set c.in-Set.which c.in-Set.names) in
    rw c.in-Set.is
    (subst (λ (n : NodeState). IsStep (called n call) n items c.set_zones.result new items) self.view_is
    (step_over (with_atp inside) inside inside.atp refl items c.set_zones.result c.set_zones.new.self items
    (over (with_zones inside.atp) (set_zones_called inside.atp.zones inside.atp.zones.tables c.in-Set.which
    c.in-Set.names))
    (rw c.as_slice.ensures at (c.set_zones.ensures items))))
