use Rattle.std.proofs.Common.{refl, subst}
use Rattle.at_event.proofs.OutcomeLemmas.{step_over}
use Rattle.at_event.specs.Outcomes.{IsStep, over}
use Rattle.at_zone_socket.specs.AtpParts.{AtpState, with_zones}
use Rattle.at_zone_socket.specs.ZoneSocket.{set_zones_called}
use Rattle.at_zone_socket.proofs.Opened.{opened}
use Rattle.at_zone_socket.proofs.atp_part.AtpPart.set_zones.Goals as goal

pub returns : goal.returns
returns g c = λ items.
    let inside : AtpState = opened c.self.view_is in
    let new : AtpState = with_zones inside c.set_table.new.self in
    subst (λ (a : AtpState). IsStep (over (with_zones a)
    (set_zones_called {A = g.row.A.Denot} a.zones a.zones.tables c.args.which c.args.names.now)) a items
    c.set_table.result new items) c.self.view_is
    (step_over (with_zones inside) inside inside.zones refl items c.set_table.result c.set_table.new.self items
    (set_zones_called inside.zones inside.zones.tables c.args.which c.args.names.now) (c.set_table.ensures items))
