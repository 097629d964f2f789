use Rattle.std.proofs.Common.{List, ℕ, refl, sym, subst}
use Rattle.at_ddp.specs.Sending.{Sends}
use Rattle.at_ddp.specs.declared.address.Address.{Address}
use Rattle.at_nbp.specs.Packets.{packet_content}
use Rattle.at_nbp.specs.Tuples.{content}
use Rattle.at_name_socket.specs.NameSockets.{Relays, SocketState, relayed_in}
use Rattle.at_name_socket.specs.declared.step.Heard.TheVariants.{Relayed}
use Rattle.at_name_socket.proofs.SocketLemmas.{relayed_one}
use Rattle.at_name_socket.proofs.socket.NameSocket.relay.Goals as goal

pub returns-clause-ok : goal.returns-clause-ok
returns-clause-ok g c =
    let s : SocketState = record {
      table = c.self.inside.names;
      lookups = c.self.inside.lookups;
      claims = c.self.inside.claims.items;
      neighbours = c.self.inside.neighbours;
    } in
    let packet = packet_content c.args.packet.now in
    let neighbours = c.in-Some.neighbours in
    let zone = rw (c.zone-own.ensures, c.as_slice.ensures) at c.zone_of-zone.ensures in
    let sent = relayed_one s neighbours packet (content c.only.result) c.zone_of-zone.result.now
    c.only.ensures.value zone in
    let pushed = rw c.own.ensures at c.in_ok-relay.ensures.ok in
    subst (λ (t : SocketState). (x : List (Address × List ℕ)) × Relays t packet t.neighbours Relayed x
    × Sends c.args.out.now c.relay.new.out x) c.self.view_is (
      relayed_in s neighbours packet,
      subst (λ o. Relays s packet o Relayed (relayed_in s neighbours packet)) (sym c.in-Some.is) (refl, refl),
      subst (Sends c.args.out.now c.relay.new.out) sent pushed,
    )
