-- The machine that a world is tied to has the peers of its ends.
use Rattle.std.proofs.Common.{sym, subst}
use Rattle.at_adsp.specs.Connections.{streams}
use Rattle.at_adsp.specs.Meetings.{NamesPeer}
use Rattle.at_adsp.specs.Network.{after}
use Rattle.at_stream_socket.specs.Sockets.{streams_at}
use Rattle.at_world.specs.Agreements.{NamesPeers}
use Rattle.at_world.specs.Machine.{Machine}
use Rattle.at_world.specs.Worlds.{WorldState}
use Rattle.at_world.proofs.Parts.Streams.Standing.{at_place, stands_there}
use Rattle.at_world.proofs.Parts.Streams.Tie.{StreamLaws}
use Rattle.at_world.proofs.Parts.{Tied}

pub names_peers : (A : Type 0) (laws : StreamLaws A) (w : WorldState) (m : Machine) → Tied A w m → NamesPeers m w
names_peers A laws w m t k n stands id e is opened =
    let s = t.streams in
    let st = stands_there w m.cable m.sessions m.streams t.cable t.sessions t.streams k n stands in
    subst (λ l. NamesPeer l (streams_at m.cable.net k) e) (sym s.streams_are)
    (at_place w m.cable m.sessions m.streams t.cable t.sessions t.streams k n stands
    (λ net j. NamesPeer (streams (after s.setting s.history)) (streams_at net j) e)
    (laws.names s.setting s.history n id e st is opened))
