-- What is known of a datagram that comes in time, in words of segments.
use Rattle.std.proofs.Common.{◌≡◌, ◌⊎◌, inl, inr, ⊎_elim, ℕ, true, List, Some}
use Rattle.std.proofs.Common.{sym, ap, subst, ◌∙◌}
use Rattle.std.specs.Prelude.{slice_get, ◌&&◌}
use Rattle.at_adsp.specs.Lawfully.{IsLawfullySent}
use Rattle.at_ddp.specs.Posts.{packet_at}
use Rattle.at_ddp.proofs.PostLemmas.{sent_at}
use Rattle.at_steps.specs.StreamHappenings.{stream_coding}
use Rattle.at_world.proofs.FreshLemmas.{IsFresh}
use Rattle.at_world.proofs.Entries.{sent_in, wire_of, IsPacketAt, IsAnothers}
use Rattle.at_adsp.specs.Network.{Sent, after, dest_of, is_fresh}
use Rattle.at_node.specs.declared.numbers.Draw.TheVariants.{Conn}
use Rattle.at_world.specs.Cables.{Cable}
use Rattle.at_world.specs.Sents.{SentDatagram}
use Rattle.at_world.specs.Machine.StreamGuards.{StreamMachine}
use Rattle.at_world.specs.Worlds.{WorldState}
use Rattle.at_world.proofs.CableTie.{Wire, CableTie, spelled_wire}
use Rattle.at_world.proofs.Parts.Streams.Tie.{StreamLaws, StreamTie}
use Rattle.at_world.proofs.Parts.Streams.Times.{kept_in_time}

-- a segment of the network, which comes in time
pub record ComesInTime (w : WorldState) (c : Cable) (m : StreamMachine) (wires : List Wire) (t : StreamTie w c wires m)
    (which : ℕ) (d : SentDatagram) : Type 0 where
  pub packet : Sent
  pub was_sent : packet_at (after t.setting t.history).sent which ≡ Some packet
  pub spells : d ≡ spelled_wire (wire_of stream_coding packet)
  pub fresh : is_fresh (after t.setting t.history).made packet ≡ true

-- such a segment, or a datagram of another protocol
abbrev pub Comes : (w : WorldState) (c : Cable) (m : StreamMachine) (wires : List Wire) → StreamTie w c wires m → ℕ
    → SentDatagram → Type 0
Comes w c m wires t which d = ComesInTime w c m wires t which d ⊎ IsAnothers stream_coding d

packet_comes : (A : Type 0) (laws : StreamLaws A) (w : WorldState) (c : Cable) (m : StreamMachine) (wires : List Wire)
    (t : StreamTie w c wires m) (which : ℕ) (d : SentDatagram) → IsFresh w d
    → IsPacketAt stream_coding (after t.setting t.history).sent which d → ComesInTime w c m wires t which d
packet_comes A laws w c m wires t which d fresh s =
    let p = s.0 in
    let lawful = sent_at IsLawfullySent (after t.setting t.history).sent which p
    (laws.lawful_sent t.setting t.history t.lawful t.in_range) s.1 in
    let late = subst (λ (x : SentDatagram). IsFresh w x) s.2 fresh in
    let source = kept_in_time w.last w.events p.from p.packet.source p.event (after t.setting t.history) t.drawn
    (λ some. late p.from.node (Conn p.packet.source) (laws.carries_source p lawful some)) in
    let dest = kept_in_time w.last w.events p.to (dest_of p.packet.body) p.event (after t.setting t.history) t.drawn
    (λ some. late p.to.node (Conn (dest_of p.packet.body)) (laws.carries_dest p lawful some)) in
    record { packet = p; was_sent = s.1; spells = s.2; fresh = λ i. source i && dest i }

pub comes : (A : Type 0) (laws : StreamLaws A) (w : WorldState) (c : Cable) (m : StreamMachine) (ct : CableTie w c)
    (t : StreamTie w c ct.wires m) (which : ℕ) (d : SentDatagram) → slice_get w.sent which ≡ Some d → IsFresh w d
    → Comes w c m ct.wires t which d
comes A laws w c m ct t which d is fresh =
    ⊎_elim
    (λ (s : IsPacketAt stream_coding (after t.setting t.history).sent which d). inl
    (packet_comes A laws w c m ct.wires t which d fresh s))
    (λ (x : IsAnothers stream_coding d). inr x)
    (sent_in stream_coding ct.wires (after t.setting t.history).sent which d t.sent
    (ap (λ l. slice_get l which) (sym ct.sent) ∙ is))
