-- What is known of a datagram that comes in time.
use Rattle.std.proofs.Common.{◌≡◌, ◌⊎◌, inl, inr, ⊎_elim, ℕ, true, Some}
use Rattle.std.proofs.Common.{sym, ap, subst, ◌∙◌}
use Rattle.std.specs.Prelude.{slice_get}
use Rattle.at_atp.specs.Lawfully.{IsLawfullySent}
use Rattle.at_atp_frame.specs.Frames.{owner, number_of}
use Rattle.at_ddp.specs.Posts.{packet_at}
use Rattle.at_ddp.proofs.PostLemmas.{sent_at}
use Rattle.at_steps.specs.AtpHappenings.{atp_coding}
use Rattle.at_world.proofs.FreshLemmas.{IsFresh}
use Rattle.at_world.proofs.Entries.{sent_in, IsPacketAt, IsAnothers}
use Rattle.at_atp.specs.Network.{Sent, is_fresh, after}
use Rattle.at_node.specs.declared.numbers.Draw.TheVariants.{Tid}
use Rattle.at_world.specs.Machine.AtpGuards.{AtpMachine}
use Rattle.at_world.specs.Cables.{Cable}
use Rattle.at_world.proofs.CableTie.{CableTie}
use Rattle.at_world.specs.Sents.{SentDatagram}
use Rattle.at_world.specs.Worlds.{WorldState}
use Rattle.at_world.specs.Stories.{posted_packet}
use Rattle.at_world.proofs.Parts.Atp.Tie.{Laws, AtpTie}
use Rattle.at_world.proofs.Parts.Atp.Times.{in_time}

-- a packet of the network that comes in time
pub record ComesInTime (A : Type 0) (w : WorldState) (cable : Cable) (m : AtpMachine) (ct : CableTie w cable)
    (t : AtpTie A w cable ct.wires m) (which : ℕ) (d : SentDatagram) : Type 0 where
  pub packet : Sent
  pub was_sent : packet_at (after A t.history).sent which ≡ Some packet
  pub spells : d ≡ posted_packet packet
  pub fresh : is_fresh (after A t.history).drawn packet ≡ true

-- such a packet, or a datagram of another protocol
abbrev pub Comes : (A : Type 0) (w : WorldState) (cable : Cable) (m : AtpMachine) (ct : CableTie w cable)
    → AtpTie A w cable ct.wires m → ℕ → SentDatagram → Type 0
Comes A w cable m ct t which d = ComesInTime A w cable m ct t which d ⊎ IsAnothers atp_coding d

packet_comes : (A : Type 0) (laws : Laws A) (w : WorldState) (cable : Cable) (m : AtpMachine) (ct : CableTie w cable)
    (t : AtpTie A w cable ct.wires m) (which : ℕ) (d : SentDatagram) → IsFresh w d
    → IsPacketAt atp_coding (after A t.history).sent which d → ComesInTime A w cable m ct t which d
packet_comes A laws w cable m ct t which d fresh s =
    let lawful = sent_at IsLawfullySent (after A t.history).sent which s.0
    (laws.lawful_sent t.history t.in_range) s.1 in
    let carried = laws.carries (s.0).to (s.0).from (s.0).packet lawful.to_fits lawful.from_fits lawful.lawful in
    let late = subst (λ (x : SentDatagram). IsFresh w x) s.2 fresh in
    let in_the_world = late (owner (s.0).from (s.0).to (s.0).packet).node (Tid (number_of (s.0).packet)) carried in
    let in_the_network = in_time w.last w.events (owner (s.0).from (s.0).to (s.0).packet) (number_of (s.0).packet)
    (s.0).event (after A t.history).drawn t.drawn in_the_world in
    record {
      packet = s.0;
      was_sent = s.1;
      spells = s.2;
      fresh = in_the_network;
    }

pub comes : (A : Type 0) (laws : Laws A) (w : WorldState) (cable : Cable) (m : AtpMachine) (ct : CableTie w cable)
    (t : AtpTie A w cable ct.wires m) (which : ℕ) (d : SentDatagram) → slice_get w.sent which ≡ Some d → IsFresh w d
    → Comes A w cable m ct t which d
comes A laws w cable m ct t which d is fresh =
    ⊎_elim
    (λ (s : IsPacketAt atp_coding (after A t.history).sent which d). inl
    (packet_comes A laws w cable m ct t which d fresh s))
    (λ (x : IsAnothers atp_coding d). inr x)
    (sent_in atp_coding ct.wires (after A t.history).sent which d t.sent
    (ap (λ l. slice_get l which) (sym ct.sent) ∙ is))
