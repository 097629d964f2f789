-- What is known of a datagram that comes in time, in words of names and lookups.
use Rattle.std.proofs.Common.{◌≡◌, ◌⊎◌, inl, inr, ⊎_elim, ℕ, true, List, Some}
use Rattle.std.proofs.Common.{sym, ap, subst, ◌∙◌}
use Rattle.std.specs.Prelude.{slice_get}
use Rattle.at_nbp.specs.Lawfully.{IsLawfullySent}
use Rattle.at_ddp.specs.Posts.{packet_at}
use Rattle.at_ddp.proofs.PostLemmas.{sent_at}
use Rattle.at_steps.specs.NameHappenings.{name_coding}
use Rattle.at_world.proofs.FreshLemmas.{IsFresh}
use Rattle.at_world.proofs.Entries.{sent_in, wire_of, IsPacketAt, IsAnothers}
use Rattle.at_nbp.specs.Network.{Sent, after, is_fresh}
use Rattle.at_nbp.specs.declared.function.Function.TheVariants as function
use Rattle.at_node.specs.declared.numbers.Draw.TheVariants.{Lookup as Identifier}
use Rattle.at_world.specs.Cables.{Cable}
use Rattle.at_world.specs.Machine.NameGuards.{NameMachine}
use Rattle.at_world.specs.Sents.{SentDatagram}
use Rattle.at_world.specs.Worlds.{WorldState}
use Rattle.at_world.proofs.CableTie.{Wire, CableTie, spelled_wire}
use Rattle.at_world.proofs.Parts.Names.Tie.{NameLaws, NameTie}
use Rattle.at_world.proofs.Parts.Names.Times.{in_time}

-- a packet of the network; if it is a reply, it comes in time
pub record ComesInTime (w : WorldState) (c : Cable) (m : NameMachine) (wires : List Wire) (t : NameTie w c wires m)
    (which : ℕ) (d : SentDatagram) : Type 0 where
  pub packet : Sent
  pub was_sent : packet_at (after t.setting t.history).sent which ≡ Some packet
  pub spells : d ≡ spelled_wire (wire_of name_coding packet)
  pub fresh : (packet.packet).function ≡ function.Reply → is_fresh (after t.setting t.history).begun packet ≡ true

-- such a packet, or a datagram of another protocol
abbrev pub Comes : (w : WorldState) (c : Cable) (m : NameMachine) (wires : List Wire) → NameTie w c wires m → ℕ
    → SentDatagram → Type 0
Comes w c m wires t which d = ComesInTime w c m wires t which d ⊎ IsAnothers name_coding d

packet_comes : (A : Type 0) (laws : NameLaws A) (w : WorldState) (c : Cable) (m : NameMachine) (wires : List Wire)
    (t : NameTie w c wires m) (which : ℕ) (d : SentDatagram) → IsFresh w d
    → IsPacketAt name_coding (after t.setting t.history).sent which d → ComesInTime w c m wires t which d
packet_comes A laws w c m wires t which d fresh s =
    let lawful = sent_at IsLawfullySent (after t.setting t.history).sent which s.0
    (laws.lawful_sent t.setting t.history t.lawful t.timely t.in_range) s.1 in
    let late = subst (λ (x : SentDatagram). IsFresh w x) s.2 fresh in
    record {
      packet = s.0;
      was_sent = s.1;
      spells = s.2;
      fresh = λ replies. in_time w.last w.events (s.0).to ((s.0).packet).id (s.0).event
          (after t.setting t.history).begun t.begun
          (late ((s.0).to).node (Identifier ((s.0).packet).id) (laws.carries s.0 lawful replies));
    }

pub comes : (A : Type 0) (laws : NameLaws A) (w : WorldState) (c : Cable) (m : NameMachine) (ct : CableTie w c)
    (t : NameTie w c ct.wires m) (which : ℕ) (d : SentDatagram) → slice_get w.sent which ≡ Some d → IsFresh w d
    → Comes w c m ct.wires t which d
comes A laws w c m ct t which d is fresh =
    ⊎_elim
    (λ (s : IsPacketAt name_coding (after t.setting t.history).sent which d). inl
    (packet_comes A laws w c m ct.wires t which d fresh s))
    (λ (x : IsAnothers name_coding d). inr x)
    (sent_in name_coding ct.wires (after t.setting t.history).sent which d t.sent
    (ap (λ l. slice_get l which) (sym ct.sent) ∙ is))
