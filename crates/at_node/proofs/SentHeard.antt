-- What is sent is heard, from the laws of the spellings.
use Rattle.std.proofs.Common.{lit<, ◌≡◌, inl, inr, ℕ, ◌<◌, ◌≤◌, Bool, true, false, List, [], ◌++◌, length, Option, Some}
use Rattle.std.proofs.Common.{None, refl, subst}
use Rattle.std.specs.Prelude.{MatchBool}
use Rattle.std.proofs.lemmas.List.{append-nil}
use Rattle.at_ddp.specs.Datagram.{Content as Datagram, IsAddress, AreBytes, BeginsWith, canonical, written}
use Rattle.at_ddp.specs.Fault as ddp
use Rattle.at_ddp.specs.declared.address.Address.{Address}
use Rattle.at_ddp.specs.declared.fault.DdpFault.{DdpFault}
use Rattle.at_ddp.specs.Protocols.{atp_kind}
use Rattle.at_atp_frame.specs.Frames.{Content, IsLawful, Spells, spelled}
use Rattle.at_atp_frame.specs.Fault as atp
use Rattle.at_atp_frame.specs.Frames.{owner, number_of}
use Rattle.at_node.specs.Numbers.{Carries}
use Rattle.at_node.specs.declared.numbers.Draw.TheVariants.{Tid}
use Rattle.at_atp_frame.specs.declared.fault.AtpFault.{AtpFault}
use Rattle.at_event.specs.declared.service.Reply.{Reply}
use Rattle.at_event.specs.declared.Report.TheVariants.{Ignored}
use Rattle.at_event.specs.declared.seat.Seat.{Seat}
use Rattle.at_zone_socket.specs.AtpHearing.{AtpSocket, AtSocket, HearsAt, atp_socket}
use Rattle.at_zone_socket.specs.AtpParts.{AtpState}
use Rattle.at_node.specs.Hearing.{HearsIt, Hears, HearsSent}
use Rattle.at_node.specs.Nodes.{HearsMine, NodeState, over_atp}
use Rattle.at_event.specs.Outcomes.{Outcome, Through, idle}
use Rattle.at_event.specs.Seats.{is_mine}

-- ---- packets

pub record PacketLaws : Type 0 where
  pub reads : (f : Content) → IsLawful f → Spells (spelled f) f
  pub alone : (input : List ℕ) (f g : Content) → Spells input f → Spells input g → f ≡ g
  pub faultless : (input : List ℕ) (f : Content) → Spells input f → (fault : AtpFault) → ¬ atp.Stands fault input

at_socket : (A : Type 0) (said : Reply A) (s : Seat) (a : AtpState) (d : Datagram) (socket : Option AtpSocket)
    (f : Content) (o : Outcome A AtpState) → PacketLaws → IsLawful f → d.data_ ≡ spelled f
    → HearsAt said s a d socket o → AtSocket said s a d.from socket f o
at_socket A said s a d None f o laws ok is h = h
at_socket A said s a d (Some socket) f o laws ok is (inl h) =
    subst (λ g. AtSocket said s a d.from (Some socket) g o)
    (laws.alone (spelled f) h.packet f (subst (λ bytes. Spells bytes h.packet) is h.spelled) (laws.reads f ok))
    h.outcome
at_socket A said s a d (Some socket) f o laws ok is (inr h) =
    let first = h.first in
    absurd (laws.faultless (spelled f) f (laws.reads f ok) h.fault (subst (atp.Stands h.fault) is first.stands))

-- ---- datagrams

pub record DatagramLaws : Type 0 where
  pub reads : (to from : Address) (kind : ℕ) (bytes rest : List ℕ) → IsAddress to → IsAddress from → kind < 256
      → AreBytes bytes → length bytes ≤ 586
      → BeginsWith (canonical to from kind bytes ++ rest) (written to from kind bytes) rest
  pub alone : (input : List ℕ) (d e : Datagram) (x y : List ℕ) → BeginsWith input d x → BeginsWith input e y → (d ≡ e)
      × (x ≡ y)
  pub faultless : (input : List ℕ) (d : Datagram) (rest : List ℕ) → BeginsWith input d rest → (fault : DdpFault)
      → ¬ ddp.Stands fault input
  pub fits : (f : Content) → IsLawful f → AreBytes (spelled f) × (length (spelled f) ≤ 586)

begins : DatagramLaws → (to from : Address) (f : Content) → IsAddress to → IsAddress from → IsLawful f
    → BeginsWith (canonical to from atp_kind (spelled f)) (written to from atp_kind (spelled f)) []
begins laws to from f to_fits from_fits ok =
    let fits = laws.fits f ok in
    subst (λ bytes. BeginsWith bytes (written to from atp_kind (spelled f)) [])
    (append-nil (canonical to from atp_kind (spelled f)))
    (laws.reads to from atp_kind (spelled f) [] to_fits from_fits (lit< tt) fits.0 fits.1)

-- bytes that were written for a packet carry its number
pub carries : (to from : Address) (f : Content) → DatagramLaws → ((g : Content) → IsLawful g → Spells (spelled g) g)
    → IsAddress to → IsAddress from → IsLawful f
    → Carries (canonical to from atp_kind (spelled f)) (owner from to f).node (Tid (number_of f))
carries to from f laws reads to_fits from_fits ok = record {
  datagram = written to from atp_kind (spelled f);
  rest = [];
  begins = begins laws to from f to_fits from_fits ok;
  number = (refl, (f, reads f ok, refl, refl));
}

-- what its part does with a datagram of ATP that was written for a packet
mine_as_sent : (A : Type 0) (said : Reply A) (n : NodeState) (to from : Address) (f : Content)
    (o : Outcome A NodeState) → PacketLaws → IsLawful f →
    HearsIt said n (written to from atp_kind (spelled f)) o → HearsSent said n to from f o
mine_as_sent A said n to from f o packets ok = go (is_mine n.seat to)
  where
    go : (b : Bool) → MatchBool b (HearsMine said n (written to from atp_kind (spelled f)) o) (o ≡ idle n Ignored)
        → MatchBool b (Through (over_atp n) (AtSocket said n.seat n.atp from (atp_socket n.atp to.socket) f) o)
        (o ≡ idle n Ignored)
    go false h = h
    go true h = (
      h.0,
      at_socket A said n.seat n.atp (written to from atp_kind (spelled f))
          (atp_socket n.atp to.socket) f h.0 packets ok refl h.1,
      h.2,
    )

pub heard_as_sent : (A : Type 0) (said : Reply A) (n : NodeState) (to from : Address) (f : Content)
    (o : Outcome A NodeState) → DatagramLaws → PacketLaws → IsAddress to → IsAddress from → IsLawful f →
    Hears said n (canonical to from atp_kind (spelled f)) o → HearsSent said n to from f o
heard_as_sent A said n to from f o laws packets to_fits from_fits ok (inl h) =
    let sent = written to from atp_kind (spelled f) in
    let same = laws.alone (canonical to from atp_kind (spelled f)) h.datagram sent h.rest [] h.begins
    (begins laws to from f to_fits from_fits ok) in
    mine_as_sent A said n to from f o packets ok (subst (λ (d : Datagram). HearsIt said n d o) same.0 h.outcome)
heard_as_sent A said n to from f o laws packets to_fits from_fits ok (inr h) =
    let first = h.first in
    absurd (laws.faultless (canonical to from atp_kind (spelled f)) (written to from atp_kind (spelled f)) []
    (begins laws to from f to_fits from_fits ok) h.fault first.stands)
