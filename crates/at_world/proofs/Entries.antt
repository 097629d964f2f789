-- All that was ever sent on a cable, as the network of one protocol has it: its own packets, and nothing for others.
use Rattle.std.proofs.Common.{◌≡◌, ◌⊎◌, inl, inr, ℕ, zero, suc, false, List, [], ◌∷◌, ◌++◌, map, length, Option, Some}
use Rattle.std.proofs.Common.{None, refl, sym, ap, ◌∙◌, arith}
use Rattle.std.specs.Prelude.{slice_get, ◌==◌}
use Rattle.at_ddp.specs.Posts.{Post, Posts, packet_at}
use Rattle.at_event.specs.Outcomes.{Outgoing}
use Rattle.at_steps.specs.Entries.{Coding, AreEntries}
use Rattle.at_world.specs.Sents.{SentDatagram}
use Rattle.at_world.proofs.CableTie.{Wire, wire, spelled_wire}

-- a packet as it was sent
abbrev pub wire_of : {X : Type 0} → Coding X → Post X → Wire
wire_of c s = record { event = s.event; from = s.from; to = s.to; kind = c.kind; data_ = c.bytes s.packet }

-- what was sent at a place: a packet of this protocol, or a datagram of another
abbrev pub IsWire : {X : Type 0} → Coding X → Wire → Option (Post X) → Type 0
IsWire c x (Some s) = x ≡ wire_of c s
IsWire c x None = (x.kind == c.kind) ≡ false

abbrev pub Entries : {X : Type 0} → Coding X → List Wire → Posts X → Type 0
Entries c [] [] = Unit {0}
Entries c (x ∷ xs) (y ∷ ys) = IsWire c x y × Entries c xs ys
Entries c [] (y ∷ ys) = ⊥
Entries c (x ∷ xs) [] = ⊥

pub entries_both : {X : Type 0} (c : Coding X) (xs xs' : List Wire) (ys ys' : Posts X) → Entries c xs ys
    → Entries c xs' ys' → Entries c (xs ++ xs') (ys ++ ys')
entries_both c [] xs' [] ys' a b = b
entries_both c (x ∷ xs) xs' (y ∷ ys) ys' a b = (a.0, entries_both c xs xs' ys ys' a.1 b)
entries_both c [] xs' (y ∷ ys) ys' a b = absurd a
entries_both c (x ∷ xs) xs' [] ys' a b = absurd a

-- what a node sends
pub entries_of : {X : Type 0} (c : Coding X) (event event' : ℕ) (out : List Outgoing) (more : Posts X) → event ≡ event'
    → AreEntries c event' out more → Entries c (map (wire event) out) more
entries_of c event event' [] [] same all = tt
entries_of c event event' (o ∷ out) (Some s ∷ more) same all = (
  ap (wire event) all.0.0 ∙ (λ i. wire_of c (record s { event = (same ∙ sym all.0.1) i })),
  entries_of c event event' out more same all.1,
)
entries_of c event event' (o ∷ out) (None ∷ more) same all = (all.0, entries_of c event event' out more same all.1)
entries_of c event event' [] (x ∷ more) same all = absurd all
entries_of c event event' (o ∷ out) [] same all = absurd all

-- as many datagrams were sent as stand in the network
pub as_many : {X : Type 0} (c : Coding X) (xs : List Wire) (ys : Posts X) → Entries c xs ys → length ys ≡ length xs
as_many c [] [] h = refl
as_many c (x ∷ xs) (y ∷ ys) h = let rest = as_many c xs ys h.1 in omega (arith, rest)
as_many c [] (y ∷ ys) h = absurd h
as_many c (x ∷ xs) [] h = absurd h

-- ---- what was sent at a place

-- a packet of the network
abbrev pub IsPacketAt : {X : Type 0} → Coding X → Posts X → ℕ → SentDatagram → Type 0
IsPacketAt {X} c sent i d = (s : Post X) × (packet_at sent i ≡ Some s) × (d ≡ spelled_wire (wire_of c s))

-- a datagram of another protocol
abbrev pub IsAnothers : {X : Type 0} → Coding X → SentDatagram → Type 0
IsAnothers c d = (x : Wire) × (d ≡ spelled_wire x) × ((x.kind == c.kind) ≡ false)

-- it is one of the two
pub sent_in : {X : Type 0} (c : Coding X) (wires : List Wire) (sent : Posts X) (i : ℕ) (d : SentDatagram)
    → Entries c wires sent → slice_get (map spelled_wire wires) i ≡ Some d → IsPacketAt c sent i d ⊎ IsAnothers c d
sent_in c [] [] i d all is = absurd (cc)
sent_in c [] (y ∷ sent) i d all is = absurd all
sent_in c (x ∷ wires) [] i d all is = absurd all
sent_in c (x ∷ wires) (Some s ∷ sent) zero d all is =
    let same : spelled_wire x ≡ d = cc in inl (s, refl, sym same ∙ ap spelled_wire all.0)
sent_in c (x ∷ wires) (None ∷ sent) zero d all is =
    let same : spelled_wire x ≡ d = cc in inr (x, sym same, all.0)
sent_in c (x ∷ wires) (y ∷ sent) (suc i) d all is = sent_in c wires sent i d all.1 is
