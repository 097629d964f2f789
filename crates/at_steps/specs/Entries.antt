-- What a node sends, as the network of one protocol has it: its own packets, and nothing in the place of another's.
use Rattle.std.specs.Prelude.{◌≡◌, ℕ, ◌==◌, false, List, [], ◌∷◌, Option, Some, None}
use Rattle.at_ddp.specs.Posts.{Post, Posts}
use Rattle.at_event.specs.Outcomes.{Outgoing}

-- how a protocol's packets go into datagrams: the datagrams' protocol, and the bytes of a packet
pub record Coding (X : Type 0) : Type 0 where
  pub kind : ℕ
  pub bytes : X → List ℕ

-- a datagram is this packet, which this event sent; or it is of another protocol
abbrev pub IsEntry : {X : Type 0} → Coding X → ℕ → Outgoing → Option (Post X) → Type 0
IsEntry c event o (Some s) =
    (o ≡ record { from = s.from; to = s.to; kind = c.kind; data_ = c.bytes s.packet }) × (s.event ≡ event)
IsEntry c event o None = (o.kind == c.kind) ≡ false

abbrev pub AreEntries : {X : Type 0} → Coding X → ℕ → List Outgoing → Posts X → Type 0
AreEntries c event [] [] = Unit {0}
AreEntries c event (o ∷ out) (x ∷ sent) = IsEntry c event o x × AreEntries c event out sent
AreEntries c event [] (x ∷ sent) = ⊥
AreEntries c event (o ∷ out) [] = ⊥
