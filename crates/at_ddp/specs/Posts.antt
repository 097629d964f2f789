-- Posts of a cable: what was sent on it, by whom, to whom, and in which event. A protocol sees its own packets, and
-- nothing in the place of any other (Inside AppleTalk, DDP, "Datagrams").
use Rattle.std.specs.Prelude.{ℕ, if◌then◌else◌, List, map, slice_get, IfSome, Option, Some, None}
use Rattle.std.specs.List.{AllByRecursion}
use Rattle.at_ddp.specs.Address.{same_address}
use Rattle.at_ddp.specs.declared.address.Address.{Address}

-- a packet that was sent, with the event that sent it
pub record Post (X : Type 0) : Type 0 where
  pub event : ℕ
  pub from : Address
  pub to : Address
  pub packet : X

-- all that was ever sent on a cable, as one protocol sees it; nothing stands for a foreign datagram
abbrev pub Posts : Type 0 → Type 0
Posts X = List (Option (Post X))

-- what was sent at a place, if it is a packet of this protocol
abbrev pub packet_of : {X : Type 0} → Option (Option (Post X)) → Option (Post X)
packet_of None = None
packet_of (Some x) = x

abbrev pub packet_at : {X : Type 0} → Posts X → ℕ → Option (Post X)
packet_at sent which = packet_of (slice_get sent which)

-- this holds of each packet that was sent
abbrev pub AllSent : {X : Type 0} → (Post X → Type 0) → Posts X → Type 0
AllSent P sent = AllByRecursion (λ x. IfSome x P) sent

-- what one address sends in an event
abbrev pub stamped : {X : Type 0} → ℕ → Address → List (Address × X) → Posts X
stamped {X} event from sent =
    map (λ (s : Address × X). Some (record { event = event; from = from; to = s.0; packet = s.1 })) sent

-- a new value at one address
abbrev pub put : {X : Type 0} → (Address → X) → Address → X → Address → X
put f at x a = if same_address at a then x else f a
