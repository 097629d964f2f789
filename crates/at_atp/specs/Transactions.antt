-- Transactions as their users see them: who asked whom for what, and the answers that were given (Inside AppleTalk,
-- ATP, "Transactions"). Packets, bitmaps and records play no part.
use Rattle.std.specs.Prelude.{◌≡◌, ℕ, ◌+◌, ◌≤◌, ◌==◌, ◌&&◌, if◌then◌else◌, Bool, true, List, [], ◌∷◌, ◌++◌, length}
use Rattle.std.specs.Prelude.{find, slice_get, Option, Some, ◌⊎◌}
use Rattle.std.specs.List.{Contains}
use Rattle.at_ddp.specs.Address.{same_address}
use Rattle.at_ddp.specs.declared.address.Address.{Address}
use Rattle.at_atp_frame.specs.Packets.{Packet}

-- One transaction from its beginning on: who asks whom, for what, and under which number. It has the number of packets
-- wanted, whether it is exactly-once, and the answers that were given to it.
pub record Transaction : Type 0 where
  pub requester : Address
  pub tid : ℕ
  pub responder : Address
  pub user : List ℕ
  pub data_ : List ℕ
  pub wanted : ℕ
  pub xo : Bool
  pub answers : List (List Packet)

abbrev pub is_transaction : Address → ℕ → Transaction → Bool
is_transaction requester tid t = same_address t.requester requester && (t.tid == tid)

-- the newest transaction of a requester under a number; the newest transactions come first
abbrev pub transaction_of : List Transaction → Address → ℕ → Option Transaction
transaction_of ts requester tid = find (is_transaction requester tid) ts

-- the newest transaction of a requester under a number exists, and asked this address
pub record Asked (ts : List Transaction) (requester : Address) (tid : ℕ) (responder : Address) : Type 0 where
  pub transaction : Transaction
  pub newest : transaction_of ts requester tid ≡ Some transaction
  pub asked_it : transaction.responder ≡ responder

-- an answer is given to the newest transaction of a requester under a number
abbrev pub answered : List Transaction → Address → ℕ → List Packet → List Transaction
answered [] requester tid packets = []
answered (t ∷ ts) requester tid packets =
    if is_transaction requester tid t then record t { answers = t.answers ++ packets ∷ [] } ∷ ts
    else t ∷ answered ts requester tid packets

-- some answer that was given has this packet at this place, and ends with it or does not
pub record IsPart (t : Transaction) (place : ℕ) (ends : Bool) (p : Packet) : Type 0 where
  pub answer : List Packet
  pub given : Contains t.answers answer
  pub there : slice_get answer place ≡ Some p
  pub is_end : ends ≡ (place + 1 == length answer)

-- each of these packets is at its place of some answer; the first is at this place
abbrev pub AreParts : Transaction → ℕ → List Packet → Type 0
AreParts t place [] = Unit {0}
AreParts t place (p ∷ ps) = ((ends : Bool) × IsPart t place ends p) × AreParts t (place + 1) ps

-- the last of these packets ends some answer
abbrev pub EndsAnswer : Transaction → ℕ → List Packet → Type 0
EndsAnswer t place [] = ⊥
EndsAnswer t place (p ∷ []) = IsPart t place true p
EndsAnswer t place (p ∷ q ∷ ps) = EndsAnswer t (place + 1) (q ∷ ps)

-- What a response may be: packets at their places of some answers, and no more than were asked for. The last of them
-- ends an answer, or all that were asked for are there.
pub record IsResponse (t : Transaction) (packets : List Packet) : Type 0 where
  pub some : 1 ≤ length packets
  pub few : length packets ≤ t.wanted
  pub parts : AreParts t 0 packets
  pub whole : EndsAnswer t 0 packets ⊎ (length packets ≡ t.wanted)
