-- Transactions as the machine has them: who asked whom for what, and the answers that were given (Inside AppleTalk,
-- ATP, "Transactions", and ZIP, "GetZoneList", "GetLocalZones").
use Rattle.std.specs.Prelude.{◌≡◌, ℕ, ◌-◌, ◌≤◌, ◌==◌, ◌&&◌, if◌then◌else◌, Bool, false, List, [], ◌∷◌, ◌++◌, length}
use Rattle.std.specs.Prelude.{find, slice_get, Option, Some, ◌⊎◌, Any}
use Rattle.at_ddp.specs.Address.{same_address}
use Rattle.at_ddp.specs.declared.address.Address.{Address}
use Rattle.at_atp_frame.specs.Packets.{Packet}
use Rattle.at_zip.specs.Reading.{place_after}
use Rattle.at_zip.specs.declared.request.TableChoice.{TableChoice}
use Rattle.at_transaction_socket.specs.TransactionSockets.{asking}

-- What a transaction asks for: the page of a zone table from a place on, of which the first is 1; or what a node's user
-- asks of a service, by the user bytes and the data of its call.
pub data Asks : Type 0 where
  ForPage : (which : TableChoice) (start : ℕ) → Asks
  ForService : (user bytes : List ℕ) → Asks

-- One transaction from its beginning on: who asks whom, for what, and under which number. It has the number of packets
-- wanted, whether it is exactly-once, and the answers that were given to it.
pub record Transaction : Type 0 where
  pub requester : Address
  pub tid : ℕ
  pub responder : Address
  pub asks : Asks
  pub wanted : ℕ
  pub xo : Bool
  pub answers : List (List Packet)

-- a transaction without answers
abbrev pub new_transaction : Address → ℕ → Address → Asks → ℕ → Bool → Transaction
new_transaction from tid to asks wanted xo =
    record { requester = from; tid = tid; responder = to; asks = asks; wanted = wanted; xo = xo; answers = [] }

-- a node asks for the page of a table after these names: one packet, at least once
abbrev pub page_asked : ℕ → ℕ → Address → TableChoice → List (List ℕ) → ℕ → Transaction
page_asked net node server which names tid =
    new_transaction (asking net node) tid server (ForPage which (place_after names)) 1 false

-- ---- the newest of a number

abbrev pub is_transaction : Address → ℕ → Transaction → Bool
is_transaction requester tid t = same_address t.requester requester && (t.tid == tid)

-- the newest transaction of a requester under a number; the newest transactions come first
abbrev pub transaction_of : List Transaction → Address → ℕ → Option Transaction
transaction_of ts requester tid = find (is_transaction requester tid) ts

-- the newest transaction of a requester under a number exists, and asked this address
pub record Asked (ts : List Transaction) (requester : Address) (tid : ℕ) (responder : Address) : Type 0 where
  pub transaction : Transaction
  pub newest : transaction_of ts requester tid ≡ Some transaction
  pub asked_it : transaction.responder ≡ responder

-- an answer is given to the newest transaction of a requester under a number
abbrev pub answered : List Transaction → Address → ℕ → List Packet → List Transaction
answered [] requester tid packets = []
answered (t ∷ ts) requester tid packets =
    if is_transaction requester tid t then record t { answers = t.answers ++ packets ∷ [] } ∷ ts
    else t ∷ answered ts requester tid packets

-- ---- responses

-- as many packets as in the other, and the same last one
abbrev pub EndsAs : List Packet → List Packet → Type 0
EndsAs packets answer = (length answer ≡ length packets)
    × (slice_get answer (length packets - 1) ≡ slice_get packets (length packets - 1))

-- What a response may be: packets at their places of some answers, and no more than were asked for. It ends as some
-- answer does, or all that were asked for are there.
pub record IsResponse (t : Transaction) (packets : List Packet) : Type 0 where
  pub some : 1 ≤ length packets
  pub few : length packets ≤ t.wanted
  pub parts : (place : ℕ) (p : Packet) → slice_get packets place ≡ Some p
      → Any (λ answer. slice_get answer place ≡ Some p) t.answers
  pub whole : Any (EndsAs packets) t.answers ⊎ (length packets ≡ t.wanted)
