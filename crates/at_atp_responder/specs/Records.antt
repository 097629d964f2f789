-- The responder, and what each call does to it (Inside AppleTalk, ATP, "At-least-once and exactly-once transactions").
use Rattle.std.specs.Prelude.{◌≡◌, ℕ, ◌<◌, ◌+◌, ◌/◌, ◌%◌, ◌==◌, ◌&&◌, nat_le, if◌then◌else◌, Bool, false, is_none}
use Rattle.std.specs.Prelude.{List, [], ◌∷◌, ◌++◌, length, find, Option, Some, None}
use Rattle.std.specs.List.{list_all}
use Rattle.at_ddp.specs.Address.{same_address}
use Rattle.at_ddp.specs.Outbox.{Outbox}
use Rattle.at_ddp.specs.Sending.{Sends}
use Rattle.at_ddp.specs.declared.address.Address.{Address}
use Rattle.at_atp_frame.specs.Packets.{Packet}
use Rattle.at_atp_frame.specs.Frames.{Content, Request, Response, Release, spelled_all}
use Rattle.at_ddp.specs.Tables.{replaced, without_first}
use Rattle.at_atp_frame.specs.declared.fault.AtpFault.{AtpFault}
use Rattle.at_atp_frame.specs.declared.fault.AtpFault.TheVariants.{AtpTooLong, NoSuch, EmptyAnswer, StillPending, Gone}
use Rattle.at_atp_responder.specs.declared.reception.Key.{Key}
use Rattle.at_atp_responder.specs.declared.reception.Reception.{Reception}
use Rattle.at_atp_responder.specs.declared.reception.Reception.TheVariants as reception

-- what became of a request
pub data State : Type 0 where
  -- it waits for its answer, and asks for the packets in the bitmap; `xo` means exactly-once
  Waiting : (xo : Bool) (bitmap : ℕ) → State
  -- it is exactly-once and was answered, and the answer is kept
  Answered : (packets : List Packet) → State
  -- it is exactly-once, and its answer arrived complete
  Released : State

-- a request that came: who asked, under which number, and what became of it
pub record Record : Type 0 where
  pub key : Key
  pub state : State

abbrev pub is_key : Key → Record → Bool
is_key key r = same_address r.key.from key.from && (r.key.tid == key.tid)

-- the data of each packet has at most 578 bytes; the number of packets is tested in answer_fault
abbrev pub fit : List Packet → Bool
fit packets = list_all (λ p. nat_le (length p.data_) 578) packets

-- The packets whose bits are set in the bitmap, from a sequence number on: bit 0 is for that one. The last packet ends
-- the answer.
abbrev pub responses : Key → ℕ → ℕ → List Packet → List (Address × Content)
responses key place bitmap [] = []
responses key place bitmap (p ∷ ps) =
    (if bitmap % 2 == 1 then (key.from, Response place (length ps == 0) false key.tid p.user p.data_) ∷ [] else [])
    ++ responses key (place + 1) (bitmap / 2) ps

-- what came of a packet: whether a request is delivered to the service, the records after it, and what is sent
pub record Received : Type 0 where
  pub reception : Reception
  pub after : List Record
  pub sent : List (Address × Content)

abbrev pub passed : List Record → Received
passed rs = record { reception = reception.Ignored; after = rs; sent = [] }

-- what a packet does to the record of its request
pub record Repeat : Type 0 where
  pub reception : Reception
  pub state : State
  pub sent : List (Address × Content)

-- A request that has a record is not delivered again. Its bitmap counts from now on; whether it is exactly-once does
-- not change.
abbrev pub repeated : Key → ℕ → State → Repeat
repeated key bitmap (Waiting xo old) = record { reception = reception.Again 0; state = Waiting xo bitmap; sent = [] }
repeated key bitmap (Answered packets) =
    record {
      reception = reception.Again (length (responses key 0 bitmap packets));
      state = Answered packets;
      sent = responses key 0 bitmap packets;
    }
repeated key bitmap Released = record { reception = reception.Ignored; state = Released; sent = [] }

-- The release of an answer that is kept: the answer arrived complete, and is dropped. The record stays, so that a late
-- request is not delivered again.
abbrev pub released : State → Repeat
released (Waiting xo bitmap) = record { reception = reception.Ignored; state = Waiting xo bitmap; sent = [] }
released (Answered packets) = record { reception = reception.Released; state = Released; sent = [] }
released Released = record { reception = reception.Ignored; state = Released; sent = [] }

abbrev pub came_again : List Record → Key → Record → Repeat → Received
came_again rs key r e =
    record { reception = e.reception; after = replaced (is_key key) (record r { state = e.state }) rs; sent = e.sent }

abbrev pub request_came : List Record → Key → Bool → ℕ → Option Record → Received
request_came rs key xo bitmap None =
    record {
      reception = reception.New key;
      after = rs ++ record { key = key; state = Waiting xo bitmap } ∷ [];
      sent = [];
    }
request_came rs key xo bitmap (Some r) = came_again rs key r (repeated key bitmap r.state)

abbrev pub release_came : List Record → Key → Option Record → Received
release_came rs key None = passed rs
release_came rs key (Some r) = came_again rs key r (released r.state)

-- a request that asks for no packets is ignored
abbrev pub is_passed_over : ℕ → Bool
is_passed_over bitmap = bitmap == 0

abbrev pub received : List Record → Address → Content → Received
received rs from (Request bitmap xo timer tid user bytes) =
    if is_passed_over bitmap then passed rs
    else request_came rs (record { from = from; tid = tid }) xo bitmap
    (find (is_key (record { from = from; tid = tid })) rs)
received rs from (Response place eom sts tid user bytes) = passed rs
received rs from (Release tid) =
    release_came rs (record { from = from; tid = tid }) (find (is_key (record { from = from; tid = tid })) rs)

-- a bitmap has eight bits, one for each packet that an answer may have
abbrev pub AsksForEight : Content → Type 0
AsksForEight (Request bitmap xo timer tid user bytes) = bitmap < 256
AsksForEight other = Unit {0}

-- a new request that finds no place, since 64 records stand
abbrev pub is_new_and_full : List Record → Key → Bool
is_new_and_full rs key = is_none (find (is_key key) rs) && nat_le 64 (length rs)

abbrev pub finds_no_place : List Record → Address → Content → Bool
finds_no_place rs from (Request bitmap xo timer tid user bytes) =
    if is_passed_over bitmap then false else is_new_and_full rs (record { from = from; tid = tid })
finds_no_place rs from (Response place eom sts tid user bytes) = false
finds_no_place rs from (Release tid) = false

-- why a request cannot be answered
abbrev pub state_fault : State → Option AtpFault
state_fault (Waiting xo bitmap) = None
state_fault (Answered packets) = Some Gone
state_fault Released = Some Gone

abbrev pub record_fault : Option Record → Option AtpFault
record_fault None = Some NoSuch
record_fault (Some r) = state_fault r.state

-- why an answer is refused: the first reason, of the packets and then of the request
abbrev pub answer_fault : List Record → Key → List Packet → Option AtpFault
answer_fault rs key [] = Some EmptyAnswer
answer_fault rs key (p ∷ ps) =
    if nat_le (length (p ∷ ps)) 8 && fit (p ∷ ps) then record_fault (find (is_key key) rs) else Some AtpTooLong

abbrev pub asked_bitmap : State → ℕ
asked_bitmap (Waiting xo bitmap) = bitmap
asked_bitmap (Answered packets) = 0
asked_bitmap Released = 0

-- the packets of an answer that its request asked for
abbrev pub asked_for : Option Record → Key → List Packet → List (Address × Content)
asked_for None key packets = []
asked_for (Some r) key packets = responses key 0 (asked_bitmap r.state) packets

-- is the answer to a request that waits kept? only if the request is exactly-once
abbrev pub keeps_answer : State → Bool
keeps_answer (Waiting xo bitmap) = xo
keeps_answer (Answered packets) = false
keeps_answer Released = false

abbrev pub is_kept : Option Record → Bool
is_kept None = false
is_kept (Some r) = keeps_answer r.state

-- The records after a request is answered: an exactly-once request keeps its answer, and any other loses its record.
abbrev pub after_answer : List Record → Key → List Packet → List Record
after_answer rs key packets =
    if is_kept (find (is_key key) rs) then replaced (is_key key) (record { key = key; state = Answered packets }) rs
    else without_first (is_key key) rs

-- the answer was given: so many packets were sent, and the record keeps the answer or is gone
pub record IsAnswered (old new : List Record) (key : Key) (packets : List Packet) (count : ℕ) (before after : Outbox) :
    Type 0 where
  pub is_new : new ≡ after_answer old key packets
  pub sends : Sends before after (spelled_all (asked_for (find (is_key key) old) key packets))
  pub counts : count ≡ length (asked_for (find (is_key key) old) key packets)

-- Why a record cannot expire: the release timer runs from the answer on. A record that expires is removed.
abbrev pub expiry_fault_of : State → Option AtpFault
expiry_fault_of (Waiting xo bitmap) = Some StillPending
expiry_fault_of (Answered packets) = None
expiry_fault_of Released = None

abbrev pub expiry_fault : Option Record → Option AtpFault
expiry_fault None = Some NoSuch
expiry_fault (Some r) = expiry_fault_of r.state

-- the key of a record that can expire
abbrev pub expiring_key : Record → Option Key
expiring_key r = if is_none (expiry_fault_of r.state) then Some r.key else None

-- the reception, the new records and what was sent are these
pub record IsTaken (t : Received) (r : Reception) (new : List Record) (before after : Outbox) : Type 0 where
  pub is_reception : r ≡ t.reception
  pub is_new : new ≡ t.after
  pub sends : Sends before after (spelled_all t.sent)

-- the reception, the record and what was sent are these
pub record IsRepeat (e : Repeat) (r : Reception) (old new : Record) (before after : Outbox) : Type 0 where
  pub is_reception : r ≡ e.reception
  pub is_new : new ≡ record old { state = e.state }
  pub sends : Sends before after (spelled_all e.sent)

-- a record with this number, of some requester at this node
abbrev pub is_from : ℕ → ℕ → Record → Bool
is_from node tid r = (r.key.from.node == node) && (r.key.tid == tid)
