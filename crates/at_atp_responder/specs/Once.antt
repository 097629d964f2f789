-- How often a responder delivers a request (Inside AppleTalk, ATP, "At-least-once and exactly-once transactions").
use Rattle.std.specs.Prelude.{ℕ, ◌+◌, ◌==◌, ◌&&◌, not, is_some, if◌then◌else◌, Bool, true, false, List, [], ◌∷◌, find}
use Rattle.std.specs.Prelude.{Option, Some, None}
use Rattle.at_ddp.specs.Address.{same_address}
use Rattle.at_ddp.specs.declared.address.Address.{Address}
use Rattle.at_atp_frame.specs.Frames.{Content}
use Rattle.at_atp_frame.specs.Packets.{Packet}
use Rattle.at_atp_responder.specs.Records.{State, Waiting, Answered, Released, Record, is_key, received, record_fault}
use Rattle.at_atp_responder.specs.Records.{answer_fault, after_answer, expiry_fault}
use Rattle.at_ddp.specs.Tables.{without_first}
use Rattle.at_atp_frame.specs.declared.fault.AtpFault.{AtpFault}
use Rattle.at_atp_responder.specs.declared.reception.Key.{Key}
use Rattle.at_atp_responder.specs.declared.reception.Reception.{Reception}
use Rattle.at_atp_responder.specs.declared.reception.Reception.TheVariants as reception

-- What may happen at a responder. A packet that finds no place or no memory changes nothing, and is left out.
pub data Event : Type 0 where
  -- a packet comes from an address
  Comes : (from : Address) (packet : Content) → Event
  -- a request is answered
  Answers : (key : Key) (packets : List Packet) → Event
  -- the release timer of a record fires
  Expires : (key : Key) → Event
  -- the record of a request is undone
  Undoes : (key : Key) → Event

-- the changed records, or the same ones if the change is refused
abbrev pub unless : List Record → Option AtpFault → List Record → List Record
unless rs (Some fault) changed = rs
unless rs None changed = changed

-- the records after an event
abbrev pub next : List Record → Event → List Record
next rs (Comes from f) = (received rs from f).after
next rs (Answers key packets) = unless rs (answer_fault rs key packets) (after_answer rs key packets)
next rs (Expires key) = unless rs (expiry_fault (find (is_key key) rs)) (without_first (is_key key) rs)
next rs (Undoes key) = unless rs (record_fault (find (is_key key) rs)) (without_first (is_key key) rs)

abbrev pub same_key : Key → Key → Bool
same_key a b = same_address a.from b.from && (a.tid == b.tid)

-- did a packet deliver this request to the service?
abbrev pub is_new_of : Key → Reception → Bool
is_new_of key (reception.New k) = same_key k key
is_new_of key other = false

abbrev pub hands_up : Key → List Record → Event → Bool
hands_up key rs (Comes from f) = is_new_of key (received rs from f).reception
hands_up key rs other = false

-- does the record of a request stand?
abbrev pub stands : Key → List Record → Bool
stands key rs = is_some (find (is_key key) rs)

-- the record stood before the event, and does not stand after it
abbrev pub removes : Key → List Record → Event → Bool
removes key rs e = stands key rs && not (stands key (next rs e))

abbrev pub once_if : Bool → ℕ
once_if b = if b then 1 else 0

-- how often the request is delivered to the service, from these records on
abbrev pub hand_ups : Key → List Record → List Event → ℕ
hand_ups key rs [] = 0
hand_ups key rs (e ∷ es) = once_if (hands_up key rs e) + hand_ups key (next rs e) es

-- how often its record is removed
abbrev pub removals : Key → List Record → List Event → ℕ
removals key rs [] = 0
removals key rs (e ∷ es) = once_if (removes key rs e) + removals key (next rs e) es

-- is the request exactly-once?
abbrev pub is_once : State → Bool
is_once (Waiting xo bitmap) = xo
is_once (Answered packets) = true
is_once Released = true
