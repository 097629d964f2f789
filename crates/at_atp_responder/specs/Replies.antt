-- Which packets a responder sends for a request (Inside AppleTalk, ATP, "At-least-once and exactly-once transactions").
use Rattle.std.specs.Prelude.{◌≡◌, ◌+◌, ◌==◌, ◌&&◌, if◌then◌else◌, true, false, is_none, List, [], ◌∷◌, length}
use Rattle.std.specs.Prelude.{find, slice_get, Option, Some, None}
use Rattle.std.specs.List.{AllByRecursion}
use Rattle.at_ddp.specs.declared.address.Address.{Address}
use Rattle.at_atp_frame.specs.Frames.{Content, Response, number_of}
use Rattle.at_atp_frame.specs.Packets.{Packet}
use Rattle.at_atp_frame.specs.declared.fault.AtpFault.{AtpFault}
use Rattle.at_atp_responder.specs.Once.{Event, Comes, Answers, next, same_key, stands}
use Rattle.at_atp_responder.specs.Records.{Record, is_key, received, answer_fault, asked_for}
use Rattle.at_atp_responder.specs.declared.reception.Key.{Key}

-- nothing is sent for an answer that is refused
abbrev pub sent_unless : Option AtpFault → List (Address × Content) → List (Address × Content)
sent_unless (Some fault) packets = []
sent_unless None packets = packets

-- what an event sends
abbrev pub sent_by : List Record → Event → List (Address × Content)
sent_by rs (Comes from f) = (received rs from f).sent
sent_by rs (Answers key packets) =
    sent_unless (answer_fault rs key packets) (asked_for (find (is_key key) rs) key packets)
sent_by rs other = []

-- the answer to a request while an event happens: the event may give it
abbrev pub answer_during : Key → List Record → Option (List Packet) → Event → Option (List Packet)
answer_during key rs before (Answers k packets) =
    if same_key k key && is_none (answer_fault rs k packets) then Some packets else before
answer_during key rs before other = before

-- the answer to a request after an event: it lasts no longer than the record
abbrev pub answer_left : Key → List Record → Option (List Packet) → Event → Option (List Packet)
answer_left key rs before e = if stands key (next rs e) then answer_during key rs before e else None

-- a response with the packet at its place of the answer, marked as the end exactly if that is the last
abbrev pub IsPacketOf : List Packet → Content → Type 0
IsPacketOf answer (Response place eom sts tid user bytes) =
    (slice_get answer place ≡ Some (record { user = user; data_ = bytes })) × (eom ≡ (place + 1 == length answer))
    × (sts ≡ false)
IsPacketOf answer other = ⊥

-- whatever is sent to this key is a packet of the answer to its request
abbrev pub IsOfAnswer : Key → Option (List Packet) → Address × Content → Type 0
IsOfAnswer key answer s =
    same_key (record { from = s.0; tid = number_of s.1 }) key ≡ true
    → (packets : List Packet) × (answer ≡ Some packets) × IsPacketOf packets s.1

-- the same, for all that these events send
abbrev pub AllOfAnswer : Key → List Record → Option (List Packet) → List Event → Type 0
AllOfAnswer key rs answer [] = Unit {0}
AllOfAnswer key rs answer (e ∷ es) =
    AllByRecursion (IsOfAnswer key (answer_during key rs answer e)) (sent_by rs e)
    × AllOfAnswer key (next rs e) (answer_left key rs answer e) es
