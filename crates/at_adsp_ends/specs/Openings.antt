-- What the packets that open a connection do (Inside AppleTalk, ADSP, "Opening a connection").
use Rattle.std.specs.Prelude.{ℕ, ◌&&◌, ◌||◌, not, is_none, if◌then◌else◌, Bool, List, [], ◌∷◌, ◌++◌}
use Rattle.std.specs.Prelude.{Option, Some, None}
use Rattle.at_ddp.specs.Address.{same_address}
use Rattle.at_ddp.specs.declared.address.Address.{Address}
use Rattle.at_adsp_frame.specs.Segments.{Content}
use Rattle.at_adsp_end.specs.Positions.{Numbers}
use Rattle.at_adsp_end.specs.Ends.{EndState, Change, half_end, has_remote, is_opening, is_half, is_open, answering}
use Rattle.at_adsp_end.specs.Ends.{confirming, denying}
use Rattle.at_adsp_end.specs.Sending.{acks, hearing}
use Rattle.at_adsp_end.specs.declared.phase.Phase.TheVariants as phase
use Rattle.at_adsp_end.specs.declared.remote.Remote.{Remote}
use Rattle.at_adsp_end.specs.declared.change.EndChange.{EndChange}
use Rattle.at_adsp_end.specs.declared.change.EndChange.TheVariants.{Ignored, Made, Opened, Turned, Denied, Again}
use Rattle.at_adsp_ends.specs.Tables.{EndTable, Done, next_id, made, moved, stayed, freed}

abbrev pub ignored : EndTable → Done EndChange
ignored t = record { answer = Ignored; after = t; changed = None; sent = [] }

-- the end of a segment's sender
abbrev pub sender_of : Address → Content → Remote
sender_of from s = record { address = from; id = s.source }

-- ---- requests

-- with an identifier for it, an end is made that answers the request; else the request is denied
abbrev pub room_for : Numbers → EndTable → Remote → Option ℕ → Done EndChange
room_for N t r None = record { answer = Turned; after = t; changed = None; sent = (r.address, denying r.id) ∷ [] }
room_for N t r (Some id) = made t (Made id) (half_end t.rooms id r) (answering N (half_end t.rooms id r) ∷ [])

-- an end that listening made answers its request again, until it is closed
abbrev pub answers_again : EndState → Bool
answers_again e = e.listener && (is_half e.phase || is_open e.phase)

-- a request of this end, and the end here that has it as its remote
abbrev pub request_came : Numbers → EndTable → Remote → Option EndState → Done EndChange
request_came N t r None = room_for N t r (if t.listening then next_id t else None)
request_came N t r (Some e) = if answers_again e then stayed t Again e (answering N e ∷ []) else ignored t

-- ---- answers

-- the packet that opens an end is heard as any other is
abbrev pub heard_opening : Numbers → EndState → Content → Change
heard_opening N e s = hearing N e s.window (acks N e.sender s.next)

-- an end opens, and sends these packets first
abbrev pub opened : Numbers → EndTable → EndState → Content → List Content → Done EndChange
opened N t e s first =
    moved t (Opened e.id) (heard_opening N e s).after (first ++ (heard_opening N e s).sent)

-- the end that asked, once it knows its remote
abbrev pub connected_to : EndState → Remote → EndState
connected_to e r = record e { remote = Some r; phase = phase.Open }

-- an end that asked there opens, if no end has this remote yet
abbrev pub is_answered : EndState → Remote → Option EndState → Bool
is_answered e r there = is_opening e.phase && same_address e.asked r.address && is_none there

-- an open end that asked this remote acknowledges the answer again
abbrev pub confirms_again : EndState → Remote → Bool
confirms_again e r = is_open e.phase && not e.listener && has_remote r e

-- an answer of this end, the end here that has it as its remote, and the end that the answer names
abbrev pub answer_came : Numbers → EndTable → Remote → Content → Option EndState → Option EndState → Done EndChange
answer_came N t r s there None = ignored t
answer_came N t r s there (Some e) =
    if is_answered e r there
    then opened N t (connected_to e r) s (confirming N (connected_to e r) ∷ [])
    else if confirms_again e r then stayed t Again e (confirming N e ∷ []) else ignored t

-- ---- acknowledgements and denials

-- an acknowledgement opens the end that it names, if that waits for it
abbrev pub ack_came : Numbers → EndTable → Remote → Content → Option EndState → Done EndChange
ack_came N t r s None = ignored t
ack_came N t r s (Some e) =
    if is_half e.phase && has_remote r e then opened N t (record e { phase = phase.Open }) s [] else ignored t

-- a denial frees the end that it names, if that asked there
abbrev pub denial_came : EndTable → Address → Option EndState → Done EndChange
denial_came t from None = ignored t
denial_came t from (Some e) =
    if is_opening e.phase && same_address e.asked from then freed t (Denied e.id) e else ignored t
