-- What the calls and the timers of a node's ends do (Inside AppleTalk, ADSP).
use Rattle.std.specs.Prelude.{ℕ, ◌==◌, ◌&&◌, not, if◌then◌else◌, Bool, List, [], ◌∷◌, length, take}
use Rattle.std.specs.Prelude.{Option, Some, None, Result, Ok, Err}
use Rattle.at_ddp.specs.declared.address.Address.{Address}
use Rattle.at_adsp_end.specs.Positions.{Numbers}
use Rattle.at_adsp_end.specs.Ends.{EndState, connector, places, asking, is_open, is_closed, has_opened}
use Rattle.at_adsp_end.specs.Sending.{resetting_now, closing}
use Rattle.at_adsp_end.specs.Hearing.{is_empty}
use Rattle.at_adsp_end.specs.Calls.{heeds, ticked, is_last, reading, writing}
use Rattle.at_adsp_end.specs.declared.fault.StreamFault.{StreamFault}
use Rattle.at_adsp_end.specs.declared.fault.StreamFault.TheVariants.{EndsFull, NotOpen, NoSuchEnd, NoRoom}
use Rattle.at_adsp_end.specs.declared.item.Item.{Item}
use Rattle.at_adsp_end.specs.declared.change.EndChange.{EndChange}
use Rattle.at_adsp_end.specs.declared.change.EndChange.TheVariants.{Closed, Freed}
use Rattle.at_adsp_end.specs.declared.tick.Tick.{Tick}
use Rattle.at_adsp_ends.specs.Tables.{EndTable, Done, made, moved, freed}
use Rattle.at_adsp_ends.specs.Receiving.{settled}

-- each function below is given the end that the call names, or the identifier that it draws

abbrev pub listened : EndTable → Bool → EndTable
listened t on = record t { listening = on }

-- an end is made that asks this address for a connection; the answer is its identifier
abbrev pub connected : EndTable → Address → Option ℕ → Result (Done ℕ) StreamFault
connected t to None = Err EndsFull
connected t to (Some id) =
    Ok (made t id (connector t.rooms id to) (asking (connector t.rooms id to) ∷ []))

-- an open end is closed, and any other is freed
abbrev pub closed_at : Numbers → EndTable → Option EndState → Result (Done EndChange) StreamFault
closed_at N t None = Err NoSuchEnd
closed_at N t (Some e) =
    if is_open e.phase
    then Ok (moved t (Closed e.id) (closing N e).after (closing N e).sent)
    else Ok (freed t (Freed e.id) e)

-- the fourth probe tick frees an end that never opened
abbrev pub frees : EndState → Tick → Bool
frees e tick = is_last e tick && not (is_open e.phase)

abbrev pub ticked_at : Numbers → EndTable → Tick → Option EndState → Result (Done EndChange) StreamFault
ticked_at N t tick None = Err NoSuchEnd
ticked_at N t tick (Some e) =
    if is_closed e.phase
    then Err NotOpen
    else if frees e tick then Ok (freed t (Freed e.id) e) else Ok (settled t (ticked N e tick))

-- the identifier of an end at which a tick does something
abbrev pub heeding : Tick → EndState → Option ℕ
heeding tick e = if heeds e tick then Some e.id else None

-- the answer is what was read
abbrev pub read_at : Numbers → EndTable → ℕ → Option EndState → Result (Done (List Item)) StreamFault
read_at N t count None = Err NoSuchEnd
read_at N t count (Some e) =
    if has_opened e.phase
    then Ok (moved t (take count e.receiver.unread) (reading N e count).after (reading N e count).sent)
    else Err NotOpen

-- how many items can be read of an end that is open or was
abbrev pub unread_at : Option EndState → Result ℕ StreamFault
unread_at None = Err NoSuchEnd
unread_at (Some e) = if has_opened e.phase then Ok (length e.receiver.unread) else Err NotOpen

-- the stream of an open end is reset
abbrev pub reset_at : Numbers → EndTable → Option EndState → Result (Done (Unit {0})) StreamFault
reset_at N t None = Err NoSuchEnd
reset_at N t (Some e) =
    if is_open e.phase then Ok (moved t tt (resetting_now N e).after (resetting_now N e).sent) else Err NotOpen

-- something is to be written, and there is no place for it
abbrev pub finds_no_room : EndState → List Item → Bool
finds_no_room e items = not (is_empty items) && (places e == 0)

abbrev pub wrote_some : Numbers → EndTable → List Item → EndState → Done ℕ
wrote_some N t items e =
    moved t (length (take (places e) items)) (writing N e items).after (writing N e items).sent

-- the answer is how many items were written
abbrev pub wrote : Numbers → EndTable → List Item → Option EndState → Result (Done ℕ) StreamFault
wrote N t items None = Err NoSuchEnd
wrote N t items (Some e) =
    if is_open e.phase
    then if finds_no_room e items then Err NoRoom else Ok (wrote_some N t items e)
    else Err NotOpen
