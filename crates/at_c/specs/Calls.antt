-- What each function does to the node in a handle, and what it tells.
use Rattle.std.specs.Prelude.{◌≡◌, ◌⊎◌, ℕ, List, Option, Result, Ok, Err}
use Rattle.std.specs.declared.alloc.AllocError.{AllocError}
use Rattle.std.specs.declared.option.Option.TheVariants.{None, Some}
use Rattle.at_c.specs.Statuses.{done, handed_status, not_open, open_status, played_status, received_status, told_length}
use Rattle.at_faults.specs.declared.fault.LineFault.{LineFault}
use Rattle.at_held.specs.Handing.{HandsDatagram, HandsReport, HandsSentence, HandsShown, HandsTimers}
use Rattle.at_held.specs.Held.{Happens, HeldState, IsOpened, Plays, refusal_in}
use Rattle.at_held.specs.Openings.{IsFault}
use Rattle.at_held.specs.Safety.{IsSafe}
use Rattle.at_held.specs.declared.opening.OpenFault.{OpenFault}
use Rattle.at_held.specs.declared.withheld.Withheld.{Withheld}
use Rattle.at_steps.specs.Safety.{TransactionTable}
use Rattle.at_nodes.specs.Taking.{Receives}

-- The node in the handle is there after the call too, and this is so of it before and after. If the handle has none,
-- that is told, and it has none after the call.
abbrev pub At : Option HeldState → ℕ → Option HeldState → (HeldState → HeldState → Type 0) → Type 0
At None status after P = (status ≡ not_open) × (after ≡ None)
At (Some old) status after P = (new : HeldState) × (after ≡ Some new) × P old new

-- a node is opened; or none is, and the handle stays as it is
abbrev pub Opens : List ℕ → ℕ → Option HeldState → ℕ → Option HeldState → Type 0
Opens text number before status after =
    ((status ≡ done) × ((h : HeldState) × (after ≡ Some h) × IsOpened text number h))
    ⊎ ((why : OpenFault) × (status ≡ open_status why) × IsFault text number why × (after ≡ before))

-- the node does what the line says
abbrev pub PlaysLine : List ℕ → ℕ → HeldState → HeldState → Type 0
PlaysLine line status old new =
    (answer : Result (Unit {0}) LineFault) × (status ≡ played_status answer) × Plays line old answer new

-- the node receives the bytes
abbrev pub ReceivesBytes : List ℕ → ℕ → HeldState → HeldState → Type 0
ReceivesBytes bytes status old new =
    (answer : Result (Unit {0}) AllocError) × (status ≡ received_status answer)
    × Happens (Receives bytes) old answer new

-- an event that was done was safe
abbrev pub IsSafeAt : (TransactionTable → Type 0) → Option HeldState → ℕ → Option HeldState → Type 0
IsSafeAt Wants (Some old) status (Some new) = status ≡ done → IsSafe Wants old new
IsSafeAt Wants before status after = Unit {0}

-- how long is what is handed out
abbrev pub length_of : Result (ℕ × ℕ) Withheld → Result ℕ Withheld
length_of (Ok given) = Ok given.1
length_of (Err why) = Err why

-- the node that it goes to, or the number before
abbrev pub goal_of : Result (ℕ × ℕ) Withheld → ℕ → ℕ
goal_of (Ok given) before = given.0
goal_of (Err why) before = before

-- a datagram is handed out
abbrev pub HandsNext : ℕ → List ℕ → ℕ → ℕ → ℕ → List ℕ → ℕ → HeldState → HeldState → Type 0
HandsNext to room length status to' room' length' old new =
    (answer : Result (ℕ × ℕ) Withheld) × HandsDatagram old room answer new room'
    × (status ≡ handed_status (length_of answer)) × (to' ≡ goal_of answer to)
    × (length' ≡ told_length (length_of answer) length)

-- the line of the last event is handed out, and the node stays as it is
abbrev pub HandsTold : ℕ → List ℕ → ℕ → ℕ → List ℕ → ℕ → HeldState → HeldState → Type 0
HandsTold event room length status room' length' old new =
    (new ≡ old) × ((answer : Result ℕ Withheld) × HandsReport old event room answer room'
    × (status ≡ handed_status answer) × (length' ≡ told_length answer length))

-- the lines of the timers that would do something now are handed out, and the node stays as it is
abbrev pub HandsLines : List ℕ → ℕ → ℕ → List ℕ → ℕ → HeldState → HeldState → Type 0
HandsLines room length status room' length' old new =
    (new ≡ old) × ((answer : Result ℕ Withheld) × HandsTimers old room answer room'
    × (status ≡ handed_status answer) × (length' ≡ told_length answer length))

-- the lines of what bytes are are handed out
abbrev pub Shows : List ℕ → List ℕ → ℕ → ℕ → List ℕ → ℕ → Type 0
Shows bytes room length status room' length' =
    (answer : Result ℕ Withheld) × HandsShown bytes room answer room' × (status ≡ handed_status answer)
    × (length' ≡ told_length answer length)

-- the number of the refusal, or the number before
abbrev pub refusal_or : Option ℕ → ℕ → ℕ
refusal_or None before = before
refusal_or (Some number) before = number

-- the number and the sentence of the refusal are handed out, and the node stays as it is
abbrev pub HandsRefusal : ℕ → List ℕ → ℕ → ℕ → ℕ → List ℕ → ℕ → HeldState → HeldState → Type 0
HandsRefusal number room length status number' room' length' old new =
    (new ≡ old) × ((answer : Result ℕ Withheld) × HandsSentence old room answer room'
    × (status ≡ handed_status answer) × (number' ≡ refusal_or (refusal_in old) number)
    × (length' ≡ told_length answer length))
