-- What a node hands out to a program.
use Rattle.std.specs.Prelude.{◌≡◌, ℕ, List, [], ◌∷◌, length, Option, Some, None, Result, Ok, Err}
use Rattle.std.specs.List.{flat_map}
use Rattle.std.specs.declared.alloc.Global.{Global}
use Rattle.at_ddp.specs.Outbox.{Posted}
use Rattle.at_event.specs.declared.Report.{Report}
use Rattle.at_held.specs.Held.{HeldState, refusal_in}
use Rattle.at_held.specs.Rooms.{Fits, IsPlaced, IsTooLong, placed}
use Rattle.at_held.specs.declared.withheld.Withheld.{Withheld}
use Rattle.at_held.specs.declared.withheld.Withheld.TheVariants as withheld
use Rattle.at_node.specs.Nodes.{NodeState}
use Rattle.at_node.specs.Timers.{timers_of}
use Rattle.at_print.specs.Reports.{event_line_at}
use Rattle.at_print.specs.Reports.{timer_line}
use Rattle.at_show.specs.Texts.{BytesText}

-- the first datagram that waits is copied, with the node that it goes to, and the others go on waiting
abbrev pub IsHanded : List Posted → List ℕ → ℕ × ℕ → List Posted → List ℕ → Type 0
IsHanded [] before given left after = ⊥
IsHanded (p ∷ ps) before given left after =
    (given.0 ≡ p.node) × (given.1 ≡ length p.bytes) × Fits p.bytes before × (left ≡ ps)
    × (after ≡ placed p.bytes before)

-- no datagram waits, or the first is too long
abbrev pub IsWithheld : List Posted → List ℕ → Withheld → List ℕ → Type 0
IsWithheld [] before why after = (why ≡ withheld.Missing) × (after ≡ before)
IsWithheld (p ∷ ps) before why after = IsTooLong p.bytes before why after

-- A datagram is handed out once, and all of it. What is not handed out goes on waiting, and nothing changed.
abbrev pub HandsDatagram : HeldState → List ℕ → Result (ℕ × ℕ) Withheld → HeldState → List ℕ → Type 0
HandsDatagram old before (Ok given) new after =
    IsHanded old.waiting before given new.waiting after × (new.node ≡ old.node) × (new.report ≡ old.report)
HandsDatagram old before (Err why) new after = IsWithheld old.waiting before why after × (new ≡ old)

-- text is copied, or is too long, or there is no memory for it
abbrev pub HandsText : List ℕ → List ℕ → Result ℕ Withheld → List ℕ → Type 0
HandsText text before (Err withheld.NoMemory) after = after ≡ before
HandsText text before result after = IsPlaced text before result after

-- nothing is there to be handed out
abbrev pub IsMissing : List ℕ → Result ℕ Withheld → List ℕ → Type 0
IsMissing before result after = (result ≡ Err withheld.Missing) × (after ≡ before)

abbrev pub HandsLine : ℕ → Option (Report Global) → ℕ → List ℕ → Result ℕ Withheld → List ℕ → Type 0
HandsLine net None event before result after = IsMissing before result after
HandsLine net (Some r) event before result after = HandsText (event_line_at net event r) before result after

-- the line of the last event, where requesters of other networks than the node's are named by their network too
abbrev pub HandsReport : HeldState → ℕ → List ℕ → Result ℕ Withheld → List ℕ → Type 0
HandsReport h event before result after = HandsLine h.node.seat.net h.report event before result after

-- a line for each timer of a node that would do something now
abbrev pub timer_lines : NodeState → List ℕ
timer_lines n = flat_map (timer_line n.seat.net) (timers_of n)

abbrev pub HandsTimers : HeldState → List ℕ → Result ℕ Withheld → List ℕ → Type 0
HandsTimers h before result after = HandsText (timer_lines h.node) before result after

-- what is shown of bytes, of refused ones too
abbrev pub HandsShown : List ℕ → List ℕ → Result ℕ Withheld → List ℕ → Type 0
HandsShown bytes before result after =
    (text : List ℕ) × BytesText bytes text × HandsText text before result after

abbrev pub HandsReason : Option ℕ → List ℕ → Result ℕ Withheld → List ℕ → Type 0
HandsReason None before result after = IsMissing before result after
HandsReason (Some number) before result after = (sentence : List ℕ) × HandsText sentence before result after

-- some sentence, if the last event was refused
abbrev pub HandsSentence : HeldState → List ℕ → Result ℕ Withheld → List ℕ → Type 0
HandsSentence h before result after = HandsReason (refusal_in h) before result after
