-- What a line says to a node.
use Rattle.std.specs.Prelude.{◌≡◌, ℕ, List, ◌∷◌, codes}
use Rattle.std.specs.declared.alloc.Global.{Global}
use Rattle.at_call_words.specs.Calls.{AreAnyCall}
use Rattle.at_call_words.specs.Timers.{AreAnyTimer}
use Rattle.at_event.specs.declared.Call.{Call}
use Rattle.at_event.specs.declared.Timer.{Timer}
use Rattle.at_words.specs.Words.{words_of}

-- a call that the node's user makes, or a timer of the node that fires
pub data Line : Type 0 where
  Calls : (call : Call Global) → Line
  Fires : (timer : Timer) → Line

-- The words of the line are `call` and those of a call, or `timer` and those of a timer. A requester can be on any
-- network, and is on that of the node, this one, if none is named.
abbrev pub Says : ℕ → List ℕ → Line → Type 0
Says net line (Calls call) =
    (ws : List (List ℕ)) × (words_of line ≡ codes "call" ∷ ws) × AreAnyCall net ws call
Says net line (Fires timer) =
    (ws : List (List ℕ)) × (words_of line ≡ codes "timer" ∷ ws) × AreAnyTimer net ws timer

-- the first word of the line is `call`
abbrev pub BeginsAsCall : List ℕ → Type 0
BeginsAsCall line = (ws : List (List ℕ)) × (words_of line ≡ codes "call" ∷ ws)
