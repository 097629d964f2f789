-- Which event a line of a schedule says.
use Rattle.std.specs.Prelude.{◌≡◌, ℕ, true, false, List, [], ◌∷◌, Option, Some, None, codes}
use Rattle.at_call_words.specs.Calls.{AreCall, IsHere}
use Rattle.at_call_words.specs.Timers.{AreTimer, IsTimerHere}
use Rattle.at_event.specs.declared.Call.{Call}
use Rattle.at_event.specs.declared.Timer.{Timer}
use Rattle.at_setup.specs.declared.event.Event.{Event}
use Rattle.at_setup.specs.declared.event.Event.TheVariants as event
use Rattle.at_schedule.specs.Schedules.{is_event_line}
use Rattle.at_words.specs.Hexes.{IsHex}
use Rattle.at_words.specs.Numbers.{IsCount, IsNode}
use Rattle.at_words.specs.Words.{words_of}

-- the words after `call` say a node and a call
abbrev pub CallSays : {A : Type 0} → List (List ℕ) → ℕ → Call A → Type 0
CallSays ws node c = (n : List ℕ) × (rest : List (List ℕ)) × (ws ≡ n ∷ rest) × IsNode n node × AreCall rest c

-- the words after `deliver` say a datagram, counted from 0, and a node
abbrev pub DeliverSays : List (List ℕ) → ℕ → ℕ → Type 0
DeliverSays ws datagram node = (k n : List ℕ) × (ws ≡ k ∷ n ∷ []) × IsCount k datagram × IsNode n node

-- the words after `timer` say a node and a timer
abbrev pub TimerSays : List (List ℕ) → ℕ → Timer → Type 0
TimerSays ws node t = (n : List ℕ) × (rest : List (List ℕ)) × (ws ≡ n ∷ rest) × IsNode n node × AreTimer rest t

-- the words after `forge` say a node, and the bytes that come to it
abbrev pub ForgeSays : List (List ℕ) → ℕ → List ℕ → Type 0
ForgeSays ws node bytes = (n hex : List ℕ) × (ws ≡ n ∷ hex ∷ []) × IsNode n node × IsHex hex bytes

-- the first word of an event, and what the words after it say
abbrev pub SaysEvent : {A : Type 0} → List ℕ → List (List ℕ) → Event A → Type 0
SaysEvent word ws (event.Call node c) = (word ≡ codes "call") × CallSays ws node c
SaysEvent word ws (event.Deliver datagram node) = (word ≡ codes "deliver") × DeliverSays ws datagram node
SaysEvent word ws (event.Timer node t) = (word ≡ codes "timer") × TimerSays ws node t
SaysEvent word ws (event.Forge node bytes) = (word ≡ codes "forge") × ForgeSays ws node bytes

-- what was found is an event, which they say
abbrev pub SaysFound : {A : Type 0} → List ℕ → List (List ℕ) → Option (Event A) → Type 0
SaysFound word ws None = ⊥
SaysFound word ws (Some e) = SaysEvent word ws e

-- a requester that the event names is on this network
abbrev pub IsEventHere : {A : Type 0} → ℕ → Event A → Type 0
IsEventHere net (event.Call node c) = IsHere net c
IsEventHere net (event.Timer node t) = IsTimerHere net t
IsEventHere net other = Unit {0}

-- the words say this event
abbrev pub AreEvent : {A : Type 0} → List (List ℕ) → Event A → Type 0
AreEvent [] e = ⊥
AreEvent (word ∷ ws) e = SaysEvent word ws e

-- the line has the words of this event
abbrev pub Says : {A : Type 0} → List ℕ → Event A → Type 0
Says line e = AreEvent (words_of line) e

-- an event line says the event that was read of it, and of any other line none was read
abbrev pub Reads : {A : Type 0} → List ℕ → Option (Event A) → Type 0
Reads line None = is_event_line line ≡ false
Reads line (Some e) = (is_event_line line ≡ true) × Says line e

-- the lines say these events, each one
abbrev pub SayAll : {A : Type 0} → List (List ℕ) → List (Event A) → Type 0
SayAll [] [] = Unit {0}
SayAll (line ∷ lines) (e ∷ es) = Says line e × SayAll lines es
SayAll [] (e ∷ es) = ⊥
SayAll (line ∷ lines) [] = ⊥
