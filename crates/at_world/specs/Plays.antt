-- A whole play: each event by the world's step, with one report for each event.
use Rattle.std.specs.Prelude.{◌≡◌, ℕ, false, List, [], ◌∷◌, map, take, slice_get}
use Rattle.std.specs.Prelude.{◌⊎◌, Option, Some, Result, Ok, Err}
use Rattle.at_event.specs.declared.Report.{Report}
use Rattle.at_nodes.specs.Openings.{opening_node}
use Rattle.at_setup.specs.declared.event.Event.{Event}
use Rattle.at_setup.specs.declared.refusal.EventFault.{EventFault}
use Rattle.at_setup.specs.declared.refusal.EventFault.TheVariants as fault
use Rattle.at_setup.specs.declared.setup.Setup.{Setup}
use Rattle.at_world.specs.declared.transcript.Transcript.{Transcript}
use Rattle.at_world.specs.declared.transcript.PlayFault.{PlayFault}
use Rattle.at_world.specs.Sents.{AreCanonical}
use Rattle.at_world.specs.Worlds.{WorldState, IsPlayable, Refuses, Plays}

-- the world before anything happened
abbrev pub opening_world : {A : Type 0} → Setup A → WorldState
opening_world s = record { nodes = map (opening_node s) s.nodes; sent = []; last = []; events = 0; failed = false }

-- From the first world on, these events are not refused, and they give these reports and the last world.
abbrev pub Follows : {A : Type 0} → WorldState → List (Event A) → List (Report A) → WorldState → Type 0
Follows w [] [] w' = w' ≡ w
Follows w (e ∷ es) (r ∷ rs) w' = (mid : WorldState) × IsPlayable w e × Plays w e r mid × Follows mid es rs w'
Follows w [] (r ∷ rs) w' = ⊥
Follows w (e ∷ es) [] w' = ⊥

-- Why a play stopped. The next event is refused so, or memory ran out: at a next event that nothing refuses, or before
-- the first.
abbrev pub StopsAt : {A : Type 0} → WorldState → Option (Event A) → EventFault → ℕ → Type 0
StopsAt {A} w next (fault.Refused r) at = (e : Event A) × (next ≡ Some e) × Refuses w e r
StopsAt {A} w next fault.NoMemory at = ((e : Event A) × (next ≡ Some e) × IsPlayable w e) ⊎ (at ≡ 0)

-- these events were played, with this transcript
abbrev pub IsPlayed : {A : Type 0} → Setup A → List (Event A) → Transcript A → WorldState → Type 0
IsPlayed s events t w = Follows (opening_world s) events t.reports w × (t.sent ≡ w.sent)

-- what a play returns: all of it, or the events before the first that was not played
abbrev pub IsPlay : {A : Type 0} → Setup A → List (Event A) → Result (Transcript A) (PlayFault A) → Type 0
IsPlay s events (Ok t) = (w : WorldState) × IsPlayed s events t w
IsPlay s events (Err f) =
    (w : WorldState) × IsPlayed s (take f.at events) f.transcript w × StopsAt w (slice_get events f.at) f.fault f.at

-- all that was sent is spelled canonically
abbrev pub SendsCanonically : {A : Type 0} → Result (Transcript A) (PlayFault A) → Type 0
SendsCanonically (Ok t) = AreCanonical t.sent
SendsCanonically (Err f) = AreCanonical f.transcript.sent
