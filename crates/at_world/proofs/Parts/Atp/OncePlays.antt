-- A play of the opening world runs an exactly-once request at most once.
use Rattle.std.proofs.Common.{List, []}
use Rattle.std.proofs.Common.{take, Result, Ok, Err, sym, subst}
use Rattle.at_event.specs.declared.Report.{Report}
use Rattle.at_world.specs.ExactlyOnce.{onto, AllLive}
use Rattle.at_world.specs.ExactlyOnce.{IsOnce, RunsOnce}
use Rattle.at_world.specs.Plays.{opening_world, Follows, IsPlay}
use Rattle.at_setup.specs.Setups.{tables_of}
use Rattle.at_world.specs.Events.{NoForge}
use Rattle.at_setup.specs.declared.event.Event.{Event}
use Rattle.at_setup.specs.declared.setup.Setup.{Setup}
use Rattle.at_world.specs.declared.transcript.Transcript.{Transcript}
use Rattle.at_world.specs.declared.transcript.PlayFault.{PlayFault}
use Rattle.at_world.specs.Worlds.{WorldState}

-- what steps from the opening give runs once
abbrev pub StepsOnce : (A : Type 0) → Setup A → Type 0
StepsOnce A s = (events : List (Event A)) (reports : List (Report A)) (w : WorldState) → NoForge events
    → Follows (opening_world s) events reports w → AllLive s.net w.sent (onto (tables_of s) [] events reports)
    → RunsOnce s.net w.sent (onto (tables_of s) [] events reports)

pub play_is_once : (A : Type 0) (s : Setup A) (events : List (Event A)) (answer : Result (Transcript A) (PlayFault A))
    → StepsOnce A s → IsPlay s events answer → IsOnce s events answer
play_is_once A s events (Ok t) law h = λ forged_none. let played = h.1 in
    subst (λ sent. AllLive s.net sent (onto (tables_of s) [] events t.reports)
    → RunsOnce s.net sent (onto (tables_of s) [] events t.reports)) (sym played.1)
    (law events t.reports h.0 forged_none played.0)
play_is_once A s events (Err f) law h = λ forged_none. let played = h.1 in
    subst (λ sent. AllLive s.net sent (onto (tables_of s) [] (take f.at events) f.transcript.reports)
    → RunsOnce s.net sent (onto (tables_of s) [] (take f.at events) f.transcript.reports)) (sym played.1)
    (law (take f.at events) f.transcript.reports h.0 forged_none played.0)
