-- What is printed of events that were played is printed of a run of the plain machine.
use Rattle.std.proofs.Common.{◌≡◌, ◌∙◌, ℕ, ◌+◌, Bool, List, [], ◌∷◌, length, suc, drop, Result, Ok, Err}
use Rattle.std.proofs.Common.{ap, arith, length-drop, refl, subst, sym}
use Rattle.std.specs.Prelude.{Option}
use Rattle.std.specs.declared.io.Error.{Error}
use Rattle.at_diagnostics.specs.declared.diagnostics.Diagnostics.{Diagnostics}
use Rattle.at_diagnostics.specs.declared.stop.Stop.{Stop}
use Rattle.at_diagnostics.specs.declared.stop.Stop.TheVariants as stop
use Rattle.at_event.specs.declared.Report.{Report}
use Rattle.at_opened.specs.declared.source.Source.{Source}
use Rattle.at_play.proofs.AccountLemmas.{source_as}
use Rattle.at_play.proofs.ReportLemmas.{after_plays, counted, sent_grows}
use Rattle.at_play.specs.Commands.{PlaysSource}
use Rattle.at_play.specs.Ends.{PlaysText}
use Rattle.at_play.specs.Runs.{PrintsReports, PrintsRun, StopsAfter}
use Rattle.at_play.specs.Told.{EndsAfter, StopsIn, Told}
use Rattle.at_play.specs.declared.ending.Ending.{Ending}
use Rattle.at_play.specs.declared.ending.Ending.TheVariants as ending
use Rattle.at_print.specs.Papers.{Page}
use Rattle.at_print.specs.declared.printer.Printer.{Printer}
use Rattle.at_print.specs.declared.status.Status.{Status}
use Rattle.at_setup.specs.declared.event.Event.{Event}
use Rattle.at_setup.specs.declared.refusal.EventFault.TheVariants as fault
use Rattle.at_setup.specs.declared.setup.Setup.{Setup}
use Rattle.at_world.specs.Plays.{opening_world}
use Rattle.at_world.specs.Sents.{SentDatagram}
use Rattle.at_world.specs.Worlds.{WorldState}

-- each event has its report
one_each : (A : Type 0) (w : WorldState) (es : List (Event A)) (rs : List (Report A)) (w' : WorldState)
    (text : List ℕ) → Told w es rs w' text → length rs ≡ length es
one_each A w [] [] w' text h = refl
one_each A w (e ∷ es) (r ∷ rs) w' text h = ap suc (one_each A h.0 es rs w' h.1 h.5)
one_each A w [] (r ∷ rs) w' text h = absurd h
one_each A w (e ∷ es) [] w' text h = absurd h

-- the reports are printed from the place on that the world has come to, and so are the datagrams
prints_told : (A : Type 0) (w : WorldState) (es : List (Event A)) (rs : List (Report A)) (w' : WorldState)
    (text : List ℕ) → Told w es rs w' text → PrintsReports w.events (length w.sent) rs text
prints_told A w [] [] w' text h = h.1
prints_told A w (e ∷ es) (r ∷ rs) w' text h =
    let mid = h.0 in
    let new : List SentDatagram = drop (length w.sent) mid.sent in
    let place : mid.events ≡ w.events + 1 = (after_plays w e r mid h.3).0 in
    let grows = sent_grows w e r mid h.3 in
    let number : length mid.sent ≡ length w.sent + length new =
    omega (arith, grows, length-drop (length w.sent) mid.sent) in
    let rest = prints_told A mid es rs w' h.1 h.5 in (
      new,
      h.1,
      h.6,
      subst (λ n. PrintsReports (w.events + 1) n rs h.1) number
          (subst (λ n. PrintsReports n (length mid.sent) rs h.1) place rest),
    )
prints_told A w [] (r ∷ rs) w' text h = absurd h
prints_told A w (e ∷ es) [] w' text h = absurd h

-- the place where the play stopped is that behind its events
stops_after : (A : Type 0) (known : Option (List ℕ)) (may_fail : Bool) (es : List (Event A)) (w : WorldState) (s : Stop)
    → w.events ≡ length es → StopsIn A known may_fail es w s → StopsAfter A known may_fail es s
stops_after A known may_fail es w (stop.Text f) is h = h
stops_after A known may_fail es w (stop.Event fault.NoMemory at line datagram) is h = h.0 ∙ is
stops_after A known may_fail es w (stop.Event (fault.Refused r) at line datagram) is h = h.0 ∙ is

-- a reason for another
ends_for : {A : Type 0} (P Q : Stop → Type 0) → ((s : Stop) → P s → Q s) → (known : Option (List ℕ))
    (r : Result (Unit {0}) Ending) (es : List (Event A)) → EndsAfter P known r es → EndsAfter Q known r es
ends_for P Q why known (Ok u) es h = h
ends_for P Q why known (Err (ending.Stopped s)) es h = (why s h.0, h.1)
ends_for P Q why known (Err ending.Unwritten) es h = h

pub run_printed : (A : Type 0) {E : Type 0} (heard : E → Page) (known : Option (List ℕ)) (may_fail : Bool)
    (IsRead : Setup A → Type 0) (old new : Diagnostics E) (r : Result (Unit {0}) Ending) (text : List ℕ)
    → PlaysText A heard known may_fail IsRead old new r text → PrintsRun A heard known may_fail IsRead old new r text
run_printed A heard known may_fail IsRead old new r text (setup, read, p, obeys, is, whole, told) =
    let start = opening_world setup in
    let each = one_each A start p.events p.reports p.world p.text p.told in
    let count : (p.world).events ≡ 0 + length p.reports = counted A start p.events p.reports p.world p.text p.told in
    let place : (p.world).events ≡ length p.events = omega (arith, count, each) in
    record {
      setup = setup;
      read = read;
      lawful = obeys.lawful;
      events = p.events;
      reports = p.reports;
      one_each = each;
      here = p.here;
      ends = ends_for (StopsIn A known may_fail p.events p.world) (StopsAfter A known may_fail p.events)
          (λ s. stops_after A known may_fail p.events p.world s place) known r p.events whole;
      run = obeys.run;
      printed = subst (PrintsReports 0 0 p.reports) (sym is)
          (prints_told A start p.events p.reports p.world p.text p.told);
      told = told;
    }

-- so it is of whatever is played
pub source_printed : (A : Type 0) {S F W E : Type 0} (page : W → Page) (heard : E → Page) (status : Status)
    (old new : Printer W) (L : S → Option (List ℕ)) (R : F → Option (List ℕ))
    (B : F → Result (Unit {0}) Error → F → Type 0) (from : Source S F) (before after : Diagnostics E)
    → PlaysSource A (PlaysText A heard) L R B from page heard status old new before after
    → PlaysSource A (PrintsRun A heard) L R B from page heard status old new before after
source_printed A page heard status old new L R B from before after h =
    source_as A (PlaysText A heard) (PrintsRun A heard) (run_printed A heard) page heard status old new L R B from
    before after h
