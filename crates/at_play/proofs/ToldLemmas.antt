-- What is told of a play goes on by one event, and is told of the play that it follows.
use Rattle.std.proofs.Common.{◌≡◌, ℕ, ◌+◌, List, [], ◌∷◌, ◌++◌, length, Err, Result, Bool, true, false, ◌≤◌}
use Rattle.std.proofs.Common.{Ok, IfErr, IfSome, inl, inr, refl, sym, ap, subst, ◌∙◌, append-nil}
use Rattle.std.proofs.Common.{append_assoc}
use Rattle.at_event.specs.declared.Report.{Report}
use Rattle.at_setup.specs.declared.event.Event.{Event}
use Rattle.at_setup.specs.declared.refusal.EventFault.{EventFault}
use Rattle.at_setup.specs.declared.refusal.EventFault.TheVariants as fault
use Rattle.at_world.specs.Safety.{IsSafe, Safely}
use Rattle.at_world.specs.Worlds.{WorldState, IsFault, IsPlayable, Plays}
use Rattle.at_world.specs.Plays.{Follows}
use Rattle.at_play.specs.Sent.{event_text}
use Rattle.at_print.specs.Papers.{Page}
use Rattle.at_print.specs.Printers.{Prints}
use Rattle.at_diagnostics.specs.Diagnostics.{TellsReport}
use Rattle.at_diagnostics.specs.Stops.{stop_of}
use Rattle.at_diagnostics.specs.declared.diagnostics.Diagnostics.{Diagnostics}
use Rattle.at_play.specs.Told.{BeginsWith, IsStopped, IsUnreadIn, IsWhole, Played, StopsIn}
use Rattle.at_play.specs.Told.{StopsLine, Tells, TellsLine, TellsReports, Told}
use Rattle.at_play.specs.Ends.{IsNotRead}
use Rattle.at_faults.specs.Reads.{IsOfBytes, IsOfRead}
use Rattle.at_faults.specs.declared.fault.Unreadable.TheVariants as unreadable
use Rattle.at_faults.specs.declared.fault.Fault.{Fault as Why}
use Rattle.at_faults.specs.declared.fault.Fault.TheVariants as why
use Rattle.at_print.specs.declared.printer.Printer.{Printer}
use Rattle.at_print.proofs.PrintLemmas.{Prints-nothing, Prints-trans}
use Rattle.at_world.specs.Plays.{opening_world}
use Rattle.at_setup.specs.declared.setup.Setup.{Setup}
use Rattle.std.proofs.lemmas.List.Elements.{All-nil, All-push}
use Rattle.at_setup_lines.specs.Drafts.{Draft}
use Rattle.at_schedule.specs.Drafts.{IsRead}
use Rattle.at_schedule.specs.Says.{IsEventHere, Says}
use Rattle.at_schedule.specs.Schedules.{is_event_line}
use Rattle.at_play.proofs.LineLemmas.{Adds, Cuts, FirstLine, HasRead, breaks_off, left_some, line_left, next_said}
use Rattle.at_play.proofs.LineLemmas.{none_said, read_more}
use Rattle.at_play.proofs.ReportLemmas.{counted, not_failed, tells_more}
use Rattle.std.specs.Prelude.{Option}
use Rattle.at_play.specs.declared.ending.Ending.{Ending}
use Rattle.at_play.specs.declared.ending.Ending.TheVariants as ending
use Rattle.at_diagnostics.specs.declared.stop.Stop.{Stop}
use Rattle.at_diagnostics.specs.declared.stop.Stop.TheVariants as stop

pub told_more : (A : Type 0) (w : WorldState) (es : List (Event A)) (rs : List (Report A)) (mid : WorldState)
    (text : List ℕ) (e : Event A) (r : Report A) (w' : WorldState) → Told w es rs mid text → IsPlayable mid e
    → Plays mid e r w' → IsSafe mid e r w'
    → Told w (es ++ e ∷ []) (rs ++ r ∷ []) w' (text ++ event_text mid.events r w'.sent (length mid.sent))
told_more A w [] [] mid text e r w' h fine plays safe =
    let same = h.0 in
    let more : List ℕ = event_text w.events r w'.sent (length w.sent) in (
      w',
      [],
      subst (λ x. IsPlayable x e) same fine,
      subst (λ x. Plays x e r w') same plays,
      subst (λ x. IsSafe x e r w') same safe,
      (refl, refl),
      ap (λ l. l ++ event_text mid.events r w'.sent (length mid.sent)) h.1
          ∙ ap (λ (x : WorldState). event_text x.events r w'.sent (length x.sent)) same ∙ sym (append-nil more),
    )
told_more A w (a ∷ es) (b ∷ rs) mid text e r w' h fine plays safe =
    let more : List ℕ = event_text mid.events r w'.sent (length mid.sent) in
    let first : List ℕ = event_text w.events b (h.0).sent (length w.sent) in (
      h.0,
      h.1 ++ more,
      h.2,
      h.3,
      h.4,
      told_more A h.0 es rs mid h.1 e r w' h.5 fine plays safe,
      ap (λ l. l ++ more) h.6 ∙ append_assoc first h.1 more,
    )
told_more A w [] (b ∷ rs) mid text e r w' h fine plays safe = absurd h
told_more A w (a ∷ es) [] mid text e r w' h fine plays safe = absurd h

pub follows_told : (A : Type 0) (w : WorldState) (es : List (Event A)) (rs : List (Report A)) (w' : WorldState)
    (text : List ℕ) → Told w es rs w' text → Follows w es rs w'
follows_told A w [] [] w' text h = h.0
follows_told A w (e ∷ es) (r ∷ rs) w' text h = (h.0, h.2, h.3, follows_told A h.0 es rs w' h.1 h.5)
follows_told A w [] (r ∷ rs) w' text h = absurd h
follows_told A w (e ∷ es) [] w' text h = absurd h

-- from at most 16 nodes on, each event leaves a world that keeps to its limits
pub safely_told : (A : Type 0) (w : WorldState) (es : List (Event A)) (rs : List (Report A)) (w' : WorldState)
    (text : List ℕ) → length w.nodes ≤ 16 → Told w es rs w' text → Safely w es rs w'
safely_told A w [] [] w' text few h = h.0
safely_told A w (e ∷ es) (r ∷ rs) w' text few h =
    let safe = h.4 in
    let keeps = safe.limits few in
    (h.0, h.3, safe, keeps, safely_told A h.0 es rs w' h.1 keeps.few_nodes h.5)
safely_told A w [] (r ∷ rs) w' text few h = absurd h
safely_told A w (e ∷ es) [] w' text few h = absurd h

refused : (A : Type 0) (d : Draft) (line : List ℕ) (w : WorldState) (e : Event A) (w' : WorldState) (f : EventFault)
    (number : ℕ) (datagram : Option ℕ) → is_event_line line ≡ true → Says line e → IsFault w e f w'
    → StopsLine A d line w (stop.Event f w.events number datagram)
refused A d line w e w' (fault.Refused r) number datagram event says h = (refl, event, (e, h.0, says))
refused A d line w e w' fault.NoMemory number datagram event says h = (refl, inr (event, (e, says, h.2)))

-- if the event of a line was not played, the play stops
pub stops_refused : (A : Type 0) (d : Draft) (line : List ℕ) (w : WorldState) (e : Event A) (w' : WorldState) (s : Stop)
    → is_event_line line ≡ true → Says line e → IsStopped w e w' s → StopsLine A d line w s
stops_refused A d line w e w' s event says h = subst (StopsLine A d line w) (sym h.says)
    (refused A d line w e w' h.fault h.line h.datagram event says h.faulty)

-- an event that a line says was not played
pub stops_said : (A : Type 0) (d : Draft) (line : List ℕ) (w w' : WorldState) (e : Event A) (r : Result (Unit {0}) Stop)
    (P Q : Type 0) → (is_event_line line ≡ true) × Says line e → IfErr r (λ s. P × Q × IsStopped w e w' s)
    → IfErr r (λ s. P × Q × StopsLine A d line w s)
stops_said A d line w w' e (Ok u) P Q has h = tt
stops_said A d line w w' e (Err s) P Q has h = (h.0, h.1, stops_refused A d line w e w' s has.0 has.1 h.2)

-- a reading that fails where nothing more was read
pub stops_unread : FirstLine → (A : Type 0) (first known : Option (List ℕ)) (es : List (Event A)) (d : Draft)
    (w : WorldState) (at : ℕ) (s : Stop) → HasRead A first known es d → at ≡ w.events → IsUnreadIn known at s
    → StopsIn A first true es w s
stops_unread law A first known es d w at (stop.Text f) h is unread = (refl, inl unread)
stops_unread law A first known es d w at (stop.Event fault.NoMemory n number datagram) h is unread =
    (unread.0 ∙ is, inr (left_some law A first known es d h unread.1))
stops_unread law A first known es d w at (stop.Event (fault.Refused r) n number datagram) h is unread = absurd unread

-- where the play of a line stops, the play of a file stops
pub stops_read : (A : Type 0) (first known after : Option (List ℕ)) (es : List (Event A)) (d : Draft) (line : List ℕ)
    (w : WorldState) (s : Stop) → HasRead A first known es d → Cuts known line after → StopsLine A d line w s
    → StopsIn A first true es w s
stops_read A first known after es d line w (stop.Text f) h cuts stops =
    (refl, inr (stops.0, breaks_off A first known after es d line h cuts stops.1))
stops_read A first known after es d line w (stop.Event fault.NoMemory n number datagram) h cuts stops =
    (stops.0, inr (line_left A first known after es d line h cuts))
stops_read A first known after es d line w (stop.Event (fault.Refused r) n number datagram) h cuts stops =
    let e = stops.2.0 in
    (stops.0, (e, stops.2.1, next_said A first known after es d line h cuts e stops.1 stops.2.2))

pub not_read : {E : Type 0} (P : Why → Type 0) (told : Diagnostics E) (r : Result (Unit {0}) Ending) (f : Why)
    (s : Ending) → r ≡ Err s → s ≡ ending.Stopped (stop_of f) → P f → IsNotRead P told told r []
not_read P told r f s was is h = rw was ((f, h, is), refl, refl)

-- a read that failed gave not all bytes
pub bytes_of_read : (f : Why) → IsOfRead f → IsOfBytes f
bytes_of_read (why.Unreadable unreadable.TooLong) h = tt
bytes_of_read (why.Unreadable unreadable.Changed) h = h
bytes_of_read (why.Unreadable (unreadable.System code)) h = tt
bytes_of_read (why.Unreadable unreadable.Failed) h = tt
bytes_of_read (why.Line number rule) h = h
bytes_of_read why.NoMemory h = tt

-- before the first event nothing is told
abbrev opened : (A : Type 0) (setup : Setup A) → Played setup
opened A setup = record {
  events = [];
  reports = [];
  world = opening_world setup;
  text = [];
  told = (refl, refl);
  here = All-nil (IsEventHere setup.net);
}

-- a play so far, at a world and a printer, and what was told of its reports
abbrev pub Sofar : (A : Type 0) {W E : Type 0} → (W → Page) → (E → Page) → Setup A → WorldState → Printer W → Printer W
    → Diagnostics E → Diagnostics E → Type 0
Sofar A page heard setup w old new before after =
    (p : Played setup) × (p.world ≡ w) × Prints page old new p.text × TellsReports heard 0 p.reports before after

module _ (A : Type 0) {W E : Type 0} (page : W → Page) (heard : E → Page) (setup : Setup A) where
  abbrev pub sofar_opened : (w : WorldState) (a : Printer W) (x : Diagnostics E) → w ≡ opening_world setup
      → Sofar A page heard setup w a a x x
  sofar_opened w a x is = (opened A setup, sym is, Prints-nothing page a, refl)

  -- a play that stops before its first event
  pub stops_first : (known : Option (List ℕ)) (may_fail : Bool) (a : Printer W) (x : Diagnostics E) (s : Stop)
      (number : ℕ) (datagram : Option ℕ) → s ≡ stop.Event fault.NoMemory 0 number datagram
      → (p : Played setup) × Prints page a a p.text × IsWhole A known may_fail (Err (ending.Stopped s)) p
      × TellsReports heard 0 p.reports x x
  stops_first known may_fail a x s number datagram is = (
    opened A setup,
    Prints-nothing page a,
    (subst (StopsIn A known may_fail [] (opening_world setup)) (sym is) (refl, inl refl), none_said A known),
    refl,
  )

  -- the world has counted its events, and has not failed
  pub place_of : (w : WorldState) (a b : Printer W) (x y : Diagnostics E) (so : Sofar A page heard setup w a b x y)
      → w.events ≡ 0 + length (so.0).reports
  place_of w a b x y so =
      let p = so.0 in
      sym (ap (λ (v : WorldState). v.events) so.1)
      ∙ counted A (opening_world setup) p.events p.reports p.world p.text p.told

  pub fresh_at : (w : WorldState) (a b : Printer W) (x y : Diagnostics E) → Sofar A page heard setup w a b x y
      → w.failed ≡ false
  fresh_at w a b x y so =
      let p = so.0 in
      sym (ap (λ (v : WorldState). v.failed) so.1)
      ∙ not_failed A (opening_world setup) p.events p.reports p.world p.text refl p.told

  -- one event more
  pub told_on : (number : ℕ) (w w' : WorldState) (a b c : Printer W) (x y z : Diagnostics E) (e : Event A)
      (before : Sofar A page heard setup w a b x y) → IsEventHere setup.net e
      → Tells page heard number w e w' b c y z
      → (after : Sofar A page heard setup w' a c x z) × ((after.0).events ≡ (before.0).events ++ e ∷ [])
  told_on number w w' a b c x y z e before here t =
      let p = before.0 in
      let more : List ℕ = event_text w.events t.report w'.sent (length w.sent) in
      let told = told_more A (opening_world setup) p.events p.reports w p.text e t.report w'
      (subst (λ v. Told (opening_world setup) p.events p.reports v p.text) before.1 p.told) t.playable t.plays
      t.safe in
      let line = subst (λ at. TellsReport heard t.report at number y z) (place_of w a b x y before) t.told in (
        (
          record {
            events = p.events ++ e ∷ [];
            reports = p.reports ++ t.report ∷ [];
            world = w';
            text = p.text ++ more;
            told = told;
            here = All-push (IsEventHere setup.net) p.events e p.here here;
          },
          refl,
          Prints-trans page a b c p.text more before.2 t.printed,
          tells_more heard 0 p.reports t.report number x y z before.3 line,
        ),
        refl,
      )

  -- one line more
  pub sofar_line : (number : ℕ) (has_event : Bool) (line : List ℕ) (w w' : WorldState) (a b c : Printer W)
      (x y z : Diagnostics E) (before : Sofar A page heard setup w a b x y)
      → TellsLine A page heard setup.net number has_event line w w' b c y z
      → (after : Sofar A page heard setup w' a c x z) × Adds has_event line (before.0).events (after.0).events
  sofar_line number true line w w' a b c x y z before (e, says, here, t) =
      let after = told_on number w w' a b c x y z e before here t in (after.0, (e, says, after.1))
  sofar_line number false line w w' a b c x y z before h = (
    (
      before.0,
      before.1 ∙ sym h.0,
      subst (λ v. Prints page a v (before.0).text) (sym h.1) before.2,
      subst (λ v. TellsReports heard 0 (before.0).reports x v) (sym h.2) before.3,
    ),
    refl,
  )

  -- where the play stops, and prints and tells nothing more
  pub sofar_stopped : (known : Option (List ℕ)) (may_fail : Bool) (w : WorldState) (a b c : Printer W)
      (x y z : Diagnostics E) (r : Result (Unit {0}) Ending) (s : Stop) → r ≡ Err (ending.Stopped s) → c ≡ b → z ≡ y
      → (before : Sofar A page heard setup w a b x y) → StopsIn A known may_fail (before.0).events w s
      → IfSome known (λ text. BeginsWith text (before.0).events)
      → (p : Played setup) × Prints page a c p.text × IsWhole A known may_fail r p
      × TellsReports heard 0 p.reports x z
  sofar_stopped known may_fail w a b c x y z r s is same also before stops begins = (
    before.0,
    subst (λ v. Prints page a v (before.0).text) (sym same) before.2,
    rw is (subst (λ v. StopsIn A known may_fail (before.0).events v s) (sym before.1) stops, begins),
    subst (λ v. TellsReports heard 0 (before.0).reports x v) (sym also) before.3,
  )

  -- one line more of those that are left
  pub line_played : (number : ℕ) (line : List ℕ) (first known after : Option (List ℕ)) (d d' : Draft)
      (w w' : WorldState)
      (a b c : Printer W) (u v z : Diagnostics E) (before : Sofar A page heard setup w a b u v)
      → HasRead A first known (before.0).events d → Cuts known line after
      → ((lines : List (List ℕ)) → IsRead A lines d → IsRead A (lines ++ line ∷ []) d')
      → TellsLine A page heard setup.net number (is_event_line line) line w w' b c v z
      → (later : Sofar A page heard setup w' a c u z) × HasRead A first after (later.0).events d'
  line_played number line first known after d d' w w' a b c u v z before read cuts taken told =
      let later = sofar_line number (is_event_line line) line w w' a b c u v z before told in (
        later.0,
        read_more A first known after (before.0).events d line read cuts ((later.0).0).events d' taken later.1,
      )
