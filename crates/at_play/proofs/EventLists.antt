-- The play of a list of events that the lines of a text say.
use Rattle.std.proofs.Common.{◌≡◌, ℕ, ◌+◌, ◌<◌, false, List, [], ◌∷◌, ◌++◌, length, take, drop, get_or, Some, Ok, Err}
use Rattle.std.proofs.Common.{Result, inl, inr, refl, sym, ap, subst, ◌∙◌, append_assoc}
use Rattle.std.proofs.lemmas.List.{get_or-map, length-map, map-append, take-append-drop, take_more}
use Rattle.std.proofs.lemmas.List.Elements.{All-get_or}
use Rattle.std.specs.List.{All}
use Rattle.at_diagnostics.specs.declared.diagnostics.Diagnostics.{Diagnostics}
use Rattle.at_diagnostics.specs.declared.stop.Stop.{Stop}
use Rattle.at_diagnostics.specs.declared.stop.Stop.TheVariants as stop
use Rattle.at_print.specs.Papers.{Page}
use Rattle.at_print.specs.Printers.{Prints}
use Rattle.at_print.specs.declared.printer.Printer.{Printer}
use Rattle.at_setup.specs.declared.event.Event.{Event}
use Rattle.at_setup.specs.declared.refusal.EventFault.{EventFault}
use Rattle.at_setup.specs.declared.refusal.EventFault.TheVariants as fault
use Rattle.at_setup.specs.declared.setup.Setup.{Setup}
use Rattle.at_schedule.specs.Says.{IsEventHere, SayAll}
use Rattle.at_schedule.specs.Schedules.{event_lines}
use Rattle.at_schedule.specs.Wholes.{events_of}
use Rattle.at_schedule.specs.declared.whole.NumberedEvent.{NumberedEvent}
use Rattle.at_world.specs.Worlds.{IsFault, WorldState}
use Rattle.at_play.specs.Told.{BeginsWith, IsStopped, IsWhole, NextSays, Played, StopsIn, TellsReports}
use Rattle.at_play.specs.declared.ending.Ending.{Ending}
use Rattle.at_play.specs.declared.ending.Ending.TheVariants as ending
use Rattle.at_world.specs.Plays.{opening_world}
use Rattle.std.specs.Prelude.{Option}
use Rattle.at_play.proofs.ToldLemmas.{Sofar, sofar_opened}

-- ---- an entry of the list

entry_parts : {A : Type 0} (es : List (NumberedEvent A)) (i : ℕ) (e : NumberedEvent A) → i < length es
    → e ≡ get_or es i e → es ≡ take i es ++ e ∷ drop (i + 1) es
entry_parts es i e within is =
    sym (take-append-drop (i + 1) es)
    ∙ ap (λ l. l ++ drop (i + 1) es) (take_more es i e within ∙ ap (λ x. take i es ++ x ∷ []) (sym is))
    ∙ append_assoc (take i es) (e ∷ []) (drop (i + 1) es)

-- the events before it, it, and those after it
pub event_parts : {A : Type 0} (es : List (NumberedEvent A)) (i : ℕ) (e : NumberedEvent A) → i < length es
    → e ≡ get_or es i e
    → events_of es ≡ events_of (take i es) ++ e.event ∷ events_of (drop (i + 1) es)
event_parts {A} es i e within is =
    ap events_of (entry_parts es i e within is)
    ∙ map-append (λ (e : NumberedEvent A). e.event) (take i es) (e ∷ drop (i + 1) es)

pub events_more : {A : Type 0} (es : List (NumberedEvent A)) (i : ℕ) (e : NumberedEvent A) → i < length es
    → e ≡ get_or es i e → events_of (take (i + 1) es) ≡ events_of (take i es) ++ e.event ∷ []
events_more {A} es i e within is =
    ap events_of (take_more es i e within ∙ ap (λ x. take i es ++ x ∷ []) (sym is))
    ∙ map-append (λ (e : NumberedEvent A). e.event) (take i es) (e ∷ [])

-- what is so of all events is so of it
pub event_here : {A : Type 0} (net : ℕ) (es : List (NumberedEvent A)) (i : ℕ) (e : NumberedEvent A) → i < length es
    → e ≡ get_or es i e → All (IsEventHere net) (events_of es) → IsEventHere net e.event
event_here {A} net es i e within is here =
    let of : NumberedEvent A → Event A = λ x. x.event in
    let same : get_or (events_of es) i e.event ≡ e.event = get_or-map of es i e e.event within ∙ ap of (sym is) in
    let long : i < length (events_of es) = subst (λ n. i < n) (sym (length-map es of)) within in
    subst (IsEventHere net) same (All-get_or (IsEventHere net) (events_of es) i e.event long here)

-- ---- the lines of the events

-- lines that say events say the first of them, and then the others
say_split : {A : Type 0} (lines : List (List ℕ)) (es rest : List (Event A)) → SayAll lines (es ++ rest)
    → (said later : List (List ℕ)) × (lines ≡ said ++ later) × SayAll said es × SayAll later rest
say_split lines [] rest h = ([], lines, refl, tt, h)
say_split (l ∷ lines) (e ∷ es) rest h =
    let s = say_split lines es rest h.1 in (l ∷ s.0, s.1, ap (λ k. l ∷ k) s.2, (h.0, s.3), s.4)
say_split [] (e ∷ es) rest h = absurd h

begins_with : {A : Type 0} (text : List ℕ) (all es rest : List (Event A)) → all ≡ es ++ rest
    → SayAll (event_lines text) all → BeginsWith text es
begins_with text all es rest parts h =
    let s = say_split (event_lines text) es rest (subst (SayAll (event_lines text)) parts h) in (s.0, s.1, s.2, s.3)

next_says : {A : Type 0} (text : List ℕ) (all es : List (Event A)) (e : Event A) (rest : List (Event A))
    → all ≡ es ++ e ∷ rest → SayAll (event_lines text) all → NextSays text es e
next_says text all es e rest parts h =
    let s = say_split (event_lines text) es (e ∷ rest) (subst (SayAll (event_lines text)) parts h) in
    go s.0 s.1 s.2 s.3 s.4
  where
    go : (said later : List (List ℕ)) → event_lines text ≡ said ++ later → SayAll said es → SayAll later (e ∷ rest)
        → NextSays text es e
    go said [] is says h = absurd h
    go said (line ∷ later) is says h = (said, later, line, is, says, h.0)

-- where the event that comes next is not played
stops_there : {A : Type 0} (text : List ℕ) (all es : List (Event A)) (e : Event A) (rest : List (Event A))
    (w w' : WorldState) (s : Stop) → w.failed ≡ false → all ≡ es ++ e ∷ rest → SayAll (event_lines text) all
    → IsStopped w e w' s → StopsIn A (Some text) false es w s
stops_there {A} text all es e rest w w' s fresh parts h stopped =
    subst (StopsIn A (Some text) false es w) (sym stopped.says) (go stopped.fault stopped.faulty)
  where
    next : NextSays text es e
    next = next_says text all es e rest parts h

    go : (f : EventFault) → IsFault w e f w' → StopsIn A (Some text) false es w
        (stop.Event f w.events stopped.line stopped.datagram)
    go (fault.Refused r) faulty = (refl, (e, faulty.0, next))
    go fault.NoMemory faulty =
        (refl, inr (next.0, next.1, next.2, next.3, next.4, inr (e, next.5, faulty.2 fresh)))

-- ---- the play

module _ (A : Type 0) {W E : Type 0} (page : W → Page) (heard : E → Page) (setup : Setup A) (all : List (Event A))
    (w : WorldState) (a b : Printer W) (x y : Diagnostics E) (before : Sofar A page heard setup w a b x y) where
  -- what is told of a play that ends so, whichever text says the events
  abbrev pub Ends : Printer W → Diagnostics E → Result (Unit {0}) Ending → Type 0
  Ends c z r =
      (p : Played setup) × Prints page a c p.text
      × ((text : List ℕ) → SayAll (event_lines text) all → IsWhole A (Some text) false r p)
      × TellsReports heard 0 p.reports x z

  pub ends_whole : all ≡ (before.0).events → Ends b y (Ok tt)
  ends_whole is = (before.0, before.2, (λ text says. subst (SayAll (event_lines text)) is says), before.3)

  pub ends_unwritten : (rest : List (Event A)) → all ≡ (before.0).events ++ rest → Ends b y (Err ending.Unwritten)
  ends_unwritten rest parts = (
    before.0,
    before.2,
    (λ text says. begins_with text all (before.0).events rest parts says),
    before.3,
  )

  pub ends_stopped : (c : Printer W) (z : Diagnostics E) (r : Result (Unit {0}) Ending) (s : Stop) (e : Event A)
      (rest : List (Event A)) (w' : WorldState) → r ≡ Err (ending.Stopped s) → c ≡ b → z ≡ y → w.failed ≡ false
      → all ≡ (before.0).events ++ e ∷ rest → IsStopped w e w' s → Ends c z r
  ends_stopped c z r s e rest w' is same also fresh parts stopped = (
    before.0,
    subst (λ v. Prints page a v (before.0).text) (sym same) before.2,
    (λ text says.
        rw is (
          subst (λ v. StopsIn A (Some text) false (before.0).events v s) (sym before.1)
              (stops_there text all (before.0).events e rest w w' s fresh parts says stopped),
          begins_with text all (before.0).events (e ∷ rest) parts says,
        )),
    subst (λ v. TellsReports heard 0 (before.0).reports x v) (sym also) before.3,
  )

-- where not even a world was opened
pub ends_unopened : (A : Type 0) {W E : Type 0} (page : W → Page) (heard : E → Page) (setup : Setup A)
    (all : List (Event A)) (a : Printer W) (x : Diagnostics E) (s : Stop) (number : ℕ) (datagram : Option ℕ)
    → s ≡ stop.Event fault.NoMemory 0 number datagram
    → Ends A page heard setup all (opening_world setup) a a x x
    (sofar_opened A page heard setup (opening_world setup) a x refl) a x (Err (ending.Stopped s))
ends_unopened A page heard setup all a x s number datagram is =
    let before = sofar_opened A page heard setup (opening_world setup) a x refl in (
      before.0,
      before.2,
      (λ text says. (
        subst (StopsIn A (Some text) false [] (opening_world setup)) (sym is) (refl, inl refl),
        begins_with text all [] all refl says,
      )),
      before.3,
    )
