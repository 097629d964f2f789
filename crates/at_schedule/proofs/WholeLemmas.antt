-- One line more of a schedule that is read once.
use Rattle.std.proofs.Common.{◌≡◌, ◌⊎◌, ℕ, Bool, true, false, cond, List, [], ◌∷◌, ◌++◌, filter, length, Some}
use Rattle.std.proofs.Common.{None, Ok, Err, Result, inl, inr, refl, sym, ap, subst, ◌∙◌}
use Rattle.std.proofs.Common.{append-nil}
use Rattle.std.specs.Prelude.{◌==◌, OnOk}
use Rattle.std.specs.List.{All}
use Rattle.std.proofs.lemmas.List.Elements.{All-nil, All-push, filter-append}
use Rattle.std.proofs.lemmas.List.{nil_from_length}
use Rattle.std.proofs.lemmas.Bool.{eqb-true}
use Rattle.at_faults.specs.declared.fault.Fault.{Fault}
use Rattle.at_faults.specs.declared.fault.Fault.TheVariants as fault
use Rattle.at_faults.specs.declared.rule.Rule.{Rule}
use Rattle.at_setup.specs.declared.event.Event.{Event}
use Rattle.at_setup.specs.declared.setup.Setup.{Setup}
use Rattle.at_setup_lines.specs.Drafts.{Draft, IsDraft, has_events}
use Rattle.at_setup_lines.specs.SetupLines.{IsSetup}
use Rattle.at_schedule.specs.Drafts.{BeginSchedule, IsLineFault, IsRead, IsSchedule, number_after}
use Rattle.at_schedule.specs.Says.{IsEventHere, Reads, SayAll}
use Rattle.at_schedule.specs.Schedules.{is_event_line, lines_in, setup_words}
use Rattle.at_schedule.specs.Wholes.{AreRead}
use Rattle.at_schedule.proofs.LineLemmas.{none_begins}
use Rattle.at_schedule.proofs.ReadLemmas.{say_more}

say_none : {A : Type 0} (es : List (Event A)) → SayAll [] es → es ≡ []
say_none [] h = refl
say_none (e ∷ es) h = absurd h

pub filter_more : (b : Bool) (lines : List (List ℕ)) (line : List ℕ) → is_event_line line ≡ b
    → filter is_event_line (lines ++ line ∷ []) ≡ filter is_event_line lines ++ cond b (line ∷ []) []
filter_more b lines line is = filter-append is_event_line lines (line ∷ [])
    ∙ ap (λ v. filter is_event_line lines ++ cond v (line ∷ []) []) is

module _ (A : Type 0) (lines : List (List ℕ)) (line : List ℕ) (d d' : Draft) (es : List (Event A))
    (read : AreRead A lines d es)
    (taken : (lines : List (List ℕ)) → IsRead A lines d → IsRead A (lines ++ line ∷ []) d') where
  -- the line says an event
  pub event_read : (e : Event A) → Reads line (Some e) → IsEventHere d.net e → d'.net ≡ d.net
      → AreRead A (lines ++ line ∷ []) d' (es ++ e ∷ [])
  event_read e says here same = (
    taken lines read.0,
    subst (λ l. SayAll l (es ++ e ∷ [])) (sym (filter_more true lines line says.0))
        (say_more (filter is_event_line lines) es line e read.1 says.1),
    subst (λ net. All (IsEventHere net) (es ++ e ∷ [])) (sym same)
        (All-push (IsEventHere d.net) es e read.2 here),
  )

  here_by : (b : Bool) → has_events d ≡ b → (has_events d ≡ true → d'.net ≡ d.net) → All (IsEventHere d'.net) es
  here_by true is same = subst (λ net. All (IsEventHere net) es) (sym (same is)) read.2
  here_by false is same =
      let none : es ≡ [] = say_none es (subst (λ l. SayAll l es) (read.0.4 is) read.1) in
      subst (All (IsEventHere d'.net)) (sym none) (All-nil (IsEventHere d'.net))

  -- it says none
  pub other_read : Reads {A = A} line None → (has_events d ≡ true → d'.net ≡ d.net)
      → AreRead A (lines ++ line ∷ []) d' es
  other_read says same = (
    taken lines read.0,
    subst (λ l. SayAll l es)
        (sym (filter_more false lines line says ∙ append-nil (filter is_event_line lines))) read.1,
    here_by (has_events d) refl same,
  )

pub ok_so : {T E : Type 0} (r : Result T E) (P Q : Type 0) → OnOk r P → (P → Q) → OnOk r Q
ok_so (Ok x) P Q h f = f h
ok_so (Err e) P Q h f = h

-- nothing is left
pub all_lines : (text rest : List ℕ) (read : List (List ℕ)) → lines_in text ≡ read ++ lines_in rest
    → (length rest == 0) ≡ true → lines_in text ≡ read
all_lines text rest read left none =
    left ∙ ap (λ l. read ++ lines_in l) (nil_from_length rest (eqb-true (length rest) 0 none)) ∙ append-nil read

-- no line is read yet
pub none_read : (A : Type 0) (d : Draft) → IsRead A [] d → AreRead A [] d []
none_read A d read = (read, tt, All-nil (IsEventHere d.net))

-- all lines are read
pub all_read : (A : Type 0) (text : List ℕ) (lines : List (List ℕ)) (d : Draft) (es : List (Event A)) (s : Setup A)
    → lines_in text ≡ lines → AreRead A lines d es
    → ((ls : List (List (List ℕ))) → IsDraft ls d → IsSetup ls s) → IsSchedule (lines_in text) s es
all_read A text lines d es s is read setup =
    subst (λ l. IsSchedule l s es) (sym is) (setup (setup_words lines) read.0.0, read.1, read.0.2)

-- why a line is not taken
abbrev pub IsNotTaken : (A : Type 0) → Draft → List ℕ → ℕ → Fault → Type 0
IsNotTaken A d line number told =
    (told ≡ fault.NoMemory) ⊎ (((rule : Rule) × (told ≡ fault.Line number rule))
    × ((lines : List (List ℕ)) → IsRead A lines d → ¬ BeginSchedule A (lines ++ line ∷ [])))

pub not_taken : (A : Type 0) (text rest : List ℕ) (lines : List (List ℕ)) (line : List ℕ) (d : Draft) (number : ℕ)
    (told : Fault) → number ≡ number_after lines → lines_in text ≡ (lines ++ line ∷ []) ++ lines_in rest
    → IsRead A lines d → BeginSchedule A lines → IsNotTaken A d line number told → IsLineFault A (Some text) told
not_taken A text rest lines line d number told is left read begins (inl none) =
    subst (IsLineFault A (Some text)) (sym none) tt
not_taken A text rest lines line d number told is left read begins (inr (rule, never)) =
    subst (IsLineFault A (Some text)) (sym rule.1)
    (none_begins A (Some text) (Some rest) lines line number rule.0 is left begins (never lines read))
