-- One line more of a schedule.
use Rattle.std.proofs.Common.{◌≡◌, ◌⊎◌, ◌<◌, ℕ, Bool, true, false, List, [], ◌∷◌, ◌++◌, filter, length, Ok, Err, Result}
use Rattle.std.proofs.Common.{IfErr, inl, inr, refl, sym, ap, subst, ◌∙◌, append-nil, append_assoc, arith}
use Rattle.std.specs.Prelude.{◌≢◌}
use Rattle.std.proofs.lemmas.List.{length-append}
use Rattle.at_call_words.specs.Readings.{IfUnlawful}
use Rattle.at_faults.specs.declared.fault.LineFault.{LineFault}
use Rattle.at_faults.specs.declared.fault.LineFault.TheVariants.{NoMemory, Unlawful}
use Rattle.at_setup_lines.specs.Drafts.{Draft, IsDraft, IsNoSetup, Refuses, Takes, has_events}
use Rattle.at_setup_lines.specs.SetupLines.{IsSetup}
use Rattle.at_setup.specs.declared.event.Event.{Event}
use Rattle.at_setup.specs.declared.setup.Setup.{Setup}
use Rattle.at_schedule.specs.Drafts.{BeginSchedule, IsRead, IsSchedule}
use Rattle.at_schedule.specs.Says.{AreEvent, SayAll, Says, SaysEvent}
use Rattle.at_schedule.specs.Schedules.{are_event_words, is_event_line, is_event_word, is_passed_over, is_setup_line}
use Rattle.at_schedule.specs.Schedules.{setup_words}
use Rattle.at_schedule.proofs.OrderLemmas.{add_no, add_yes, event_by, order_after, order_first, order_more, passed_by}
use Rattle.at_schedule.proofs.OrderLemmas.{setup_after, words_no, words_yes}
use Rattle.at_words.specs.Words.{words_of}

-- ---- events

pub say_more : {A : Type 0} (lines : List (List ℕ)) (es : List (Event A)) (line : List ℕ) (e : Event A) → SayAll lines es
    → Says line e → SayAll (lines ++ line ∷ []) (es ++ e ∷ [])
say_more [] [] line e h says = (says, tt)
say_more (l ∷ lines) (x ∷ es) line e h says = (h.0, say_more lines es line e h.1 says)
say_more [] (x ∷ es) line e h says = absurd h
say_more (l ∷ lines) [] line e h says = absurd h

one_lacks : {A : Type 0} (before after : List (List ℕ)) (line : List ℕ) (es : List (Event A))
    → ((e : Event A) → ¬ Says line e) → ¬ SayAll (before ++ line ∷ after) es
one_lacks [] after line [] never h = h
one_lacks [] after line (e ∷ es) never h = never e h.0
one_lacks (l ∷ before) after line [] never h = h
one_lacks (l ∷ before) after line (e ∷ es) never h = one_lacks before after line es never h.1

pub no_event : (lines : List (List ℕ)) (line : List ℕ) → is_event_line line ≡ false
    → filter is_event_line (lines ++ line ∷ []) ≡ filter is_event_line lines
no_event lines line is = add_no is_event_line lines [] line is ∙ append-nil (filter is_event_line lines)

-- ---- what is read

-- a line that is passed over
pub read_over : (A : Type 0) (lines : List (List ℕ)) (line : List ℕ) (d : Draft) → is_passed_over line ≡ true
    → IsRead A lines d → IsRead A (lines ++ line ∷ []) d
read_over A lines line d over (draft, (es, said), order, late, early) =
    let (plain, not_setup) = passed_by line over in
    let same = no_event lines line plain in (
      subst (λ l. IsDraft l d) (sym (words_no lines [] line not_setup refl)) draft,
      (es, subst (λ l. SayAll l es) (sym same) said),
      order_more lines line order not_setup,
      (λ e. subst (λ l. 0 < length l) (sym same) (late e)),
      λ e. same ∙ early e,
    )

-- an event
pub read_event : (A : Type 0) (lines : List (List ℕ)) (line : List ℕ) (e : Event A) (old new : Draft)
    → is_passed_over line ≡ false → are_event_words (words_of line) ≡ true → Says line e → has_events new ≡ true
    → ((ls : List (List (List ℕ))) → IsDraft ls old → IsDraft ls new) → IsRead A lines old
    → IsRead A (lines ++ line ∷ []) new
read_event A lines line e old new heard event says over next (draft, (es, said), order, late, early) =
    let (is_event, not_setup) = event_by line true heard event in
    let more = add_yes is_event_line lines [] line is_event in (
      subst (λ l. IsDraft l new) (sym (words_no lines [] line not_setup refl)) (next (setup_words lines) draft),
      (
        es ++ e ∷ [],
        subst (λ l. SayAll l (es ++ e ∷ [])) (sym more)
            (say_more (filter is_event_line lines) es line e said says),
      ),
      order_more lines line order not_setup,
      (λ h. subst (λ l. 0 < length l) (sym more)
          (omega (arith, length-append (filter is_event_line lines) (line ∷ [])))),
      λ h. absurd (cc (sym over ∙ h)),
    )

-- a line of the setup
pub read_head : (A : Type 0) (lines : List (List ℕ)) (line : List ℕ) (old new : Draft) → is_passed_over line ≡ false
    → are_event_words (words_of line) ≡ false → has_events old ≡ false → has_events new ≡ false
    → Takes old (words_of line) new → IsRead A lines old → IsRead A (lines ++ line ∷ []) new
read_head A lines line old new heard plain before after next (draft, (es, said), order, late, early) =
    let (other, setup) = event_by line false heard plain in
    let same = no_event lines line other in (
      subst (λ l. IsDraft l new) (sym (words_yes lines [] line setup)) (next (setup_words lines) draft),
      (es, subst (λ l. SayAll l es) (sym same) said),
      order_first lines line (early before),
      (λ h. absurd (cc (sym after ∙ h))),
      λ h. same ∙ early before,
    )

-- ---- what is refused

whole : (A : Type 0) (lines : List (List ℕ)) (line : List ℕ) → BeginSchedule A (lines ++ line ∷ [])
    → (more : List (List ℕ)) × (s : Setup A) × (es : List (Event A)) × IsSchedule (lines ++ line ∷ more) s es
whole A lines line (more, s, es, h) =
    (more, s, es, subst (λ l. IsSchedule l s es) (append_assoc lines (line ∷ []) more) h)

-- an event line that says no event
pub no_such_event : (A : Type 0) (lines : List (List ℕ)) (line : List ℕ) → is_passed_over line ≡ false
    → are_event_words (words_of line) ≡ true → ((e : Event A) → ¬ Says line e) → ¬ BeginSchedule A (lines ++ line ∷ [])
no_such_event A lines line heard event never begins =
    let (more, s, es, (setup, said, order)) = whole A lines line begins in
    let (is_event, not_setup) = event_by line true heard event in
    one_lacks (filter is_event_line lines) (filter is_event_line more) line es never
    (subst (λ l. SayAll l es) (add_yes is_event_line lines more line is_event) said)

-- an event where the setup is not whole
pub no_setup_yet : (A : Type 0) (lines : List (List ℕ)) (line : List ℕ) (d : Draft) → is_passed_over line ≡ false
    → are_event_words (words_of line) ≡ true → IsNoSetup A d → IsRead A lines d → ¬ BeginSchedule A (lines ++ line ∷ [])
no_setup_yet A lines line d heard event never read begins =
    let (more, s, es, (setup, said, order)) = whole A lines line begins in
    let (is_event, not_setup) = event_by line true heard event in
    let over = order_after lines more line order is_event in
    never (setup_words lines) read.0 s (subst (λ l. IsSetup l s) (words_no lines more line not_setup over) setup)

refused_by : (A : Type 0) (b : Bool) (lines : List (List ℕ)) (line : List ℕ) (d : Draft) → has_events d ≡ b
    → is_setup_line line ≡ true → Refuses A d (words_of line) → IsRead A lines d
    → ¬ BeginSchedule A (lines ++ line ∷ [])
refused_by A true lines line d is setup_line never (draft, saying, order, late, early) begins =
    let (more, s, es, (setup, said, whole_order)) = whole A lines line begins in
    setup_after lines more line whole_order (late is) setup_line
refused_by A false lines line d is setup_line never (draft, saying, order, late, early) begins =
    let (more, s, es, (setup, said, whole_order)) = whole A lines line begins in
    let parts = words_yes lines more line setup_line
    ∙ sym (append_assoc (setup_words lines) (words_of line ∷ []) (setup_words more)) in
    never (setup_words lines) draft is (setup_words more, s, subst (λ l. IsSetup l s) parts setup)

-- a line of the setup that is refused, or that comes after an event
pub no_such_head : (A : Type 0) (lines : List (List ℕ)) (line : List ℕ) (d : Draft) → is_passed_over line ≡ false
    → are_event_words (words_of line) ≡ false → Refuses A d (words_of line) → IsRead A lines d
    → ¬ BeginSchedule A (lines ++ line ∷ [])
no_such_head A lines line d heard plain never read =
    refused_by A (has_events d) lines line d refl (event_by line false heard plain).1 never read

-- ---- what a call told

pub unlawful_of : {T : Type 0} (P : Type 0) (r : Result T LineFault) → IfErr r (λ fault. fault ≢ NoMemory → P)
    → IfUnlawful r P
unlawful_of P (Ok x) h = tt
unlawful_of P (Err (Unlawful rule)) h = h (λ same. cc same)
unlawful_of P (Err NoMemory) h = tt

-- ---- why a line is refused, as its first word tells

pub refused_event : (A : Type 0) (lines : List (List ℕ)) (line word : List ℕ) (words : List (List ℕ)) (d : Draft)
    → words_of line ≡ word ∷ words → is_passed_over line ≡ false → is_event_word word ≡ true
    → ((e : Event A) → ¬ SaysEvent word words e) ⊎ IsNoSetup A d → IsRead A lines d
    → ¬ BeginSchedule A (lines ++ line ∷ [])
refused_event A lines line word words d are heard event (inl never) read =
    no_such_event A lines line heard (ap are_event_words are ∙ event)
    (λ e says. never e (subst (λ l. AreEvent l e) are says))
refused_event A lines line word words d are heard event (inr never) read =
    no_setup_yet A lines line d heard (ap are_event_words are ∙ event) never read

pub refused_head : (A : Type 0) (lines : List (List ℕ)) (line word : List ℕ) (words : List (List ℕ)) (d : Draft)
    → words_of line ≡ word ∷ words → is_passed_over line ≡ false → is_event_word word ≡ false
    → Refuses A d (word ∷ words) → IsRead A lines d → ¬ BeginSchedule A (lines ++ line ∷ [])
refused_head A lines line word words d are heard plain never read =
    no_such_head A lines line d heard (ap are_event_words are ∙ plain) (subst (Refuses A d) (sym are) never) read
