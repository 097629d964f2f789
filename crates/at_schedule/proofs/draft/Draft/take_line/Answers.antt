use Rattle.std.proofs.Common.{◌≡◌, ◌⊎◌, ℕ, true, Option, List, [], ◌∷◌, ◌++◌, inl, inr, sym, ap, subst, ◌∙◌}
use Rattle.at_setup_lines.specs.Drafts.{IsDraft, IsNoSetup, Refuses, Takes, has_events}
use Rattle.at_setup.specs.declared.event.Event.{Event}
use Rattle.at_schedule.specs.Drafts.{BeginSchedule, IsRead}
use Rattle.at_schedule.specs.Says.{AreEvent, SaysEvent}
use Rattle.at_schedule.specs.Schedules.{AreKept, are_event_words}
use Rattle.at_schedule.specs.contracts.draft.Draft.take_line.{A-type}
use Rattle.at_schedule.proofs.HeadLemmas.{no_word}
use Rattle.at_schedule.proofs.ReadLemmas.{no_such_head, read_event, read_head, read_over, refused_event, refused_head}
use Rattle.at_schedule.proofs.FaultLemmas.{on_found, unlawful_map, unlawful_told}
use Rattle.at_words.specs.Words.{words_of}
use Rattle.at_schedule.proofs.draft.Draft.take_line.Goals as goal

pub returns-then-is_passed_over-clause-taken : goal.returns-then-is_passed_over-clause-taken
returns-then-is_passed_over-clause-taken g c lines read =
    read_over (A-type g.row.A) lines c.args.line.now c.args.self.now
    (sym c.is_passed_over.ensures ∙ c.if-is_passed_over.true) read

pub returns-in_default-clause-only : goal.returns-in_default-clause-only
returns-in_default-clause-only g c lines read =
    let A = A-type g.row.A in
    let none : words_of c.args.line.now ≡ [] = ap words_of (sym c.of-words.ensures) ∙ c.in_default.ensures.steps.0 in
    no_such_head A lines c.args.line.now c.args.self.now (sym c.is_passed_over.ensures ∙ c.if-is_passed_over.false)
    (ap are_event_words none) (subst (Refuses A c.args.self.now) (sym none)
    (no_word A c.lines_begin_with_known_words.ensures.setups c.args.self.now)) read

pub returns-then-is_event_word-clause-taken : goal.returns-then-is_event_word-clause-taken
returns-then-is_event_word-clause-taken g c =
    let A = A-type g.row.A in
    let ws = words_of c.next.new.self.rest.now in
    let words : words_of c.args.line.now ≡ c.in-Some.word.now ∷ ws = ap words_of (sym c.of-words.ensures)
    ∙ c.in-Some.ensures.steps in
    on_found c.take_event.result (SaysEvent c.in-Some.word.now ws)
    ((has_events c.take_event.new.self ≡ true)
    × ((lines : List (List (List ℕ))) → IsDraft lines c.args.self.now → IsDraft lines c.take_event.new.self))
    ((lines : List (List ℕ)) → IsRead A lines c.args.self.now
    → IsRead A (lines ++ c.args.line.now ∷ []) c.take_event.new.self)
    c.take_event.ensures.said c.take_event.ensures.taken
    (λ event says taken lines. read_event A lines c.args.line.now event c.args.self.now c.take_event.new.self
    (sym c.is_passed_over.ensures ∙ c.if-is_passed_over.false)
    (ap are_event_words words ∙ sym c.is_event_word.ensures ∙ c.if-is_event_word.true)
    (subst (λ l. AreEvent l event) (sym words) says) taken.0 taken.1)

pub returns-then-is_event_word-clause-only : goal.returns-then-is_event_word-clause-only
returns-then-is_event_word-clause-only g c =
    let A = A-type g.row.A in
    let ws = words_of c.next.new.self.rest.now in
    let words : words_of c.args.line.now ≡ c.in-Some.word.now ∷ ws = ap words_of (sym c.of-words.ensures)
    ∙ c.in-Some.ensures.steps in
    unlawful_map c.take_event.result
    (((e : Event A) → ¬ SaysEvent c.in-Some.word.now ws e) ⊎ IsNoSetup A c.args.self.now)
    ((lines : List (List ℕ)) → IsRead A lines c.args.self.now → ¬ BeginSchedule A (lines ++ c.args.line.now ∷ []))
    c.take_event.ensures.only
    (λ why lines. refused_event A lines c.args.line.now c.in-Some.word.now ws c.args.self.now words
    (sym c.is_passed_over.ensures ∙ c.if-is_passed_over.false)
    (sym c.is_event_word.ensures ∙ c.if-is_event_word.true) why)

pub returns-in-Ok-clause-taken : goal.returns-in-Ok-clause-taken
returns-in-Ok-clause-taken g c lines read =
    let words : words_of c.args.line.now ≡ c.in-Some.word.now ∷ words_of c.next.new.self.rest.now =
    ap words_of (sym c.of-words.ensures) ∙ c.in-Some.ensures.steps in
    let taken = c.in-Ok.ensures.taken in
    read_head (A-type g.row.A) lines c.args.line.now c.args.self.now c.take_head.new.self
    (sym c.is_passed_over.ensures ∙ c.if-is_passed_over.false)
    (ap are_event_words words ∙ sym c.is_event_word.ensures ∙ c.if-is_event_word.false) taken.0 taken.1
    (subst (λ l. Takes c.args.self.now l c.take_head.new.self) (sym words) taken.2) read

pub returns-in-Err-clause-only : goal.returns-in-Err-clause-only
returns-in-Err-clause-only g c =
    let A = A-type g.row.A in
    let ws = words_of c.next.new.self.rest.now in
    let words : words_of c.args.line.now ≡ c.in-Some.word.now ∷ ws = ap words_of (sym c.of-words.ensures)
    ∙ c.in-Some.ensures.steps in
    unlawful_told (Unit {0}) (Option (Event A)) c.in-Err.fault (Refuses A c.args.self.now (c.in-Some.word.now ∷ ws))
    ((lines : List (List ℕ)) → IsRead A lines c.args.self.now → ¬ BeginSchedule A (lines ++ c.args.line.now ∷ []))
    c.in-Err.ensures.only
    (λ why lines. refused_head A lines c.args.line.now c.in-Some.word.now ws c.args.self.now words
    (sym c.is_passed_over.ensures ∙ c.if-is_passed_over.false)
    (sym c.is_event_word.ensures ∙ c.if-is_event_word.false) why)

pub returns-then-is_event_word-clause-memory : goal.returns-then-is_event_word-clause-memory
returns-then-is_event_word-clause-memory g c = λ none.
    let words : words_of c.args.line.now ≡ c.in-Some.word.now ∷ words_of c.next.new.self.rest.now =
    ap words_of (sym c.of-words.ensures) ∙ c.in-Some.ensures.steps in (
      sym c.is_passed_over.ensures ∙ c.if-is_passed_over.false,
      subst AreKept (sym words) (inr (c.take_event.ensures.memory none)),
    )

pub returns-in-Err-clause-memory : goal.returns-in-Err-clause-memory
returns-in-Err-clause-memory g c = λ none.
    let words : words_of c.args.line.now ≡ c.in-Some.word.now ∷ words_of c.next.new.self.rest.now =
    ap words_of (sym c.of-words.ensures) ∙ c.in-Some.ensures.steps in (
      sym c.is_passed_over.ensures ∙ c.if-is_passed_over.false,
      subst AreKept (sym words) (inl (sym c.is_event_word.ensures ∙ c.if-is_event_word.false)),
    )
