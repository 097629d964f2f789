use Rattle.std.proofs.Common.{◌∷◌, ◌++◌, [], ℕ, List, inl, inr, refl, ap, subst, sym, ◌∙◌}
use Rattle.std.proofs.lemmas.List.{map-append}
use Rattle.at_setup.specs.declared.event.Event.{Event}
use Rattle.at_schedule.specs.Says.{IsEventHere}
use Rattle.at_schedule.specs.Wholes.{AreRead, events_of}
use Rattle.at_schedule.specs.contracts.whole.take_line.{A-type}
use Rattle.at_schedule.specs.declared.whole.NumberedEvent.{NumberedEvent}
use Rattle.at_schedule.proofs.WholeLemmas.{event_read, ok_so, other_read}
use Rattle.at_schedule.proofs.whole.take_line.Goals as goal

pub returns-in-Ok-Some-clause-taken : goal.returns-in-Ok-Some-clause-taken
returns-in-Ok-Some-clause-taken g c =
    let A = A-type g.row.A in
    let old = c.args.draft.now in
    let line = c.args.line.now in
    let event : Event A = c.in-Ok-Some.event in
    let says = rw c.in-Ok-Some.field-0-is at c.in-Ok-Some.ensures.reads in
    let here = rw c.in-Ok-Some.field-0-is at c.in-Ok-Some.ensures.here in
    let net = rw c.in-Ok-Some.field-0-is at c.in-Ok-Some.ensures.net in
    ok_so c.keep.result _ ((lines : List (List ℕ)) → AreRead A lines old (events_of c.args.events.now.items)
    → AreRead A (lines ++ line ∷ []) c.take_line.new.self (events_of c.keep.new.events.items)) c.keep.ensures.kept
    (λ kept lines read.
    subst (AreRead A (lines ++ line ∷ []) c.take_line.new.self)
    (sym (ap events_of kept ∙ map-append (λ (e : NumberedEvent A). e.event) c.args.events.now.items (_ ∷ [])))
    (event_read A lines line old c.take_line.new.self (events_of c.args.events.now.items) read
    c.in-Ok-Some.ensures.taken event says (subst (λ n. IsEventHere n event) c.net-net.ensures here) (net (inr refl))))

pub returns-in-Ok-None-clause-taken : goal.returns-in-Ok-None-clause-taken
returns-in-Ok-None-clause-taken g c lines read =
    let says = rw c.in-Ok-None.field-0-is at c.in-Ok-None.ensures.reads in
    let net = rw c.in-Ok-None.field-0-is at c.in-Ok-None.ensures.net in
    other_read (A-type g.row.A) lines c.args.line.now c.args.draft.now c.take_line.new.self
    (events_of c.args.events.now.items) read c.in-Ok-None.ensures.taken says (λ is. net (inl is))
