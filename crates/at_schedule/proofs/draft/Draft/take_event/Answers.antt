use Rattle.std.proofs.Common.{◌⊎◌, inl}
use Rattle.at_setup_lines.specs.Drafts.{IsNoSetup}
use Rattle.at_setup.specs.declared.event.Event.{Event}
use Rattle.at_schedule.specs.Says.{SaysEvent}
use Rattle.at_schedule.specs.contracts.draft.Draft.take_event.{A-type}
use Rattle.at_schedule.proofs.EventLemmas.{no_event}
use Rattle.at_schedule.proofs.FaultLemmas.{unlawful_map}
use Rattle.at_words.specs.Words.{words_of}
use Rattle.at_schedule.proofs.draft.Draft.take_event.Goals as goal

pub returns-then-is_err-clause-only : goal.returns-then-is_err-clause-only
returns-then-is_err-clause-only g c =
    let A = A-type g.row.A in
    let ws = words_of c.args.words.rest.now in
    unlawful_map c.event_of-found.result ((e : Event A) → ¬ SaysEvent c.args.word.now ws e)
    (((e : Event A) → ¬ SaysEvent c.args.word.now ws e) ⊎ IsNoSetup A c.args.self.now)
    (no_event c.event_of-found.result c.args.word.now ws c.event_of-found.ensures.said) (λ never. inl never)
