use Rattle.std.proofs.Common.{[], inl, inr, refl, subst, sym}
use Rattle.std.specs.List.{All}
use Rattle.at_schedule.specs.Says.{IsEventHere, SayAll}
use Rattle.at_schedule.specs.Schedules.{event_lines}
use Rattle.at_schedule.specs.Wholes.{events_of}
use Rattle.at_print.proofs.PrintLemmas.{Prints-nothing}
use Rattle.at_play.proofs.ToldLemmas.{not_read}
use Rattle.at_play.proofs.playing_held.play_small.Goals as goal

pub play_events-requires-clause-here : goal.play_events-requires-clause-here
play_events-requires-clause-here g c =
    subst (λ es. All (IsEventHere c.in-Ok.schedule.setup.net) (events_of es)) (sym c.as_slice.ensures)
    c.in-Ok.ensures.here

pub returns-in-Ok-clause-told : goal.returns-in-Ok-clause-told
returns-in-Ok-clause-told g c =
    let told = c.play_events.ensures.told in
    let said = c.in-Ok.ensures.said in
    let says = subst (λ es. SayAll (event_lines c.args.text.now) (events_of es)) (sym c.as_slice.ensures) said.1 in (
      told.0.text,
      inr (c.in-Ok.schedule.setup, (_, said), told.0, told.1, refl, told.3 c.args.text.now says, told.4),
      told.2,
    )

pub returns-in-Err-clause-told : goal.returns-in-Err-clause-told
returns-in-Err-clause-told g c = (
  [],
  inl (not_read _ c.args.diagnostics.now _ c.in-Err.fault c.from.result refl c.from.ensures
      (inr c.in-Err.ensures.fault)),
  Prints-nothing g.W.Paper.page c.args.printer.now,
)
