use Rattle.std.proofs.Common.{◌≡◌, ◌+◌, ◌∷◌, ◌++◌, [], drop, take, Err, refl, ap, sym, ◌∙◌}
use Rattle.std.specs.List.{All}
use Rattle.std.proofs.lemmas.List.{take-append-drop, take_all, map-append}
use Rattle.std.proofs.lemmas.Result.{err_from_is_err_and}
use Rattle.at_schedule.specs.Says.{IsEventHere}
use Rattle.at_schedule.specs.Wholes.{events_of}
use Rattle.at_schedule.specs.declared.whole.NumberedEvent.{NumberedEvent}
use Rattle.at_setup.specs.declared.setup.Setup.{Setup}
use Rattle.at_world.specs.Plays.{opening_world}
use Rattle.at_play.proofs.EventLists.{ends_stopped, ends_unwritten, ends_whole, event_here, event_parts, events_more}
use Rattle.at_play.proofs.ToldLemmas.{Sofar, fresh_at, sofar_opened, told_on}
use Rattle.at_play.proofs.playing_events.play_in.Given.{Over}
use Rattle.at_play.proofs.playing_events.play_in.Goals as goal
use Rattle.at_play.proofs.playing_events.play_in.Goals.{In_ok-play_event}

pub loop-next-init : goal.loop-next-init
loop-next-init g c = λ setup is here. (
  sofar_opened g.row.A.Denot g.W.Paper.page g.E.Paper.page setup c.args.world.now c.args.printer.now
      c.args.diagnostics.now is,
  refl,
)

-- the event that comes next follows those before it
played_on : (g : Over) (c : In_ok-play_event g) (setup : Setup g.row.A.Denot)
    → c.args.world.now ≡ opening_world setup → All (IsEventHere setup.net) (events_of c.args.events.now)
    → (so_far : Sofar g.row.A.Denot g.W.Paper.page g.E.Paper.page setup c.play_event.new.world c.args.printer.now
    c.play_event.new.printer c.args.diagnostics.now c.play_event.new.diagnostics)
    × ((so_far.0).events ≡ events_of (take (c.loop-next.next-index + 1) c.args.events.now))
played_on g c setup is here =
    let A = g.row.A.Denot in
    let events = c.args.events.now in
    let i = c.loop-next.next-index in
    let next : NumberedEvent A = c.next-item.result in
    let within = c.loop-next-test.true in
    let before = c.loop-next.invariant setup is here in
    let after = told_on A g.W.Paper.page g.E.Paper.page setup next.line c.loop-next.world c.play_event.new.world
    c.args.printer.now c.loop-next.printer c.play_event.new.printer c.args.diagnostics.now c.loop-next.diagnostics
    c.play_event.new.diagnostics next.event before.0 (event_here setup.net events i next within c.next-item.is here)
    c.in_ok-play_event.ensures.told in
    (after.0, after.1 ∙ ap (λ l. l ++ next.event ∷ []) before.1 ∙ sym (events_more events i next within c.next-item.is))

pub loop-next-preserved : goal.loop-next-preserved
loop-next-preserved g c = played_on g (goal.at.loop-next-preserved g c).In_ok-play_event

pub returns-then-has_failed-clause-told : goal.returns-then-has_failed-clause-told
returns-then-has_failed-clause-told g c = λ setup is here.
    let after = played_on g (goal.at.returns-then-has_failed-clause-told g c).In_ok-play_event setup is here in
    let events = c.args.events.now in
    let n = c.loop-next.next-index + 1 in
    ends_unwritten g.row.A.Denot g.W.Paper.page g.E.Paper.page setup (events_of events) c.play_event.new.world
    c.args.printer.now c.play_event.new.printer c.args.diagnostics.now c.play_event.new.diagnostics after.0
    (events_of (drop n events))
    (sym (ap events_of (take-append-drop n events))
    ∙ map-append (λ (e : NumberedEvent g.row.A.Denot). e.event) (take n events) (drop n events)
    ∙ ap (λ l. l ++ events_of (drop n events)) (sym after.1))

pub returns-then-has_failed-clause-unwritten : goal.returns-then-has_failed-clause-unwritten
returns-then-has_failed-clause-unwritten g c = λ u. c.has_failed.ensures.0 c.if-has_failed.true

pub returns-clause-told : goal.returns-clause-told
returns-clause-told g c = λ setup is here.
    let before = c.loop-next.invariant setup is here in
    ends_whole g.row.A.Denot g.W.Paper.page g.E.Paper.page setup (events_of c.args.events.now) c.loop-next.world
    c.args.printer.now c.loop-next.printer c.args.diagnostics.now c.loop-next.diagnostics before.0
    (sym (ap events_of (take_all c.loop-next.next-index c.args.events.now c.loop-next-test.false)) ∙ sym before.1)

pub returns-in_err-play_event-clause-told : goal.returns-in_err-play_event-clause-told
returns-in_err-play_event-clause-told g c = λ setup is here.
    let A = g.row.A.Denot in
    let p = err_from_is_err_and c.from_residual.result c.from_residual.ensures.1 in
    let events = c.args.events.now in
    let i = c.loop-next.next-index in
    let next : NumberedEvent A = c.next-item.result in
    let before = c.loop-next.invariant setup is here in
    let stopped = c.in_err-play_event.ensures.stopped in
    let fresh = fresh_at A g.W.Paper.page g.E.Paper.page setup c.loop-next.world c.args.printer.now
    c.loop-next.printer c.args.diagnostics.now c.loop-next.diagnostics before.0 in
    let rest = events_of (drop (i + 1) events) in
    ends_stopped A g.W.Paper.page g.E.Paper.page setup (events_of events) c.loop-next.world c.args.printer.now
    c.loop-next.printer c.args.diagnostics.now c.loop-next.diagnostics before.0 c.play_event.new.printer
    c.play_event.new.diagnostics c.from_residual.result _ next.event rest c.play_event.new.world (p.1 ∙ ap Err p.2)
    stopped.0 stopped.1 fresh
    (event_parts events i next c.loop-next-test.true c.next-item.is
    ∙ ap (λ l. l ++ next.event ∷ rest) (sym before.1)) stopped.2
