use Rattle.std.proofs.Common.{rules, ◌≡◌, ◌∷◌, ◌++◌, [], List, ℕ, Err, None, Ok, true, inl, refl, ap, subst, ◌∙◌}
use Rattle.std.proofs.lemmas.Result.{err_from_is_err_and}
use Rattle.at_diagnostics.specs.declared.stop.Stop.TheVariants as stop
use Rattle.at_faults.specs.declared.fault.Fault.TheVariants as why
use Rattle.at_faults.specs.declared.fault.Unreadable.TheVariants as unreadable
use Rattle.std.specs.Io.Buffered.{reader_remaining}
use Rattle.at_setup.specs.declared.setup.Setup.{Setup}
use Rattle.at_world.specs.Plays.{opening_world}
use Rattle.at_play.proofs.LineLemmas.{HasRead, cuts_read, none_read, reads_all, reads_so_far}
use Rattle.at_play.proofs.playing.play_in.Given.{Over}
use Rattle.at_play.proofs.playing.play_in.Goals.{In_ok-play_line}
use Rattle.at_play.proofs.ToldLemmas.{Sofar, line_played, sofar_opened, sofar_stopped, stops_first, stops_read}
use Rattle.at_play.proofs.ToldLemmas.{stops_unread}
use Rattle.at_play.specs.Told.{StopsLine, TellsLine}
use Rattle.at_schedule.specs.Drafts.{IsRead}
use Rattle.at_schedule.specs.Schedules.{is_event_line}
use Rattle.at_play.proofs.playing.play_in.Goals as goal

pub returns-in_default-clause-told : goal.returns-in_default-clause-told
returns-in_default-clause-told g c = λ setup _ _.
    stops_first g.row.A.Denot g.W.Paper.page g.E.Paper.page setup (g.R.Read.remaining c.args.reader.now) true
    c.args.printer.now c.args.diagnostics.now c.no_memory.result 0 None c.no_memory.ensures.stop

pub loop-turn-init : goal.loop-turn-init
loop-turn-init g c = λ setup is net. (
  sofar_opened g.row.A.Denot g.W.Paper.page g.E.Paper.page setup c.args.world.now c.args.printer.now
      c.args.diagnostics.now is,
  none_read g.row.A.Denot (g.R.Read.remaining c.args.reader.now) _ c.new-draft.result (search rules)
      c.new-draft.ensures,
)

-- the event of the line follows those before it
played_on : (g : Over) (c : In_ok-play_line g) → (setup : Setup g.row.A.Denot)
    → c.args.world.now ≡ opening_world setup → c.args.net ≡ setup.net
    → (so_far : Sofar g.row.A.Denot g.W.Paper.page g.E.Paper.page setup c.play_line.new.world c.args.printer.now
    c.play_line.new.printer c.args.diagnostics.now c.play_line.new.diagnostics)
    × HasRead g.row.A.Denot (g.R.Read.remaining c.args.reader.now)
    (reader_remaining (λ r. g.R.Read.remaining r.now) c.next_line.new.reader) (so_far.0).events c.play_line.new.draft
played_on g c = λ setup is net.
    let before = c.loop-turn.invariant setup is net in
    let more = c.in_ok-more.was ∙ ap Ok c.if-not-more.false in
    let line = c.next_line.new.room.items in
    let told = subst (λ n. TellsLine g.row.A.Denot g.W.Paper.page g.E.Paper.page n c.saturating_add-number.result
    (is_event_line line) line c.loop-turn.world c.play_line.new.world c.loop-turn.printer c.play_line.new.printer
    c.loop-turn.diagnostics c.play_line.new.diagnostics) net
    (subst (λ l. TellsLine g.row.A.Denot g.W.Paper.page g.E.Paper.page c.args.net c.saturating_add-number.result
    (is_event_line l) l c.loop-turn.world c.play_line.new.world c.loop-turn.printer c.play_line.new.printer
    c.loop-turn.diagnostics c.play_line.new.diagnostics) c.deref.ensures.value c.in_ok-play_line.ensures.told) in
    let taken = subst (λ l. (lines : List (List ℕ)) → IsRead g.row.A.Denot lines c.loop-turn.draft
    → IsRead g.row.A.Denot (lines ++ l ∷ []) c.play_line.new.draft) c.deref.ensures.value
    c.in_ok-play_line.ensures.taken in
    line_played g.row.A.Denot g.W.Paper.page g.E.Paper.page setup c.saturating_add-number.result line
    (g.R.Read.remaining c.args.reader.now) _ _ c.loop-turn.draft c.play_line.new.draft c.loop-turn.world
    c.play_line.new.world c.args.printer.now c.loop-turn.printer c.play_line.new.printer c.args.diagnostics.now
    c.loop-turn.diagnostics c.play_line.new.diagnostics before.0 before.1
    (cuts_read c.first_line.ensures _ _ line (c.next_line.ensures.line more) c.in_ok-more.ensures.rest) taken told

pub loop-turn-preserved : goal.loop-turn-preserved
loop-turn-preserved g c = played_on g (goal.at.loop-turn-preserved g c).In_ok-play_line

pub returns-then-has_failed-clause-told : goal.returns-then-has_failed-clause-told
returns-then-has_failed-clause-told g c = λ setup is net.
    let after = played_on g (goal.at.returns-then-has_failed-clause-told g c).In_ok-play_line setup is net in (
      after.0.0,
      after.0.2,
      reads_so_far g.row.A.Denot (g.R.Read.remaining c.args.reader.now) _ ((after.0).0).events _ after.1,
      after.0.3,
    )

pub returns-then-has_failed-clause-unwritten : goal.returns-then-has_failed-clause-unwritten
returns-then-has_failed-clause-unwritten g c = λ u. c.has_failed.ensures.0 c.if-has_failed.true

pub returns-then-not-more-clause-told : goal.returns-then-not-more-clause-told
returns-then-not-more-clause-told g c =
    let none = c.in_ok-more.was ∙ ap Ok c.if-not-more.true in
    λ setup is net.
    let before = c.loop-turn.invariant setup is net in (
      before.0.0,
      before.0.2,
      reads_all g.row.A.Denot (g.R.Read.remaining c.args.reader.now) _ ((before.0).0).events _ before.1
          (c.next_line.ensures.end none),
      before.0.3,
    )

pub returns-in_err-more-clause-told : goal.returns-in_err-more-clause-told
returns-in_err-more-clause-told g c =
    let p = err_from_is_err_and c.from_residual.result c.from_residual.ensures.1 in
    λ setup is net.
    let before = c.loop-turn.invariant setup is net in
    sofar_stopped g.row.A.Denot g.W.Paper.page g.E.Paper.page setup (g.R.Read.remaining c.args.reader.now) true
    c.loop-turn.world c.args.printer.now c.loop-turn.printer c.loop-turn.printer
    c.args.diagnostics.now c.loop-turn.diagnostics c.loop-turn.diagnostics
    c.from_residual.result _ (p.1 ∙ ap Err p.2) refl refl before.0
    (stops_unread c.first_line.ensures g.row.A.Denot (g.R.Read.remaining c.args.reader.now) _
    ((before.0).0).events c.loop-turn.draft c.loop-turn.world c.played.result _ before.1 c.played.ensures
    c.in_err-more.ensures.unread)
    (reads_so_far g.row.A.Denot (g.R.Read.remaining c.args.reader.now) _ ((before.0).0).events _ before.1)

pub returns-in_err-play_line-clause-told : goal.returns-in_err-play_line-clause-told
returns-in_err-play_line-clause-told g c =
    let p = err_from_is_err_and c.from_residual-in_err-play_line.result c.from_residual-in_err-play_line.ensures.1 in
    let stopped = c.in_err-play_line.ensures.stopped in
    let more = c.in_ok-more.was ∙ ap Ok c.if-not-more.false in
    let line = c.next_line.new.room.items in
    λ setup is net.
    let before = c.loop-turn.invariant setup is net in
    sofar_stopped g.row.A.Denot g.W.Paper.page g.E.Paper.page setup (g.R.Read.remaining c.args.reader.now) true
    c.loop-turn.world c.args.printer.now c.loop-turn.printer c.play_line.new.printer
    c.args.diagnostics.now c.loop-turn.diagnostics c.play_line.new.diagnostics
    c.from_residual-in_err-play_line.result _ (p.1 ∙ ap Err p.2) stopped.0 stopped.1 before.0
    (stops_read g.row.A.Denot (g.R.Read.remaining c.args.reader.now) _ _ ((before.0).0).events c.loop-turn.draft line
    c.loop-turn.world _ before.1
    (cuts_read c.first_line.ensures _ _ line (c.next_line.ensures.line more) c.in_ok-more.ensures.rest)
    (subst (λ l. StopsLine g.row.A.Denot c.loop-turn.draft l c.loop-turn.world c.in_err-play_line.field-0.0)
    c.deref.ensures.value stopped.2))
    (reads_so_far g.row.A.Denot (g.R.Read.remaining c.args.reader.now) _ ((before.0).0).events _ before.1)

pub returns-clause-told : goal.returns-clause-told
returns-clause-told g c = λ setup is net.
    let before = c.loop-turn.invariant setup is net in
    sofar_stopped g.row.A.Denot g.W.Paper.page g.E.Paper.page setup (g.R.Read.remaining c.args.reader.now) true
    c.loop-turn.world c.args.printer.now c.loop-turn.printer c.loop-turn.printer
    c.args.diagnostics.now c.loop-turn.diagnostics c.loop-turn.diagnostics _
    (stop.Text (why.Unreadable unreadable.Failed)) refl refl refl before.0 (refl, inl tt)
    (reads_so_far g.row.A.Denot (g.R.Read.remaining c.args.reader.now) _ ((before.0).0).events _ before.1)
