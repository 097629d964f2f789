use Rattle.std.proofs.Common.{◌≡◌, Err, Some, false, refl, ap, subst, sym, ◌∙◌}
use Rattle.std.proofs.lemmas.Result.{err_from_is_err_and}
use Rattle.std.proofs.lemmas.List.{nil_from_length}
use Rattle.std.proofs.lemmas.Bool.{eqb-true}
use Rattle.at_setup.specs.declared.setup.Setup.{Setup}
use Rattle.at_world.specs.Plays.{opening_world}
use Rattle.at_play.proofs.LineLemmas.{HasRead, none_read, reads_all, reads_so_far}
use Rattle.at_play.proofs.TextLines.{stops_text}
use Rattle.at_play.proofs.ToldLemmas.{Sofar, fresh_at, line_played, sofar_opened, sofar_stopped}
use Rattle.at_play.proofs.playing_text.play_in.Given.{Over}
use Rattle.at_play.proofs.playing_text.play_in.Goals.{In_ok-play_line}
use Rattle.at_play.specs.Told.{TellsLine}
use Rattle.at_schedule.specs.Schedules.{is_event_line}
use Rattle.at_play.proofs.playing_text.play_in.Goals as goal

pub loop-rest-init : goal.loop-rest-init
loop-rest-init g c = λ setup is net. (
  sofar_opened g.row.A.Denot g.W.Paper.page g.E.Paper.page setup c.args.world.now c.args.printer.now
      c.args.diagnostics.now is,
  none_read g.row.A.Denot (Some c.args.text.now) (Some c.args.text.now) c.new-draft.result refl c.new-draft.ensures,
)

-- the event of the line follows those before it
played_on : (g : Over) (c : In_ok-play_line g) → (setup : Setup g.row.A.Denot)
    → c.args.world.now ≡ opening_world setup → c.args.net ≡ setup.net
    → (so_far : Sofar g.row.A.Denot g.W.Paper.page g.E.Paper.page setup c.play_line.new.world c.args.printer.now
    c.play_line.new.printer c.args.diagnostics.now c.play_line.new.diagnostics)
    × HasRead g.row.A.Denot (Some c.args.text.now) (Some c.cut_line.result.1.now) (so_far.0).events
    c.play_line.new.draft
played_on g c = λ setup is net.
    let before = c.loop-rest.invariant setup is net in
    let line = c.cut_line.result.0.now in
    line_played g.row.A.Denot g.W.Paper.page g.E.Paper.page setup c.saturating_add-number.result line
    (Some c.args.text.now) (Some c.loop-rest.rest.now) (Some c.cut_line.result.1.now) c.loop-rest.draft
    c.play_line.new.draft c.loop-rest.world c.play_line.new.world c.args.printer.now c.loop-rest.printer
    c.play_line.new.printer c.args.diagnostics.now c.loop-rest.diagnostics c.play_line.new.diagnostics before.0
    before.1 c.cut_line.ensures.cut c.in_ok-play_line.ensures.taken
    (subst (λ n. TellsLine g.row.A.Denot g.W.Paper.page g.E.Paper.page n c.saturating_add-number.result
    (is_event_line line) line c.loop-rest.world c.play_line.new.world c.loop-rest.printer c.play_line.new.printer
    c.loop-rest.diagnostics c.play_line.new.diagnostics) net c.in_ok-play_line.ensures.told)

pub loop-rest-preserved : goal.loop-rest-preserved
loop-rest-preserved g c = played_on g (goal.at.loop-rest-preserved g c).In_ok-play_line

pub returns-then-has_failed-clause-told : goal.returns-then-has_failed-clause-told
returns-then-has_failed-clause-told g c = λ setup is net.
    let after = played_on g (goal.at.returns-then-has_failed-clause-told g c).In_ok-play_line setup is net in (
      after.0.0,
      after.0.2,
      reads_so_far g.row.A.Denot (Some c.args.text.now) (Some c.cut_line.result.1.now) ((after.0).0).events _ after.1,
      after.0.3,
    )

pub returns-then-has_failed-clause-unwritten : goal.returns-then-has_failed-clause-unwritten
returns-then-has_failed-clause-unwritten g c = λ u. c.has_failed.ensures.0 c.if-has_failed.true

pub returns-clause-told : goal.returns-clause-told
returns-clause-told g c = λ setup is net.
    let before = c.loop-rest.invariant setup is net in
    let end = nil_from_length c.loop-rest.rest.now
    (eqb-true _ 0 (sym c.is_empty.ensures ∙ c.loop-rest-test.false)) in (
      before.0.0,
      before.0.2,
      reads_all g.row.A.Denot (Some c.args.text.now) (Some c.loop-rest.rest.now) ((before.0).0).events _ before.1 end,
      before.0.3,
    )

pub returns-in_err-play_line-clause-told : goal.returns-in_err-play_line-clause-told
returns-in_err-play_line-clause-told g c = λ setup is net.
    let p = err_from_is_err_and c.from_residual.result c.from_residual.ensures.1 in
    let before = c.loop-rest.invariant setup is net in
    let stopped = c.in_err-play_line.ensures.stopped in
    let fresh = fresh_at g.row.A.Denot g.W.Paper.page g.E.Paper.page setup c.loop-rest.world c.args.printer.now
    c.loop-rest.printer c.args.diagnostics.now c.loop-rest.diagnostics before.0 in
    sofar_stopped g.row.A.Denot g.W.Paper.page g.E.Paper.page setup (Some c.args.text.now) false c.loop-rest.world
    c.args.printer.now c.loop-rest.printer c.play_line.new.printer c.args.diagnostics.now
    c.loop-rest.diagnostics c.play_line.new.diagnostics c.from_residual.result _ (p.1 ∙ ap Err p.2) stopped.0
    stopped.1 before.0
    (stops_text g.row.A.Denot c.requires.0 c.args.text.now c.loop-rest.rest.now c.cut_line.result.1.now
    ((before.0).0).events c.loop-rest.draft c.cut_line.result.0.now c.requires.1 before.1 c.cut_line.ensures.cut
    c.setup_comes_first.ensures c.loop-rest.world _ fresh stopped.2)
    (reads_so_far g.row.A.Denot (Some c.args.text.now) (Some c.loop-rest.rest.now) ((before.0).0).events _ before.1)
