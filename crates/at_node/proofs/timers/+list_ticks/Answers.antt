use Rattle.std.proofs.Common.{[], arith}
use Rattle.std.specs.Prelude.{option_map}
use Rattle.at_adsp_ends.specs.Calls.{heeding}
use Rattle.at_node.specs.Timers.{timer_of}
use Rattle.at_node.proofs.AddingLemmas.{adds_as, adds_begun, adds_both}
use Rattle.at_node.proofs.TimerLemmas.{filter_next}
use Rattle.at_node.proofs.timers.+list_ticks.Goals as goal

pub returns-in_err-list_one : goal.returns-in_err-list_one
returns-in_err-list_one g t c = adds_as _ _ _ _ _
    (filter_next (option_map (timer_of c.args.tick)) (heeding c.args.tick) [] c.args.streams.now.ends c.args.place
    c.heeding_at-id.result (omega (arith, c.end_count.ensures, c.if-place-end_count.false)) c.heeding_at-id.ensures)
    (adds_begun _ _ _ _ _ _ c.from_residual.ensures.0 (rw c.ticking.ensures at c.in_err-list_one.ensures))

pub returns : goal.returns
returns g t c = adds_as _ _ _ _ _
    (filter_next (option_map (timer_of c.args.tick)) (heeding c.args.tick) [] c.args.streams.now.ends c.args.place
    c.heeding_at-id.result (omega (arith, c.end_count.ensures, c.if-place-end_count.false)) c.heeding_at-id.ensures)
    (adds_both _ _ _ _ _ _ _ (rw c.ticking.ensures at c.in_ok-list_one.ensures) c.list_ticks.ensures)
