use Rattle.std.proofs.Common.{◌<◌, arith, length, subst}
use Rattle.at_event.specs.declared.Timer.TheVariants as timer
use Rattle.at_event.specs.declared.transactions.TransactionTimer.TheVariants as atp_timer
use Rattle.at_held.proofs.TimerLemmas.{line_more}
use Rattle.at_held.proofs.timers.write_timers.Goals as goal

pub loop-timer-preserved : goal.loop-timer-preserved
loop-timer-preserved g c = (
  line_more g.W.Paper.page c.args.net c.args.timers.now c.loop-timer.timer-index
      (timer.Transactions (atp_timer.Retry 0))
      c.args.printer.now c.loop-timer.printer c.write_timer.new.printer c.loop-timer-test.true
      c.loop-timer.invariant.0 c.write_timer.ensures,
  λ none.
      absurd (omega (arith, subst (λ l. c.loop-timer.timer-index < length l) none c.loop-timer-test.true)),
)
