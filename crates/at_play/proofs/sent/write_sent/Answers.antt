use Rattle.std.proofs.Common.{arith, ◌<◌, ◌≤◌, sym, subst, length, drop}
use Rattle.std.proofs.lemmas.List.{take_all}
use Rattle.at_print.specs.Printers.{Prints}
use Rattle.at_play.specs.Sent.{sent_lines}
use Rattle.at_print.proofs.PrintLemmas.{Prints-nothing}
use Rattle.at_play.proofs.SentLemmas.{Prints-sent, sent_lines-none}
use Rattle.at_play.proofs.sent.write_sent.Goals as goal

pub loop-number-init : goal.loop-number-init
loop-number-init g c = subst (Prints g.W.Paper.page c.args.printer.now c.args.printer.now)
    (sym (sent_lines-none c.args.first c.args.world.now.sent)) (Prints-nothing g.W.Paper.page c.args.printer.now)

pub loop-number-preserved : goal.loop-number-preserved
loop-number-preserved g c =
    let s = c.sent-sent.ensures in
    let within : c.loop-number.number < length c.args.world.now.sent =
    omega (arith, c.sent_count-number-end.ensures) in
    let past : c.args.first ≤ c.loop-number.number = omega (arith, c.loop-number.auto.number) in
    Prints-sent g.W.Paper.page c.args.first c.loop-number.number c.args.world.now.sent s.0
    c.sent-sent.result.to c.sent-sent.result.bytes.now c.args.printer.now c.loop-number.printer
    c.write_datagram.new.printer within past s.1 s.3 s.4 c.loop-number.invariant c.write_datagram.ensures

pub returns : goal.returns
returns g c =
    let past : length c.args.world.now.sent ≤ c.loop-number.number =
    omega (arith, c.sent_count-number-end.ensures, c.loop-number-test.false) in
    subst (λ l. Prints g.W.Paper.page c.args.printer.now c.loop-number.printer
    (sent_lines c.args.first (drop c.args.first l)))
    (take_all c.loop-number.number c.args.world.now.sent past) c.loop-number.invariant
