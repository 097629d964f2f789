use Rattle.std.proofs.Common.{inl, inr, rules, subst, append-nil, []}
use Rattle.at_print.specs.Printers.{Prints}
use Rattle.at_print.specs.Refusals.{no_memory_line}
use Rattle.at_print.proofs.PrintLemmas.{Prints-trans}
use Rattle.at_show.proofs.WordLemmas.{shown}
use Rattle.at_show.proofs.word.show_word.Goals as goal

pub returns-in-Ok-clause-shown : goal.returns-in-Ok-clause-shown
returns-in-Ok-clause-shown g c =
    let text = c.show_text.ensures in (
      c.tell_dash.new.diagnostics,
      c.tell_dash.ensures,
      inl (shown g.W.Paper.page g.E.Paper.page c.args.word.now c.show_text.result c.args.printer.now
          c.show_text.new.printer c.tell_dash.new.diagnostics c.show_text.new.diagnostics _ c.in-Ok.ensures.exact
          text.done text.printed text.only text.told text.silent),
    )

pub returns-in-Err-clause-shown : goal.returns-in-Err-clause-shown
returns-in-Err-clause-shown g c =
    let fault = c.show_fault-status.ensures in
    let flushed = c.finish.ensures.printed in (
      c.tell_dash.new.diagnostics,
      c.tell_dash.ensures,
      inr (
        search rules,
        subst (Prints g.W.Paper.page c.args.printer.now c.finish.new.self) (append-nil no_memory_line)
            (Prints-trans g.W.Paper.page c.args.printer.now c.show_fault-status.new.printer c.finish.new.self
            no_memory_line [] fault.printed flushed),
        fault.told,
      ),
    )
