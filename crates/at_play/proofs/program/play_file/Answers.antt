use Rattle.std.proofs.Common.{subst, sym}
use Rattle.at_print.specs.Printers.{HasFailed}
use Rattle.at_print.proofs.PrintLemmas.{Prints-trans}
use Rattle.at_play.proofs.WholePlays.{file_too_long}
use Rattle.at_play.proofs.program.play_file.Goals as goal

pub returns-clause-ended : goal.returns-clause-ended
returns-clause-ended g c =
    let told = c.play_again-played.ensures.told in
    record {
      result = c.play_again-played.result;
      text = told.0;
      mid = c.play_again-played.new.diagnostics;
      plays = told.1;
      done = c.end.ensures.done;
      printed = Prints-trans g.W.Paper.page c.args.printer.now c.play_again-played.new.printer c.end.new.printer
          told.0 _ told.2 c.end.ensures.printed;
      unwritten = λ is.
          let failed = c.play_again-played.ensures.unwritten is in
          subst HasFailed (sym (c.end.ensures.printed.stopped failed)) failed;
      late = c.end.ensures.said.0;
      stopped = c.end.ensures.said.1;
      last = c.end.ensures.said.2;
    }

pub returns-clause-too_long : goal.returns-clause-too_long
returns-clause-too_long g c =
    file_too_long g.W.Paper.page (g.F.Read.remaining c.args.file.now) _ c.end.result c.play_again-played.result _
    c.args.printer.now c.play_again-played.new.printer c.end.new.printer c.play_again-played.ensures.too_long
    c.end.ensures.done c.end.ensures.printed
