use Rattle.std.proofs.Common.{subst, sym}
use Rattle.at_print.specs.Printers.{HasFailed}
use Rattle.at_print.proofs.PrintLemmas.{Prints-trans}
use Rattle.at_play.proofs.WholePlays.{too_long_prints}
use Rattle.at_play.proofs.program.play_text.Goals as goal

pub returns-clause-ended : goal.returns-clause-ended
returns-clause-ended g c =
    let told = c.play_stream-played.ensures.told in
    record {
      result = c.play_stream-played.result;
      text = told.0;
      mid = c.play_stream-played.new.diagnostics;
      plays = told.1;
      done = c.end.ensures.done;
      printed = Prints-trans g.W.Paper.page c.args.printer.now c.play_stream-played.new.printer c.end.new.printer
          told.0 _ told.2 c.end.ensures.printed;
      unwritten = λ is.
          let failed = c.play_stream-played.ensures.unwritten is in
          subst HasFailed (sym (c.end.ensures.printed.stopped failed)) failed;
      late = c.end.ensures.said.0;
      stopped = c.end.ensures.said.1;
      last = c.end.ensures.said.2;
    }

pub returns-clause-too_long : goal.returns-clause-too_long
returns-clause-too_long g c =
    too_long_prints g.W.Paper.page (g.R.Read.remaining c.args.reader.now) _ c.end.result c.play_stream-played.result _
    c.args.printer.now c.play_stream-played.new.printer c.end.new.printer c.play_stream-played.ensures.too_long
    c.end.ensures.done c.end.ensures.printed
