use Rattle.std.proofs.Common.{subst}
use Rattle.at_drive_text.specs.Driven.{drive_end}
use Rattle.at_drive_text.specs.Told.{TellsEnd}
use Rattle.at_print.proofs.PrintLemmas.{Prints-trans}
use Rattle.at_drive_text.proofs.TellsLemmas.{stays_failed}
use Rattle.at_drive_text.proofs.drive.drive_lines.Goals as goal

pub returns-clause-driven : goal.returns-clause-driven
returns-clause-driven g c =
    let went = c.drive_opened-driven.ensures.goes in
    let driven = c.drive_opened-driven.result in
    let between = c.drive_opened-driven.new.printer in
    let ended = c.end.ensures.told in
    record {
      result = driven;
      steps = went.steps;
      text = went.text;
      progress = went.progress;
      tells = went.tells;
      late = ended.0;
      ended = subst (λ x. TellsEnd g.E.Paper.page driven x ended.0) went.told ended.1;
      last = ended.2;
      stand = went.stand;
      here = went.here;
      done = c.end.ensures.done;
      printed = Prints-trans g.W.Paper.page c.args.printer.now between c.end.new.printer went.text (drive_end driven)
          went.printed c.end.ensures.printed;
      unwritten = λ is. stays_failed g.W.Paper.page between c.end.new.printer (drive_end driven) c.end.ensures.printed
          (c.drive_opened-driven.ensures.unwritten is);
    }
