use Rattle.at_print.proofs.PrintLemmas.{Prints-trans}
use Rattle.at_play.proofs.playing.play_event.Goals as goal

pub returns-in-Ok : goal.returns-in-Ok
returns-in-Ok g c =
    let played = rw c.in-Ok.is at c.step.ensures.played in
    let safe = rw c.in-Ok.is at c.step.ensures.safe in
    let line = rw c.played-at.ensures at c.write_event.ensures in
    let sent = rw c.sent_count-first.ensures at c.write_sent.ensures in
    record {
      told = record {
        report = c.in-Ok.report;
        playable = played.0;
        plays = played.1;
        safe = safe;
        printed = Prints-trans g.W.Paper.page c.args.printer.now c.write_event.new.printer c.write_sent.new.printer
            _ _ line sent;
        told = rw c.played-at.ensures at c.tell_report.ensures;
      };
      stopped = tt;
    }
