use Rattle.std.proofs.Common.{[], ◌++◌, append-nil, subst, sym}
use Rattle.at_pcap.specs.Captures.{written_file_header}
use Rattle.at_print.specs.Printers.{Prints}
use Rattle.at_print.proofs.PrintLemmas.{Prints-trans}
use Rattle.at_record.specs.Recordings.{records_text}
use Rattle.at_record.proofs.PlayedLemmas.{too_long_writes}
use Rattle.at_recording.specs.Recordings.{front, recording}
use Rattle.at_record.proofs.program.record_text.Goals as goal

pub returns-clause-recorded : goal.returns-clause-recorded
returns-clause-recorded g c =
    let page = g.W.Paper.page in
    let told = c.record_stream-recorded.ensures.told in
    let head = written_file_header front 65535 in
    let text = records_text told.0 in
    let written = Prints-trans page c.args.printer.now c.write_front.new.printer c.record_stream-recorded.new.printer
    head text c.write_front.ensures told.2 in
    let ended = Prints-trans page c.args.printer.now c.record_stream-recorded.new.printer c.end.new.printer
    (head ++ text) [] written c.end.ensures.printed in
    record {
      result = c.record_stream-recorded.result;
      sent = told.0;
      mid = c.record_stream-recorded.new.diagnostics;
      plays = told.1;
      printed = subst (Prints page c.args.printer.now c.end.new.printer) (append-nil (head ++ text)) ended;
      done = c.end.ensures.done;
      late = c.end.ensures.said.0;
      stopped = c.end.ensures.said.1;
      last = c.end.ensures.said.2;
    }

pub returns-clause-too_long : goal.returns-clause-too_long
returns-clause-too_long g c =
    let page = g.W.Paper.page in
    let head = written_file_header front 65535 in
    too_long_writes page (g.R.Read.remaining c.args.reader.now) _ c.end.result c.record_stream-recorded.result _
    c.args.printer.now c.write_front.new.printer c.record_stream-recorded.new.printer c.end.new.printer (recording [])
    c.record_stream-recorded.ensures.too_long c.end.ensures.done
    (subst (Prints page c.args.printer.now c.write_front.new.printer) (sym (append-nil head)) c.write_front.ensures)
    c.end.ensures.printed
