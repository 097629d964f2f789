use Rattle.at_capture.proofs.CaptureLemmas.{tells_capture, told_of}
use Rattle.at_capture.proofs.capture_printer.CapturePrinter.print.Goals as goal

pub returns-clause-told : goal.returns-clause-told
returns-clause-told g c =
    let page = g.W.Paper.page in
    let heard = g.E.Paper.page in
    let known = g.R.Read.remaining c.args.reader.now in
    let start = c.begin.new.self in
    let mid = c.read_capture-read.new.sink in
    tells_capture page heard known c.end.result c.args.self.now start mid c.end.new.self c.read_capture-read.result
    c.begin.ensures.printer c.begin.ensures.diagnostics
    (told_of page heard known start mid c.read_capture-read.result c.begin.ensures.begun
    c.read_capture-read.ensures.whole c.read_capture-read.ensures.broken)
    c.end.ensures.done c.end.ensures.printed c.end.ensures.told
