use Rattle.std.proofs.Common.{Err}
use Rattle.at_pcap.specs.declared.reader.CaptureError.TheVariants as broken
use Rattle.at_capture.proofs.CaptureLemmas.{nothing_told, tells_capture}
use Rattle.at_capture.proofs.capture_printer.CapturePrinter.end_unread.Goals as goal

pub returns-clause-told : goal.returns-clause-told
returns-clause-told g c known =
    let page = g.W.Paper.page in
    let heard = g.E.Paper.page in
    let start = c.begin.new.self in
    tells_capture page heard known c.end.result c.args.self.now start start c.end.new.self (Err broken.NoMemory)
    c.begin.ensures.printer c.begin.ensures.diagnostics (nothing_told page heard known start c.begin.ensures.begun)
    c.end.ensures.done c.end.ensures.printed c.end.ensures.told
