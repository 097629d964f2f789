use Rattle.std.proofs.Common.{subst}
use Rattle.at_capture.proofs.BufferLemmas.{unread}
use Rattle.at_capture.specs.Captures.{TellsCapture}
use Rattle.at_capture.proofs.capture_printer.CapturePrinter.print_by_blocks.Goals as goal

pub returns-in-Ok-clause-told : goal.returns-in-Ok-clause-told
returns-in-Ok-clause-told g c =
    subst (λ known. TellsCapture g.W.Paper.page g.E.Paper.page known c.print.result c.args.self.now c.print.new.self)
    (unread g.R.Read.remaining c.in-Ok.blocks c.args.reader c.in-Ok.ensures.inner c.in-Ok.ensures.empty
    c.in-Ok.ensures.capacity) c.print.ensures.told

pub returns-in-Err-clause-told : goal.returns-in-Err-clause-told
returns-in-Err-clause-told g c = c.end_unread.ensures.told (g.R.Read.remaining c.args.reader)
