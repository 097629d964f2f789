use Rattle.std.proofs.Common.{refl}
use Rattle.at_capture.proofs.capture_printer.CapturePrinter.print_source.Goals as goal

pub returns-in-Stream-clause-told : goal.returns-in-Stream-clause-told
returns-in-Stream-clause-told g c = rw c.in-Stream.is (record {
  noted = record c.args.self.now { diagnostics = c.tell_note.new.self };
  printer = refl;
  told = c.tell_note.ensures;
  shown = c.print_by_blocks.ensures.told;
})
