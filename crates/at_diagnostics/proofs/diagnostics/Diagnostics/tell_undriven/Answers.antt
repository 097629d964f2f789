use Rattle.at_diagnostics.specs.Diagnostics.{printer_of}
use Rattle.at_print.proofs.PrintLemmas.{Prints-trans}
use Rattle.at_diagnostics.proofs.diagnostics.Diagnostics.tell_undriven.Goals as goal

pub returns : goal.returns
returns g c = record {
  file = c.name_place.ensures.file;
  told = c.name_place.ensures.told;
  printed = Prints-trans g.W.Paper.page (printer_of c.args.self.now) (printer_of c.name_place.new.self)
      c.write_all.new.self _ _ c.name_place.ensures.printed c.write_all.ensures;
}
