use Rattle.at_capture.specs.Datagrams.{short_line}
use Rattle.at_ddp.specs.Datagram.{content}
use Rattle.at_print.proofs.PrintLemmas.{Prints-trans}
use Rattle.at_capture.proofs.datagram_lines.show_datagram.Goals as goal

pub returns-clause-printed : goal.returns-clause-printed
returns-clause-printed g c =
    let shown = c.show_data.ensures.printed in (
      shown.0,
      shown.1,
      Prints-trans g.W.Paper.page c.args.printer.now c.write_short_header.new.printer c.show_data.new.printer
          (short_line (content c.args.datagram.now) c.args.rest) shown.0
          c.write_short_header.ensures shown.2,
    )
