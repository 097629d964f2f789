use Rattle.std.proofs.Common.{subst}
use Rattle.std.specs.Prelude.{codes}
use Rattle.at_print.specs.Lines.{hex_text}
use Rattle.at_print.specs.Printers.{Prints}
use Rattle.at_print.specs.Requesters.{asked_by}
use Rattle.at_print.proofs.PrintLemmas.{Prints-trans, flat-asked}
use Rattle.at_print.proofs.print.transactions.write_asked.Goals as goal

pub returns : goal.returns
returns g c =
    let page = g.W.Paper.page in
    let last = c.write_all-3.new.self in
    let first = rw (c.text.ensures, c.put_asked.ensures) at c.write_all.ensures in
    let bytes = Prints-trans page c.write_all-2.new.self c.write_hex-2.new.printer last _ _ c.write_hex-2.ensures
    c.write_all-3.ensures in
    let space = Prints-trans page c.write_hex.new.printer c.write_all-2.new.self last _ _ c.write_all-2.ensures bytes in
    let user = Prints-trans page c.write_all.new.self c.write_hex.new.printer last _ _ c.write_hex.ensures space in
    subst (Prints page c.args.printer.now last)
    (flat-asked c.args.line.now (asked_by c.args.net c.args.key) (hex_text c.args.user) (codes " ")
    (hex_text c.args.bytes.now)
    (codes "\n")) (Prints-trans page c.args.printer.now c.write_all.new.self last _ _ first user)
