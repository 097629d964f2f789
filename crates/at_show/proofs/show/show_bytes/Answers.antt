use Rattle.std.proofs.Common.{append-nil, [], subst}
use Rattle.at_print.specs.Printers.{Prints}
use Rattle.at_show.specs.Shown.{IsSound}
use Rattle.at_show.specs.Texts.{BytesText}
use Rattle.at_print.proofs.PrintLemmas.{Prints-trans}
use Rattle.at_show.proofs.ShownLemmas.{told_in}
use Rattle.at_show.proofs.show.show_bytes.Goals as goal

pub returns-clause-done : goal.returns-clause-done
returns-clause-done g c = (
  λ done. let it = c.finish.ensures.done.0 done in (c.show_first-status.ensures.done.0 it.0, it.1),
  λ sound. c.finish.ensures.done.1 (c.show_first-status.ensures.done.1 sound.0, sound.1),
)

pub returns-clause-printed : goal.returns-clause-printed
returns-clause-printed g c =
    let shown = c.show_first-status.ensures.printed in (
      shown.0,
      shown.1,
      subst (Prints g.W.Paper.page c.args.printer.now c.finish.new.self) (append-nil shown.0)
          (Prints-trans g.W.Paper.page c.args.printer.now c.show_first-status.new.printer c.finish.new.self
          shown.0 [] shown.2 c.finish.ensures.printed),
    )

pub returns-clause-told : goal.returns-clause-told
returns-clause-told g c =
    told_in g.E.Paper.page (BytesText c.args.bytes.now) c.show_first-status.result c.args.diagnostics.now
    c.show_first-status.new.diagnostics
    (IsSound c.args.bytes.now) c.show_first-status.ensures.done.0 c.show_first-status.ensures.told

pub returns-clause-silent : goal.returns-clause-silent
returns-clause-silent g c sound =
    let shown = c.show_first-status.ensures.done.1 sound in rw shown at c.show_first-status.ensures.told
