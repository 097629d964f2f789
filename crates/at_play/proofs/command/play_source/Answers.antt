use Rattle.at_opened.specs.declared.source.Source.TheVariants as source
use Rattle.at_play.proofs.RunLemmas.{source_printed}
use Rattle.at_play.proofs.command.play_source.Goals as goal

pub returns-in-Stream-clause-ended : goal.returns-in-Stream-clause-ended
returns-in-Stream-clause-ended g c = rw c.in-Stream.is (
  c.tell_input.new.diagnostics,
  c.tell_input.ensures,
  (c.play_text.ensures.too_long, c.play_text.ensures.ended),
)

pub returns-in-Stream-clause-runs : goal.returns-in-Stream-clause-runs
returns-in-Stream-clause-runs g c =
    source_printed g.row.A.Denot g.W.Paper.page g.E.Paper.page c.play_text.result c.args.printer.now
    c.play_text.new.printer g.S.Read.remaining g.F.Read.remaining g.F.Opened.goes_back c.args.source
    c.args.diagnostics.now c.play_text.new.diagnostics (returns-in-Stream-clause-ended g c)

pub returns-in-Opened-clause-runs : goal.returns-in-Opened-clause-runs
returns-in-Opened-clause-runs g c =
    let runs = source_printed g.row.A.Denot g.W.Paper.page g.E.Paper.page c.play_opened.result c.args.printer.now
    c.play_opened.new.printer g.S.Read.remaining g.F.Read.remaining g.F.Opened.goes_back
    (source.Opened c.in-Opened.file) c.args.diagnostics.now c.play_opened.new.diagnostics
    c.play_opened.ensures.ended in
    rw c.in-Opened.is runs
