use Rattle.std.proofs.Common.{ℕ, List, subst}
use Rattle.std.specs.Prelude.{◌⊎◌}
use Rattle.at_diagnostics.specs.declared.diagnostics.Diagnostics.{Diagnostics}
use Rattle.at_show.specs.Words.{IsWordShown, IsWordUnshown, TellsDash}
use Rattle.atnode.proofs.commands.show.Goals as goal

-- the bytes that are shown are those of the word
pub returns-clause-ended : goal.returns-clause-ended
returns-clause-ended g c = (
  c.show_word.result,
  c.code.ensures,
  subst
      (λ (word : List ℕ). (mid : Diagnostics g.row.E.Denot)
      × TellsDash g.E.Paper.page word c.args.diagnostics.now mid
      × (IsWordShown g.W.Paper.page g.E.Paper.page word c.show_word.result c.args.printer.now
      c.show_word.new.printer mid c.show_word.new.diagnostics
      ⊎ IsWordUnshown g.W.Paper.page g.E.Paper.page c.show_word.result c.args.printer.now c.show_word.new.printer mid
      c.show_word.new.diagnostics))
      c.as_bytes.ensures.value c.show_word.ensures.shown,
)
