use Rattle.std.proofs.Common.{◌≡◌, ◌++◌, List, ℕ, length}
use Rattle.std.specs.List.{flat_map}
use Rattle.at_print.specs.Printers.{Prints}
use Rattle.at_print.specs.TextWords.{glyph}
use Rattle.at_print.proofs.text_words.write_glyphs.Given as goal

abbrev pub decreases-loop-rest : goal.decreases-loop-rest
decreases-loop-rest g l = length l.rest

abbrev pub invariant-loop-rest : goal.invariant-loop-rest
invariant-loop-rest g l = (written : List ℕ) × (l.fn.text ≡ written ++ l.rest)
    × Prints g.W.Paper.page l.fn.printer l.printer (flat_map glyph written)
