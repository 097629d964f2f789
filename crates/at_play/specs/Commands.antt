-- What the program plays: what its command line names.
use Rattle.std.specs.Prelude.{ℕ, List, Option, Result}
use Rattle.std.specs.declared.io.Error.{Error}
use Rattle.at_opened.specs.declared.source.Source.{Source}
use Rattle.at_opened.specs.declared.source.Source.TheVariants as source
use Rattle.at_diagnostics.specs.Diagnostics.{TellsLine}
use Rattle.at_diagnostics.specs.Lines.{input_told}
use Rattle.at_diagnostics.specs.Unopened.{IsUnopened}
use Rattle.at_diagnostics.specs.declared.diagnostics.Diagnostics.{Diagnostics}
use Rattle.at_play.specs.Ends.{Account, Playing, PlaysOpened, PlaysStream}

-- A stream is told of first, and played as the text that it holds. What was opened is played as what it is. Of a file
-- that can't be opened nothing is. T is what is said of a schedule that was read. L says what a stream holds and R what
-- a file does, and B what may come of sending it back.
abbrev pub PlaysSource : (A : Type 0) {S F W E : Type 0} → Account A E → (S → Option (List ℕ)) → (F → Option (List ℕ))
    → (F → Result (Unit {0}) Error → F → Type 0) → Source S F → Playing W E
PlaysSource A {E = E} T L R B (source.Stream stream) page heard status old new before after =
    (noted : Diagnostics E) × TellsLine heard input_told before noted
    × PlaysStream A T (L stream) page heard status old new noted after
PlaysSource A T L R B (source.Opened file) page heard status old new before after =
    PlaysOpened A T R B file page heard status old new before after
PlaysSource A T L R B (source.Unopened why) page heard status old new before after =
    IsUnopened page heard status old new before after
