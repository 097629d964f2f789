-- What a word of the command line names.
use Rattle.std.specs.Prelude.{◌≡◌, ◌≢◌, ℕ, List, codes}
use Rattle.at_opened.specs.declared.source.Source.{Source}
use Rattle.at_opened.specs.declared.source.Source.TheVariants as source

-- `-` names the standard input, and any other word a file, which was opened or could not be
abbrev pub Names : {S F : Type 0} → List ℕ → Source S F → Type 0
Names word (source.Stream stream) = word ≡ codes "-"
Names word other = word ≢ codes "-"

-- the name by which a person is told of it
pub record IsToldAs (word name : List ℕ) : Type 0 where
  pub input : word ≡ codes "-" → name ≡ codes "standard input"
  pub file : word ≢ codes "-" → name ≡ word
