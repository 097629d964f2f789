-- Which call of what a node keeps for its user words say.
use Rattle.std.specs.Prelude.{◌≡◌, ℕ, List, codes}
use Rattle.at_event.specs.declared.session.SessionCall.{SessionCall}
use Rattle.at_event.specs.declared.session.SessionCall.TheVariants.{Pick}
use Rattle.at_call_words.specs.Words.{One}
use Rattle.at_words.specs.Texts.{IsText}

-- the word of a call, and what the words after it say
abbrev pub SaysSessionCall : List ℕ → List (List ℕ) → SessionCall → Type 0
SaysSessionCall word ws (Pick zone) = (word ≡ codes "pick") × One IsText ws zone
