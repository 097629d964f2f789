-- What a node keeps for its user: calls in the range of their types, and how words must be.
use Rattle.std.specs.Prelude.{ℕ, List, codes}
use Rattle.at_nbp.specs.Tuples.{IsString}
use Rattle.at_event.specs.declared.session.SessionCall.{SessionCall}
use Rattle.at_event.specs.declared.session.SessionCall.TheVariants.{Pick}
use Rattle.at_event.specs.declared.session.SessionRule.{SessionRule}
use Rattle.at_event.specs.declared.session.SessionRule.TheVariants as rule

-- the parts of a call are in the range of their types
abbrev pub IsSessionCall : SessionCall → Type 0
IsSessionCall (Pick zone) = IsString zone

-- the sentence that tells a person how the words of a call must be
abbrev pub session_sentence : SessionRule → List ℕ
session_sentence rule.Pick = codes "`pick` takes a zone of at most 32 bytes, as in \"call 5 pick Office\""
