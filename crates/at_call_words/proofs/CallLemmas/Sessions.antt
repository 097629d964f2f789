-- A word says one kind of call of what a node keeps for its user.
use Rattle.std.proofs.Common.{ℕ, List, sym, subst}
use Rattle.std.specs.Prelude.{codes}
use Rattle.std.specs.Str.{bytes_eq}
use Rattle.at_event.specs.declared.session.SessionCall.{SessionCall}
use Rattle.at_event.specs.declared.session.SessionCall.TheVariants.{Pick}
use Rattle.at_call_words.specs.Calls.Sessions.{SaysSessionCall}
use Rattle.at_call_words.specs.Words.{One}
use Rattle.at_call_words.proofs.CallLemmas.Either.{Either}
use Rattle.at_words.specs.Texts.{IsText}

abbrev pub PickSaid : List (List ℕ) → Type 0
PickSaid ws = (zone : List ℕ) × One IsText ws zone

-- what the words after this one say; or Other, if it is no word of the session
abbrev pub SessionsSaid : List ℕ → List (List ℕ) → Type 0 → Type 0
SessionsSaid word ws Other = Either (bytes_eq word (codes "pick")) (PickSaid ws) Other

pub session_kinds : (Said : List ℕ → Type 0) (ws : List (List ℕ)) → (PickSaid ws → Said (codes "pick"))
    → (word : List ℕ) (c : SessionCall) → SaysSessionCall word ws c → Said word
session_kinds Said ws pick word (Pick zone) (is, said) = subst Said (sym is) (pick (zone, said))
