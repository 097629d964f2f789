-- A word says one kind of call of names.
use Rattle.std.proofs.Common.{ℕ, List, sym, subst}
use Rattle.std.specs.Prelude.{Option, codes}
use Rattle.std.specs.Str.{bytes_eq}
use Rattle.at_event.specs.declared.names.NameCall.{NameCall}
use Rattle.at_event.specs.declared.names.NameCall.TheVariants.{Claim, Find, Finish, Register, Unregister}
use Rattle.at_call_words.specs.Calls.Names.{FindSays, SaysNameCall, SocketSays}
use Rattle.at_call_words.specs.Words.{One, Two}
use Rattle.at_call_words.proofs.CallLemmas.Either.{Either}
use Rattle.at_words.specs.Numbers.{IsByte}
use Rattle.at_words.specs.Texts.{IsText}

abbrev pub FindSaid : List (List ℕ) → Type 0
FindSaid ws = (object kind : List ℕ) × (place : Option (List ℕ)) × FindSays ws object kind place

abbrev pub SocketSaid : List (List ℕ) → Type 0
SocketSaid ws = (object kind : List ℕ) × (socket : ℕ) × SocketSays ws object kind socket

abbrev pub FinishSaid : List (List ℕ) → Type 0
FinishSaid ws = (id : ℕ) × One IsByte ws id

abbrev pub UnregisterSaid : List (List ℕ) → Type 0
UnregisterSaid ws = (object kind : List ℕ) × Two IsText IsText ws object kind

-- what the words after this one say; or Other, if it is no word of names
abbrev pub NamesSaid : List ℕ → List (List ℕ) → Type 0 → Type 0
NamesSaid word ws Other =
    Either (bytes_eq word (codes "find")) (FindSaid ws) (
    Either (bytes_eq word (codes "claim")) (SocketSaid ws) (
    Either (bytes_eq word (codes "finish")) (FinishSaid ws) (
    Either (bytes_eq word (codes "register")) (SocketSaid ws) (
    Either (bytes_eq word (codes "unregister")) (UnregisterSaid ws) Other))))

module _ (Said : List ℕ → Type 0) (ws : List (List ℕ)) where
  -- so each word of names says a call
  abbrev pub SaidOfNames : Type 0
  SaidOfNames =
      (FindSaid ws → Said (codes "find")) × (SocketSaid ws → Said (codes "claim"))
      × (FinishSaid ws → Said (codes "finish")) × (SocketSaid ws → Said (codes "register"))
      × (UnregisterSaid ws → Said (codes "unregister"))

  pub name_kinds : SaidOfNames → (word : List ℕ) (c : NameCall) → SaysNameCall word ws c → Said word
  name_kinds (find, claim, finish, register, unregister) word (Find object kind place) (is, said) =
      subst Said (sym is) (find (object, kind, place, said))
  name_kinds (find, claim, finish, register, unregister) word (Claim object kind socket) (is, said) =
      subst Said (sym is) (claim (object, kind, socket, said))
  name_kinds (find, claim, finish, register, unregister) word (Finish id) (is, said) =
      subst Said (sym is) (finish (id, said))
  name_kinds (find, claim, finish, register, unregister) word (Register object kind socket) (is, said) =
      subst Said (sym is) (register (object, kind, socket, said))
  name_kinds (find, claim, finish, register, unregister) word (Unregister object kind) (is, said) =
      subst Said (sym is) (unregister (object, kind, said))
