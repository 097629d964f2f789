-- Which call words say, a row a protocol.
use Rattle.std.specs.Prelude.{◌≡◌, ℕ, List, [], ◌∷◌, codes}
use Rattle.at_event.specs.declared.Call.{Call}
use Rattle.at_event.specs.declared.Call.TheVariants as call
use Rattle.at_event.specs.declared.transactions.TransactionCall.TheVariants as transaction
use Rattle.at_call_words.specs.Calls.Names.{SaysNameCall}
use Rattle.at_call_words.specs.Calls.Sessions.{SaysSessionCall}
use Rattle.at_call_words.specs.Calls.Streams.{SaysStreamCall}
use Rattle.at_call_words.specs.Calls.Transactions.{AnswerSays, SaysTransactionCall}
use Rattle.at_call_words.specs.Calls.Zones.{SaysZoneCall}
use Rattle.at_call_words.specs.Requesters.{NameAny, NameNode, Naming}
pub mod Names
pub mod Sessions
pub mod Streams
pub mod Transactions
pub mod Zones

-- the word of a call that names no requester, and what the words after it say
abbrev pub SaysPlain : {A : Type 0} → List ℕ → List (List ℕ) → Call A → Type 0
SaysPlain word ws (call.Zones it) = SaysZoneCall word ws it
SaysPlain word ws (call.Transactions it) = SaysTransactionCall word ws it
SaysPlain word ws (call.Session it) = SaysSessionCall word ws it
SaysPlain word ws (call.Names it) = SaysNameCall word ws it
SaysPlain word ws (call.Streams it) = SaysStreamCall word ws it

-- the same of each call, where requesters are named so
abbrev pub SaysCall : {A : Type 0} → Naming → List ℕ → List (List ℕ) → Call A → Type 0
SaysCall Names word ws (call.Transactions (transaction.Answer key packets)) =
    (word ≡ codes "answer") × AnswerSays Names ws key packets
SaysCall Names word ws other = SaysPlain word ws other

abbrev pub AreCallBy : {A : Type 0} → Naming → List (List ℕ) → Call A → Type 0
AreCallBy Names [] call = ⊥
AreCallBy Names (word ∷ ws) call = SaysCall Names word ws call

-- the words say this call, and the network of who asked is not said
abbrev pub AreCall : {A : Type 0} → List (List ℕ) → Call A → Type 0
AreCall ws call = AreCallBy NameNode ws call

-- the words say this call, whose requester can be on any network; it is on this one if none is named
abbrev pub AreAnyCall : {A : Type 0} → ℕ → List (List ℕ) → Call A → Type 0
AreAnyCall net ws call = AreCallBy (NameAny net) ws call

-- who asked for an answer is on this network
abbrev pub IsHere : {A : Type 0} → ℕ → Call A → Type 0
IsHere net (call.Transactions (transaction.Answer key packets)) = (key.from).net ≡ net
IsHere net other = Unit {0}
