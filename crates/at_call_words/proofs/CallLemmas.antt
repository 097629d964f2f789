-- A word says one kind of call, so words that say none of that kind say no call. A row a protocol.
use Rattle.std.proofs.Common.{◌≡◌, ℕ, List, Err, Result}
use Rattle.at_event.specs.declared.Call.{Call}
use Rattle.at_event.specs.declared.Call.TheVariants as call
use Rattle.at_faults.specs.declared.fault.LineFault.{LineFault}
use Rattle.at_faults.specs.declared.fault.LineFault.TheVariants.{NoMemory, Unlawful}
use Rattle.at_call_words.specs.Calls.{SaysPlain}
use Rattle.at_call_words.specs.Readings.{IsFoundInMemory}
use Rattle.at_call_words.proofs.CallLemmas.Names.{NamesSaid, name_kinds}
use Rattle.at_call_words.proofs.CallLemmas.Sessions.{SessionsSaid, session_kinds}
use Rattle.at_call_words.proofs.CallLemmas.Streams.{StreamsSaid, stream_kinds}
use Rattle.at_call_words.proofs.CallLemmas.Transactions.{TransactionsSaid, transaction_kinds}
use Rattle.at_call_words.proofs.CallLemmas.Zones.{ZonesSaid, zone_kinds}
use Rattle.at_call_words.proofs.WordLemmas.{told_on}
pub mod Either
pub mod Names
pub mod Sessions
pub mod Streams
pub mod Transactions
pub mod Zones

-- the words after this one say a call
abbrev pub SaidBy : List ℕ → List (List ℕ) → Type 0
SaidBy word ws =
    ZonesSaid word ws (
    TransactionsSaid word ws (
    SessionsSaid word ws (
    NamesSaid word ws (
    StreamsSaid word ws ⊥))))

pub kinds : {A : Type 0} (word : List ℕ) (ws : List (List ℕ)) (c : Call A) → SaysPlain word ws c → SaidBy word ws
kinds word ws (call.Zones it) said =
    zone_kinds (λ w. SaidBy w ws) ws (λ h. h, λ h. h, λ h. h, λ h. h) word it said
kinds word ws (call.Transactions it) said = transaction_kinds (λ w. SaidBy w ws) ws (λ h. h) word it said
kinds word ws (call.Session it) said = session_kinds (λ w. SaidBy w ws) ws (λ h. h) word it said
kinds word ws (call.Names it) said =
    name_kinds (λ w. SaidBy w ws) ws (λ h. h, λ h. h, λ h. h, λ h. h, λ h. h) word it said
kinds word ws (call.Streams it) said =
    stream_kinds (λ w. SaidBy w ws) ws (λ h. h, λ h. h, λ h. h, λ h. h, λ h. h, λ h. h, λ h. h) word it said

-- a fault of a reader is told on, unless a growth was refused, and the words say no call
pub call_told_on : {A S : Type 0} (P : S → Type 0) (q : Result S LineFault) (r : Result (Call A) LineFault)
    (fault : LineFault) (word : List ℕ) (ws : List (List ℕ)) → q ≡ Err fault → r ≡ Err fault → IsFoundInMemory q P
    → (((s : S) → ¬ P s) → ¬ SaidBy word ws) → IsFoundInMemory r (SaysPlain word ws)
call_told_on P q r fault word ws was is nothing so = told_on P (SaysPlain word ws) q r fault was is nothing
    (λ never c said. so never (kinds word ws c said))

-- a rule is broken, and the words say no call
pub unlawful_call : {A : Type 0} (r : Result (Call A) LineFault) (fault : LineFault) (word : List ℕ)
    (ws : List (List ℕ)) → r ≡ Err fault → ¬ SaidBy word ws → IsFoundInMemory r (SaysPlain word ws)
unlawful_call r (Unlawful rule) word ws is nothing = rw is (λ c said. nothing (kinds word ws c said))
unlawful_call r NoMemory word ws is nothing = rw is tt
