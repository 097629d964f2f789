-- Words that name no requester, and words that name one of this network.
use Rattle.std.proofs.Common.{◌≢◌, ℕ, List, [], ◌∷◌, Ok, Err, Result, refl}
use Rattle.std.specs.Prelude.{codes, IfOk}
use Rattle.at_event.specs.declared.Call.{Call}
use Rattle.at_event.specs.declared.Call.TheVariants as call
use Rattle.at_event.specs.declared.transactions.TransactionCall.TheVariants as transaction
use Rattle.at_event.specs.declared.Timer.{Timer}
use Rattle.at_event.specs.declared.Timer.TheVariants as timer
use Rattle.at_event.specs.declared.transactions.TransactionTimer.TheVariants as atp_timer
use Rattle.at_atp_responder.specs.declared.reception.Key.{Key}
use Rattle.at_faults.specs.declared.fault.LineFault.{LineFault}
use Rattle.at_faults.specs.declared.fault.LineFault.TheVariants.{NoMemory, Unlawful}
use Rattle.at_faults.specs.declared.rule.Rule.{Rule}
use Rattle.at_call_words.specs.Calls.{AreCall, AreCallBy, IsHere, SaysCall, SaysPlain}
use Rattle.at_call_words.specs.Readings.{IsFoundInMemory, IsFoundLawful}
use Rattle.at_call_words.specs.Requesters.{NameHere, Naming}
use Rattle.at_call_words.specs.Timers.{AreTimer, AreTimerBy, IsTimerHere, SaysPlainTimer, SaysTimer}

-- ---- another word than `answer` or `release`

plain_call : {A : Type 0} (Names : Naming) (word : List ℕ) (ws : List (List ℕ)) (c : Call A) → SaysPlain word ws c
    → SaysCall Names word ws c
plain_call Names word ws (call.Transactions (transaction.Answer key packets)) said = absurd said
plain_call Names word ws other said = said

called_plainly : {A : Type 0} (Names : Naming) (word : List ℕ) (ws : List (List ℕ)) (c : Call A)
    → word ≢ codes "answer" → SaysCall Names word ws c → SaysPlain word ws c
called_plainly Names word ws (call.Transactions (transaction.Answer key packets)) unlike said = unlike said.0
called_plainly Names word ws other unlike said = said

pub plain_said : {A : Type 0} (Names : Naming) (word : List ℕ) (ws : List (List ℕ)) (r : Result (Call A) LineFault)
    → word ≢ codes "answer" → IsFoundInMemory r (SaysPlain word ws) → IsFoundInMemory r (SaysCall Names word ws)
plain_said Names word ws (Ok c) unlike said = plain_call Names word ws c said
plain_said Names word ws (Err (Unlawful rule)) unlike never =
    λ c said. never c (called_plainly Names word ws c unlike said)
plain_said Names word ws (Err NoMemory) unlike said = tt

plain_timer : (Names : Naming) (word : List ℕ) (ws : List (List ℕ)) (t : Timer) → SaysPlainTimer word ws t
    → SaysTimer Names word ws t
plain_timer Names word ws (timer.Transactions (atp_timer.Release own key)) said = absurd said
plain_timer Names word ws other said = said

timed_plainly : (Names : Naming) (word : List ℕ) (ws : List (List ℕ)) (t : Timer) → word ≢ codes "release"
    → SaysTimer Names word ws t → SaysPlainTimer word ws t
timed_plainly Names word ws (timer.Transactions (atp_timer.Release own key)) unlike said = unlike said.0
timed_plainly Names word ws other unlike said = said

pub plain_timed : (Names : Naming) (word : List ℕ) (ws : List (List ℕ)) (r : Result Timer Rule) → word ≢ codes "release"
    → IsFoundLawful r (SaysPlainTimer word ws) → IsFoundLawful r (SaysTimer Names word ws)
plain_timed Names word ws (Ok t) unlike said = plain_timer Names word ws t said
plain_timed Names word ws (Err rule) unlike never = λ t said. never t (timed_plainly Names word ws t unlike said)

-- ---- a requester of this network

abbrev at_net : ℕ → Key → Key
at_net net key = record {
  from = record { net = net; node = (key.from).node; socket = (key.from).socket };
  tid = key.tid;
}

abbrev moved : {A : Type 0} → ℕ → Call A → Call A
moved net (call.Transactions (transaction.Answer key packets)) =
    call.Transactions (transaction.Answer (at_net net key) packets)
moved net other = other

moved_said : {A : Type 0} (net : ℕ) (word : List ℕ) (ws : List (List ℕ)) (c : Call A) → AreCall (word ∷ ws) c
    → SaysCall (NameHere net) word ws (moved net c)
moved_said net word ws (call.Transactions (transaction.Answer key packets))
    (is, (n, s, t, ps, parts, named, tid, all)) =
    (is, (n, s, t, ps, parts, (refl, named), tid, all))
moved_said net word ws other said = said

here_said : {A : Type 0} (net : ℕ) (word : List ℕ) (ws : List (List ℕ)) (c : Call A)
    → SaysCall (NameHere net) word ws c → AreCall (word ∷ ws) c × IsHere net c
here_said net word ws (call.Transactions (transaction.Answer key packets))
    (is, (n, s, t, ps, parts, named, tid, all)) =
    ((is, (n, s, t, ps, parts, named.1, tid, all)), named.0)
here_said net word ws other said = (said, tt)

here_call : {A : Type 0} (net : ℕ) (ws : List (List ℕ)) (c : Call A) → AreCallBy (NameHere net) ws c
    → AreCall ws c × IsHere net c
here_call net [] c said = absurd said
here_call net (word ∷ ws) c said = here_said net word ws c said

moved_call : {A : Type 0} (net : ℕ) (ws : List (List ℕ)) (c : Call A) → AreCall ws c
    → AreCallBy (NameHere net) ws (moved net c)
moved_call net [] c said = absurd said
moved_call net (word ∷ ws) c said = moved_said net word ws c said

pub call_read : {A : Type 0} (net : ℕ) (ws : List (List ℕ)) (r : Result (Call A) LineFault)
    → IsFoundInMemory r (AreCallBy (NameHere net) ws) → IsFoundInMemory r (AreCall ws)
call_read net ws (Ok c) said = (here_call net ws c said).0
call_read net ws (Err (Unlawful rule)) never = λ c said. never (moved net c) (moved_call net ws c said)
call_read net ws (Err NoMemory) said = tt

pub call_here : {A : Type 0} (net : ℕ) (ws : List (List ℕ)) (r : Result (Call A) LineFault)
    → IsFoundInMemory r (AreCallBy (NameHere net) ws) → IfOk r (IsHere net)
call_here net ws (Ok c) said = (here_call net ws c said).1
call_here net ws (Err fault) said = tt

abbrev timer_moved : ℕ → Timer → Timer
timer_moved net (timer.Transactions (atp_timer.Release own key)) =
    timer.Transactions (atp_timer.Release own (at_net net key))
timer_moved net other = other

moved_timer : (net : ℕ) (ws : List (List ℕ)) (t : Timer) → AreTimer ws t
    → AreTimerBy (NameHere net) ws (timer_moved net t)
moved_timer net [] t said = absurd said
moved_timer net (word ∷ ws) (timer.Transactions (atp_timer.Release own key))
    (is, (o, n, s, w, parts, owned, named, tid)) =
    (is, (o, n, s, w, parts, owned, (refl, named), tid))
moved_timer net (word ∷ ws) other said = said

here_timer : (net : ℕ) (ws : List (List ℕ)) (t : Timer) → AreTimerBy (NameHere net) ws t
    → AreTimer ws t × IsTimerHere net t
here_timer net [] t said = absurd said
here_timer net (word ∷ ws) (timer.Transactions (atp_timer.Release own key))
    (is, (o, n, s, w, parts, owned, named, tid)) =
    ((is, (o, n, s, w, parts, owned, named.1, tid)), named.0)
here_timer net (word ∷ ws) other said = (said, tt)

pub timer_read : (net : ℕ) (ws : List (List ℕ)) (r : Result Timer Rule)
    → IsFoundLawful r (AreTimerBy (NameHere net) ws) → IsFoundLawful r (AreTimer ws)
timer_read net ws (Ok t) said = (here_timer net ws t said).0
timer_read net ws (Err rule) never = λ t said. never (timer_moved net t) (moved_timer net ws t said)

pub timer_here : (net : ℕ) (ws : List (List ℕ)) (r : Result Timer Rule)
    → IsFoundLawful r (AreTimerBy (NameHere net) ws) → IfOk r (IsTimerHere net)
timer_here net ws (Ok t) said = (here_timer net ws t said).1
timer_here net ws (Err rule) said = tt
