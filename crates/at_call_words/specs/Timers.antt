-- Which timer words say.
use Rattle.std.specs.Prelude.{◌≡◌, ◌⊎◌, ℕ, List, [], ◌∷◌, codes}
use Rattle.at_atp_responder.specs.declared.reception.Key.{Key}
use Rattle.at_event.specs.declared.Timer.{Timer}
use Rattle.at_event.specs.declared.Timer.TheVariants as timer
use Rattle.at_event.specs.declared.transactions.TransactionTimer.TheVariants as atp_timer
use Rattle.at_event.specs.declared.names.NameTimer.TheVariants as nbp_timer
use Rattle.at_event.specs.declared.streams.StreamTimer.TheVariants as adsp_timer
use Rattle.at_call_words.specs.Requesters.{NameAny, NameNode, Naming}
use Rattle.at_call_words.specs.Words.{One}
use Rattle.at_words.specs.Numbers.{IsByte, IsNumber, IsTwoBytes}

-- a socket that answers: 6, of zone lists, or 129, of the service
abbrev pub IsOwn : List ℕ → ℕ → Type 0
IsOwn word own = IsNumber word own × ((own ≡ 6) ⊎ (own ≡ 129))

-- what a release says: the socket here, and node, socket and transaction of who asked
abbrev pub ReleaseSays : Naming → List (List ℕ) → ℕ → Key → Type 0
ReleaseSays Names ws own key =
    (o n s t : List ℕ) × (ws ≡ o ∷ n ∷ s ∷ t ∷ []) × IsOwn o own × Names n s key.from × IsTwoBytes t key.tid

-- the word of a timer that names no requester, and what the words after it say
abbrev pub SaysPlainTimer : List ℕ → List (List ℕ) → Timer → Type 0
SaysPlainTimer word ws (timer.Transactions (atp_timer.Retry tid)) = (word ≡ codes "retry") × One IsTwoBytes ws tid
SaysPlainTimer word ws (timer.Transactions (atp_timer.Release own key)) = ⊥
SaysPlainTimer word ws (timer.Names (nbp_timer.Lookup id)) = (word ≡ codes "lookup") × One IsByte ws id
SaysPlainTimer word ws (timer.Streams (adsp_timer.Resend id)) = (word ≡ codes "resend") × One IsTwoBytes ws id
SaysPlainTimer word ws (timer.Streams (adsp_timer.Probe id)) = (word ≡ codes "probe") × One IsTwoBytes ws id

-- the same of each timer, where requesters are named so
abbrev pub SaysTimer : Naming → List ℕ → List (List ℕ) → Timer → Type 0
SaysTimer Names word ws (timer.Transactions (atp_timer.Release own key)) =
    (word ≡ codes "release") × ReleaseSays Names ws own key
SaysTimer Names word ws other = SaysPlainTimer word ws other

abbrev pub AreTimerBy : Naming → List (List ℕ) → Timer → Type 0
AreTimerBy Names [] timer = ⊥
AreTimerBy Names (word ∷ ws) timer = SaysTimer Names word ws timer

-- the words say this timer, and the network of who asked is not said
abbrev pub AreTimer : List (List ℕ) → Timer → Type 0
AreTimer ws timer = AreTimerBy NameNode ws timer

-- the words say this timer, whose requester can be on any network; it is on this one if none is named
abbrev pub AreAnyTimer : ℕ → List (List ℕ) → Timer → Type 0
AreAnyTimer net ws timer = AreTimerBy (NameAny net) ws timer

-- whose record is to go is on this network
abbrev pub IsTimerHere : ℕ → Timer → Type 0
IsTimerHere net (timer.Transactions (atp_timer.Release own key)) = (key.from).net ≡ net
IsTimerHere net other = Unit {0}
