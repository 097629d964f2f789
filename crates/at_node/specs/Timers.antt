-- Which timers of a node would do something now (Inside AppleTalk, ATP, "Transactions", the retry and the release
-- timer; NBP, "Name lookup"; ADSP, "Maintaining the connection").
use Rattle.std.specs.Prelude.{◌≡◌, ◌≢◌, ◌⊎◌, ◌+◌, ◌≤◌, ℕ, Bool, true, false, List, ◌++◌, length, map, filter_map}
use Rattle.std.specs.Prelude.{option_map, [], Result, IsOk, OnErr, OnOk, Vec, vec_capacity, vec_len}
use Rattle.at_atp_requester.specs.Requests.{Transaction}
use Rattle.at_atp_responder.specs.Records.{Record, expiring_key}
use Rattle.at_atp_responder.specs.declared.reception.Key.{Key}
use Rattle.at_nbp.specs.Lookups.{Search}
use Rattle.at_adsp_end.specs.Ends.{EndState}
use Rattle.at_adsp_end.specs.declared.tick.Tick.{Tick}
use Rattle.at_adsp_end.specs.declared.tick.Tick.TheVariants as tick
use Rattle.at_adsp_ends.specs.Calls.{heeding}
use Rattle.at_event.specs.declared.Timer.{Timer}
use Rattle.at_event.specs.declared.Timer.TheVariants as timer
use Rattle.at_event.specs.declared.transactions.TransactionTimer.TheVariants as atp_timer
use Rattle.at_event.specs.declared.names.NameTimer.TheVariants as nbp_timer
use Rattle.at_event.specs.declared.streams.StreamTimer.TheVariants as adsp_timer
use Rattle.at_event.specs.declared.Report.{Report}
use Rattle.at_event.specs.declared.Report.TheVariants as report
use Rattle.at_event.specs.Outcomes.{Outcome}
use Rattle.at_node.specs.Nodes.{NodeState}

-- the timers of a transaction, of a record at a socket, and of a lookup
abbrev pub retry_of : ℕ → Timer
retry_of tid = timer.Transactions (atp_timer.Retry tid)

abbrev pub release_of : ℕ → Key → Timer
release_of own key = timer.Transactions (atp_timer.Release own key)

abbrev pub lookup_of : ℕ → Timer
lookup_of id = timer.Names (nbp_timer.Lookup id)

-- the retry of each open transaction
abbrev pub retries : List Transaction → List Timer
retries ts = map (λ t. retry_of t.tid) ts

-- the release of each record of a socket that was answered or released
abbrev pub releases : ℕ → List Record → List Timer
releases own rs = filter_map (λ r. option_map (release_of own) (expiring_key r)) rs

-- the timer of each open lookup
abbrev pub lookups : List Search → List Timer
lookups searches = map (λ s. lookup_of s.id) searches

abbrev pub timer_of : Tick → ℕ → Timer
timer_of tick.Retransmit id = timer.Streams (adsp_timer.Resend id)
timer_of tick.Probe id = timer.Streams (adsp_timer.Probe id)

-- the timer for a tick of each end at which the tick does something
abbrev pub ticks : Tick → List EndState → List Timer
ticks tick ends = filter_map (λ e. option_map (timer_of tick) (heeding tick e)) ends

-- the timers of a node that would do something now, in the order of its parts
abbrev pub timers_of : NodeState → List Timer
timers_of n =
    retries n.atp.transactions.requester.standing ++ releases 6 n.atp.zones.zone_responder ++ releases 129
    n.atp.transactions.service_responder
    ++ lookups n.names.lookups.searches ++ ticks tick.Retransmit n.streams.ends ++ ticks tick.Probe n.streams.ends

-- ---- what a timer does

-- the event is refused, or memory is out
abbrev pub is_refused : {A : Type 0} → Report A → Bool
is_refused (report.Refused number) = true
is_refused report.NoMemory = true
is_refused other = false

-- an event is not refused, and changes the state or sends something
pub record Acts {A S : Type 0} (old : S) (o : Outcome A S) : Type 0 where
  pub not_refused : is_refused o.report ≡ false
  pub does : (o.state ≢ old) ⊎ (o.out ≢ [])

-- ---- the list that they are added to

-- These timers were added to a list. If there was no memory, some were, and the list had too little room for all.
pub record Adds {Z E : Type 0} (more : List Timer) (r : Result (Unit {0}) E) (old new : Vec Timer Z) : Type 0 where
  pub all : OnOk r ((new.items ≡ old.items ++ more) × (vec_len new ≡ vec_len old + length more))
  pub some : OnErr r ((front : List Timer) × (new.items ≡ old.items ++ front))
  pub grows : vec_capacity old ≤ vec_capacity new
  pub memory : vec_len old + length more ≤ vec_capacity old → IsOk r
