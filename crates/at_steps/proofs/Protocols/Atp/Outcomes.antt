-- What comes of calls and timers at the sockets for transactions: all that is sent is of ATP, and the report is of ATP
-- and ZIP, or nobody's.
use Rattle.std.proofs.Common.{ℕ, Bool, true, false, cond, List, Option, Some, None, refl}
use Rattle.std.specs.Prelude.{find, length, nat_lt}
use Rattle.at_ddp.specs.declared.address.Address.{Address}
use Rattle.at_ddp.specs.Protocols.{atp_kind}
use Rattle.at_atp_frame.specs.Fault as atp
use Rattle.at_atp_frame.specs.Frames.{spelled_all}
use Rattle.at_atp_frame.specs.Packets.{Packet}
use Rattle.at_atp_frame.specs.declared.fault.AtpFault.{AtpFault}
use Rattle.at_atp_frame.specs.declared.fault.AtpFault.TheVariants.{AtpTooLong, Full, NoSuch}
use Rattle.at_atp_requester.specs.Requests.{Requests, Retried, next_number, retried}
use Rattle.at_atp_requester.specs.declared.progress.Retry.{Retry}
use Rattle.at_atp_requester.specs.declared.progress.Retry.TheVariants as retry
use Rattle.at_atp_responder.specs.Records.{answer_fault, asked_for, expiry_fault, is_key}
use Rattle.at_atp_responder.specs.declared.reception.Key.{Key}
use Rattle.at_zip.specs.Fault as zip
use Rattle.at_zip.specs.Tables.{Tables}
use Rattle.at_zip.specs.Zones.{table_fault}
use Rattle.at_zip.specs.declared.request.TableChoice.{TableChoice}
use Rattle.at_zip.specs.declared.fault.ZipFault.{ZipFault}
use Rattle.at_zone_socket.specs.AtpParts.{AtpState, with_transactions, with_zones}
use Rattle.at_zone_socket.specs.ZoneSockets.{Reading}
use Rattle.at_transaction_socket.specs.TransactionSockets.{asking as asker, serving}
use Rattle.at_event.specs.Kinds.{Atp}
use Rattle.at_node.specs.Nodes.{NodeState, called, timed, with_atp}
use Rattle.at_event.specs.Outcomes.{Outcome, idle, refused_as, over}
use Rattle.at_zone_socket.specs.AtpTimers.{after_retry, retry_fired, expired, records_at}
use Rattle.at_transaction_socket.specs.RequesterSocket.{asked_as}
use Rattle.at_event.specs.Seats.{at_socket}
use Rattle.at_transaction_socket.specs.ServiceSocket.{answered_with}
use Rattle.at_zone_socket.specs.ZoneReading.{after_failing, is_reading, reading_begins, zones_called}
use Rattle.at_zone_socket.specs.ZoneSocket.{set_zones_called, table_set}
use Rattle.at_event.specs.declared.Call.{Call}
use Rattle.at_event.specs.declared.Call.TheVariants.{Transactions, Zones}
use Rattle.at_event.specs.declared.transactions.TransactionCall.TheVariants.{Ask, Answer}
use Rattle.at_event.specs.declared.zones.ZoneCall.{ZoneCall}
use Rattle.at_event.specs.declared.zones.ZoneCall.TheVariants as zone
use Rattle.at_event.specs.declared.transactions.TransactionCall.{TransactionCall}
use Rattle.at_event.specs.declared.Timer.{Timer}
use Rattle.at_event.specs.declared.Timer.TheVariants as timer
use Rattle.at_event.specs.declared.transactions.TransactionTimer.{TransactionTimer}
use Rattle.at_event.specs.declared.transactions.TransactionTimer.TheVariants as atp_timer
use Rattle.at_event.specs.declared.seat.Seat.{Seat}
use Rattle.at_steps.specs.Acts.{Act, Calls, Fires}
use Rattle.at_steps.proofs.Coming.{ComesBy, Speaks, all_sent}

abbrev pub IsOfTransactions : (A : Type 0) → Act A → Outcome A AtpState → Type 0
IsOfTransactions A act o = Speaks A atp_kind Atp act o

-- the node with the part of another state for ATP and ZIP
abbrev pub take_atp : NodeState → NodeState → NodeState
take_atp n now = with_atp n now.atp

abbrev pub ComesOfAtp : (A : Type 0) → NodeState → Act A → Outcome A NodeState → Type 0
ComesOfAtp A n act o = ComesBy A take_atp atp_kind Atp n act o

-- ---- calls

module _ (A : Type 0) (call : Call A) (a : AtpState) where
  call_refused : (number : Option ℕ) → IsOfTransactions A (Calls call) (idle a (refused_as number))
  call_refused None = (tt, (tt, tt))
  call_refused (Some k) = (tt, (tt, tt))

  asking : (s : Seat) (to : Address) (user bytes : List ℕ) (wanted : ℕ) (xo : Bool) (retries : ℕ) (o : Option ℕ)
      → IsOfTransactions A (Calls call) (over (with_transactions a)
      (asked_as s a.transactions to user bytes wanted xo retries o))
  asking s to user bytes wanted xo retries None = call_refused (atp.number_of Full)
  asking s to user bytes wanted xo retries (Some tid) = ((refl, tt), (refl, tt))

  asking_bytes : (s : Seat) (to : Address) (user bytes : List ℕ) (wanted : ℕ) (xo : Bool) (retries : ℕ) (b : Bool)
      → IsOfTransactions A (Calls call)
      (over (with_transactions a) (cond b (idle a.transactions (refused_as (atp.number_of AtpTooLong)))
      (asked_as s a.transactions to user bytes wanted xo retries (next_number a.transactions.requester))))
  asking_bytes s to user bytes wanted xo retries true = call_refused (atp.number_of AtpTooLong)
  asking_bytes s to user bytes wanted xo retries false = asking s to user bytes wanted xo retries
      (next_number a.transactions.requester)

  reading : (s : Seat) (kind : TableChoice) (router : ℕ) (o : Option ℕ)
      → IsOfTransactions A (Calls call) (reading_begins s a kind router o)
  reading s kind router None = call_refused (atp.number_of Full)
  reading s kind router (Some tid) = ((refl, tt), (refl, tt))

  reading_zones : (s : Seat) (kind : TableChoice) (router : Option ℕ) (now : Option Reading)
      → IsOfTransactions A (Calls call) (zones_called s a kind router now)
  reading_zones s kind None now = (tt, (tt, tt))
  reading_zones s kind (Some router) (Some r) = (tt, (tt, tt))
  reading_zones s kind (Some router) None = reading s kind router (next_number a.transactions.requester)

  setting : (tables : Tables) (kind : TableChoice) (names : List (List ℕ)) (o : Option ZipFault)
      → IsOfTransactions A (Calls call) (over (with_zones a) (table_set a.zones tables kind names o))
  setting tables kind names None = (tt, (refl, tt))
  setting tables kind names (Some fault) = call_refused (zip.number_of fault)

  setting_zones : (kind : TableChoice) (names : List (List ℕ)) (now : Option Tables)
      → IsOfTransactions A (Calls call) (over (with_zones a) (set_zones_called a.zones now kind names))
  setting_zones kind names None = (tt, (tt, tt))
  setting_zones kind names (Some tables) = setting tables kind names (table_fault names)

  answering : (s : Seat) (key : Key) (packets : List Packet) (o : Option AtpFault)
      → IsOfTransactions A (Calls call) (over (with_transactions a) (answered_with s a.transactions key packets o))
  answering s key packets None = (
    all_sent atp_kind (serving s.net s.number)
        (spelled_all (asked_for (find (is_key key) a.transactions.service_responder) key packets)),
    (refl, tt),
  )
  answering s key packets (Some fault) = call_refused (atp.number_of fault)

pub zone_lists_called : (A : Type 0) (n : NodeState) (call : ZoneCall A)
    → ComesOfAtp A n (Calls (Zones call)) (called n (Zones call))
zone_lists_called A n (zone.Read kind) = record {
  state = refl;
  its = reading_zones A (Zones (zone.Read kind)) n.atp n.seat kind n.seat.router n.atp.zones.reading;
}
zone_lists_called A n (zone.Set kind names) =
    record { state = refl; its = setting_zones A (Zones (zone.Set kind names)) n.atp kind names n.atp.zones.tables }

pub transactions_called : (A : Type 0) (n : NodeState) (call : TransactionCall A)
    → ComesOfAtp A n (Calls (Transactions call)) (called n (Transactions call))
transactions_called A n (Ask node socket user bytes wanted xo retries) = record {
  state = refl;
  its = asking_bytes A (Transactions (Ask node socket user bytes wanted xo retries)) n.atp n.seat
      (at_socket n.seat node socket) user bytes wanted xo retries (nat_lt 578 (length bytes));
}
transactions_called A n (Answer key packets) = record {
  state = refl;
  its = answering A (Transactions (Answer key packets)) n.atp n.seat key packets
      (answer_fault n.atp.transactions.service_responder key packets);
}

-- ---- timers

module _ (A : Type 0) (a : AtpState) where
  timer_refused : (time : Timer) (number : Option ℕ) → IsOfTransactions A (Fires time) (idle a (refused_as number))
  timer_refused time None = (tt, (tt, tt))
  timer_refused time (Some k) = (tt, (tt, tt))

  failing : (tid : ℕ) (after : Requests) (b : Bool)
      → IsOfTransactions A (Fires (timer.Transactions (atp_timer.Retry tid))) (after_failing a tid after b)
  failing tid after true = (tt, (refl, tt))
  failing tid after false = (tt, (refl, tt))

  retrying : (s : Seat) (tid : ℕ) (r : Retried) (x : Retry)
      → IsOfTransactions A (Fires (timer.Transactions (atp_timer.Retry tid))) (after_retry s a tid r x)
  retrying s tid r retry.AskedAgain = (all_sent atp_kind (asker s.net s.number) (spelled_all r.sent), (tt, tt))
  retrying s tid r retry.Failed = failing tid r.after (is_reading a.zones.reading tid)

  firing : (s : Seat) (tid : ℕ) (o : Option Retried)
      → IsOfTransactions A (Fires (timer.Transactions (atp_timer.Retry tid))) (retry_fired s a tid o)
  firing s tid None = timer_refused (timer.Transactions (atp_timer.Retry tid)) (atp.number_of NoSuch)
  firing s tid (Some r) = retrying s tid r r.step

  expiring : (own : ℕ) (key : Key) (o : Option AtpFault)
      → IsOfTransactions A (Fires (timer.Transactions (atp_timer.Release own key))) (expired a own key o)
  expiring own key (Some fault) =
      timer_refused (timer.Transactions (atp_timer.Release own key)) (atp.number_of fault)
  expiring own key None = (tt, (refl, tt))

pub transactions_timed : (A : Type 0) (n : NodeState) (time : TransactionTimer)
    → ComesOfAtp A n (Fires (timer.Transactions time)) (timed n (timer.Transactions time))
transactions_timed A n (atp_timer.Retry tid) =
    record { state = refl; its = firing A n.atp n.seat tid (retried n.atp.transactions.requester tid) }
transactions_timed A n (atp_timer.Release own key) =
    record { state = refl; its = expiring A n.atp own key (expiry_fault (find (is_key key) (records_at n.atp own))) }
