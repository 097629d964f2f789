-- What the timers of the part that speaks ATP do: a retry may end a reading, and a release is for one of the sockets
-- that answer.
use Rattle.std.specs.Prelude.{ℕ, ◌==◌, if◌then◌else◌, List, [], find, Option, Some, None}
use Rattle.at_ddp.specs.Tables.{without_first}
use Rattle.at_atp_frame.specs.Fault.{number_of}
use Rattle.at_atp_frame.specs.declared.fault.AtpFault.{AtpFault}
use Rattle.at_atp_frame.specs.declared.fault.AtpFault.TheVariants.{NoSuch}
use Rattle.at_atp_requester.specs.Requests.{Retried}
use Rattle.at_atp_requester.specs.declared.progress.Retry.{Retry}
use Rattle.at_atp_requester.specs.declared.progress.Retry.TheVariants as retry
use Rattle.at_atp_responder.specs.Records.{Record, is_key, expiry_fault}
use Rattle.at_atp_responder.specs.declared.reception.Key.{Key}
use Rattle.at_event.specs.declared.Report.TheVariants as report
use Rattle.at_event.specs.declared.transactions.TransactionReport.TheVariants as atp_report
use Rattle.at_event.specs.declared.seat.Seat.{Seat}
use Rattle.at_event.specs.Outcomes.{Outcome, idle, over, refused_as}
use Rattle.at_transaction_socket.specs.RequesterSocket.{asked_again}
use Rattle.at_zone_socket.specs.AtpParts.{AtpState, with_transactions}
use Rattle.at_zone_socket.specs.ZoneReading.{after_failing, is_reading}

-- ---- the retry

-- a retry asks again; if none is left, the transaction is closed
abbrev pub after_retry : {A : Type 0} → Seat → AtpState → ℕ → Retried → Retry → Outcome A AtpState
after_retry s a tid r retry.AskedAgain = over (with_transactions a) (asked_again s a.transactions r)
after_retry s a tid r retry.Failed = after_failing a tid r.after (is_reading a.zones.reading tid)

abbrev pub retry_fired : {A : Type 0} → Seat → AtpState → ℕ → Option Retried → Outcome A AtpState
retry_fired s a tid None = idle a (refused_as (number_of NoSuch))
retry_fired s a tid (Some r) = after_retry s a tid r r.step

-- ---- the release timer

-- the records of a socket of the node that answers
abbrev pub records_at : AtpState → ℕ → List Record
records_at a socket =
    if socket == 129 then a.transactions.service_responder else (if socket == 6 then a.zones.zone_responder else [])

abbrev pub with_records_at : AtpState → ℕ → List Record → AtpState
with_records_at a socket rs =
    if socket == 129 then record a { transactions = record a.transactions { service_responder = rs } }
    else (if socket == 6 then record a { zones = record a.zones { zone_responder = rs } } else a)

-- the record of a request at a socket of the node is removed, if the request was answered
abbrev pub expired : {A : Type 0} → AtpState → ℕ → Key → Option AtpFault → Outcome A AtpState
expired a socket key (Some fault) = idle a (refused_as (number_of fault))
expired a socket key None = record {
  report = report.Transactions atp_report.Expired;
  state = with_records_at a socket (without_first (is_key key) (records_at a socket));
  out = [];
}

abbrev pub release_fired : {A : Type 0} → AtpState → ℕ → Key → Outcome A AtpState
release_fired a socket key = expired a socket key (expiry_fault (find (is_key key) (records_at a socket)))
