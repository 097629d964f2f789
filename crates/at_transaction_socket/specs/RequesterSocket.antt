-- The socket that asks: what its call does, and a packet that ends no transaction of another user.
use Rattle.std.specs.Prelude.{ℕ, nat_lt, if◌then◌else◌, Bool, List, length, Option, Some, None}
use Rattle.at_ddp.specs.declared.address.Address.{Address}
use Rattle.at_ddp.specs.Protocols.{atp_kind}
use Rattle.at_atp_frame.specs.Fault as atp
use Rattle.at_atp_frame.specs.Frames.{spelled_all}
use Rattle.at_atp_requester.specs.Requests.{Heard, Retried, next_number, beginning}
use Rattle.at_atp_frame.specs.declared.fault.AtpFault.TheVariants.{AtpTooLong, Full}
use Rattle.at_atp_requester.specs.declared.progress.RequestProgress.{RequestProgress}
use Rattle.at_atp_requester.specs.declared.progress.RequestProgress.TheVariants as step
use Rattle.at_event.specs.declared.Report.{Report}
use Rattle.at_event.specs.declared.Report.TheVariants as report
use Rattle.at_event.specs.declared.transactions.TransactionReport.TheVariants as atp_report
use Rattle.at_event.specs.declared.seat.Seat.{Seat}
use Rattle.at_transaction_socket.specs.TransactionSockets.{TransactionState, asking, asks, after_heard}
use Rattle.at_event.specs.Outcomes.{Outcome, idle, sent_by, refused_as}

-- ---- the call

-- the node's user asks a socket of this network for so many packets, exactly once or at least once
abbrev pub asked_as : {A : Type 0} → Seat → TransactionState → Address → List ℕ → List ℕ → ℕ → Bool → ℕ → Option ℕ
    → Outcome A TransactionState
asked_as s t to user bytes wanted xo retries None = idle t (refused_as (atp.number_of Full))
asked_as s t to user bytes wanted xo retries (Some tid) = asks s t (beginning tid to user bytes wanted xo retries)

abbrev pub ask_called : {A : Type 0} → Seat → TransactionState → Address → List ℕ → List ℕ → ℕ → Bool → ℕ
    → Outcome A TransactionState
ask_called s t to user bytes wanted xo retries =
    if nat_lt 578 (length bytes) then idle t (refused_as (atp.number_of AtpTooLong))
    else asked_as s t to user bytes wanted xo retries (next_number t.requester)

-- ---- the timer

-- a retry asks again
abbrev pub asked_again : {A : Type 0} → Seat → TransactionState → Retried → Outcome A TransactionState
asked_again s t r = record {
  report = report.Again;
  state = record t { requester = r.after };
  out = sent_by (asking s.net s.number) atp_kind (spelled_all r.sent);
}

-- ---- packets

-- the report of a step of a transaction that is the node's own user's
abbrev pub reported_other : {A : Type 0} → ℕ → RequestProgress A → Report A
reported_other tid step.Ignored = report.Ignored
reported_other tid step.Kept = report.Transactions atp_report.Kept
reported_other tid step.AskAgain = report.Again
reported_other tid (step.Finished packets) = report.Transactions (atp_report.Response tid packets)

abbrev pub hears_other : {A : Type 0} → Seat → TransactionState → ℕ → Heard A → Outcome A TransactionState
hears_other s t tid h = after_heard s t h (reported_other tid h.step)
