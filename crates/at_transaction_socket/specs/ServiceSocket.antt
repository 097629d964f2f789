-- The socket of a node's service: what its calls and its packets do.
use Rattle.std.specs.Prelude.{ℕ, if◌then◌else◌, List, [], length, find, Option, Some, None}
use Rattle.at_ddp.specs.declared.address.Address.{Address}
use Rattle.at_ddp.specs.Protocols.{atp_kind}
use Rattle.at_atp_frame.specs.Fault.{number_of}
use Rattle.at_atp_frame.specs.Frames.{Content, Request, Response, Release, spelled_all}
use Rattle.at_atp_frame.specs.Packets.{Packet}
use Rattle.at_atp_responder.specs.Records.{Record, Received, is_key, received, finds_no_place, asked_for, answer_fault}
use Rattle.at_atp_responder.specs.Records.{after_answer}
use Rattle.at_atp_frame.specs.declared.fault.AtpFault.{AtpFault}
use Rattle.at_atp_frame.specs.declared.fault.AtpFault.TheVariants.{Full}
use Rattle.at_atp_responder.specs.declared.reception.Key.{Key}
use Rattle.at_atp_responder.specs.declared.reception.Reception.{Reception}
use Rattle.at_atp_responder.specs.declared.reception.Reception.TheVariants as reception
use Rattle.at_event.specs.declared.Report.{Report}
use Rattle.at_event.specs.declared.Report.TheVariants as report
use Rattle.at_event.specs.declared.transactions.TransactionReport.TheVariants as atp_report
use Rattle.at_event.specs.declared.seat.Seat.{Seat}
use Rattle.at_event.specs.declared.service.Reply.{Reply}
use Rattle.at_event.specs.declared.service.Reply.TheVariants as reply
use Rattle.at_transaction_socket.specs.TransactionSockets.{TransactionState, serving}
use Rattle.at_event.specs.Outcomes.{Outcome, idle, sent_by, refused_as}
use Rattle.at_transaction_socket.specs.Responders.{released_report}

-- ---- the call

-- the node's user answers a request that was delivered to the service
abbrev pub answered_with : {A : Type 0} → Seat → TransactionState → Key → List Packet → Option AtpFault
    → Outcome A TransactionState
answered_with s a key packets (Some fault) = idle a (refused_as (number_of fault))
answered_with s a key packets None = record {
  report = report.Transactions
      (atp_report.Answered (length (asked_for (find (is_key key) a.service_responder) key packets)));
  state = record a { service_responder = after_answer a.service_responder key packets };
  out = sent_by (serving s.net s.number) atp_kind
      (spelled_all (asked_for (find (is_key key) a.service_responder) key packets));
}

abbrev pub answer_called : {A : Type 0} → Seat → TransactionState → Key → List Packet → Outcome A TransactionState
answer_called s a key packets = answered_with s a key packets (answer_fault a.service_responder key packets)

-- ---- packets

abbrev pub service_taken : {A : Type 0} → Seat → TransactionState → Received → Report A → Outcome A TransactionState
service_taken s a t r = record {
  report = r;
  state = record a { service_responder = t.after };
  out = sent_by (serving s.net s.number) atp_kind (spelled_all t.sent);
}

-- the records after the service replied to a request, and what is sent then
abbrev pub after_reply : {A : Type 0} → List Record → Key → Reply A → List Record
after_reply rs key reply.Later = rs
after_reply rs key (reply.Now packets) = after_answer rs key packets

abbrev pub sent_by_reply : {A : Type 0} → List Record → Key → Reply A → List (Address × Content)
sent_by_reply rs key reply.Later = []
sent_by_reply rs key (reply.Now packets) = asked_for (find (is_key key) rs) key packets

-- a new request is delivered to the service, which answers it now or later
abbrev pub handed_up : {A : Type 0} → Seat → TransactionState → Received → Key → List ℕ → List ℕ → Reply A
    → Outcome A TransactionState
handed_up s a t key user bytes r = record {
  report = report.Transactions (atp_report.Asked key user bytes);
  state = record a { service_responder = after_reply t.after key r };
  out = sent_by (serving s.net s.number) atp_kind (spelled_all (sent_by_reply t.after key r));
}

abbrev pub at_service : {A : Type 0} → Seat → TransactionState → Received → List ℕ → List ℕ → Reply A → Reception
    → Outcome A TransactionState
at_service s a t user bytes said reception.Ignored = service_taken s a t report.Ignored
at_service s a t user bytes said (reception.Again count) = service_taken s a t report.Again
at_service s a t user bytes said reception.Released = service_taken s a t (report.Transactions atp_report.Released)
at_service s a t user bytes said (reception.New key) = handed_up s a t key user bytes said

-- a request came for the service, which would reply this to a new one
abbrev pub service_asked : {A : Type 0} → Seat → TransactionState → Address → Content → List ℕ → List ℕ → Reply A
    → Outcome A TransactionState
service_asked s a from frame user bytes said =
    if finds_no_place a.service_responder from frame then idle a (refused_as (number_of Full))
    else at_service s a (received a.service_responder from frame) user bytes said
    (received a.service_responder from frame).reception

-- a release came for the service's socket
abbrev pub service_released : {A : Type 0} → Seat → TransactionState → Received → Outcome A TransactionState
service_released s a t = service_taken s a t (released_report t.reception)

-- what a packet does that came for the service's socket: a response is ignored
abbrev pub service_heard : {A : Type 0} → Reply A → Seat → TransactionState → Address → Content
    → Outcome A TransactionState
service_heard said s a from (Request mask xo timer tid user bytes) =
    service_asked s a from (Request mask xo timer tid user bytes) user bytes said
service_heard said s a from (Response place eom sts tid user bytes) = idle a report.Ignored
service_heard said s a from (Release tid) = service_released s a (received a.service_responder from (Release tid))
