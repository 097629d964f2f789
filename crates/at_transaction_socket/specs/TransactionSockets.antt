-- The sockets of a node for transactions: one asks, and one is its service's.
use Rattle.std.specs.Prelude.{ℕ, List, [], ◌∷◌}
use Rattle.at_ddp.specs.declared.address.Address.{Address}
use Rattle.at_ddp.specs.Protocols.{atp_kind}
use Rattle.at_atp_frame.specs.Frames.{Content, Request, Response, Release, spelled, spelled_all}
use Rattle.at_atp_frame.specs.Packets.{Packet}
use Rattle.at_atp_responder.specs.Records.{Record}
use Rattle.at_atp_requester.specs.Requests.{Transaction, Requests, Heard, no_requests, begun, request_by}
use Rattle.at_event.specs.declared.Report.{Report}
use Rattle.at_event.specs.declared.Report.TheVariants as report
use Rattle.at_event.specs.declared.transactions.TransactionReport.TheVariants as atp_report
use Rattle.at_event.specs.declared.seat.Seat.{Seat}
use Rattle.at_event.specs.Outcomes.{Outcome, sent_by}

pub record TransactionState : Type 0 where
  pub requester : Requests
  pub service_responder : List Record  -- the records of requests for the service

abbrev pub opening : TransactionState
opening = record { requester = no_requests; service_responder = [] }

-- a node asks from 128, and its service has 129
abbrev pub asking : ℕ → ℕ → Address
asking net number = record { net = net; node = number; socket = 128 }

abbrev pub serving : ℕ → ℕ → Address
serving net number = record { net = net; node = number; socket = 129 }

-- ---- packets

-- the user bytes and the data of a packet
abbrev pub packet_in : Content → Packet
packet_in (Request mask xo timer tid user bytes) = record { user = user; data_ = bytes }
packet_in (Response place eom sts tid user bytes) = record { user = user; data_ = bytes }
packet_in (Release tid) = record { user = []; data_ = [] }

-- ---- the requester, for any user of it

-- a transaction begins, and its request is sent
abbrev pub asks : {A : Type 0} → Seat → TransactionState → Transaction → Outcome A TransactionState
asks s t new = record {
  report = report.Transactions (atp_report.Begun new.tid);
  state = record t { requester = begun t.requester new };
  out = sent_by (asking s.net s.number) atp_kind ((new.to, spelled (request_by new)) ∷ []);
}

-- a packet was received, and this is reported of it
abbrev pub after_heard : {A : Type 0} → Seat → TransactionState → Heard A → Report A → Outcome A TransactionState
after_heard s t h r = record {
  report = r;
  state = record t { requester = h.after };
  out = sent_by (asking s.net s.number) atp_kind (spelled_all h.sent);
}
