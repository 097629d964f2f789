-- The sockets of a node for transactions and zones: what comes of their calls, timers and packets is safe at the node.
use Rattle.std.proofs.Common.{length, refl, ap}
use Rattle.std.specs.Prelude.{nat_lt}
use Rattle.at_ddp.specs.Datagram.{Content as Datagram}
use Rattle.at_atp_requester.specs.Requests.{retried}
use Rattle.at_atp_responder.specs.Records.{answer_fault}
use Rattle.at_event.specs.Outcomes.{Outcome, Through, over}
use Rattle.at_event.specs.Seats.{at_socket}
use Rattle.at_event.specs.declared.Call.TheVariants.{Transactions, Zones}
use Rattle.at_event.specs.declared.Timer.TheVariants as timer
use Rattle.at_event.specs.declared.service.Reply.{Reply}
use Rattle.at_event.specs.declared.transactions.TransactionCall.{TransactionCall}
use Rattle.at_event.specs.declared.transactions.TransactionCall.TheVariants.{Ask, Answer}
use Rattle.at_event.specs.declared.transactions.TransactionTimer.{TransactionTimer}
use Rattle.at_event.specs.declared.transactions.TransactionTimer.TheVariants as atp_timer
use Rattle.at_event.specs.declared.zones.ZoneCall.{ZoneCall}
use Rattle.at_event.specs.declared.zones.ZoneCall.TheVariants as zone
use Rattle.at_zone_socket.specs.AtpHearing.{HearsAtp}
use Rattle.at_zone_socket.specs.AtpParts.{AtpState, with_transactions, with_zones}
use Rattle.at_transaction_socket.specs.RequesterSocket.{ask_called}
use Rattle.at_zone_socket.specs.AtpTimers.{retry_fired, release_fired}
use Rattle.at_transaction_socket.specs.ServiceSocket.{answer_called}
use Rattle.at_zone_socket.specs.ZoneReading.{zones_called}
use Rattle.at_zone_socket.specs.ZoneSocket.{set_zones_called}
use Rattle.at_node.specs.Nodes.{NodeState, called, over_atp, timed, with_atp}
use Rattle.at_steps.specs.Safety.{IsTableOfCall, IsSafe, TransactionTable, Records}
use Rattle.at_steps.proofs.Protocols.Atp.SafeRecords.{RecordLaws, answer_safe, release_safe, set_zones_safe}
use Rattle.at_steps.proofs.Protocols.Atp.SafeRequests.{NumbersAreFree, ask_safe, retry_safe, zones_safe}
use Rattle.at_steps.proofs.Protocols.Atp.SafeServing.{atp_safe}
use Rattle.at_steps.proofs.Safety.By.{by, through}

module _ (A : Type 0) (n : NodeState) where
  abbrev Calling : Outcome A NodeState → Type 0
  Calling o = IsSafe IsTableOfCall n n o

  of_part : (o : Outcome A AtpState) → IsSafe IsTableOfCall n n.atp o → Calling (over (with_atp n) o)
  of_part o safe = through A IsTableOfCall n (with_atp n) n.atp o refl safe

  pub transactions_safe : NumbersAreFree → RecordLaws → (call : TransactionCall A)
      → Calling (called n (Transactions call))
  transactions_safe numbers records (Ask node socket user bytes wanted xo retries) =
      let to = at_socket n.seat node socket in
      of_part (over (with_transactions n.atp) (ask_called n.seat n.atp.transactions to user bytes wanted xo retries))
      (ask_safe A n numbers to user bytes wanted xo retries (nat_lt 578 (length bytes)))
  transactions_safe numbers records (Answer key packets) =
      of_part (over (with_transactions n.atp) (answer_called n.seat n.atp.transactions key packets))
      (answer_safe A n IsTableOfCall records key packets (answer_fault n.atp.transactions.service_responder key packets)
      refl)

  pub zone_lists_safe : NumbersAreFree → (call : ZoneCall A) → Calling (called n (Zones call))
  zone_lists_safe numbers (zone.Read kind) =
      of_part (zones_called n.seat n.atp kind n.seat.router n.atp.zones.reading)
      (zones_safe A n numbers kind n.seat.router n.atp.zones.reading)
  zone_lists_safe numbers (zone.Set kind names) =
      of_part (over (with_zones n.atp) (set_zones_called n.atp.zones n.atp.zones.tables kind names))
      (set_zones_safe A n IsTableOfCall kind names n.atp.zones.tables)

  pub transaction_timer_safe : (time : TransactionTimer) → Calling (timed n (timer.Transactions time))
  transaction_timer_safe (atp_timer.Retry tid) =
      of_part (retry_fired n.seat n.atp tid (retried n.atp.transactions.requester tid))
      (retry_safe A n IsTableOfCall tid)
  transaction_timer_safe (atp_timer.Release own key) =
      of_part (release_fired n.atp own key) (release_safe A n IsTableOfCall own key)

  pub atp_over : (Wants : TransactionTable → Type 0) → RecordLaws
      → (said : Reply A) (d : Datagram) (o : Outcome A NodeState)
      → Wants (Records d.to.socket) → Through (over_atp n) (HearsAtp said n.seat n.atp d) o → IsSafe Wants n n o
  atp_over Wants laws said d o here (p, may, is) =
      let safe = atp_safe A n Wants laws said d p here may in
      by A Wants n n o (over_atp n p) is (record {
        reason = safe.reason;
        no_effect = λ k told. ap (over_atp n) (safe.no_effect k told);
        few = safe.few;
      })
