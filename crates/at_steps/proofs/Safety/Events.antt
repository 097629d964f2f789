-- Whatever is heard is safe.
use Rattle.std.proofs.Common.{◌≡◌, inl, inr, ℕ, Bool, true, false, List, refl}
use Rattle.std.specs.Prelude.{MatchBool, ◌||◌}
use Rattle.at_ddp.specs.Datagram.{Content as Datagram}
use Rattle.at_event.specs.Outcomes.{Outcome, idle}
use Rattle.at_event.specs.Seats.{is_for_all, is_mine}
use Rattle.at_event.specs.declared.Reason.TheVariants.{OfDatagrams}
use Rattle.at_event.specs.declared.Report.TheVariants as report
use Rattle.at_event.specs.declared.service.Reply.{Reply}
use Rattle.at_node.specs.Hearing.{Hears, HearsIt}
use Rattle.at_node.specs.Limits.{IsWithin}
use Rattle.at_node.specs.Nodes.{HearsMine, NodeState}
use Rattle.at_steps.specs.Safety.{IsTableOf, IsSafe, TransactionTable, Records}
use Rattle.at_steps.proofs.Protocols.{SafetyLaws, ignored_safe, mine_safe}
use Rattle.at_steps.proofs.Safety.By.{faulted}

module _ (A : Type 0) (laws : SafetyLaws) (n : NodeState) (within : IsWithin n) (said : Reply A) where
  it_safe : (Wants : TransactionTable → Type 0) (d : Datagram) (o : Outcome A NodeState) → Wants (Records d.to.socket)
      → HearsIt said n d o → IsSafe Wants n n o
  it_safe Wants d o here = go (is_for_all n.seat d.kind d.to || is_mine n.seat d.to)
    where
      go : (b : Bool) → MatchBool b (HearsMine said n d o) (o ≡ idle n report.Ignored) → IsSafe Wants n n o
      go true h = mine_safe A laws n within Wants said d o here h
      go false h = ignored_safe A laws n within Wants said d o h

  pub datagram_safe : (bytes : List ℕ) (o : Outcome A NodeState) → Hears said n bytes o
      → IsSafe (IsTableOf bytes) n n o
  datagram_safe bytes o (inl h) =
      let here : IsTableOf bytes (Records h.datagram.to.socket) = record {
        datagram = h.datagram;
        rest = h.rest;
        begins = h.begins;
        there = refl;
      } in
      it_safe (IsTableOf bytes) h.datagram o here h.outcome
  datagram_safe bytes o (inr h) =
      faulted A (IsTableOf bytes) n n (OfDatagrams h.fault) h.number o tt h.numbered h.outcome
