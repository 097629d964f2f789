-- Each event that is taken is safe, if each event of its node is.
use Rattle.std.proofs.Common.{◌≡◌, ◌∙◌, ◌+◌, ◌≤◌, ◌++◌, ℕ, List, false, true, length, map, ap, sym, subst}
use Rattle.std.proofs.Common.{Some, Result, Ok, Err, append-nil, arith}
use Rattle.std.proofs.lemmas.List.{length-append, length-map}
use Rattle.std.specs.Prelude.{MatchBool, OnOk}
use Rattle.std.specs.declared.alloc.Global.{Global}
use Rattle.at_event.specs.Outcomes.{Comes, Exactly, IsStep, Outcome, posted, wants_memory}
use Rattle.at_event.specs.Kinds.{takes_memory}
use Rattle.at_event.specs.declared.Call.{Call}
use Rattle.at_event.specs.declared.Timer.{Timer}
use Rattle.at_event.specs.declared.Report.{Report}
use Rattle.at_event.specs.declared.Report.TheVariants as report
use Rattle.at_event.specs.declared.service.Reply.{Reply}
use Rattle.at_faults.specs.declared.fault.LineFault.{LineFault}
use Rattle.at_held.specs.Held.{Does, Happens, HeldState, IsTaken, Plays}
use Rattle.at_held.specs.Safety.{IsSafe}
use Rattle.at_held.specs.Lines.{Calls, Fires, Line}
use Rattle.at_node.specs.Hearing.{Hears}
use Rattle.at_node.specs.Limits.{IsWithin}
use Rattle.at_node.specs.Nodes.{NodeState, called, timed}
use Rattle.at_steps.specs.Safety.{IsTableOf, IsTableOfCall, IsSafe as IsSafeOutcome, TransactionTable, number_told}
use Rattle.at_nodes.specs.Taking.{Receives}

-- what the layer below promises of each event of a node
pub record SafetyLaws : Type 0 where
  pub call : (n : NodeState) (call : Call Global) → IsWithin n → IsSafeOutcome IsTableOfCall n n (called n call)
  pub timer : (n : NodeState) (time : Timer) → IsWithin n
      → IsSafeOutcome {A = Global} IsTableOfCall n n (timed n time)
  pub datagram : (n : NodeState) (said : Reply Global) (bytes : List ℕ) (o : Outcome Global NodeState) → IsWithin n
      → Hears said n bytes o → IsSafeOutcome (IsTableOf bytes) n n o

module _ (P : TransactionTable → Type 0) (old new : HeldState) (r : Report Global) (kept : new.report ≡ Some r)
    (some : wants_memory r ≡ false) where
  of_outcome : (o : Outcome Global NodeState) → IsSafeOutcome P old.node old.node o
      → Exactly o old.waiting r new.node new.waiting → IsSafe P old new
  of_outcome o safe l = record {
    refused = λ number is.
        let one = sym kept ∙ is in let same : r ≡ report.Refused number = cc in
        let it = safe.no_effect number (sym l.0 ∙ same) in (
          l.1 ∙ ap (λ (x : Outcome Global NodeState). x.state) it,
          l.2 ∙ ap (λ (x : Outcome Global NodeState). old.waiting ++ map posted x.out) it ∙ append-nil old.waiting,
        );
    told = λ other number is tells.
        let one = sym kept ∙ is in let same : r ≡ other = cc in
        safe.reason number (ap number_told (sym l.0 ∙ same) ∙ tells);
    few = subst (λ w. length w ≤ length old.waiting + 131070) (sym l.2)
        (omega (arith, safe.few, length-append old.waiting (map posted o.out), length-map o.out posted));
  }

  -- a call or a timer
  of_step : (o : Outcome Global NodeState) → IsSafeOutcome P old.node old.node o
      → IsStep o old.node old.waiting r new.node new.waiting → IsSafe P old new
  of_step o safe h =
      of_outcome o safe
      (subst (λ b. MatchBool b
      ((new.node ≡ old.node) × (new.waiting ≡ old.waiting) × (takes_memory o.report ≡ true))
      (Exactly o old.waiting r new.node new.waiting)) some h)

  -- received bytes
  of_coming : (May : Outcome Global NodeState → Type 0)
      → ((o : Outcome Global NodeState) → May o → IsSafeOutcome P old.node old.node o)
      → Comes May old.node old.waiting r new.node new.waiting → IsSafe P old new
  of_coming May safe h =
      let it = subst (λ b. MatchBool b
      ((new.node ≡ old.node) × (new.waiting ≡ old.waiting)
      × ((o : Outcome Global NodeState) × May o × (takes_memory o.report ≡ true)))
      ((o : Outcome Global NodeState) × May o × Exactly o old.waiting r new.node new.waiting)) some h in
      of_outcome it.0 (safe it.0 it.1) it.2

module _ (laws : SafetyLaws) (old new : HeldState) (within : IsWithin old.node) where
  of_line : (told : Line) → IsTaken (Does told) old new → IsSafe IsTableOfCall old new
  of_line (Calls call) h =
      of_step IsTableOfCall old new h.0 h.3 h.2 (called old.node call) (laws.call old.node call within) h.1
  of_line (Fires timer) h =
      of_step IsTableOfCall old new h.0 h.3 h.2 (timed old.node timer) (laws.timer old.node timer within) h.1

  pub played_safely : (line : List ℕ) (answer : Result (Unit {0}) LineFault) → Plays line old answer new
      → OnOk answer (IsSafe IsTableOfCall old new)
  played_safely line (Ok u) h = of_line h.0 h.2
  played_safely line (Err fault) h = tt

  pub received_safely : {E : Type 0} (bytes : List ℕ) (answer : Result (Unit {0}) E)
      → Happens (Receives bytes) old answer new → OnOk answer (IsSafe (IsTableOf bytes) old new)
  received_safely bytes (Ok u) h =
      let step = h.1 in
      of_coming (IsTableOf bytes) old new h.0 h.3 h.2 (Hears step.0 old.node bytes)
      (λ o hears. laws.datagram old.node step.0 bytes o within hears) step.1
  received_safely bytes (Err e) h = tt
