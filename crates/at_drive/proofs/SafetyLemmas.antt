-- Each input that a node takes is safe, if each event of a node within its limits is.
use Rattle.std.proofs.Common.{◌≡◌, ◌∙◌, ◌≤◌, ℕ, List, [], ◌∷◌, Bool, false, true, cond, find, length, map, ap, sym}
use Rattle.std.proofs.Common.{subst, refl, Some, arith}
use Rattle.std.proofs.lemmas.Bool.{true≢false}
use Rattle.std.proofs.lemmas.List.{length-map}
use Rattle.std.specs.Prelude.{MatchBool}
use Rattle.at_ddp.specs.Outbox.{Posted}
use Rattle.at_event.specs.Outcomes.{Exactly, Outcome, posted, wants_memory}
use Rattle.at_event.specs.Kinds.{takes_memory}
use Rattle.at_event.specs.declared.Call.{Call}
use Rattle.at_event.specs.declared.Timer.{Timer}
use Rattle.at_event.specs.declared.Report.{Report}
use Rattle.at_event.specs.declared.Report.TheVariants as report
use Rattle.at_event.specs.declared.service.Reply.{Reply}
use Rattle.at_node.specs.Hearing.{Hears}
use Rattle.at_node.specs.Limits.{IsWithin}
use Rattle.at_node.specs.Nodes.{NodeState, called, timed}
use Rattle.at_node.specs.declared.numbers.Input.{Input}
use Rattle.at_node.specs.declared.numbers.Input.TheVariants as input
use Rattle.at_steps.specs.Safety.{IsTableOf, IsTableOfCall, IsSafe as IsSafeOutcome, TransactionTable, number_told}
use Rattle.at_nodes.specs.Nodes.{AreWithin}
use Rattle.at_nodes.specs.Taking.{Takes}
use Rattle.at_nodes.specs.Nodes.{is_numbered}
use Rattle.at_drive.specs.Safety.{IsSafe, table_wanted}

-- the node that is found keeps to its limits, if all do
pub one_within : (k : ℕ) (n : NodeState) (nodes : List NodeState) → AreWithin nodes
    → find (is_numbered k) nodes ≡ Some n → IsWithin n
one_within k n [] all h = absurd (cc)
one_within k n (x ∷ xs) all h = go (λ g. one_within k n xs all.1 g) (is_numbered k x) h
  where
    go : (find (is_numbered k) xs ≡ Some n → IsWithin n) → (b : Bool)
        → cond b (Some x) (find (is_numbered k) xs) ≡ Some n → IsWithin n
    go ih true g = let same : x ≡ n = cc in subst IsWithin same all.0
    go ih false g = ih g

-- what the layer below promises of each event of a node
pub record SafetyLaws (A : Type 0) : Type 0 where
  pub call : (n : NodeState) (call : Call A) → IsWithin n → IsSafeOutcome IsTableOfCall n n (called n call)
  pub timer : (n : NodeState) (time : Timer) → IsWithin n → IsSafeOutcome {A = A} IsTableOfCall n n (timed n time)
  pub datagram : (n : NodeState) (said : Reply A) (bytes : List ℕ) (o : Outcome A NodeState) → IsWithin n
      → Hears said n bytes o → IsSafeOutcome (IsTableOf bytes) n n o

-- who tells a number was not out of memory
told_some : {A : Type 0} (r : Report A) (number : ℕ) → number_told r ≡ Some number → wants_memory r ≡ false
told_some report.NoMemory number h = absurd (cc)
told_some r number h = refl

module _ {A : Type 0} (P : TransactionTable → Type 0) (n : NodeState) (r : Report A) (n' : NodeState)
    (out : List Posted)
    (after : IsWithin n') where
  -- nothing happened, since memory was out
  of_nothing : wants_memory r ≡ true → n' ≡ n → out ≡ [] → IsSafe P n r n' out
  of_nothing wants same none = record {
    memory = λ is. (same, none);
    refused = λ number is. (same, none);
    told = λ number is. absurd (true≢false (sym wants ∙ told_some r number is));
    few = subst (λ (l : List Posted). length l ≤ 131070) (sym none) (omega arith);
    within = after;
  }

  of_outcome : (o : Outcome A NodeState) → wants_memory r ≡ false → IsSafeOutcome P n n o → Exactly o [] r n' out
      → IsSafe P n r n' out
  of_outcome o some safe l = record {
    memory = λ is. absurd (true≢false (sym (ap wants_memory is) ∙ some));
    refused = λ number is.
        let it = safe.no_effect number (sym l.0 ∙ is) in (
          l.1 ∙ ap (λ (x : Outcome A NodeState). x.state) it,
          l.2 ∙ ap (λ (x : Outcome A NodeState). map posted x.out) it,
        );
    told = λ number is. safe.reason number (ap number_told (sym l.0) ∙ is);
    few = subst (λ (w : List Posted). length w ≤ 131070) (sym l.2)
        (omega (arith, safe.few, length-map o.out posted));
    within = after;
  }

  -- a call or a timer
  of_step : (o : Outcome A NodeState) → IsSafeOutcome P n n o → (b : Bool) → wants_memory r ≡ b
      → MatchBool b ((n' ≡ n) × (out ≡ []) × (takes_memory o.report ≡ true)) (Exactly o [] r n' out)
      → IsSafe P n r n' out
  of_step o safe true e h = of_nothing e h.0 h.1
  of_step o safe false e h = of_outcome o e safe h

  -- bytes that came
  of_coming : (May : Outcome A NodeState → Type 0) → ((o : Outcome A NodeState) → May o → IsSafeOutcome P n n o)
      → (b : Bool) → wants_memory r ≡ b
      → MatchBool b ((n' ≡ n) × (out ≡ []) × ((o : Outcome A NodeState) × May o × (takes_memory o.report ≡ true)))
      ((o : Outcome A NodeState) × May o × Exactly o [] r n' out)
      → IsSafe P n r n' out
  of_coming May safe true e h = of_nothing e h.0 h.1
  of_coming May safe false e h = of_outcome h.0 e (safe h.0 h.1) h.2

pub taken_safely : {A : Type 0} (laws : SafetyLaws A) (i : Input A) (n : NodeState) (r : Report A) (n' : NodeState)
    (out : List Posted) → IsWithin n → IsWithin n' → Takes i n [] r n' out → IsSafe (table_wanted i) n r n' out
taken_safely laws (input.Call call) n r n' out before after h =
    of_step IsTableOfCall n r n' out after (called n call.now) (laws.call n call.now before) (wants_memory r) refl h
taken_safely laws (input.Timer timer) n r n' out before after h =
    of_step IsTableOfCall n r n' out after (timed n timer) (laws.timer n timer before) (wants_memory r) refl h
taken_safely laws (input.Received bytes) n r n' out before after h =
    of_coming (IsTableOf bytes.now) n r n' out after (Hears h.0 n bytes.now)
    (λ o hears. laws.datagram n h.0 bytes.now o before hears) (wants_memory r) refl h.1
