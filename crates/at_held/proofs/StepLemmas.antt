-- A step adds to the end of what was sent, and so to the end of what waits of it.
use Rattle.std.proofs.Common.{◌≡◌, ◌∙◌, ◌≤◌, ◌∷◌, ◌++◌, [], ℕ, Bool, true, false, List, length, drop, map, refl, ap}
use Rattle.std.proofs.Common.{sym, suc, zero, subst, append_assoc, append-nil, arith}
use Rattle.std.specs.Prelude.{MatchBool}
use Rattle.std.specs.declared.alloc.Global.{Global}
use Rattle.at_ddp.specs.Outbox.{Posted}
use Rattle.at_event.specs.Outcomes.{Comes, Exactly, IsStep, Outcome, posted, wants_memory}
use Rattle.at_event.specs.Kinds.{takes_memory}
use Rattle.at_event.specs.declared.Report.{Report}
use Rattle.at_event.specs.declared.Report.TheVariants as report
use Rattle.at_node.specs.Hearing.{Hears}
use Rattle.at_node.specs.Nodes.{NodeState, called, timed}
use Rattle.at_node.specs.declared.numbers.Input.{Input}
use Rattle.at_node.specs.declared.numbers.Input.TheVariants as input
use Rattle.at_nodes.specs.Taking.{Takes}

module _ (first before after : List Posted) (old new : NodeState) (r : Report Global) where
  behind_exactly : (o : Outcome Global NodeState) → Exactly o before r new after
      → Exactly o (first ++ before) r new (first ++ after)
  behind_exactly o h =
      (h.0, h.1, ap (λ l. first ++ l) h.2 ∙ sym (append_assoc first before (map posted o.out)))

  behind_step : (o : Outcome Global NodeState) → IsStep o old before r new after
      → IsStep o old (first ++ before) r new (first ++ after)
  behind_step o h = go (wants_memory r) h
    where
      go : (b : Bool)
          → MatchBool b ((new ≡ old) × (after ≡ before) × (takes_memory o.report ≡ true)) (Exactly o before r new after)
          → MatchBool b
          ((new ≡ old) × (first ++ after ≡ first ++ before) × (takes_memory o.report ≡ true))
          (Exactly o (first ++ before) r new (first ++ after))
      go true s = (s.0, ap (λ l. first ++ l) s.1, s.2)
      go false s = behind_exactly o s

  behind_comes : (May : Outcome Global NodeState → Type 0) → Comes May old before r new after
      → Comes May old (first ++ before) r new (first ++ after)
  behind_comes May h = go (wants_memory r) h
    where
      go : (b : Bool)
          → MatchBool b
          ((new ≡ old) × (after ≡ before)
          × ((o : Outcome Global NodeState) × May o × (takes_memory o.report ≡ true)))
          ((o : Outcome Global NodeState) × May o × Exactly o before r new after)
          → MatchBool b
          ((new ≡ old) × (first ++ after ≡ first ++ before)
          × ((o : Outcome Global NodeState) × May o × (takes_memory o.report ≡ true)))
          ((o : Outcome Global NodeState) × May o × Exactly o (first ++ before) r new (first ++ after))
      go true s = (s.0, ap (λ l. first ++ l) s.1, s.2)
      go false s = (s.0, s.1, behind_exactly s.0 s.2)

  -- what waits after an input, behind what waits already
  pub behind_waiting : (i : Input Global) → Takes i old before r new after
      → Takes i old (first ++ before) r new (first ++ after)
  behind_waiting (input.Call call) h = behind_step (called old call.now) h
  behind_waiting (input.Timer timer) h = behind_step (timed old timer) h
  behind_waiting (input.Received bytes) h = (h.0, behind_comes (Hears h.0 old bytes.now) h.1, h.2)

-- what is sent is all that waits, if there is no earlier list
pub alone_waiting : (i : Input Global) (old new : NodeState) (r : Report Global) (earlier : List Posted) (taken : ℕ)
    (before after : List Posted) → length earlier ≡ 0 → taken ≤ length earlier → Takes i old before r new after
    → Takes i old (drop taken earlier ++ before) r new (drop taken after ++ earlier)
alone_waiting i old new r [] zero before after none within h =
    subst (λ l. Takes i old before r new l) (sym (append-nil after)) h
alone_waiting i old new r [] (suc taken) before after none within h = absurd (omega (arith, within))
alone_waiting i old new r (p ∷ earlier) taken before after none within h = absurd (omega (arith, none))

-- a report that is not of memory
pub wants_none : (r : Report Global) → ¬ (r ≡ report.NoMemory) → wants_memory r ≡ false
wants_none report.NoMemory other = absurd (other refl)
wants_none r other = refl
