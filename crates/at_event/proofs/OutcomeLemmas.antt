-- Outcomes of a part and of the whole, refusals, and what may come. They are for all states and for all that may come,
-- so no contract can say them.
use Rattle.std.proofs.Common.{◌≡◌, ℕ, Bool, true, false, List, Option, Some, Result, Ok, Err, refl, sym, ap, subst, ◌∙◌}
use Rattle.std.specs.Prelude.{MatchBool, IfSome, OnOk, IsOk}
use Rattle.std.proofs.lemmas.List.{append-nil}
use Rattle.at_ddp.specs.Outbox.{Posted}
use Rattle.at_event.specs.declared.Report.{Report}
use Rattle.at_event.specs.declared.Report.TheVariants.{Ignored, Refused}
use Rattle.at_event.specs.Kinds.{takes_memory}
use Rattle.at_event.specs.Outcomes.{wants_memory, refused_as, Outcome, Over, over, idle, Exactly, IsStep}
use Rattle.at_event.specs.Outcomes.{Comes}

-- ---- what a clause says of a result

pub when_ok : {T E : Type 0} (r : Result T E) (P : Type 0) → OnOk r P → IsOk r → P
when_ok (Ok x) P h is = h
when_ok (Err e) P h is = absurd (cc)

pub when_some : {X : Type 0} (o : Option X) (x : X) (P : X → Type 0) → o ≡ Some x → IfSome o P → P x
when_some {X} o x P is h = subst (λ (y : Option X). IfSome y P) is h

-- ---- what may come

module _ {A S : Type 0} (May : Outcome A S → Type 0) (old : S) (before : List Posted) where
  -- a refusal by a number
  pub comes_refused : (r : Report A) (number : Option ℕ) (k : ℕ) → number ≡ Some k → r ≡ refused_as number
      → May (idle old (Refused k)) → Comes May old before r old before
  comes_refused r number k is h p =
      subst (λ x. Comes May old before x old before) (sym (h ∙ ap refused_as is))
      (idle old (Refused k), p, (refl, refl, sym (append-nil before)))

  pub comes_ignored : May (idle old Ignored) → Comes May old before Ignored old before
  comes_ignored p = (idle old Ignored, p, (refl, refl, sym (append-nil before)))

  -- an outcome that is not out of memory
  pub comes_with : (o : Outcome A S) (r : Report A) (new : S) (after : List Posted) → May o
      → Exactly o before r new after → wants_memory r ≡ false → Comes May old before r new after
  comes_with o r new after p e some = rw some (o, p, e)

  pub step_comes : (o : Outcome A S) (r : Report A) (new : S) (after : List Posted) → May o
      → IsStep o old before r new after → Comes May old before r new after
  step_comes o r new after p = go (wants_memory r)
    where
      go : (b : Bool) → MatchBool b ((new ≡ old) × (after ≡ before) × (takes_memory o.report ≡ true))
          (Exactly o before r new after)
          → MatchBool b ((new ≡ old) × (after ≡ before) × ((o : Outcome A S) × May o × (takes_memory o.report ≡ true)))
          ((o : Outcome A S) × May o × Exactly o before r new after)
      go true e = (e.0, e.1, (o, p, e.2))
      go false e = (o, p, e)

-- what comes by one definition comes by a wider one
pub comes_wider : {A S : Type 0} (P Q : Outcome A S → Type 0) (old : S) (before : List Posted) (r : Report A) (new : S)
    (after : List Posted) → ((o : Outcome A S) → P o → Q o) → Comes P old before r new after
    → Comes Q old before r new after
comes_wider {A} {S} P Q old before r new after f = go (wants_memory r)
  where
    go : (b : Bool) → MatchBool b
        ((new ≡ old) × (after ≡ before) × ((o : Outcome A S) × P o × (takes_memory o.report ≡ true)))
        ((o : Outcome A S) × P o × Exactly o before r new after)
        → MatchBool b ((new ≡ old) × (after ≡ before) × ((o : Outcome A S) × Q o × (takes_memory o.report ≡ true)))
        ((o : Outcome A S) × Q o × Exactly o before r new after)
    go true h = let wanted = h.2 in (h.0, h.1, (wanted.0, f wanted.0 wanted.1, wanted.2))
    go false h = (h.0, f h.0 h.1, h.2)

-- ---- a part and the whole

module _ {A S N : Type 0} (f : S → N) (whole : N) (old : S) (is : f old ≡ whole) (before : List Posted) (r : Report A)
    (new : S) (after : List Posted) where
  pub step_over : (o : Outcome A S) → IsStep o old before r new after → IsStep (over f o) whole before r (f new) after
  step_over o = go (wants_memory r)
    where
      go : (b : Bool) → MatchBool b ((new ≡ old) × (after ≡ before) × (takes_memory o.report ≡ true))
          (Exactly o before r new after)
          → MatchBool b ((f new ≡ whole) × (after ≡ before) × (takes_memory o.report ≡ true))
          (Exactly (over f o) before r (f new) after)
      go true h = (ap f h.0 ∙ is, h.1, h.2)
      go false h = (h.0, ap f h.1, h.2)

  pub comes_over : (May : Outcome A S → Type 0) → Comes May old before r new after
      → Comes (Over f May) whole before r (f new) after
  comes_over May = go (wants_memory r)
    where
      go : (b : Bool) → MatchBool b
          ((new ≡ old) × (after ≡ before) × ((o : Outcome A S) × May o × (takes_memory o.report ≡ true)))
          ((o : Outcome A S) × May o × Exactly o before r new after)
          → MatchBool b ((f new ≡ whole) × (after ≡ before)
          × ((o : Outcome A N) × Over f May o × (takes_memory o.report ≡ true)))
          ((o : Outcome A N) × Over f May o × Exactly o before r (f new) after)
      go true h = let wanted = h.2 in (ap f h.0 ∙ is, h.1, (over f wanted.0, (wanted.0, wanted.1, refl), wanted.2))
      go false h = let e = h.2 in (over f h.0, (h.0, h.1, refl), (e.0, ap f e.1, e.2))
