-- A drive goes on by one step, or stops at it.
use Rattle.std.proofs.Common.{◌≡◌, ℕ, suc, ◌+◌, ◌<◌, List, [], ◌∷◌, ◌++◌, length, take, get_or, Some, None, inl}
use Rattle.std.proofs.Common.{Bool, true, false, refl, sym, ap, subst, ◌∙◌, arith}
use Rattle.std.specs.Prelude.{Result, Option, slice_get}
use Rattle.std.specs.List.{list_all}
use Rattle.std.proofs.lemmas.Bool.{true≢false}
use Rattle.std.proofs.lemmas.List.Folds.{list_all_at}
use Rattle.std.proofs.lemmas.List.{take_more, length-take}
use Rattle.std.proofs.lemmas.Option.{slice_get-get_or}
use Rattle.at_cable.specs.declared.fault.CableFault.{CableFault}
use Rattle.at_drive.specs.Drives.{Driving, Drives, IsLeft, Runs}
use Rattle.at_drive.specs.declared.step.Step.{Step}
use Rattle.at_drive.specs.declared.step.Step.TheVariants.{Call, Timer, Poll}

module _ {A C : Type 0} (S : C → ℕ → ℕ → List ℕ → Result (Unit {0}) CableFault → C → Type 0)
    (R : C → ℕ → ℕ → Result (Option (List ℕ)) CableFault → C → Type 0) where
  and_one : (at : ℕ) (ss : List (Step A)) (s : Step A) (d : Driving A) (c : C) (mid : Driving A) (between : C)
      (d' : Driving A) (c' : C) → Runs S R at ss d c mid between → Drives S R (at + length ss) s mid between d' c'
      → Runs S R at (ss ++ s ∷ []) d c d' c'
  and_one at [] s d c mid between d' c' run last =
      let here : at + 0 ≡ at = omega arith in
      let from_d : Drives S R (at + 0) s d c d' c' =
      subst (λ b. Drives S R (at + 0) s d b d' c') run.1 (subst (λ m. Drives S R (at + 0) s m between d' c') run.0 last)
      in
      (d', c', subst (λ i. Drives S R i s d c d' c') here from_d, (refl, refl))
  and_one at (x ∷ ss) s d c mid between d' c' run last =
      let there : at + suc (length ss) ≡ at + 1 + length ss = omega arith in
      let later = subst (λ i. Drives S R i s mid between d' c') there last in
      (run.0, run.1, run.2, and_one (at + 1) ss s run.0 run.1 mid between d' c' run.3 later)

  -- the step at a place follows those before it
  pub next_driven : (steps : List (Step A)) (at : ℕ) (s : Step A) (d : Driving A) (c : C) (mid : Driving A)
      (between : C) (d' : Driving A) (c' : C) → at < length steps → s ≡ get_or steps at s →
      Runs S R 0 (take at steps) d c mid between → Drives S R at s mid between d' c'
      → Runs S R 0 (take (at + 1) steps) d c d' c'
  next_driven steps at s d c mid between d' c' within is run last =
      let place : at ≡ 0 + length (take at steps) = omega (arith, length-take at steps) in
      let more : take (at + 1) steps ≡ take at steps ++ s ∷ [] =
      take_more steps at s within ∙ ap (λ x. take at steps ++ x ∷ []) (sym is) in
      subst (λ l. Runs S R 0 l d c d' c') (sym more)
      (and_one 0 (take at steps) s d c mid between d' c' run (subst (λ i. Drives S R i s mid between d' c') place last))

  -- a cable that was not asked is left as it was
  pub left_alone : (o : Option (Step A)) (c : C) → IsLeft R o c c
  left_alone None c = refl
  left_alone (Some (Call k call)) c = refl
  left_alone (Some (Timer k timer)) c = refl
  left_alone (Some (Poll k)) c = inl refl

  pub left_at : (steps : List (Step A)) (at : ℕ) (s : Step A) (c c' : C) → at < length steps → s ≡ get_or steps at s
      → IsLeft R (Some s) c c' → IsLeft R (slice_get steps at) c c'
  left_at steps at s c c' within is left =
      subst (λ o. IsLeft R o c c') (sym (slice_get-get_or steps at s within ∙ ap (λ x. Some x) (sym is))) left

-- a test that all entries of a list pass is passed by the one at an index
pub all_pass : {X : Type 0} (p : X → Bool) (xs : List X) (i : ℕ) (x : X) → i < length xs → x ≡ get_or xs i x
    → list_all p xs ≡ true → p x ≡ true
all_pass p xs i x within is all = go (p (get_or xs i x)) refl
  where
    go : (b : Bool) → p (get_or xs i x) ≡ b → p x ≡ true
    go true h = ap p is ∙ h
    go false h = absurd (true≢false (sym all ∙ list_all_at p xs i x within h))
