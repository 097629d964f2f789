-- Numbers that are drawn: what is drawn is free, and each number that is tried in vain is in use.
use Rattle.std.proofs.Common.{◌≡◌, ℕ, zero, suc, ◌+◌, ◌-◌, ◌%◌, ◌<◌, ◌≤◌, Bool, true, false, cond, List, length, Option}
use Rattle.std.proofs.Common.{Some, None, IsSome, refl, sym, subst, ◌∙◌, arith}
use Rattle.std.specs.Prelude.{◌==◌}
use Rattle.std.specs.List.{list_any}
use Rattle.std.proofs.lemmas.Bool.{eqb-true, ne_eqb}
use Rattle.at_ddp.specs.Numbers.{first_free}
use Rattle.at_ddp.proofs.CountLemmas.{tests_in_use}

pub first_free-step : {N : Type 0} (following : N → N) (in_use : N → Bool) (tries : ℕ) (first : N) (b : Bool)
    → (tries ≡ 0 → ⊥) → in_use first ≡ b
    → first_free following in_use tries first
    ≡ cond b (first_free following in_use (tries - 1) (following first)) (Some first)
first_free-step following in_use zero first b some is = absurd (some refl)
first_free-step following in_use (suc tries) first b some is =
    let less : suc tries - 1 ≡ tries = omega arith in
    rw (is, less) refl

-- what is drawn is free, and in range if the first number is and what follows a number in range
pub is_free : (following : ℕ → ℕ) (in_use : ℕ → Bool) (IsNumber : ℕ → Type 0)
    → ((n : ℕ) → IsNumber n → IsNumber (following n)) → (tries first n : ℕ) → IsNumber first
    → first_free following in_use tries first ≡ Some n → IsNumber n × (in_use n ≡ false)
is_free following in_use IsNumber goes_on zero first n is h = absurd (cc)
is_free following in_use IsNumber goes_on (suc tries) first n is h =
    go (λ g. is_free following in_use IsNumber goes_on tries (following first) n (goes_on first is) g) (in_use first)
    refl h
  where
    go : (first_free following in_use tries (following first) ≡ Some n → IsNumber n × (in_use n ≡ false)) → (b : Bool)
        → in_use first ≡ b → cond b (first_free following in_use tries (following first)) (Some first) ≡ Some n
        → IsNumber n × (in_use n ≡ false)
    go ih true used g = ih g
    go ih false free g =
        let same : first ≡ n = cc in
        (subst IsNumber same is, subst (λ m. in_use m ≡ false) same free)

-- ---- numbers that go round

-- the number so many after another, and how many differ before they come round
pub record GoesRound (following : ℕ → ℕ) (count : ℕ) : Type 0 where
  pub nth : ℕ → ℕ → ℕ
  pub here : (n : ℕ) → nth n 0 ≡ n
  pub next : (n k : ℕ) → nth (following n) k ≡ nth n (suc k)
  pub differ : (n i k : ℕ) → i < k → k < count → nth n i ≡ nth n k → ⊥

module _ (following : ℕ → ℕ) (count : ℕ) (round : GoesRound following count) where
  -- each number that is tried in vain is in use
  all_used : (in_use : ℕ → Bool) (tries first : ℕ) → first_free following in_use tries first ≡ None → (i : ℕ)
      → i < tries → in_use (round.nth first i) ≡ true
  all_used in_use zero first none i lt = absurd (omega (arith, lt))
  all_used in_use (suc tries) first none i lt =
      go (λ g k h. all_used in_use tries (following first) g k h) (in_use first) refl none i lt
    where
      go : (first_free following in_use tries (following first) ≡ None → (k : ℕ) → k < tries
          → in_use (round.nth (following first) k) ≡ true) → (b : Bool) → in_use first ≡ b
          → cond b (first_free following in_use tries (following first)) (Some first) ≡ None → (i : ℕ)
          → i < suc tries → in_use (round.nth first i) ≡ true
      go ih false is g k h = absurd cc
      go ih true is g zero h = subst (λ n. in_use n ≡ true) (sym (round.here first)) is
      go ih true is g (suc k) h =
          subst (λ n. in_use n ≡ true) (round.next first k) (ih g k (omega (arith, h)))

  -- so there are as many entries as tries
  pub below_tries : {X : Type 0} (number : X → ℕ) (tries first : ℕ) (xs : List X) → tries ≤ count
      → first_free following (λ n. list_any (λ x. number x == n) xs) tries first ≡ None → tries ≤ length xs
  below_tries {X} number tries first xs few none =
      tests_in_use (λ i x. number x == round.nth first i) count (λ m n x lt within h. apart m n x lt within h) tries xs
      few (all_used (λ n. list_any (λ x. number x == n) xs) tries first none)
    where
      apart : (m n : ℕ) (x : X) → m < n → n < count → (number x == round.nth first n) ≡ true
          → (number x == round.nth first m) ≡ false
      apart m n x lt within h =
          ne_eqb (number x) (round.nth first m)
          (λ e. round.differ first m n lt within (sym e ∙ eqb-true (number x) (round.nth first n) h))

  -- a number is left if there are fewer entries than tries
  pub one_is_left : {X : Type 0} (number : X → ℕ) (tries first : ℕ) (xs : List X) → tries ≤ count → length xs < tries
      → IsSome (first_free following (λ n. list_any (λ x. number x == n) xs) tries first)
  one_is_left {X} number tries first xs few more =
      go (first_free following (λ n. list_any (λ x. number x == n) xs) tries first) refl
    where
      go : (o : Option ℕ) → first_free following (λ n. list_any (λ x. number x == n) xs) tries first ≡ o → IsSome o
      go (Some n) e = refl
      go None e = absurd (omega (arith, more, below_tries number tries first xs few e))

-- ---- numbers of one byte, of two, and of two without 0

nth_in_8 : ℕ → ℕ → ℕ
nth_in_8 n zero = n
nth_in_8 n (suc k) = (n + suc k) % 256

pub round_8 : GoesRound (λ n. (n + 1) % 256) 256
unfolding nth_in_8
round_8 = record { nth = nth_in_8; here = λ n. refl; next = next; differ = differ }
  where
    next : (n k : ℕ) → nth_in_8 ((n + 1) % 256) k ≡ nth_in_8 n (suc k)
    next n zero = refl
    next n (suc k) = omega arith

    differ : (n i k : ℕ) → i < k → k < 256 → nth_in_8 n i ≡ nth_in_8 n k → ⊥
    differ n i zero lt within e = omega (arith, lt)
    differ n zero (suc k) lt within e = omega (arith, within, e)
    differ n (suc i) (suc k) lt within e = omega (arith, lt, within, e)

nth_in_16 : ℕ → ℕ → ℕ
nth_in_16 n zero = n
nth_in_16 n (suc k) = (n + suc k) % 65536

pub round_16 : GoesRound (λ n. (n + 1) % 65536) 65536
unfolding nth_in_16
round_16 = record { nth = nth_in_16; here = λ n. refl; next = next; differ = differ }
  where
    next : (n k : ℕ) → nth_in_16 ((n + 1) % 65536) k ≡ nth_in_16 n (suc k)
    next n zero = refl
    next n (suc k) = omega arith

    differ : (n i k : ℕ) → i < k → k < 65536 → nth_in_16 n i ≡ nth_in_16 n k → ⊥
    differ n i zero lt within e = omega (arith, lt)
    differ n zero (suc k) lt within e = omega (arith, within, e)
    differ n (suc i) (suc k) lt within e = omega (arith, lt, within, e)

nth_without_0 : ℕ → ℕ → ℕ
nth_without_0 n zero = n
nth_without_0 n (suc k) = (n + k) % 65535 + 1

pub round_without_0 : GoesRound (λ n. n % 65535 + 1) 65535
unfolding nth_without_0
round_without_0 = record { nth = nth_without_0; here = λ n. refl; next = next; differ = differ }
  where
    next : (n k : ℕ) → nth_without_0 (n % 65535 + 1) k ≡ nth_without_0 n (suc k)
    next n zero = let none : n + 0 ≡ n = omega arith in rw none refl
    next n (suc k) = omega arith

    differ : (n i k : ℕ) → i < k → k < 65535 → nth_without_0 n i ≡ nth_without_0 n k → ⊥
    differ n i zero lt within e = omega (arith, lt)
    differ n zero (suc k) lt within e = omega (arith, within, e)
    differ n (suc i) (suc k) lt within e = omega (arith, lt, within, e)
