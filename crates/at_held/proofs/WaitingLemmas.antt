-- What waits, in an earlier list of which some are taken and in a later one.
use Rattle.std.proofs.Common.{◌≡◌, ◌∙◌, ◌+◌, ◌<◌, ◌≤◌, ◌∷◌, ◌++◌, [], ℕ, List, drop, length, Some, suc, zero, sym, ap}
use Rattle.std.proofs.Common.{arith, refl, subst}
use Rattle.std.proofs.lemmas.List.{drop-append-le, drop-drop, length-drop}
use Rattle.std.specs.Prelude.{slice_get}
use Rattle.at_ddp.specs.Outbox.{Posted}
use Rattle.at_held.specs.Waiting.{FreesTaken}

first_of : (sent : List Posted) (taken : ℕ) (p : Posted) → slice_get sent taken ≡ Some p
    → drop taken sent ≡ p ∷ drop 1 (drop taken sent)
first_of [] taken p there = absurd (cc)
first_of (q ∷ sent) zero p there = let same : q ≡ p = cc in ap (λ x. x ∷ sent) same
first_of (q ∷ sent) (suc taken) p there = first_of sent taken p there

-- the first of those that wait stands at the place
pub first_is : (sent : List Posted) (taken n : ℕ) (bs : List ℕ)
    → (p : Posted) × (slice_get sent taken ≡ Some p) × (n ≡ p.node)
    → (p : Posted) × (slice_get sent taken ≡ Some p) × (bs ≡ p.bytes)
    → drop taken sent ≡ record { node = n; bytes = bs } ∷ drop 1 (drop taken sent)
first_is sent taken n bs h g =
    let one = h.1 in let other = g.1 in let same : h.0 ≡ g.0 = cc in
    let parts : Posted.bytes h.0 ≡ bs = ap (λ (p : Posted). p.bytes) same ∙ sym g.2 in
    first_of sent taken h.0 h.1
    ∙ (λ j. record { node = sym h.2 j; bytes = parts j } ∷ drop 1 (drop taken sent))

module _ (earlier : List Posted) (taken : ℕ) (later : List Posted) where
  -- those behind the next place, if there are some of the earlier list
  pub behind : taken + 1 ≤ length earlier
      → drop (taken + 1) earlier ++ later ≡ drop 1 (drop taken earlier ++ later)
  behind some =
      let one : 1 ≤ length (drop taken earlier) = omega (arith, some, length-drop taken earlier) in
      ap (λ l. l ++ later) (sym (drop-drop 1 taken earlier)) ∙ sym (drop-append-le 1 (drop taken earlier) later one)

  -- nothing waits if none of the earlier list does
  pub none_waits : taken ≤ length earlier → FreesTaken taken (length earlier) later → length earlier ≤ taken
      → later ≡ []
  none_waits within frees all = frees.none_wait (go (length earlier) within (frees.some_wait) all)
    where
      go : (n : ℕ) → taken ≤ n → (0 < n → taken < n) → n ≤ taken → n ≡ 0
      go zero le some all = refl
      go (suc n) le some all = absurd (omega (arith, some (omega arith), all))

rest_waits : (first later : List Posted) → length first ≤ 1 → 0 < length (first ++ later)
    → (length first ≡ 0 → later ≡ []) → drop 1 (first ++ later) ≡ later
rest_waits [] later few some none = absurd (omega (arith, subst (λ l. 0 < length l) (none refl) some))
rest_waits (x ∷ []) later few some none = refl
rest_waits (x ∷ y ∷ xs) later few some none = absurd (omega (arith, few))

-- the later list waits, once the last of the earlier one is taken
pub turned : (earlier : List Posted) (taken : ℕ) (later : List Posted) → taken ≤ length earlier
    → FreesTaken taken (length earlier) later → length earlier ≤ taken + 1
    → 0 < length (drop taken earlier ++ later) → drop 1 (drop taken earlier ++ later) ≡ later
turned earlier taken later within frees few some =
    let left = length-drop taken earlier in
    rest_waits (drop taken earlier) later (omega (arith, left, few)) some
    (λ none. none_waits earlier taken later within frees (omega (arith, left, none)))
