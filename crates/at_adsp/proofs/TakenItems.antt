-- The items that an end takes of a segment are those whose numbers it wants.
use Rattle.std.proofs.Common.{◌≡◌, ℕ, zero, suc, ◌+◌, ◌-◌, ◌<◌, ◌≤◌, Bool, true, false, cond, List, [], ◌∷◌, Some, None}
use Rattle.std.proofs.Common.{arith, ap, refl, subst, sym, ◌∙◌}
use Rattle.std.specs.Prelude.{◌&&◌, drop, nat_le, nat_lt, take}
use Rattle.std.proofs.lemmas.Bool.{and_parts}
use Rattle.std.proofs.lemmas.Bool.Decides.{nat_tests}
use Rattle.at_adsp_end.specs.Ends.{EndState, free}
use Rattle.at_adsp_end.specs.Hearing.{rest, taken}
use Rattle.at_adsp_end.specs.Positions.{whole}
use Rattle.at_adsp_end.specs.declared.item.Item.{Item}
use Rattle.at_adsp.specs.Numbered.{numbered_within}

take_none : (n : ℕ) → ◌≡◌ {A = List Item} (take n []) []
take_none zero = refl
take_none (suc n) = refl

module _ (expected room : ℕ) where
  abbrev is_wanted : ℕ → Bool
  is_wanted number = nat_le expected number && nat_lt number (expected + room)

  none_past : (first : ℕ) (items : List Item) → expected + room ≤ first
      → numbered_within expected room first items ≡ []
  none_past first [] far = refl
  none_past first (item ∷ items) far = go (is_wanted first) refl (none_past (first + 1) items (omega (arith, far)))
    where
      go : (b : Bool) → is_wanted first ≡ b → numbered_within expected room (first + 1) items ≡ []
          → cond b (item ∷ numbered_within expected room (first + 1) items)
          (numbered_within expected room (first + 1) items) ≡ []
      go true is later =
          let near : nat_lt first (expected + room) ≡ true =
          (and_parts (nat_le expected first) (nat_lt first (expected + room)) is).1 in
          absurd (grind (arith, nat_tests, near, far))
      go false is later = later

  -- from the expected number on, as many as there is room for
  all_within : (k : ℕ) (items : List Item) → k ≤ room
      → numbered_within expected room (expected + k) items ≡ take (room - k) items
  all_within k [] few = sym (take_none (room - k))
  all_within k (item ∷ items) few =
      go (λ more. all_within (k + 1) items more) (nat_lt (expected + k) (expected + room)) refl
    where
      begun : nat_le expected (expected + k) ≡ true
      begun = grind (arith, nat_tests)

      go : (k + 1 ≤ room → numbered_within expected room (expected + (k + 1)) items ≡ take (room - (k + 1)) items)
          → (b : Bool) → nat_lt (expected + k) (expected + room) ≡ b
          → cond (is_wanted (expected + k)) (item ∷ numbered_within expected room (expected + k + 1) items)
          (numbered_within expected room (expected + k + 1) items) ≡ take (room - k) (item ∷ items)
      go later true is =
          let more : k + 1 ≤ room = grind (arith, nat_tests, is) in
          let left : suc (room - (k + 1)) ≡ room - k = omega (arith, more) in
          let next : expected + (k + 1) ≡ expected + k + 1 = omega arith in
          ap (λ b. cond b (item ∷ numbered_within expected room (expected + k + 1) items)
          (numbered_within expected room (expected + k + 1) items)) (λ i. begun i && is i)
          ∙ ap (λ l. item ∷ l)
          (subst (λ n. numbered_within expected room n items ≡ take (room - (k + 1)) items) next (later more))
          ∙ ap (λ n. take n (item ∷ items)) left
      go later false is =
          let full : room ≤ k = grind (arith, nat_tests, is) in
          let nothing : 0 ≡ room - k = omega (arith, full) in
          ap (λ b. cond b (item ∷ numbered_within expected room (expected + k + 1) items)
          (numbered_within expected room (expected + k + 1) items)) (λ i. begun i && is i)
          ∙ none_past (expected + k + 1) items (omega (arith, full))
          ∙ ap (λ n. take n (item ∷ items)) nothing

  -- items before the expected number are passed over
  from_expected : (d first : ℕ) (items : List Item) → first + d ≡ expected
      → numbered_within expected room first items ≡ take room (drop d items)
  from_expected zero first items is =
      let here : expected + 0 ≡ first = omega (arith, is) in
      let all : room - 0 ≡ room = omega arith in
      subst (λ n. numbered_within expected room n items ≡ take room items) here
      (all_within 0 items (omega arith) ∙ ap (λ n. take n items) all)
  from_expected (suc d) first [] is = sym (take_none room)
  from_expected (suc d) first (item ∷ items) is =
      let before : nat_le expected first ≡ false = grind (arith, nat_tests, is) in
      ap (λ b. cond (b && nat_lt first (expected + room)) (item ∷ numbered_within expected room (first + 1) items)
      (numbered_within expected room (first + 1) items)) before
      ∙ from_expected d (first + 1) items (omega (arith, is))

pub taken_by_number : (e : EndState) (first : ℕ) (items : List Item) → first ≤ e.receiver.received
    → taken e (rest items (whole.ahead first e.receiver.received))
    ≡ numbered_within e.receiver.received (free e) first items
taken_by_number e first items begun =
    let near : nat_le first e.receiver.received ≡ true = grind (arith, nat_tests, begun) in
    ap (λ b. taken e (rest items (cond b (Some (e.receiver.received - first)) None))) near
    ∙ sym (from_expected e.receiver.received (free e) (e.receiver.received - first) first items (omega (arith, begun)))

pub none_beyond : (e : EndState) (first : ℕ) (items : List Item) → e.receiver.received < first
    → taken e (rest items (whole.ahead first e.receiver.received)) ≡ []
none_beyond e first items beyond =
    let far : nat_le first e.receiver.received ≡ false = grind (arith, nat_tests, beyond) in
    ap (λ b. taken e (rest items (cond b (Some (e.receiver.received - first)) None))) far ∙ take_none (free e)
