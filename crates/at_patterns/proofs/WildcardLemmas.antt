-- A wildcard stands for any bytes between what stands before it and what stands after it.
use Rattle.std.proofs.Common.{◌≡◌, ◌↔◌, ℕ, zero, suc, ◌+◌, ◌-◌, ◌≤◌, Bool, true, false, cond, List, [], ◌∷◌, ◌++◌}
use Rattle.std.proofs.Common.{length, take, drop, Some, None, refl, sym, ap, ◌∙◌, arith}
use Rattle.std.specs.Prelude.{◌&&◌, ◌||◌, ◌==◌, nat_le}
use Rattle.std.specs.List.{AllByRecursion, position_from}
use Rattle.std.proofs.lemmas.Bool.{and_parts, leb-true, le-leb}
use Rattle.std.proofs.lemmas.List.{drop-map, length-append, length-map, map-append}
use Rattle.std.proofs.lemmas.List.{take-append-drop, take-map}
use Rattle.std.proofs.lemmas.Slice.Eq.{bytes_eq-Decides}
use Rattle.std.proofs.Math.Seq.{drop-append-add, drop-append_seam, take-append_seam}
use Rattle.at_ddp.specs.Text.{capital, folded}
use Rattle.at_patterns.specs.Patterns.{is_any_text, is_between, is_wildcard, same_text, stands_around, stands_for}

abbrev NoWildcard : List ℕ → Type 0
NoWildcard text = AllByRecursion (λ byte. is_wildcard byte ≡ false) text

-- ---- the place of the first wildcard

first_at : (from : ℕ) (before after : List ℕ) → NoWildcard before
    → position_from is_wildcard from (before ++ 0xC5 ∷ after)
    ≡ Some (from + length before)
first_at from [] after none = ap Some (omega arith)
first_at from (b ∷ before) after none =
    ap (λ c. cond c (Some from) (position_from is_wildcard (from + 1) (before ++ 0xC5 ∷ after))) none.0
    ∙ first_at (from + 1) before after none.1 ∙ ap Some (omega arith)

none_at : (from : ℕ) (text : List ℕ) → NoWildcard text → position_from is_wildcard from text ≡ None
none_at from [] none = refl
none_at from (b ∷ text) none =
    ap (λ c. cond c (Some from) (position_from is_wildcard (from + 1) text)) none.0 ∙ none_at (from + 1) text none.1

-- ---- what stands between

abbrev Between : List ℕ → List ℕ → List ℕ → Type 0
Between before after text = (any : List ℕ) × (folded text ≡ folded before ++ (any ++ folded after))

same_is : (a b : List ℕ) → same_text a b ≡ true → folded a ≡ folded b
same_is a b h = (bytes_eq-Decides (folded a) (folded b)).0 h

is_same : (a b : List ℕ) → folded a ≡ folded b → same_text a b ≡ true
is_same a b h = (bytes_eq-Decides (folded a) (folded b)).1 h

none_left : (k : ℕ) → drop {A = ℕ} k [] ≡ []
none_left zero = refl
none_left (suc k) = refl

drops : (a b : ℕ) (xs : List ℕ) → drop a (drop b xs) ≡ drop (a + b) xs
drops a zero xs = ap (λ k. drop k xs) (omega arith)
drops a (suc b) [] = none_left a ∙ sym (none_left (a + suc b))
drops a (suc b) (x ∷ xs) = let more : suc (a + b) ≡ a + suc b = omega arith in
    drops a b xs ∙ ap (λ k. drop k (x ∷ xs)) more

-- a text is its beginning, what is between, and its end
three_parts : (n m : ℕ) (text : List ℕ) → n ≤ m → text ≡ take n text ++ (take (m - n) (drop n text) ++ drop m text)
three_parts n m text le =
    let same : (m - n) + n ≡ m = omega (arith, le) in
    let end : drop (m - n) (drop n text) ≡ drop m text = drops (m - n) n text ∙ ap (λ k. drop k text) same in
    let rest : drop n text ≡ take (m - n) (drop n text) ++ drop m text =
    sym (take-append-drop (m - n) (drop n text)) ∙ ap (λ l. take (m - n) (drop n text) ++ l) end in
    sym (take-append-drop n text) ∙ ap (λ l. take n text ++ l) rest

between_is : (before after text : List ℕ) → is_between before after text ≡ true → Between before after text
between_is before after text h =
    let one = and_parts
    (nat_le (length before + length after) (length text) && same_text before (take (length before) text))
    (same_text after (drop (length text - length after) text)) h in
    let two = and_parts (nat_le (length before + length after) (length text))
    (same_text before (take (length before) text)) one.0 in
    let le = leb-true (length before + length after) (length text) two.0 in
    let n : ℕ = length before in
    let m : ℕ = length text - length after in
    let between : List ℕ = take (m - n) (drop n text) in (
      folded between,
      ap folded (three_parts (length before) (length text - length after) text (omega (arith, le)))
          ∙ map-append capital (take (length before) text) (between ++ drop (length text - length after) text)
          ∙ ap (λ l. folded (take (length before) text) ++ l)
          (map-append capital between (drop (length text - length after) text))
          ∙ (λ i. sym (same_is before (take (length before) text) two.1) i
          ++ (folded between ++ sym (same_is after (drop (length text - length after) text) one.1) i)),
    )

is_between_so : (before after text : List ℕ) → Between before after text → is_between before after text ≡ true
is_between_so before after text h =
    let any : List ℕ = h.0 in
    let same : folded text ≡ folded before ++ (h.0 ++ folded after) = h.1 in
    let whole = ap length same in
    let parts = length-append (folded before) (h.0 ++ folded after) in
    let rest = length-append h.0 (folded after) in
    let a = length-map before capital in
    let b = length-map after capital in
    let c = length-map text capital in
    let fits = le-leb (length before + length after) (length text) (omega (arith, whole, parts, rest, a, b, c)) in
    let front : folded before ≡ folded (take (length before) text) =
    sym (take-append_seam (folded before) (h.0 ++ folded after)) ∙ (λ i. take (a i) (sym same i))
    ∙ take-map capital (length before) text in
    let place : length (folded before) + length h.0 ≡ length text - length after =
    omega (arith, whole, parts, rest, a, b, c) in
    let back : folded after ≡ folded (drop (length text - length after) text) =
    sym (drop-append_seam h.0 (folded after))
    ∙ sym (drop-append-add (folded before) (h.0 ++ folded after) (length h.0))
    ∙ (λ i. drop (place i) (sym same i)) ∙ drop-map capital (length text - length after) text in
    (λ i. fits i && is_same before (take (length before) text) front i
    && is_same after (drop (length text - length after) text) back i)

-- ---- the law

-- a pattern with a wildcard is not `=`
not_any : (before after : List ℕ) → is_any_text (before ++ 0xC5 ∷ after) ≡ false
not_any [] after = refl
not_any (b ∷ []) after = other (b == 0x3D)
  where
    other : (c : Bool) → (c && false) ≡ false
    other true = refl
    other false = refl
not_any (b ∷ c ∷ before) after = other (b == 0x3D)
  where
    other : (c : Bool) → (c && false) ≡ false
    other true = refl
    other false = refl

stands_between : (before after text : List ℕ) → NoWildcard before → stands_for (before ++ 0xC5 ∷ after) text
    ≡ is_between before after text
stands_between before after text none =
    ap (λ c. c || stands_around (position_from is_wildcard 0 (before ++ 0xC5 ∷ after)) (before ++ 0xC5 ∷ after) text)
    (not_any before after)
    ∙ ap (λ o. stands_around o (before ++ 0xC5 ∷ after) text) (first_at 0 before after none ∙ ap Some (omega arith))
    ∙ (λ i. is_between (take-append_seam before (0xC5 ∷ after) i) (drop-append-add before (0xC5 ∷ after) 1 i) text)

pub wild : (before after text : List ℕ) → AllByRecursion (λ byte. is_wildcard byte ≡ false) before
    → (stands_for (before ++ 0xC5 ∷ after) text ≡ true)
    ↔ ((any : List ℕ) × (folded text ≡ folded before ++ (any ++ folded after)))
wild before after text none = (
  (λ h. between_is before after text (sym (stands_between before after text none) ∙ h)),
  (λ h. stands_between before after text none ∙ is_between_so before after text h),
)

pub plain : (pattern text : List ℕ) → AllByRecursion (λ byte. is_wildcard byte ≡ false) pattern
    → is_any_text pattern ≡ false → stands_for pattern text ≡ same_text pattern text
plain pattern text none other =
    (λ i. other i || stands_around (none_at 0 pattern none i) pattern text)
