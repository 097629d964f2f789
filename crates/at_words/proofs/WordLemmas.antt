-- The first word of a line, and what it leaves.
use Rattle.std.proofs.Common.{◌≡◌, ◌≢◌, ◌⊎◌, inl, inr, ℕ, ◌+◌, ◌-◌, ◌<◌, ◌==◌, suc, not, Bool, true, false, cond}
use Rattle.std.proofs.Common.{List, None, zero}
use Rattle.std.proofs.Common.{[], ◌∷◌, length, filter, take, drop, Some, refl, sym, ap, subst, ◌∙◌, zero-add, arith}
use Rattle.std.specs.Prelude.{Option}
use Rattle.std.specs.Option.{unwrap_or}
use Rattle.std.specs.List.{onto_first, position_from, prefix_len, slice_split}
use Rattle.std.proofs.lemmas.List.{length-drop, nil_from_length, take_all}
use Rattle.std.proofs.lemmas.List.Splits.{slice_split-cons_no, slice_split-cons_yes}
use Rattle.std.proofs.lemmas.Bool.{eq-eqb, eqb-true, false_from_ne_true}
use Rattle.std.proofs.lemmas.Bool.Decides.{eqb_tells}
use Rattle.memchr.specs.Find.{IsFirstByte}
use Rattle.at_words.specs.Words.{has_bytes, is_no_space, is_space, words_of}

stops_at : (b : Bool) (k n m : ℕ) (r : Option ℕ) → unwrap_or r m ≡ k + 1 + n → unwrap_or (cond (not b) (Some k) r) m
    ≡ k + cond b (1 + n) 0
stops_at true k n m r h = h ∙ omega arith
stops_at false k n m r h = omega arith

fails_at : (p q : ℕ → Bool) → ((c : ℕ) → q c ≡ not (p c)) → (k : ℕ) (xs : List ℕ)
    → unwrap_or (position_from q k xs) (k + length xs) ≡ k + prefix_len p xs
fails_at p q is k [] = refl
fails_at p q is k (x ∷ xs) =
    let long : k + 1 + length xs ≡ k + length (x ∷ xs) = omega arith in
    let rest = fails_at p q is (k + 1) xs in
    ap (λ b. unwrap_or (cond b (Some k) (position_from q (k + 1) xs)) (k + length (x ∷ xs))) (is x)
    ∙ stops_at (p x) k (prefix_len p xs) (k + length (x ∷ xs)) (position_from q (k + 1) xs)
    (ap (unwrap_or (position_from q (k + 1) xs)) (sym long) ∙ rest)

-- the first byte that false_from_ne_true a test ends the front that passes it
pub first_at : (p q : ℕ → Bool) → ((c : ℕ) → q c ≡ not (p c)) → (xs : List ℕ)
    → unwrap_or (position_from q 0 xs) (length xs) ≡ prefix_len p xs
first_at p q is xs = ap (unwrap_or (position_from q 0 xs)) (sym (zero-add (length xs))) ∙ fails_at p q is 0 xs
    ∙ zero-add (prefix_len p xs)

abbrev moved : ℕ → Option ℕ → Option ℕ
moved i None = None
moved i (Some k) = Some (i + k)

-- the first byte that passes a test, by its place in a text that begins at a place
found_from : (test : ℕ → Bool) (i : ℕ) (xs : List ℕ) (r : Option ℕ) → IsFirstByte test xs r
    → position_from test i xs ≡ moved i r
found_from test i [] None h = refl
found_from test i [] (Some k) h = let high = h.0.high in absurd (omega (arith, high))
found_from test i (x ∷ xs) None h =
    ap (λ b. cond b (Some i) (position_from test (i + 1) xs)) (false_from_ne_true (test x) (h 0 (omega arith) (omega arith)))
    ∙ found_from test (i + 1) xs None (λ k low high. h (suc k) (omega arith) (omega (arith, high)))
found_from test i (x ∷ xs) (Some zero) h =
    ap (λ b. cond b (Some i) (position_from test (i + 1) xs)) h.1 ∙ ap Some (omega arith)
found_from test i (x ∷ xs) (Some (suc k)) h =
    let bound = h.0.high in
    let later : IsFirstByte test xs (Some k) = (
      record {
        low = omega arith;
        high = omega (arith, bound);
        before = λ j low high. h.0.before (suc j) (omega arith) (omega (arith, high));
      },
      h.1,
    ) in
    ap (λ b. cond b (Some i) (position_from test (i + 1) xs))
    (false_from_ne_true (test x) (h.0.before 0 (omega arith) (omega arith)))
    ∙ found_from test (i + 1) xs (Some k) later ∙ ap Some (omega arith)

same_place : (r : Option ℕ) → moved 0 r ≡ r
same_place None = refl
same_place (Some k) = ap Some (zero-add k)

pub first_found : (test : ℕ → Bool) (xs : List ℕ) (r : Option ℕ) → IsFirstByte test xs r → r ≡ position_from test 0 xs
first_found test xs r h = sym (found_from test 0 xs r h ∙ same_place r)

pub not_not : (b : Bool) → b ≡ not (not b)
not_not true = refl
not_not false = refl

-- after its spaces a text is over, or goes on with another byte
abbrev pub Begins : List ℕ → Type 0
Begins [] = Unit {0}
Begins (c ∷ rest) = (c == 32) ≡ false

begins_by : (b : Bool) (x : ℕ) (xs : List ℕ) → (x == 32) ≡ b → Begins (drop (prefix_len is_space xs) xs)
    → Begins (drop (cond b (1 + prefix_len is_space xs) 0) (x ∷ xs))
begins_by true x xs is h = let e : 1 + prefix_len is_space xs ≡ suc (prefix_len is_space xs) = omega arith in
    subst (λ n. Begins (drop n (x ∷ xs))) (sym e) h
begins_by false x xs is h = is

begins : (xs : List ℕ) → Begins (drop (prefix_len is_space xs) xs)
begins [] = tt
begins (x ∷ xs) = begins_by (x == 32) x xs refl (begins xs)

skips_by : (b : Bool) (n x : ℕ) (xs : List ℕ) → (x == 32) ≡ b → words_of xs ≡ words_of (drop n xs) → words_of (x ∷ xs)
    ≡ words_of (drop (cond b (1 + n) 0) (x ∷ xs))
skips_by true n x xs is h =
    let e : 1 + n ≡ suc n = omega arith in
    ap (filter has_bytes) (slice_split-cons_yes is_space x xs is) ∙ h ∙ ap (λ m. words_of (drop m (x ∷ xs))) (sym e)
skips_by false n x xs is h = refl

-- the spaces at the front of a line are in none of its words
pub skips : (xs : List ℕ) → words_of xs ≡ words_of (drop (prefix_len is_space xs) xs)
skips [] = refl
skips (x ∷ xs) = skips_by (x == 32) (prefix_len is_space xs) x xs refl (skips xs)

-- the first part of a line is its front of n bytes, and the other parts have the words of the rest
abbrev Parts : ℕ → List ℕ → Type 0
Parts n xs = (parts : List (List ℕ)) × (slice_split is_space xs ≡ take n xs ∷ parts)
    × (words_of (drop n xs) ≡ filter has_bytes parts)

parts_by : (b : Bool) (n x : ℕ) (xs : List ℕ) → (x == 32) ≡ b → Parts n xs → Parts (cond (not b) (1 + n) 0) (x ∷ xs)
parts_by true n x xs is h = (
  slice_split is_space xs,
  slice_split-cons_yes is_space x xs is,
  ap (filter has_bytes)
      (slice_split-cons_yes is_space x xs is),
)
parts_by false n x xs is (parts, split, same) =
    let e : 1 + n ≡ suc n = omega arith in
    subst (λ m. Parts m (x ∷ xs)) (sym e) (parts, slice_split-cons_no is_space x xs is ∙ ap (onto_first x) split, same)

parts_of : (xs : List ℕ) → Parts (prefix_len is_no_space xs) xs
parts_of [] = ([], refl, refl)
parts_of (x ∷ xs) = parts_by (x == 32) (prefix_len is_no_space xs) x xs refl (parts_of xs)

word_by : (b : Bool) (x : ℕ) (xs : List ℕ) → b ≡ false
    → 0 < length (take (cond (not b) (1 + prefix_len is_no_space xs) 0) (x ∷ xs))
word_by b x xs is =
    let e : 1 + prefix_len is_no_space xs ≡ suc (prefix_len is_no_space xs) = omega arith in
    let some : 0 < length (x ∷ take (prefix_len is_no_space xs) xs) = omega arith in
    subst (λ v. 0 < length (take (cond (not v) (1 + prefix_len is_no_space xs) 0) (x ∷ xs))) (sym is)
    (subst (λ n. 0 < length (take n (x ∷ xs))) (sym e) some)

some_word : (xs : List ℕ) → Begins xs → 0 < length xs → 0 < length (take (prefix_len is_no_space xs) xs)
some_word [] begin some = absurd (omega arith)
some_word (x ∷ xs) begin some = word_by (x == 32) x xs begin

no_zero : (n : ℕ) → 0 < n → (((n == 0) ≡ true) × (n ≡ 0)) ⊎ (((n == 0) ≡ false) × (n ≢ 0)) → (n == 0) ≡ false
no_zero n some (inl none) = absurd (omega (arith, none.1))
no_zero n some (inr other) = other.0

kept : (word : List ℕ) (parts : List (List ℕ)) → 0 < length word → filter has_bytes (word ∷ parts)
    ≡ word ∷ filter has_bytes parts
kept word parts some = rw (no_zero (length word) some (eqb_tells (length word) 0)) refl

first_of : (r : List ℕ) → Begins r → 0 < length r → words_of r
    ≡ take (prefix_len is_no_space r) r ∷ words_of (drop (prefix_len is_no_space r) r)
first_of r begin some =
    let (parts, split, same) = parts_of r in
    ap (filter has_bytes) split ∙ kept (take (prefix_len is_no_space r) r) parts (some_word r begin some)
    ∙ ap (λ ws. take (prefix_len is_no_space r) r ∷ ws) (sym same)

-- the words of a line are its first one and those of what it leaves
pub next_word : (xs : List ℕ) (s len : ℕ) (r word rest : List ℕ) → s ≡ prefix_len is_space xs → r ≡ drop s xs
    → 0 < length r → len ≡ prefix_len is_no_space r → word ≡ take len r → rest ≡ drop len r
    → words_of xs ≡ word ∷ words_of rest
next_word xs s len r word rest es er some el ew erest =
    let is : r ≡ drop (prefix_len is_space xs) xs = er ∙ ap (λ n. drop n xs) es in
    let word_is : word ≡ take (prefix_len is_no_space r) r = ew ∙ ap (λ n. take n r) el in
    let rest_is : rest ≡ drop (prefix_len is_no_space r) r = erest ∙ ap (λ n. drop n r) el in
    skips xs ∙ ap words_of (sym is) ∙ first_of r (subst Begins (sym is) (begins xs)) some
    ∙ (λ j. sym word_is j ∷ words_of (sym rest_is j))

-- a line whose spaces end with it has no words
pub no_words : (xs : List ℕ) (s : ℕ) (r : List ℕ) → s ≡ prefix_len is_space xs → r ≡ drop s xs → length r ≡ 0
    → words_of xs ≡ []
no_words xs s r es er none =
    let is : r ≡ drop (prefix_len is_space xs) xs = er ∙ ap (λ n. drop n xs) es in
    skips xs ∙ ap words_of (sym is ∙ nil_from_length r none)

-- all that stands from a place on
pub rest_from : (n : ℕ) (xs : List ℕ) → take (length xs - n) (drop n xs) ≡ drop n xs
rest_from n xs = take_all (length xs - n) (drop n xs) (omega (arith, length-drop n xs))

pub is_zero : (n : ℕ) (b : Bool) → b ≡ true → b ≡ (n == 0) → n ≡ 0
is_zero n b holds is = eqb-true n 0 (sym is ∙ holds)

pub is_some : (n : ℕ) (b : Bool) → b ≡ false → b ≡ (n == 0) → 0 < n
is_some n b false_from_ne_true is =
    let differs : n ≢ 0 = λ same. cc (eq-eqb n 0 same) in
    omega arith
