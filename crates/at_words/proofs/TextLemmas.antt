-- The bytes of a text, one after the other.
use Rattle.std.proofs.Common.{arith, length, ◌≡◌, ◌≤◌, ◌<◌, ℕ, true, false, List, [], ◌∷◌, ◌++◌, ◌+◌, Bool, Result, Ok}
use Rattle.std.proofs.Common.{Err, OnOk, IsSome, ◌↔◌, inl, inr, refl, sym, ap, subst, ◌∙◌, take, drop, append-nil}
use Rattle.std.proofs.Common.{append_assoc}
use Rattle.std.proofs.lemmas.List.{length-append, length-take, take-append-drop, nil_from_length}
use Rattle.std.specs.Char.{is_ascii_graphic}
use Rattle.std.proofs.lemmas.Bool.{eq-eqb, eqb-true}
use Rattle.std.specs.Prelude.{◌≢◌, ◌==◌, IfSome, Option, Some, None, codes}
use Rattle.std.specs.Result.{result_ok}
use Rattle.at_words.proofs.Digits.{same_byte, two_digits}
use Rattle.hex.specs.Hex.{decode_of}
use Rattle.at_words.specs.Readings.{IsFound}
use Rattle.at_words.specs.Texts.{AreGlyphs, IsText, SpellsFirst}

pub spelled_by_digits : (text rest digits after : List ℕ) (first byte : ℕ) → text ≡ first ∷ rest → first ≡ 37 → digits
    ≡ take 2 rest → after ≡ drop 2 rest → decode_of digits ≡ Ok (byte ∷ []) → SpellsFirst text byte after
spelled_by_digits text rest digits after first byte is percent front back decoded = (
  37 ∷ digits,
  is ∙ ap (λ c. c ∷ rest) percent ∙ ap (λ l. 37 ∷ l) (sym (take-append-drop 2 rest) ∙ (λ j. sym front j ++ sym back j)),
  inr (digits, refl, decoded),
)

pub spelled_as_it_is : (text rest : List ℕ) (byte : ℕ) → text ≡ byte ∷ rest → is_ascii_graphic byte ≡ true → byte ≢ 37
    → SpellsFirst text byte rest
spelled_as_it_is text rest byte is graphic apart = (byte ∷ [], is, inl (refl, graphic, apart))

front_of : (digits rest : List ℕ) → length digits ≡ 2 → take 2 (digits ++ rest) ≡ digits
front_of (a ∷ b ∷ []) rest two = refl
front_of [] rest two = absurd (omega (arith, two))
front_of (a ∷ []) rest two = absurd (omega (arith, two))
front_of (a ∷ b ∷ c ∷ digits) rest two = absurd (omega (arith, two))

back_of : (digits rest : List ℕ) → length digits ≡ 2 → drop 2 (digits ++ rest) ≡ rest
back_of (a ∷ b ∷ []) rest two = refl
back_of [] rest two = absurd (omega (arith, two))
back_of (a ∷ []) rest two = absurd (omega (arith, two))
back_of (a ∷ b ∷ c ∷ digits) rest two = absurd (omega (arith, two))

tail_of : List ℕ → List ℕ
tail_of [] = []
tail_of (c ∷ rest) = rest

head_of : List ℕ → ℕ
head_of [] = 0
head_of (c ∷ rest) = c

-- a text that begins with a percent sign is spelled by two digits after it
with_percent : (text rest : List ℕ) (byte : ℕ) → head_of text ≡ 37 → SpellsFirst text byte rest
    → (decode_of (take 2 (tail_of text)) ≡ Ok (byte ∷ [])) × (rest ≡ drop 2 (tail_of text))
unfolding head_of tail_of
with_percent text rest byte percent (piece, is, inl (same, graphic, apart)) =
    absurd (apart (ap head_of (sym (is ∙ ap (λ l. l ++ rest) same)) ∙ percent))
with_percent text rest byte percent (piece, is, inr (digits, same, decoded)) =
    let two = two_digits digits byte decoded in
    let left : tail_of text ≡ digits ++ rest = ap tail_of (is ∙ ap (λ l. l ++ rest) same) in (
      ap (λ l. decode_of (take 2 l)) left ∙ ap decode_of (front_of digits rest two) ∙ decoded,
      sym (back_of digits rest two) ∙ ap (drop 2) (sym left),
    )

-- any other is spelled by its first byte
without_percent : (text rest : List ℕ) (byte : ℕ) → head_of text ≢ 37 → SpellsFirst text byte rest
    → (text ≡ byte ∷ rest) × (is_ascii_graphic byte ≡ true)
unfolding head_of
without_percent text rest byte other (piece, is, inl (same, graphic, apart)) = (is ∙ ap (λ l. l ++ rest) same, graphic)
without_percent text rest byte other (piece, is, inr (digits, same, decoded)) =
    absurd (other (ap head_of (is ∙ ap (λ l. l ++ rest) same)))

-- ---- why a text spells no byte

-- the digits after a percent sign are none, or too few
pub no_digits : (text rest : List ℕ) (first : ℕ) → text ≡ first ∷ rest → first ≡ 37
    → ((b : ℕ) → ¬ (decode_of (take 2 rest) ≡ Ok (b ∷ []))) → (byte : ℕ) (after : List ℕ)
    → ¬ SpellsFirst text byte after
unfolding head_of tail_of
no_digits text rest first is percent none byte after spelled =
    let said = with_percent text after byte (ap head_of is ∙ percent) spelled in
    none byte (ap (λ l. decode_of (take 2 (tail_of l))) (sym is) ∙ said.0)

pub too_few : (rest : List ℕ) → length rest < 2 → (b : ℕ) → ¬ (decode_of (take 2 rest) ≡ Ok (b ∷ []))
too_few rest few b decoded =
    let two = two_digits (take 2 rest) b decoded in
    omega (arith, two, length-take 2 rest)

pub nothing_spelled : (text : List ℕ) → text ≡ [] → (byte : ℕ) (after : List ℕ) → ¬ SpellsFirst text byte after
nothing_spelled text none byte after (piece, is, inl (same, graphic, apart)) =
    cc (sym none ∙ is ∙ ap (λ l. l ++ after) same)
nothing_spelled text none byte after (piece, is, inr (digits, same, decoded)) =
    cc (sym none ∙ is ∙ ap (λ l. l ++ after) same)

-- ---- one byte and one rest alone are spelled

unique_by : (b : Bool) (text rest after : List ℕ) (byte other : ℕ) → (head_of text == 37) ≡ b
    → SpellsFirst text byte rest → SpellsFirst text other after → (byte ≡ other) × (rest ≡ after)
unfolding head_of tail_of
unique_by true text rest after byte other is one two =
    let percent = eqb-true (head_of text) 37 is in
    let first = with_percent text rest byte percent one in
    let second = with_percent text after other percent two in
    (same_byte byte other (sym first.0 ∙ second.0), first.1 ∙ sym second.1)
unique_by false text rest after byte other is one two =
    let apart : head_of text ≢ 37 = λ same. cc (sym is ∙ eq-eqb (head_of text) 37 same) in
    let first = (without_percent text rest byte apart one).0 in
    let second = (without_percent text after other apart two).0 in
    (ap head_of (sym first ∙ second), ap tail_of (sym first ∙ second))

-- ---- what was read so far

-- the word before the rest spells these bytes, and no others
pub record Spells (word rest bytes : List ℕ) : Type 0 where
  pub follow : (more : List ℕ) → AreGlyphs rest more → AreGlyphs word (bytes ++ more)
  pub only : (text : List ℕ) → AreGlyphs word text → (more : List ℕ) × (text ≡ bytes ++ more) × AreGlyphs rest more

pub spells_none : (word : List ℕ) → Spells word word []
spells_none word = record { follow = λ more h. h; only = λ text h. (text, refl, h) }

more_by : (bytes rest after : List ℕ) (byte : ℕ) → 0 < length rest → SpellsFirst rest byte after → (text more : List ℕ)
    → text ≡ bytes ++ more → AreGlyphs rest more
    → (left : List ℕ) × (text ≡ (bytes ++ byte ∷ []) ++ left) × AreGlyphs after left
more_by bytes rest after byte some spelled text [] is h = let none : length rest
    ≡ 0 = ap length h in absurd (omega (arith, none))
more_by bytes rest after byte some spelled text (b ∷ more) is (left, first, are) =
    let same = unique_by (head_of rest == 37) rest after left byte b refl spelled first in (
      more,
      is ∙ ap (λ c. bytes ++ c ∷ more) (sym same.0) ∙ sym (append_assoc bytes (byte ∷ []) more),
      subst (λ l. AreGlyphs l more) (sym same.1) are,
    )

pub spells_more : (word rest after bytes all : List ℕ) (byte : ℕ) → 0 < length rest → Spells word rest bytes
    → SpellsFirst rest byte after → all ≡ bytes ++ byte ∷ [] → Spells word after all
spells_more word rest after bytes all byte some spells spelled is = subst (Spells word after) (sym is) (record {
  follow = λ more h. subst (AreGlyphs word) (sym (append_assoc bytes (byte ∷ []) more))
      (spells.follow (byte ∷ more) (after, spelled, h));
  only = λ text h. let (more, same, are) = spells.only text h in
      more_by bytes rest after byte some spelled text more same are;
})

pub spells_all : (word rest bytes : List ℕ) → Spells word rest bytes → rest ≡ [] → AreGlyphs word bytes
spells_all word rest bytes spells none = subst (AreGlyphs word) (append-nil bytes) (spells.follow [] none)

-- a text that goes on with what spells no byte is none
stops_by : (rest : List ℕ) → 0 < length rest → ((b : ℕ) (after : List ℕ) → ¬ SpellsFirst rest b after)
    → (more : List ℕ) → ¬ AreGlyphs rest more
stops_by rest some none [] h = let over : length rest ≡ 0 = ap length h in omega (arith, over)
stops_by rest some none (b ∷ more) (left, first, are) = none b left first

pub stops : (word rest bytes : List ℕ) → Spells word rest bytes → 0 < length rest
    → ((b : ℕ) (after : List ℕ) → ¬ SpellsFirst rest b after) → (text : List ℕ) → ¬ AreGlyphs word text
stops word rest bytes spells some none text h = let (more, same, are) = spells.only text h in
    stops_by rest some none more are

some_more : (rest more : List ℕ) → 0 < length rest → AreGlyphs rest more → 0 < length more
some_more rest [] some h = let over : length rest ≡ 0 = ap length h in absurd (omega (arith, over))
some_more rest (b ∷ more) some h = omega arith

-- a text that goes on after 32 bytes has more
pub too_long : (word rest bytes : List ℕ) → Spells word rest bytes → 0 < length rest → 32 ≤ length bytes
    → (text : List ℕ) → AreGlyphs word text → ¬ (length text < 33)
too_long word rest bytes spells some full text h fits =
    let (more, same, are) = spells.only text h in
    let long : length text ≡ length bytes + length more = ap length same ∙ length-append bytes more in
    omega (arith, long, some_more rest more some are)

-- ---- the empty text

pub none_left : (rest : List ℕ) → (length rest == 0) ≡ true → rest ≡ []
none_left rest h = nil_from_length rest (eqb-true (length rest) 0 h)

-- a percent sign alone spells no byte
pub percent_alone : (text : List ℕ) → ¬ ((AreGlyphs (codes "%") text) × (0 < length text))
unfolding head_of tail_of
percent_alone [] (h, some) = omega (arith, some)
percent_alone (b ∷ text) ((rest, first, are), some) =
    too_few [] (omega arith) b (with_percent (codes "%") rest b refl first).0

-- a word of the empty text is a word of no other
pub only_empty : (word name : List ℕ) → IsText word [] → IsText word name → ¬ (0 < length name)
only_empty word [] empty h some = omega (arith, some)
only_empty word (b ∷ name) (inl (percent, none), few) (inl (p, same), fits) some = let over : length (b ∷ name)
    ≡ 0 = ap length same in omega (arith, over)
only_empty word (b ∷ name) (inl (percent, none), few) (inr h, fits) some =
    percent_alone (b ∷ name) (subst (λ l. AreGlyphs l (b ∷ name)) percent h, some)
only_empty word (b ∷ name) (inr over, few) (inl (p, same), fits) some = let gone : length (b ∷ name)
    ≡ 0 = ap length same in omega (arith, gone)
only_empty word (b ∷ name) (inr over, few) (inr (rest, first, are), fits) some = nothing_spelled word over b rest first

-- ---- what a call told

pub of_ok : {T E : Type 0} (P : Type 0) (r : Result T E) (o : Option T) (x : T) → o ≡ result_ok r → o ≡ Some x
    → OnOk r P → P
of_ok P (Ok y) o x is some h = h
of_ok P (Err e) o x is some h = cc

pub text_found : (word bytes : List ℕ) (text : Option (List ℕ)) → AreGlyphs word bytes → length bytes ≤ 32
    → (IsSome text ↔ (length bytes ≤ 32)) → IfSome text (λ t. t ≡ bytes)
    → IsFound text (λ t. AreGlyphs word t × (length t < 33))
text_found word bytes (Some text) h few fits is = (subst (AreGlyphs word) (sym is) h, omega (arith, few, ap length is))
text_found word bytes None h few fits is = cc (fits.1 few)
