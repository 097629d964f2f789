-- A word spells one name, whose bytes are bytes.
use Rattle.std.proofs.Common.{arith, length, ◌≡◌, ℕ, List, [], ◌∷◌, ◌++◌, inl, inr, refl, sym, ap}
use Rattle.std.proofs.Common.{subst, ◌∙◌}
use Rattle.at_words.proofs.Digits.{same_byte, two_digits}
use Rattle.hex.specs.Hex.{decode_of}
use Rattle.at_words.specs.Texts.{AreGlyphs, IsZoneName, SpellsFirst}
use Rattle.at_ddp.proofs.Octets.{append_parts}

same_first : (word rest left : List ℕ) (byte other : ℕ) → SpellsFirst word byte rest → SpellsFirst word other left
    → (byte ≡ other) × (rest ≡ left)
same_first word rest left byte other (p, is, inl (one, seen, apart)) (q, same, inl (two, shown, differs)) =
    let both : byte ∷ rest ≡ other ∷ left = ap (λ l. l ++ rest) (sym one) ∙ sym is ∙ same ∙ ap (λ l. l ++ left) two in
    (cc, cc)
same_first word rest left byte other (p, is, inl (one, seen, apart)) (q, same, inr (digits, two, decoded)) =
    let both : byte ∷ rest ≡ 37 ∷ (digits ++ left) = ap (λ l. l ++ rest) (sym one) ∙ sym is ∙ same
    ∙ ap (λ l. l ++ left) two in
    absurd (apart cc)
same_first word rest left byte other (p, is, inr (digits, one, decoded)) (q, same, inl (two, shown, differs)) =
    let both : 37 ∷ (digits ++ rest) ≡ other ∷ left = ap (λ l. l ++ rest) (sym one) ∙ sym is ∙ same
    ∙ ap (λ l. l ++ left) two in
    absurd (differs cc)
same_first word rest left byte other (p, is, inr (digits, one, decoded)) (q, same, inr (pair, two, told)) =
    let both : 37 ∷ (digits ++ rest) ≡ 37 ∷ (pair ++ left) = ap (λ l. l ++ rest) (sym one) ∙ sym is ∙ same
    ∙ ap (λ l. l ++ left) two in
    let tail : digits ++ rest ≡ pair ++ left = cc in
    let parts = append_parts digits pair rest left (two_digits digits byte decoded ∙ sym (two_digits pair other told)) tail in
    (same_byte byte other (sym decoded ∙ ap decode_of parts.0 ∙ told), parts.1)

none_spelled : (word rest : List ℕ) (byte : ℕ) → word ≡ [] → ¬ SpellsFirst word byte rest
none_spelled word rest byte none (p, is, inl (one, seen, apart)) = cc (sym none ∙ is ∙ ap (λ l. l ++ rest) one)
none_spelled word rest byte none (p, is, inr (digits, one, decoded)) = cc (sym none ∙ is ∙ ap (λ l. l ++ rest) one)

same_text : (word a b : List ℕ) → AreGlyphs word a → AreGlyphs word b → a ≡ b
same_text word [] [] h g = refl
same_text word [] (y ∷ b) h (left, second, more) = absurd (none_spelled word left y h second)
same_text word (x ∷ a) [] (rest, first, are) g = absurd (none_spelled word rest x g first)
same_text word (x ∷ a) (y ∷ b) (rest, first, are) (left, second, more) =
    let same = same_first word rest left x y first second in
    let tail = same_text left a b (subst (λ l. AreGlyphs l a) same.1 are) more in
    λ i. same.0 i ∷ tail i

pub glyphs_of : (word name : List ℕ) → IsZoneName word name → AreGlyphs word name
glyphs_of word name ((inl (percent, none), few), some) = let over : length name
    ≡ 0 = ap length none in absurd (omega (arith, some, over))
glyphs_of word name ((inr are, few), some) = are

pub same_name : (word a b : List ℕ) → IsZoneName word a → IsZoneName word b → a ≡ b
same_name word a b h g = same_text word a b (glyphs_of word a h) (glyphs_of word b g)
