-- The first line of a text in memory, and what follows it.
use Rattle.std.proofs.Common.{◌≡◌, ℕ, zero, suc, ◌+◌, ◌<◌, Bool, List, [], ◌∷◌, length, take, drop}
use Rattle.std.proofs.Common.{Some, None, sym, ap, ◌∙◌, arith}
use Rattle.std.specs.Prelude.{◌-◌, ◌==◌, if◌then◌else◌, IfSome, Option}
use Rattle.std.proofs.lemmas.List.{length-drop, take_all}
use Rattle.memchr.specs.Find.{IsFirstByte}
use Rattle.at_schedule.specs.Schedules.{add_first, lines_in}
use Rattle.std.proofs.lemmas.Bool.{false_from_ne_true}

abbrev pub is_feed : ℕ → Bool
is_feed byte = byte == 10

-- the text ends its first line at this place
abbrev pub EndsAt : List ℕ → ℕ → Type 0
EndsAt text i = lines_in text ≡ take i text ∷ lines_in (drop (suc i) text)

ends_first : (text : List ℕ) (i : ℕ) → IsFirstByte is_feed text (Some i) → EndsAt text i
ends_first [] i h = let high = h.0.high in absurd (omega (arith, high))
ends_first (c ∷ text) zero h = ap (λ b. if b then [] ∷ lines_in text else add_first c (lines_in text)) h.1
ends_first (c ∷ text) (suc i) h =
    let bound = h.0.high in
    let later : IsFirstByte is_feed text (Some i) = (
      record {
        low = omega arith;
        high = omega (arith, bound);
        before = λ j low high. h.0.before (suc j) (omega arith) (omega (arith, high));
      },
      h.1,
    ) in
    ap (λ b. if b then [] ∷ lines_in text else add_first c (lines_in text))
    (false_from_ne_true (is_feed c) (h.0.before 0 (omega arith) (omega arith)))
    ∙ ap (add_first c) (ends_first text i later)

pub within : (text : List ℕ) (r : Option ℕ) → IsFirstByte is_feed text r → IfSome r (λ end. end < length text)
within text None h = tt
within text (Some i) h = h.0.high

-- what stands before the first line feed, and what stands after it
pub cut_at : (text : List ℕ) (i : ℕ) → IsFirstByte is_feed text (Some i)
    → lines_in text ≡ take i text ∷ lines_in (take (length text - (i + 1)) (drop (i + 1) text))
cut_at text i h =
    let next : suc i ≡ i + 1 = omega arith in
    let later = drop (i + 1) text in
    ends_first text i h ∙ ap (λ n. take i text ∷ lines_in (drop n text)) next
    ∙ ap (λ l. take i text ∷ lines_in l)
    (sym (take_all (length text - (i + 1)) later (omega (arith, length-drop (i + 1) text))))

-- a text without a line feed is one line
one_line : (c : ℕ) (text : List ℕ) → IsFirstByte is_feed (c ∷ text) None → lines_in (c ∷ text) ≡ (c ∷ text) ∷ []
one_line c [] h = ap (λ b. if b then [] ∷ [] else add_first c []) (false_from_ne_true (is_feed c) (h 0 (omega arith)
    (omega arith)))
one_line c (d ∷ text) h =
    ap (λ b. if b then [] ∷ lines_in (d ∷ text) else add_first c (lines_in (d ∷ text)))
    (false_from_ne_true (is_feed c) (h 0 (omega arith) (omega arith)))
    ∙ ap (add_first c) (one_line d text (λ k low high. h (suc k) (omega arith) (omega (arith, high))))

pub uncut : (text : List ℕ) → 0 < length text → IsFirstByte is_feed text None → lines_in text ≡ text ∷ []
uncut [] some h = absurd (omega (arith, some))
uncut (c ∷ text) some h = one_line c text h
