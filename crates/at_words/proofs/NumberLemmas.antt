-- A number that is read digit by digit and stops at the largest.
use Rattle.std.proofs.Common.{◌≡◌, ℕ, ◌+◌, ◌-◌, ◌*◌, ◌<◌, ◌≤◌, ◌↔◌, List, [], ◌∷◌, length, get_or, drop, refl, sym, ap}
use Rattle.std.proofs.Common.{◌∙◌, arith, min, add-one}
use Rattle.std.proofs.Math.Seq.{drop-cons}
use Rattle.std.proofs.Common.{drop_of_length-le}
use Rattle.std.proofs.lemmas.Str.{digit_value_digit}
use Rattle.std.specs.Char.{digit_value}
use Rattle.std.specs.Int.{IsInRange}
use Rattle.std.specs.Str.Parse.{AllDigits, digits_value_after, digits_value}

-- the largest that follows is the same, whether the number before it stops at the largest or not
saturates : (most a : ℕ) (cs : List ℕ) → min (digits_value_after 10 (min a most) cs) most
    ≡ min (digits_value_after 10 a cs) most
saturates most a [] = omega arith
saturates most a (c ∷ cs) =
    let first : min (min a most * 10 + digit_value c) most ≡ min (a * 10 + digit_value c) most = omega arith in
    sym (saturates most (min a most * 10 + digit_value c) cs) ∙ ap (λ n. min (digits_value_after 10 n cs) most) first
    ∙ saturates most (a * 10 + digit_value c) cs

-- n is the number after the bytes before i, stopped at the largest, and those are digits
pub record Reads (most : ℕ) (word : List ℕ) (i n : ℕ) : Type 0 where
  pub fits : n ≤ most
  pub all : AllDigits 10 (drop i word) ↔ AllDigits 10 word
  pub value : min (digits_value_after 10 n (drop i word)) most ≡ min (digits_value 10 word) most

split : (word : List ℕ) (i : ℕ) → i < length word → drop i word ≡ get_or word i 0 ∷ drop (i + 1) word
split word i lt = rw (add-one, drop-cons word i 0) refl

pub Reads-next : (most n n' : ℕ) (word : List ℕ) (i : ℕ) → i < length word → IsInRange 48 57 (get_or word i 0) → n'
    ≡ min (n * 10 + (get_or word i 0 - 48)) most →
    Reads most word i n → Reads most word (i + 1) n'
Reads-next most n n' word i lt digit next reads =
    let c = get_or word i 0 in
    let d : digit_value c ≡ c - 48 = omega (arith, digit_value_digit c digit) in
    let small : digit_value c < 10 = omega (arith, digit) in
    let all = rw (split word i lt) at reads.all in
    let value = rw (split word i lt) at reads.value in
    let same : n' ≡ min (n * 10 + digit_value c) most = omega arith in
    record {
      fits = omega arith;
      all = (λ p. all.0 (small, p), λ p. (all.1 p).1);
      value = ap (λ m. min (digits_value_after 10 m (drop (i + 1) word)) most) same
          ∙ saturates most (n * 10 + digit_value c) (drop (i + 1) word) ∙ value;
    }

pub Reads-last : (most n : ℕ) (word : List ℕ) (i : ℕ) → length word ≤ i → Reads most word i n → n
    ≡ min (digits_value 10 word) most
Reads-last most n word i past reads =
    let value = rw (drop_of_length-le word past) at reads.value in
    let same : n ≡ min n most = omega (arith, reads.fits) in
    same ∙ value

pub Reads-digits : (most n : ℕ) (word : List ℕ) (i : ℕ) → length word ≤ i → Reads most word i n → AllDigits 10 word
Reads-digits most n word i past reads = let all = rw (drop_of_length-le word past) at reads.all in all.0 tt
