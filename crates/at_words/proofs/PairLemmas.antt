-- Pairs of digits that are read side by side, and what the first of them spell.
use Rattle.std.proofs.Common.{◌≡◌, ◌<◌, ◌≤◌, ◌+◌, ◌*◌, ◌/◌, ◌%◌, ℕ, codes, if◌then◌else◌, List, length, take, drop}
use Rattle.std.proofs.Common.{slice_index, slice_set, Some, None, Ok, Err, Result, true, false, ◌⊎◌, inl, inr, max}
use Rattle.std.proofs.Common.{refl, ap, ◌∙◌, arith}
use Rattle.std.proofs.lemmas.List.Elements.{All-get_or}
use Rattle.std.specs.Result.{is_err, is_ok}
use Rattle.hex.specs.Hex.{decode_of, decode_pairs, hex_digit_value, is_hex_digit, pair_value}
use Rattle.hex.proofs.HexLemmas.{decode_of-even, decode_of-ok}
use Rattle.at_words.specs.Hexes.{IsHex}
use Rattle.hex.proofs.Pairs.{decode_done, decode_start, decode_step, prepend}

-- one of the digits is none
abbrev pub HasOther : List ℕ → Type 0
HasOther digits = (place : ℕ) × (place < length digits) × (hex_digit_value (slice_index digits place) ≡ None)

-- so many pairs are read, unless one of the digits is none
abbrev pub IsReadTo : List ℕ → List ℕ → ℕ → ℕ → Type 0
IsReadTo digits room place largest =
    (largest < 16
    → decode_pairs 0 digits ≡ prepend (take place room) (decode_pairs (2 * place) (drop (2 * place) digits)))
    × (15 < largest → HasOther digits)

pub none_read : (digits room : List ℕ) → IsReadTo digits room 0 0
none_read digits room = (λ low. decode_start digits room, λ high. absurd (omega (arith, high)))

-- a digit is read as it is, or is one of another kind
abbrev pub IsRead : ℕ → ℕ → Type 0
IsRead digit value =
    (value < 16 → hex_digit_value digit ≡ Some value) × (15 < value → hex_digit_value digit ≡ None)

pair_of : (high low a b place : ℕ) → hex_digit_value high ≡ Some a → hex_digit_value low ≡ Some b
    → pair_value high low place ≡ Ok (a * 16 + b)
pair_of high low a b place first second = rw (first, second) refl

-- what the largest of three says of each
highest : (a b c : ℕ) → (max (max a b) c < 16 → (a < 16) × (b < 16) × (c < 16))
    × (15 < max (max a b) c → (15 < a) ⊎ (15 < b) ⊎ (15 < c))
highest a b c = (λ low. (omega arith, omega arith, omega arith), λ high. grind (arith))

-- one pair more is read
pub read_more : (digits room : List ℕ) (place largest a b : ℕ) → 2 * place + 1 < length digits
    → place < length room → IsReadTo digits room place largest
    → IsRead (slice_index digits (2 * place)) a → IsRead (slice_index digits (2 * place + 1)) b
    → IsReadTo digits (slice_set room place (a % 16 * 16 + b % 16)) (place + 1) (max (max largest a) b)
read_more digits room place largest a b fits room_fits before first second =
    let bounds = highest largest a b in (
      λ under.
          let (la, aa, bb) = bounds.0 under in
          let high = slice_index digits (2 * place) in
          let low = slice_index digits (2 * place + 1) in
          let pair = pair_of high low a b (2 * place) (first.0 aa) (second.0 bb) in
          let value : a * 16 + b ≡ a % 16 * 16 + b % 16 = omega (arith, aa, bb) in
          decode_step digits room place (a % 16 * 16 + b % 16) fits room_fits (pair ∙ ap Ok value) (before.0 la),
      λ over. elim (bounds.1 over) [
        | inl there ↦ before.1 there
        | inr later ↦ elim later [
          | inl other ↦ (2 * place, omega (arith, fits), first.1 other)
          | inr other ↦ (2 * place + 1, fits, second.1 other)
        ]
      ],
    )

-- all pairs are read
pub read_whole : (digits room : List ℕ) (place largest : ℕ) → length digits / 2 ≡ length room
    → length digits % 2 ≡ 0 → length room ≤ place → IsReadTo digits room place largest → largest < 16
    → decode_of digits ≡ Ok room
read_whole digits room place largest half even end read low =
    decode_of-even digits even ∙ decode_done digits room place end (omega (arith, half, even, end)) (read.0 low)

-- what has another digit spells nothing
pub other_spells_none : (digits bytes : List ℕ) → HasOther digits → ¬ (decode_of digits ≡ Ok bytes)
other_spells_none digits bytes (place, fits, none) decoded =
    let (even, each, twice, bound) = decode_of-ok digits bytes decoded in
    let digit : is_hex_digit (slice_index digits place) ≡ true =
    All-get_or (λ d. is_hex_digit d ≡ true) digits place 0 fits each in
    cc (none, digit)

-- what is longer or shorter spells no such bytes
pub length_spells : (digits bytes : List ℕ) → decode_of digits ≡ Ok bytes
    → (length digits % 2 ≡ 0) × (length digits ≡ 2 * length bytes)
length_spells digits bytes decoded =
    let (even, each, twice, bound) = decode_of-ok digits bytes decoded in (even, twice)

-- what spells none of the bytes that have room, and is no dash, spells none at all
pub no_hex : (word room : List ℕ) → ¬ (word ≡ codes "-") → length room ≡ length word / 2
    → ((bytes : List ℕ) → length bytes ≡ length room → ¬ (decode_of word ≡ Ok bytes))
    → (bytes : List ℕ) → ¬ IsHex word bytes
no_hex word room no_dash fits never bytes (inl (dash, none)) = no_dash dash
no_hex word room no_dash fits never bytes (inr (some, decoded)) =
    let (even, twice) = length_spells word bytes decoded in
    never bytes (omega (arith, twice, fits)) decoded

-- a room that was made as long as this
pub long_room : {T E : Type 0} (r : Result T E) (n other long : ℕ) → long ≡ (if is_ok r then n else other)
    → false ≡ is_err r → long ≡ n
long_room (Ok done) n other long is none = is
long_room (Err e) n other long is some = absurd (cc (some))
