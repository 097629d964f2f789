-- The word of a packet: eight digits of user bytes, a colon, and data.
use Rattle.std.proofs.Common.{◌≡◌, ◌<◌, ℕ, List, ◌∷◌, ◌++◌, length, take, drop, sym, ap, subst, ◌∙◌, arith}
use Rattle.std.proofs.lemmas.List.{length-append, take-append-drop}
use Rattle.std.proofs.Math.Seq.{drop-append_seam, take-append_seam}
use Rattle.hex.proofs.HexLemmas.{decode_of-ok}
use Rattle.at_words.specs.Hexes.{IsUser}

eight : (word user : List ℕ) → IsUser word user → length word ≡ 8
eight word user (decoded, four) = let (even, digits, twice, bytes) = decode_of-ok word user decoded in
    omega (arith, twice, four)

-- the user bytes of a packet's word are its first eight bytes
pub user_part : (word front user bytes : List ℕ) → word ≡ front ++ 58 ∷ bytes → IsUser front user
    → (front ≡ take 8 word) × (58 ∷ bytes ≡ drop 8 word)
user_part word front user bytes is spells =
    let long = eight front user spells in (
      sym (ap (take 8) is ∙ ap (λ n. take n (front ++ 58 ∷ bytes)) (sym long) ∙ take-append_seam front (58 ∷ bytes)),
      sym (ap (drop 8) is ∙ ap (λ n. drop n (front ++ 58 ∷ bytes)) (sym long) ∙ drop-append_seam front (58 ∷ bytes)),
    )

-- a word of fewer bytes is none
pub too_short : (word front user bytes : List ℕ) → length word < 8 → word ≡ front ++ 58 ∷ bytes → ¬ IsUser front user
too_short word front user bytes few is spells =
    omega (arith, few, eight front user spells, ap length is, length-append front (58 ∷ bytes))

pub same_data : (word front other user more bytes left : List ℕ) → word ≡ front ++ 58 ∷ bytes → IsUser front user
    → word ≡ other ++ 58 ∷ left → IsUser other more → left ≡ bytes
same_data word front other user more bytes left one spells two spells_too =
    let same : 58 ∷ left ≡ 58 ∷ bytes = (user_part word other more left two spells_too).1
    ∙ sym (user_part word front user bytes one spells).1 in
    cc

-- no colon follows
pub no_colon : (word rest front user bytes : List ℕ) → rest ≡ drop 8 word → word ≡ front ++ 58 ∷ bytes
    → IsUser front user → ¬ (length rest ≡ 0)
no_colon word rest front user bytes back is spells none = let some : length (58 ∷ bytes)
    ≡ length rest = ap length ((user_part word front user bytes is spells).1 ∙ sym back) in omega (arith, some, none)

pub other_colon : (word rest left front user bytes : List ℕ) (colon : ℕ) → rest ≡ drop 8 word → rest ≡ colon ∷ left
    → word ≡ front ++ 58 ∷ bytes → IsUser front user → colon ≡ 58
other_colon word rest left front user bytes colon back parts is spells =
    let same : 58 ∷ bytes ≡ colon ∷ left = (user_part word front user bytes is spells).1 ∙ sym back ∙ parts in
    cc

pub no_user : (word eight front user bytes : List ℕ) → eight ≡ take 8 word → word ≡ front ++ 58 ∷ bytes
    → IsUser front user → ¬ ((u : List ℕ) → ¬ IsUser eight u)
no_user word eight front user bytes at is spells never =
    never user (subst (λ l. IsUser l user) ((user_part word front user bytes is spells).0 ∙ sym at) spells)

pub packet_parts : (word eight rest bytes : List ℕ) (colon : ℕ) → eight ≡ take 8 word → rest ≡ drop 8 word → rest
    ≡ colon ∷ bytes → colon ≡ 58 → word ≡ eight ++ 58 ∷ bytes
packet_parts word eight rest bytes colon front back parts is =
    sym (take-append-drop 8 word) ∙ (λ j. sym front j ++ (sym back ∙ parts ∙ ap (λ c. c ∷ bytes) is) j)
