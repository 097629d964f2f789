-- The bytes that a word spells, where there are to be four.
use Rattle.std.proofs.Common.{◌≡◌, ℕ, List, length, Ok, Err, None, Result, refl, sym, ap, ◌∙◌, arith}
use Rattle.std.specs.Prelude.{Option}
use Rattle.std.specs.Result.{result_ok}
use Rattle.hex.specs.Hex.{decode_of, decode_sized}
use Rattle.hex.specs.declared.error.FromHexError.{FromHexError}
use Rattle.hex.proofs.HexLemmas.{decode_of-ok, decode_sized-ok, decode_sized-twice}
use Rattle.at_words.specs.Hexes.{IsUser}
use Rattle.at_words.specs.Readings.{IsFound}

-- what can't be decoded into room for n bytes is no word of n bytes
pub refused : (word bytes : List ℕ) (n : ℕ) (r : Result (List ℕ) FromHexError) → r ≡ decode_sized word n → None
    ≡ result_ok r → decode_of word ≡ Ok bytes → ¬ (length bytes ≡ n)
refused word bytes n r sized fault decoded long =
    let (even, digits, twice, each) = decode_of-ok word bytes decoded in
    let ok : r ≡ Ok bytes = sized ∙ decode_sized-twice word n (omega (arith, long, twice)) ∙ decoded in
    cc (fault ∙ ap result_ok ok)

found_of : (word : List ℕ) (r : Result (List ℕ) FromHexError) → r ≡ decode_sized word 4
    → IsFound (result_ok r) (IsUser word)
found_of word (Ok user) sized =
    let eight = decode_sized-ok word 4 user (sym sized) in
    let decoded = sym (decode_sized-twice word 4 eight) ∙ sym sized in
    let (even, digits, twice, bytes) = decode_of-ok word user decoded in
    (decoded, omega (arith, eight, twice))
found_of word (Err e) sized = λ user (decoded, four). refused word user 4 (Err e) sized refl decoded four

pub user_found : (word : List ℕ) (r : Result (List ℕ) FromHexError) (o : Option (List ℕ)) → r ≡ decode_sized word 4 → o
    ≡ result_ok r → IsFound o (IsUser word)
user_found word r o sized value = rw value (found_of word r sized)

pub none_found : {T : Type 0} (o : Option T) (P : T → Type 0) → o ≡ None → ((x : T) → ¬ P x) → IsFound o P
none_found o P none nothing = rw none nothing
