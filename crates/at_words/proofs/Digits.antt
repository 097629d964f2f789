-- A byte as two hexadecimal digits.
use Rattle.std.proofs.Common.{◌≡◌, ℕ, List, [], ◌∷◌, length, Result, Ok, arith}
use Rattle.hex.specs.Hex.{decode_of}
use Rattle.hex.specs.declared.error.FromHexError.{FromHexError}
use Rattle.hex.proofs.HexLemmas.{decode_of-ok}

abbrev pub one_byte : ℕ → Result (List ℕ) FromHexError
one_byte byte = Ok (byte ∷ [])

pub same_byte : (byte other : ℕ) → one_byte byte ≡ one_byte other → byte ≡ other
same_byte byte other same = cc

pub two_digits : (digits : List ℕ) (byte : ℕ) → decode_of digits ≡ Ok (byte ∷ []) → length digits ≡ 2
two_digits digits byte decoded =
    let (even, each, twice, bytes) = decode_of-ok digits (byte ∷ []) decoded in omega (arith, twice)
