-- Texts are equal in capitals just if they are equal in small letters.
use Rattle.std.proofs.Common.{◌≡◌, ℕ, List, [], ◌∷◌, map, refl, sym, ap, ◌∙◌, arith}
use Rattle.std.proofs.lemmas.Bool.Decides.{nat_tests}
use Rattle.std.specs.Char.{to_ascii_lowercase}
use Rattle.at_ddp.specs.Text.{capital, folded}

capital_of_small : (byte : ℕ) → capital (to_ascii_lowercase byte) ≡ capital byte
capital_of_small byte = grind (arith, nat_tests)

small_of_capital : (byte : ℕ) → to_ascii_lowercase (capital byte) ≡ to_ascii_lowercase byte
small_of_capital byte = grind (arith, nat_tests)

folded_of_small : (text : List ℕ) → folded (map to_ascii_lowercase text) ≡ folded text
folded_of_small [] = refl
folded_of_small (b ∷ text) = rw (capital_of_small, folded_of_small text) refl

small_of_folded : (text : List ℕ) → map to_ascii_lowercase (folded text) ≡ map to_ascii_lowercase text
small_of_folded [] = refl
small_of_folded (b ∷ text) = rw (small_of_capital, small_of_folded text) refl

pub folded_if_small : (a b : List ℕ) → map to_ascii_lowercase a ≡ map to_ascii_lowercase b → folded a ≡ folded b
folded_if_small a b e = sym (folded_of_small a) ∙ ap folded e ∙ folded_of_small b

pub small_if_folded : (a b : List ℕ) → folded a ≡ folded b → map to_ascii_lowercase a ≡ map to_ascii_lowercase b
small_if_folded a b e = sym (small_of_folded a) ∙ ap (map to_ascii_lowercase) e ∙ small_of_folded b
