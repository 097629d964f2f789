-- Flags in bytes, and masks of one bit.
use Rattle.std.proofs.Common.{lit<, ◌≡◌, ℕ, zero, suc, ◌*◌, ◌/◌, ◌%◌, ◌^◌, ◌<◌, Bool, true, false, refl, arith}
use Rattle.std.specs.Prelude.{◌==◌, not, bit_and}
use Rattle.std.proofs.lemmas.Bool.{ne_eqb}
use Rattle.std.proofs.lemmas.Bool.Decides.{nat_tests}
use Rattle.std.proofs.lemmas.Nat.{pow_pos}
use Rattle.std.proofs.lemmas.Nat.Bits.{and_pow}
use Rattle.at_ddp.specs.Bits.{bit}

one_bit : (b p : ℕ) → b < 2 → 0 < p → not (b * p == 0) ≡ (b == 1)
one_bit zero p lt some = let none : 0 * p ≡ 0 = omega arith in rw none refl
one_bit (suc zero) p lt some =
    let all : 1 * p ≡ p = omega arith in rw (all, ne_eqb p 0 (λ e. absurd (omega (arith, e)))) refl
one_bit (suc (suc b)) p lt some = absurd (omega arith)

-- a mask of one bit tests what the quotient of its place says
pub bit_test : (n k : ℕ) → not (bit_and n (2 ^ k) == 0) ≡ (n / 2 ^ k % 2 == 1)
bit_test n k = rw (and_pow n k) (one_bit (n / 2 ^ k % 2) (2 ^ k) (omega arith) (pow_pos k))

pub bit-eqb : (n : ℕ) → n < 2 → bit (n == 1) ≡ n
bit-eqb n h = grind (arith, nat_tests)

pub bit-lt : (b : Bool) → bit b < 2
bit-lt true = lit< tt
bit-lt false = lit< tt

pub bit_inj : (a b : Bool) → bit a ≡ bit b → a ≡ b
bit_inj true true e = refl
bit_inj false false e = refl
bit_inj true false e = absurd (omega arith)
bit_inj false true e = absurd (omega arith)
