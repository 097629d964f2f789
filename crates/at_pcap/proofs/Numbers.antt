-- Numbers as bytes.
use Rattle.std.proofs.Common.{◌≡◌, ℕ, ◌+◌, ◌^◌, ◌<◌, ◌≤◌, List, [], ◌∷◌, ◌++◌, length, drop}
use Rattle.std.proofs.Common.{arith}
use Rattle.std.proofs.lemmas.List.{get_or-drop}
use Rattle.at_ddp.proofs.Octets.{InBytes}
use Rattle.at_pcap.specs.Orders.{bytes_in, number_in}
use Rattle.at_pcap.specs.declared.order.Order.{Order}
use Rattle.at_pcap.specs.declared.order.Order.TheVariants.{Big, Little}

pub InBytes-drop : (n : ℕ) (bytes : List ℕ) → InBytes bytes → InBytes (drop n bytes)
InBytes-drop n bytes fits i = rw (get_or-drop n bytes i 0) (fits (n + i))

pub two_cells : (a b c d : ℕ) (more : List ℕ) → a ≡ c → b ≡ d → a ∷ b ∷ more ≡ c ∷ d ∷ more
two_cells a b c d more p q = cc

pub cells : (a b c d e f g h : ℕ) (more : List ℕ) → a ≡ e → b ≡ f → c ≡ g → d ≡ h
    → a ∷ b ∷ c ∷ d ∷ more ≡ e ∷ f ∷ g ∷ h ∷ more
cells a b c d e f g h more p q r s = cc

-- two bytes spell the number that they are
pub two_spelled : (o : Order) (bytes : List ℕ) → InBytes bytes → 2 ≤ length bytes
    → bytes ≡ bytes_in o 2 (number_in o 2 bytes) ++ drop 2 bytes
two_spelled Big (a ∷ b ∷ more) fits long =
    two_cells a b _ _ more (omega (arith, fits 0, fits 1)) (omega (arith, fits 0, fits 1))
two_spelled Little (a ∷ b ∷ more) fits long =
    two_cells a b _ _ more (omega (arith, fits 0, fits 1)) (omega (arith, fits 0, fits 1))
two_spelled o [] fits long = absurd (omega arith)
two_spelled o (a ∷ []) fits long = absurd (omega arith)

-- four bytes spell the number that they are
pub four_spelled : (o : Order) (bytes : List ℕ) → InBytes bytes → 4 ≤ length bytes
    → bytes ≡ bytes_in o 4 (number_in o 4 bytes) ++ drop 4 bytes
four_spelled Big (a ∷ b ∷ c ∷ d ∷ more) fits long =
    cells a b c d _ _ _ _ more (omega (arith, fits 0, fits 1, fits 2, fits 3)) (omega
    (arith, fits 0, fits 1, fits 2, fits 3))
    (omega (arith, fits 0, fits 1, fits 2, fits 3)) (omega (arith, fits 0, fits 1, fits 2, fits 3))
four_spelled Little (a ∷ b ∷ c ∷ d ∷ more) fits long =
    cells a b c d _ _ _ _ more (omega (arith, fits 0, fits 1, fits 2, fits 3)) (omega
    (arith, fits 0, fits 1, fits 2, fits 3))
    (omega (arith, fits 0, fits 1, fits 2, fits 3)) (omega (arith, fits 0, fits 1, fits 2, fits 3))
four_spelled o [] fits long = absurd (omega arith)
four_spelled o (a ∷ []) fits long = absurd (omega arith)
four_spelled o (a ∷ b ∷ []) fits long = absurd (omega arith)
four_spelled o (a ∷ b ∷ c ∷ []) fits long = absurd (omega arith)

-- a number that is read where it was spelled
pub four_read : (o : Order) (n : ℕ) (rest : List ℕ) → n < 2 ^ 32 → number_in o 4 (bytes_in o 4 n ++ rest) ≡ n
four_read Big n rest fits = omega arith
four_read Little n rest fits = omega arith

pub two_read : (o : Order) (n : ℕ) (rest : List ℕ) → n < 2 ^ 16 → number_in o 2 (bytes_in o 2 n ++ rest) ≡ n
two_read Big n rest fits = omega arith
two_read Little n rest fits = omega arith

pub two_fit : (o : Order) (bytes : List ℕ) → InBytes bytes → number_in o 2 bytes < 2 ^ 16
two_fit Big bytes fits = omega (arith, fits 0, fits 1)
two_fit Little bytes fits = omega (arith, fits 0, fits 1)
