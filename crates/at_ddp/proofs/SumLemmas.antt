-- A checksum fits 16 bits.
use Rattle.std.proofs.Common.{lit<, ℕ, ◌+◌, ◌*◌, ◌/◌, ◌%◌, ◌^◌, ◌<◌, List, [], ◌∷◌, arith}
use Rattle.std.specs.Prelude.{fold}
use Rattle.std.proofs.lemmas.Nat.{or_of_16}
use Rattle.std.proofs.lemmas.Bool.Decides.{nat_tests}
use Rattle.at_ddp.specs.Sum.{added, written_sum, sum_of}

added-lt : (sum byte : ℕ) → added sum byte < 2 ^ 16
added-lt sum byte = or_of_16 ((sum + byte) % 65536 * 2 % 2 ^ 16) ((sum + byte) % 65536 / 2 ^ 15) (omega arith)
    (omega arith)

fold-lt : (sum : ℕ) (bytes : List ℕ) → sum < 2 ^ 16 → fold added sum bytes < 2 ^ 16
fold-lt sum [] h = h
fold-lt sum (b ∷ bytes) h = fold-lt (added sum b) bytes (added-lt sum b)

written_sum-lt : (sum : ℕ) → sum < 2 ^ 16 → written_sum sum < 2 ^ 16
written_sum-lt sum h = grind (arith, nat_tests)

pub sum_of-lt : (bytes : List ℕ) → sum_of bytes < 2 ^ 16
unfolding sum_of
sum_of-lt bytes = written_sum-lt (fold added 0 bytes) (fold-lt 0 bytes (lit< tt))
