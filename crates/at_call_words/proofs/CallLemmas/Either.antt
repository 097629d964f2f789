-- What is said of a word, and of another one.
use Rattle.std.proofs.Common.{Bool, true, false}

abbrev pub Either : Bool → Type 0 → Type 0 → Type 0
Either true P Q = P
Either false P Q = Q
