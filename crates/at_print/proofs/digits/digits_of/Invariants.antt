use Rattle.std.proofs.Common.{◌≡◌, ◌*◌, length, take}
use Rattle.at_print.specs.Lines.{pairs}
use Rattle.at_print.proofs.digits.digits_of.Given as goal

abbrev pub invariant-loop-place : goal.invariant-loop-place
invariant-loop-place l = (length l.digits ≡ 128) × (take (2 * l.place) l.digits ≡ pairs (take l.place l.block))
