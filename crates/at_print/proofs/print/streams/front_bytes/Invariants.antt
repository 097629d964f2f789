use Rattle.std.proofs.Common.{◌≡◌, length, map, take}
use Rattle.at_adsp_end.specs.declared.item.Item.TheVariants.{Byte}
use Rattle.at_print.proofs.print.streams.front_bytes.Given as goal

abbrev pub invariant-loop-place : goal.invariant-loop-place
invariant-loop-place l = (length l.block ≡ 64) × (take l.place l.items ≡ map Byte (take l.place l.block))
