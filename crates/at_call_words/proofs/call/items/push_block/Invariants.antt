use Rattle.std.proofs.Common.{◌≡◌, ◌++◌, map, take}
use Rattle.at_adsp_end.specs.declared.item.Item.TheVariants.{Byte}
use Rattle.at_call_words.proofs.call.items.push_block.Given as goal

abbrev pub invariant-loop-byte : goal.invariant-loop-byte
invariant-loop-byte g l = l.items.items ≡ l.initial.items.items ++ map Byte (take l.byte-index l.byte-items)
