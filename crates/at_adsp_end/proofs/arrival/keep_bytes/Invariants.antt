use Rattle.std.proofs.Common.{◌≡◌, ◌-◌, ◌++◌, length, take}
use Rattle.std.specs.Prelude.{map}
use Rattle.circular_buffer.specs.Buffer.{buffer}
use Rattle.at_adsp_end.specs.declared.item.Item.TheVariants.{Byte}
use Rattle.at_adsp_end.proofs.arrival.keep_bytes.Given as goal

abbrev pub invariant-loop-byte : goal.invariant-loop-byte
invariant-loop-byte g l = l.unread
    ≡ buffer (l.fn.unread.items ++ take (l.fn.unread.capacity - length l.fn.unread.items)
    (map Byte (take l.byte-index l.bytes))) l.fn.unread.capacity
