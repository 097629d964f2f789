use Rattle.std.proofs.Common.{◌≡◌, ◌≤◌, ◌*◌, length, take}
use Rattle.std.specs.List.{flat_map}
use Rattle.at_print.specs.TextWords.{glyph}
use Rattle.at_print.proofs.text_words.write_block.Given as goal

abbrev pub invariant-loop-byte : goal.invariant-loop-byte
invariant-loop-byte g l = (l.line ≡ flat_map glyph (take l.byte-index l.block)) × (length l.line ≤ 3 * l.byte-index)
