-- What a stream carries (Inside AppleTalk, ADSP, "Packet format").
use Rattle.std.specs.Prelude.{◌<◌}
use Rattle.at_adsp_end.specs.declared.item.Item.{Item}
use Rattle.at_adsp_end.specs.declared.item.Item.TheVariants.{Byte, End}

-- a byte is less than 256
abbrev pub IsItem : Item → Type 0
IsItem (Byte b) = b < 256
IsItem End = Unit {0}
