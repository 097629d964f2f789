-- What is printed of a word that spells no bytes.
use Rattle.std.specs.Prelude.{ℕ, List, codes}
use Rattle.at_print.specs.Refusals.{no_memory_line}
use Rattle.at_words.specs.declared.hex_word.HexFault.{HexFault}
use Rattle.at_words.specs.declared.hex_word.HexFault.TheVariants.{NoHex, NoMemory}

abbrev pub fault_line : HexFault → List ℕ
fault_line NoHex = codes "fault 1\n"
fault_line NoMemory = no_memory_line
