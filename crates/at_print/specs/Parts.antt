-- What is printed in parts, one after the other.
use Rattle.std.specs.Prelude.{ℕ, List, [], ◌∷◌, ◌++◌}
use Rattle.std.specs.Fmt.{decimal}
use Rattle.at_print.specs.declared.part.Part.{Part}
use Rattle.at_print.specs.declared.part.Part.TheVariants.{Text, Number}

-- bytes as they are, or a number in decimal digits
abbrev pub part_text : Part → List ℕ
part_text (Text bytes) = bytes.now
part_text (Number n) = decimal n

-- a text, and these parts behind it
abbrev pub followed : List ℕ → List Part → List ℕ
followed text [] = text
followed text (p ∷ ps) = text ++ followed (part_text p) ps

abbrev pub parts_text : List Part → List ℕ
parts_text [] = []
parts_text (p ∷ ps) = followed (part_text p) ps
