-- What is printed in the place of what was refused.
use Rattle.std.specs.Prelude.{ℕ, List, ◌++◌, Option, Some, None, codes}
use Rattle.std.specs.Fmt.{decimal}

-- there was no memory for the first event, or for the bytes of a word
abbrev pub no_memory_line : List ℕ
no_memory_line = codes "stopped nomemory at 0\n"

-- a refusal by its number; out of memory has none
abbrev pub refusal_line : Option ℕ → List ℕ
refusal_line (Some number) = codes "refused " ++ decimal number ++ codes "\n"
refusal_line None = no_memory_line
