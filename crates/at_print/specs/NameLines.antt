-- The lines of an NBP packet.
use Rattle.std.specs.Prelude.{ℕ, List, [], ◌∷◌, length, codes}
use Rattle.std.specs.Fmt.{decimal}
use Rattle.std.specs.List.{concat, flat_map}
use Rattle.at_nbp.specs.Packets.{Content}
use Rattle.at_nbp.specs.Tuples.{Entry}
use Rattle.at_nbp.specs.declared.function.Function.{Function}
use Rattle.at_nbp.specs.declared.function.Function.TheVariants.{BroadcastRequest, LookUp, Reply, ForwardRequest}
use Rattle.at_print.specs.Lines.{address_text}
use Rattle.at_print.specs.TextWords.{name_text}

abbrev pub function_word : Function → List ℕ
function_word BroadcastRequest = codes "brrq"
function_word LookUp = codes "lkup"
function_word Reply = codes "reply"
function_word ForwardRequest = codes "fwdreq"

-- a name, the address that has it, and the enumerator
abbrev pub tuple_line : Entry → List ℕ
tuple_line t = concat (
    codes "tuple " ∷ name_text t.object t.kind t.zone ∷ codes " "
    ∷ address_text t.address ∷ codes " enumerator " ∷ decimal t.enumerator ∷ codes "\n" ∷ [])

-- the packet's line, and a line for each tuple
abbrev pub names_lines : Content → List ℕ
names_lines p = concat (
    codes "nbp " ∷ function_word p.function ∷ codes " id " ∷ decimal p.id ∷ codes " count "
    ∷ decimal (length p.tuples) ∷ codes "\n" ∷ flat_map tuple_line p.tuples ∷ [])
