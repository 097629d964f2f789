-- The bytes of an address, printed one after the other.
use Rattle.std.proofs.Common.{◌≡◌, ℕ, ◌+◌, ◌<◌, List, [], ◌∷◌, ◌++◌, length, take, get_or, ap, ◌∙◌, append-nil}
use Rattle.std.proofs.lemmas.Grind.{flat_map-append}
use Rattle.std.proofs.lemmas.List.{take_more}
use Rattle.std.proofs.lemmas.List.Concat.{flat_map-cons}
use Rattle.std.specs.List.{flat_map}
use Rattle.at_capture.specs.Stations.{part_text}

-- the text of one byte more
pub parts_next : (bytes : List ℕ) (i : ℕ) → i < length bytes → flat_map part_text (take (i + 1) bytes)
    ≡ flat_map part_text (take i bytes) ++ part_text (get_or bytes i 0)
parts_next bytes i lt =
    let byte = get_or bytes i 0 in
    ap (flat_map part_text) (take_more bytes i 0 lt) ∙ flat_map-append part_text (take i bytes) (byte ∷ [])
    ∙ ap (λ l. flat_map part_text (take i bytes) ++ l) (flat_map-cons part_text byte [] ∙ append-nil (part_text byte))
