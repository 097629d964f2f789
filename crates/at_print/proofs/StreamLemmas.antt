-- What is printed of the items of a stream, run by run.
use Rattle.std.proofs.Common.{◌≡◌, ℕ, ◌≤◌, List, [], ◌∷◌, ◌++◌, Bool, true, false, length, take, drop, map}
use Rattle.std.proofs.Common.{refl, sym, ap, ◌∙◌, arith}
use Rattle.std.specs.Prelude.{codes, if◌then◌else◌}
use Rattle.std.proofs.lemmas.List.{length-take-le, take-append-drop}
use Rattle.at_adsp_end.specs.declared.item.Item.{Item}
use Rattle.at_adsp_end.specs.declared.item.Item.TheVariants.{Byte}
use Rattle.at_print.specs.Items.{items_text, starts_with_byte}
use Rattle.at_print.specs.Lines.{pairs}

-- what stands before the digits of a byte
abbrev pub word_start : Bool → List ℕ
word_start follows_byte = if follows_byte then [] else codes " "

-- bytes that follow one go on with its word
run_text : (bytes : List ℕ) (rest : List Item) → items_text true (map Byte bytes ++ rest)
    ≡ pairs bytes ++ items_text true rest
run_text [] rest = refl
run_text (b ∷ bytes) rest = ap (λ l. pairs (b ∷ []) ++ l) (run_text bytes rest)

word_text : (follows : Bool) (b : ℕ) (bytes : List ℕ) (rest : List Item) → items_text follows
    (map Byte (b ∷ bytes) ++ rest) ≡ word_start follows ++ (pairs (b ∷ bytes) ++ items_text true rest)
word_text true b bytes rest = run_text (b ∷ bytes) rest
word_text false b bytes rest = ap (λ l. codes " " ++ (pairs (b ∷ []) ++ l)) (run_text bytes rest)

-- the bytes at the front of some items
pub bytes_first : (follows : Bool) (items : List Item) (count : ℕ) (bytes : List ℕ) → (count ≡ 0 → ⊥)
    → count ≤ length items → take count items ≡ map Byte bytes → items_text follows items
    ≡ word_start follows ++ (pairs bytes ++ items_text (starts_with_byte items) (drop count items))
bytes_first follows items count [] some within are =
    absurd (some (sym (length-take-le count items within) ∙ ap (length {A = Item}) are))
bytes_first follows items count (b ∷ bytes) some within are =
    let rest = drop count items in
    let parts : items ≡ map Byte (b ∷ bytes) ++ rest = sym (take-append-drop count items) ∙ ap (λ l. l ++ rest) are in
    ap (items_text follows) parts ∙ word_text follows b bytes rest
    ∙ ap (λ first. word_start follows ++ (pairs (b ∷ bytes) ++ items_text first rest)) (sym (ap starts_with_byte parts))

-- ---- the bytes at the front, as they are taken

pub none_first : (items : List Item) → length items ≡ 0 → starts_with_byte items ≡ false
none_first [] none = refl
none_first (item ∷ items) none = absurd (omega (arith, none))
