-- The lines that were read of a text, and the steps among them.
use Rattle.std.proofs.Common.{◌≡◌, ℕ, ◌<◌, length, true, false, List, [], ◌∷◌, ◌++◌, refl, sym, ap, subst, ◌∙◌}
use Rattle.std.proofs.Common.{append-nil}
use Rattle.std.proofs.Common.{append_assoc, arith, cond, filter, map, IfSome, None, Option, Some}
use Rattle.std.proofs.lemmas.List.{map-append}
use Rattle.std.proofs.lemmas.List.Elements.{filter-append}
use Rattle.std.specs.Io.BufRead.{DropsThrough, drop_through, first_piece}
use Rattle.at_words.specs.Words.{words_of}
use Rattle.at_schedule.specs.Schedules.{lines_in}
use Rattle.at_drive_lines.specs.Lines.{HasNext, HaveCome, IsLast, lines_of}
use Rattle.at_drive_lines.specs.StepLines.{is_step_line, step_words}

-- ---- lines that come one after another

pub come_on : (first : Option (List (List ℕ))) (read : List (List ℕ)) (now : Option (List (List ℕ))) (line : List ℕ)
    (after : Option (List (List ℕ))) → HaveCome first read now → HasNext now line after
    → HaveCome first (read ++ line ∷ []) after
come_on None read now line after h next = tt
come_on (Some lines) read now line after (later, is, left) next =
    let (rest, more, same) : HasNext (Some later) line after = subst (λ k. HasNext k line after) left next in
    (rest, is ∙ ap (λ l. read ++ l) more ∙ sym (append_assoc read (line ∷ []) rest), same)

-- all lines were read
pub all_come : (first : Option (List (List ℕ))) (read : List (List ℕ)) (now : Option (List (List ℕ)))
    → HaveCome first read now → IsLast now → IfSome first (λ lines. lines ≡ read)
all_come None read now h last = tt
all_come (Some lines) read now (later, is, left) last =
    let none : later ≡ [] = subst IsLast left last in is ∙ ap (λ l. read ++ l) none ∙ append-nil read

-- the line that a reader gave
pub line_comes : ((rest : List ℕ) → 0 < length rest
    → lines_in rest ≡ first_piece 10 rest ∷ lines_in (drop_through 10 rest)) → (known new : Option (List ℕ))
    (line : List ℕ) → IfSome known (λ text. (0 < length text) × (line ≡ first_piece 10 text))
    → DropsThrough known new 10 → HasNext (lines_of known) line (lines_of new)
line_comes law None new line is drops = tt
line_comes law (Some text) new line is drops = (
  lines_in (drop_through 10 text),
  law text is.0 ∙ ap (λ l. l ∷ lines_in (drop_through 10 text)) (sym is.1),
  ap lines_of drops,
)

-- where bytes are left, a line is left
pub some_left : ((rest : List ℕ) → 0 < length rest
    → lines_in rest ≡ first_piece 10 rest ∷ lines_in (drop_through 10 rest)) → (known : Option (List ℕ))
    → IfSome known (λ text. 0 < length text) → IfSome (lines_of known) (λ lines. 0 < length lines)
some_left law None some = tt
some_left law (Some text) some =
    let parts = law text some in
    let long = ap length parts in omega (arith, long)

-- no line was read
pub none_come : (first : Option (List (List ℕ))) → HaveCome first [] first
none_come None = tt
none_come (Some lines) = (lines, refl, refl)

-- the line that comes next stands between those that came and those after it
pub next_comes : (lines read : List (List ℕ)) (now : Option (List (List ℕ))) (line : List ℕ)
    (after : Option (List (List ℕ))) → HaveCome (Some lines) read now → HasNext now line after
    → (later : List (List ℕ)) × (lines ≡ read ++ line ∷ later)
next_comes lines read now line after (later, is, left) next =
    let (rest, more, same) : HasNext (Some later) line after = subst (λ k. HasNext k line after) left next in
    (rest, is ∙ ap (λ l. read ++ l) more)

-- ---- the words of their steps

pub words_of_both : (xs ys : List (List ℕ)) → step_words (xs ++ ys) ≡ step_words xs ++ step_words ys
words_of_both xs ys = ap (map words_of) (filter-append is_step_line xs ys)
    ∙ map-append words_of (filter is_step_line xs) (filter is_step_line ys)

-- the words of the step lines before and after one
pub words_at : (read later : List (List ℕ)) (line : List ℕ) → is_step_line line ≡ true
    → step_words (read ++ line ∷ later) ≡ step_words read ++ words_of line ∷ step_words later
words_at read later line is = words_of_both read (line ∷ later)
    ∙ ap (λ b. step_words read ++ map words_of (cond b (line ∷ filter is_step_line later) (filter is_step_line later)))
    is

-- a line that says no step adds none
pub words_over : (read : List (List ℕ)) (line : List ℕ) → is_step_line line ≡ false
    → step_words (read ++ line ∷ []) ≡ step_words read
words_over read line is = words_of_both read (line ∷ [])
    ∙ ap (λ b. step_words read ++ map words_of (cond b (line ∷ []) [])) is ∙ append-nil (step_words read)
