-- What is cut is whole, and each piece is a slice of what went.
use Rattle.std.proofs.Common.{◌≡◌, ℕ, zero, suc, ◌+◌, ◌≤◌, Bool, true, false, cond, List, [], ◌∷◌, ◌++◌, length, map}
use Rattle.std.proofs.Common.{drop, refl, sym, ap, subst, ◌∙◌, append_assoc, arith}
use Rattle.std.specs.Prelude.{◌==◌}
use Rattle.at_adsp_end.specs.Cuts.{Piece, open_piece, pieces, items_of}
use Rattle.at_adsp_end.specs.declared.item.Item.{Item}
use Rattle.at_adsp_end.specs.declared.item.Item.TheVariants.{Byte, End}
use Rattle.at_adsp.proofs.Logs.{length_both, nothing_more}
use Rattle.std.proofs.lemmas.List.{map-append}

abbrev pub all_items : List Piece → List Item
all_items [] = []
all_items (p ∷ ps) = items_of p ++ all_items ps

-- these items stand in the list from this number on
pub record IsSlice (xs all : List Item) (first : ℕ) : Type 0 where
  pub before : List Item
  pub after : List Item
  pub stands : all ≡ before ++ (xs ++ after)
  pub at : length before ≡ first

-- each piece stands where it is numbered
abbrev pub AreSlices : List Item → ℕ → List Piece → Type 0
AreSlices all first [] = Unit {0}
AreSlices all first (p ∷ ps) = IsSlice (items_of p) all first × AreSlices all (first + length (items_of p)) ps

pub pieces_whole : (got : List ℕ) (xs : List Item) → all_items (pieces got xs) ≡ map Byte got ++ xs
pieces_whole [] [] = refl
pieces_whole (b ∷ got) [] = nothing_more (map Byte (b ∷ got) ++ [])
pieces_whole got (End ∷ xs) = append_assoc (map Byte got) (End ∷ []) (all_items (pieces [] xs))
    ∙ ap (λ l. map Byte got ++ (End ∷ l)) (pieces_whole [] xs)
pieces_whole got (Byte b ∷ xs) = go (pieces_whole (b ∷ []) xs) (pieces_whole (got ++ b ∷ []) xs) (length got == 572)
  where
    go : all_items (pieces (b ∷ []) xs) ≡ map Byte (b ∷ []) ++ xs → all_items (pieces (got ++ b ∷ []) xs)
        ≡ map Byte (got ++ b ∷ []) ++ xs →
        (c : Bool) → all_items (cond c (open_piece got ∷ pieces (b ∷ []) xs) (pieces (got ++ b ∷ []) xs))
        ≡ map Byte got ++ (Byte b ∷ xs)
    go one more true = ap (λ l. l ++ all_items (pieces (b ∷ []) xs)) (nothing_more (map Byte got))
        ∙ ap (λ l. map Byte got ++ l) one
    go one more false = more ∙ ap (λ l. l ++ xs) (map-append Byte got (b ∷ []))
        ∙ append_assoc (map Byte got) (Byte b ∷ []) xs

-- what goes on after a slice
pub slice_first : (xs ys all : List Item) (first : ℕ) → IsSlice (xs ++ ys) all first → IsSlice xs all first
slice_first xs ys all first h =
    record {
      before = h.before;
      after = ys ++ h.after;
      stands = h.stands ∙ ap (λ l. h.before ++ l) (append_assoc xs ys h.after);
      at = h.at;
    }

pub slice_last : (xs ys all : List Item) (first : ℕ) → IsSlice (xs ++ ys) all first → IsSlice ys all (first + length xs)
slice_last xs ys all first h = record {
  before = h.before ++ xs;
  after = h.after;
  stands = h.stands ∙ ap (λ l. h.before ++ l) (append_assoc xs ys h.after)
      ∙ sym (append_assoc h.before xs (ys ++ h.after));
  at = let n = length_both h.before xs in let a = h.at in omega (arith, n, a);
}

pub slice_grows : (xs all more : List Item) (first : ℕ) → IsSlice xs all first → IsSlice xs (all ++ more) first
slice_grows xs all more first h = record {
  before = h.before;
  after = h.after ++ more;
  stands = ap (λ l. l ++ more) h.stands ∙ append_assoc h.before (xs ++ h.after) more
      ∙ ap (λ l. h.before ++ l) (append_assoc xs h.after more);
  at = h.at;
}

pub are_slices : (ps : List Piece) (all : List Item) (first : ℕ) → IsSlice (all_items ps) all first
    → AreSlices all first ps
are_slices [] all first h = tt
are_slices (p ∷ ps) all first h = (
  slice_first (items_of p) (all_items ps) all first h,
  are_slices ps all (first + length (items_of p))
      (slice_last (items_of p) (all_items ps) all first h),
)

-- the rest of a slice, as far as it goes
pub slice_rest : (d : ℕ) (xs all : List Item) (first : ℕ) → d ≤ length xs → IsSlice xs all first
    → IsSlice (drop d xs) all (first + d)
slice_rest zero xs all first le h = subst (IsSlice xs all) (omega arith) h
slice_rest (suc d) [] all first le h = absurd (omega (arith, le))
slice_rest (suc d) (x ∷ xs) all first le h =
    subst (IsSlice (drop d xs) all) (omega arith)
    (slice_rest d xs all (first + 1) (omega (arith, le)) (slice_last (x ∷ []) xs all first h))
