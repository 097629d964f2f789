-- Tuples that are measured or written so far.
use Rattle.std.proofs.Common.{◌≡◌, ℕ, ◌+◌, ◌*◌, ◌<◌, ◌≤◌, List, [], ◌∷◌, ◌++◌, length, get_or, take, drop, map, sym, ap}
use Rattle.std.proofs.Common.{subst, ◌∙◌, append-nil, arith}
use Rattle.std.specs.Prelude.{All}
use Rattle.std.specs.List.{flat_map}
use Rattle.std.proofs.lemmas.List.{map-append, map_more, get_or-map, length-append, length-map, take_all}
use Rattle.std.proofs.lemmas.List.{take-append-drop}
use Rattle.std.proofs.lemmas.List.Concat.{flat_map-append}
use Rattle.std.proofs.lemmas.List.Elements.{All-push}
use Rattle.at_nbp.specs.Tuples.{Entry, FitsStrings, content, string_spelling, tuple_spelling}
use Rattle.at_nbp.specs.declared.tuple.Tuple.{Tuple}

-- the bytes of tuples, one behind the other
abbrev pub spelled : List Tuple → List ℕ
spelled tuples = flat_map tuple_spelling (map content tuples)

spelled_push : (entries : List Entry) (e : Entry) → flat_map tuple_spelling (entries ++ e ∷ [])
    ≡ flat_map tuple_spelling entries ++ tuple_spelling e
spelled_push entries e = flat_map-append tuple_spelling entries (e ∷ [])
    ∙ ap (λ l. flat_map tuple_spelling entries ++ l) (append-nil (tuple_spelling e))

-- one tuple more
pub spelled_more : (tuples : List Tuple) (i : ℕ) (d t : Tuple) → i < length tuples → t ≡ get_or tuples i d
    → spelled (take (i + 1) tuples) ≡ spelled (take i tuples) ++ tuple_spelling (content t)
spelled_more tuples i d t lt at =
    ap (flat_map tuple_spelling) (map_more content tuples i d lt)
    ∙ spelled_push (map content (take i tuples)) (content (get_or tuples i d))
    ∙ ap (λ (u : Tuple). spelled (take i tuples) ++ tuple_spelling (content u)) (sym at)

-- ---- tuples that are measured

pub record AreMeasured (tuples : List Tuple) (i len : ℕ) : Type 0 where
  pub fits : All FitsStrings (map content (take i tuples))
  pub sum : len ≡ length (spelled (take i tuples))
  pub small : len ≤ 104 * i

tuple_length : (e : Entry) → length (tuple_spelling e) ≡ 8 + length e.object + length e.kind + length e.zone
tuple_length e =
    omega (
      arith,
      length-append (string_spelling e.object) (string_spelling e.kind ++ (string_spelling e.zone ++ [])),
      length-append (string_spelling e.kind) (string_spelling e.zone ++ []),
      length-append (string_spelling e.zone) [],
    )

pub short_tuple : (e : Entry) → FitsStrings e → length (tuple_spelling e) ≤ 104
short_tuple e fits = omega
    (arith, tuple_length e, fits 0 [] (omega arith), fits 1 [] (omega arith), fits 2 [] (omega arith))

pub measured_more : (tuples : List Tuple) (i len size : ℕ) (d t : Tuple) → AreMeasured tuples i len → i < length tuples
    → t ≡ get_or tuples i d → FitsStrings (content t) →
    size ≡ length (tuple_spelling (content t)) → AreMeasured tuples (i + 1) (len + size)
measured_more tuples i len size d t so_far lt at fits is = record {
  fits = subst (All FitsStrings) (sym (map_more content tuples i d lt))
      (All-push FitsStrings (map content (take i tuples)) (content (get_or tuples i d)) so_far.fits
      (subst (λ (u : Tuple). FitsStrings (content u)) at fits));
  sum = omega (
    arith,
    so_far.sum,
    is,
    ap (length {A = ℕ}) (spelled_more tuples i d t lt at),
    length-append
        (spelled (take i tuples)) (tuple_spelling (content t)),
  );
  small = omega (arith, so_far.small, is, short_tuple (content t) fits);
}

pub measured_all : (tuples : List Tuple) (i len : ℕ) → AreMeasured tuples i len → length tuples ≤ i
    → All FitsStrings (map content tuples) × (len ≡ length (spelled tuples))
measured_all tuples i len so_far all =
    let whole = take_all i tuples all in (
      subst (λ (l : List Tuple). All FitsStrings (map content l)) whole so_far.fits,
      so_far.sum
          ∙ ap (λ (l : List Tuple). length (spelled l)) whole,
    )

-- the tuple at a place has its strings if all have
pub fits_at : (tuples : List Tuple) (i : ℕ) (d t : Tuple) → i < length tuples → t ≡ get_or tuples i d
    → All FitsStrings (map content tuples) → FitsStrings (content t)
fits_at tuples i d t lt at each =
    let one : FitsStrings (get_or (map content tuples) i (content t)) =
    each i (content t) (omega (arith, length-map tuples content, lt)) in
    subst FitsStrings (get_or-map content tuples i d (content t) lt ∙ ap content (sym at)) one

-- ---- tuples that are written

-- the tuples so far stand after what stood before, and all the others have room
pub record AreWritten (old : List ℕ) (tuples : List Tuple) (i : ℕ) (items : List ℕ) (capacity : ℕ) : Type 0 where
  pub items_are : items ≡ old ++ spelled (take i tuples)
  pub room : length old + length (spelled tuples) ≤ capacity

-- a beginning of the tuples has no more bytes
spelled_take : (i : ℕ) (tuples : List Tuple) → length (spelled (take i tuples)) ≤ length (spelled tuples)
spelled_take i tuples =
    let whole : spelled (take i tuples) ++ spelled (drop i tuples) ≡ spelled tuples =
    sym (ap (flat_map tuple_spelling) (map-append content (take i tuples) (drop i tuples))
    ∙ flat_map-append tuple_spelling (map content (take i tuples)) (map content (drop i tuples)))
    ∙ ap (λ (l : List Tuple). spelled l) (take-append-drop i tuples) in
    omega (arith, ap (length {A = ℕ}) whole, length-append (spelled (take i tuples)) (spelled (drop i tuples)))

pub next_has_room : (old items : List ℕ) (tuples : List Tuple) (i capacity : ℕ) (d t : Tuple)
    → AreWritten old tuples i items capacity → i < length tuples → t ≡ get_or tuples i d →
    length items + length (tuple_spelling (content t)) ≤ capacity
next_has_room old items tuples i capacity d t w lt at =
    omega (
      arith,
      w.room,
      ap (length {A = ℕ}) w.items_are,
      length-append old (spelled (take i tuples)),
      ap (length {A = ℕ}) (spelled_more tuples i d t lt at),
      length-append (spelled (take i tuples)) (tuple_spelling (content t)),
      spelled_take (i + 1) tuples,
    )
