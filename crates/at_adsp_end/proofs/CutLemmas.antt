-- How items are cut, one at a time.
use Rattle.std.proofs.Common.{◌≡◌, ℕ, zero, suc, ◌+◌, ◌-◌, ◌*◌, ◌%◌, ◌^◌, ◌≤◌, ◌<◌, Bool, true, false, cond, List, []}
use Rattle.std.proofs.Common.{◌∷◌}
use Rattle.std.proofs.Common.{◌++◌, length, take, drop, Some, refl, sym, ap, subst, ◌∙◌, arith}
use Rattle.std.specs.Prelude.{◌==◌, slice_get}
use Rattle.std.proofs.lemmas.List.{length-append, length-take}
use Rattle.std.proofs.lemmas.Bool.Decides.{nat_tests}
use Rattle.at_ddp.specs.Outbox.{Outbox}
use Rattle.at_adsp_frame.specs.Segments.{Content, Data}
use Rattle.at_adsp_end.specs.Cuts.{Piece, bytes_of, cut_now, pieces, last_piece, open_piece, items_in}
use Rattle.at_adsp_end.specs.Cuts.{items_of, numbered}
use Rattle.at_adsp_end.specs.Ends.{EndState, Sender, SendsTo, packet}
use Rattle.at_adsp_end.specs.Loads.{LeavesRoom}
use Rattle.at_adsp_end.specs.Outgoings.{Counted, Cuts, queued, stretch}
use Rattle.at_adsp_end.specs.Positions.{wire}
use Rattle.at_adsp_end.specs.declared.item.Item.{Item}
use Rattle.at_adsp_end.specs.declared.item.Item.TheVariants.{Byte, End}

-- ---- how many pieces

last_few : (got : List ℕ) → length (last_piece got) ≤ length got
last_few [] = omega arith
last_few (b ∷ got) = omega arith

is_full : (n : ℕ) → (n == 572) ≡ true → n ≡ 572
is_full n e = grind (arith, nat_tests, e)

pub pieces_few : (got : List ℕ) (xs : List Item) → length (pieces got xs) ≤ length xs + length got
pieces_few got [] = let few = last_few got in omega (arith, few)
pieces_few got (End ∷ xs) = let few = pieces_few [] xs in omega (arith, few)
pieces_few got (Byte b ∷ xs) = go (length got == 572) refl (pieces_few (b ∷ []) xs) (pieces_few (got ++ b ∷ []) xs)
  where
    go : (c : Bool) → (length got == 572) ≡ c → length (pieces (b ∷ []) xs) ≤ length xs + 1
        → length (pieces (got ++ b ∷ []) xs) ≤ length xs + length (got ++ b ∷ []) →
        length (cond c (open_piece got ∷ pieces (b ∷ []) xs) (pieces (got ++ b ∷ []) xs)) ≤ suc (length xs) + length got
    go true full one more = let e = is_full (length got) full in omega (arith, e, one)
    go false full one more = let e = length-append got (b ∷ []) in omega (arith, e, more)

some_left : (got : List ℕ) (xs : List Item) → 1 ≤ length got + length xs → 1 ≤ length (pieces got xs)
some_left [] [] some = absurd (omega (arith, some))
some_left (b ∷ got) [] some = omega arith
some_left got (End ∷ xs) some = omega arith
some_left got (Byte b ∷ xs) some =
    go (length got == 572) (some_left (got ++ b ∷ []) xs (let e = length-append got (b ∷ []) in omega (arith, e)))
  where
    go : (c : Bool) → 1 ≤ length (pieces (got ++ b ∷ []) xs)
        → 1 ≤ length (cond c (open_piece got ∷ pieces (b ∷ []) xs) (pieces (got ++ b ∷ []) xs))
    go true more = omega arith
    go false more = more

pub pieces_some : (got : List ℕ) (x : Item) (xs : List Item) → 1 ≤ length (pieces got (x ∷ xs))
pieces_some got x xs = some_left got (x ∷ xs) (omega arith)

-- ---- the numbers of pieces

pub numbered_same : (e : EndState) (a b : ℕ) (ps : List Piece) → a % 2 ^ 32 ≡ b % 2 ^ 32 → numbered wire e a ps
    ≡ numbered wire e b ps
numbered_same e a b [] same = refl
numbered_same e a b (p ∷ ps) same =
    let n = length (items_of p) in
    let next : (a + n) % 2 ^ 32 ≡ (b + n) % 2 ^ 32 = omega (arith, same) in
    λ i. packet e (same i) true (Data p.end p.bytes) ∷ numbered_same e (a + n) (b + n) ps next i

pub numbered_at : (e : EndState) (a : ℕ) (ps : List Piece) → numbered wire e (a % 2 ^ 32) ps ≡ numbered wire e a ps
numbered_at e a ps = numbered_same e (a % 2 ^ 32) a ps (omega arith)

pub numbered_length : (e : EndState) (a : ℕ) (ps : List Piece) → length (numbered wire e a ps) ≡ length ps
numbered_length e a [] = refl
numbered_length e a (p ∷ ps) = ap suc (numbered_length e (a + length (items_of p)) ps)

-- ---- the next item of a queue

drop_some : {X : Type 0} (q : List X) (i : ℕ) (x : X) → slice_get q i ≡ Some x → drop i q ≡ x ∷ drop (suc i) q
drop_some [] i x e = absurd (cc)
drop_some (y ∷ q) zero x e = let same : y ≡ x = cc in ap (λ z. z ∷ q) same
drop_some (y ∷ q) (suc i) x e = drop_some q i x e

pub next_of : {X : Type 0} (q : List X) (i e : ℕ) (x : X) → i < e → slice_get q i ≡ Some x → take (e - i) (drop i q)
    ≡ x ∷ take (e - suc i) (drop (suc i) q)
next_of q i e x before is =
    let n : e - i ≡ suc (e - suc i) = omega arith in
    rw (n, drop_some q i x is) refl

-- ---- one item

pub cut_split : (e : EndState) (p : ℕ) (got : List ℕ) (x : Item) (xs : List Item) → (later : List Content)
    × (numbered wire e p (pieces got (x ∷ xs)) ≡ cut_now wire e p got x ++ later)
cut_split e p got End xs = (numbered wire e (p + length (items_in true got)) (pieces [] xs), refl)
cut_split e p got (Byte b) xs = go (length got == 572)
  where
    go : (c : Bool) → (later : List Content)
        × (numbered wire e p (cond c (open_piece got ∷ pieces (b ∷ []) xs) (pieces (got ++ b ∷ []) xs))
        ≡ cond c (packet e (wire.at p) true (Data false got) ∷ []) [] ++ later)
    go true = (numbered wire e (p + length (items_in false got)) (pieces (b ∷ []) xs), refl)
    go false = (numbered wire e p (pieces (got ++ b ∷ []) xs), refl)

pub cut_end : (old new : Outbox) (by : EndState) (first : ℕ) (got : List ℕ) (after : ℕ) (left : List ℕ)
    → SendsTo old new by.asked (packet by (wire.at first) true (Data true got) ∷ []) →
    after ≡ wire.at (first + length (items_in true got)) → left ≡ []
    → LeavesRoom old new by.asked (packet by (wire.at first) true (Data true got) ∷ [])
    → Cuts old new by first got End after left
cut_end old new by first got after left sent is_after is_left room =
    let p = packet by (wire.at first) true (Data true got) in
    record {
      sent = sent;
      rest = λ xs. ap (λ l. p ∷ l)
          (sym (numbered_at by (first + length (items_in true got)) (pieces [] xs))
          ∙ (λ i. numbered wire by (sym is_after i) (pieces (sym is_left i) xs)));
      room = room;
    }

pub cut_full : (old new : Outbox) (by : EndState) (first : ℕ) (got : List ℕ) (b after : ℕ) (left : List ℕ)
    → SendsTo old new by.asked (packet by (wire.at first) true (Data false got) ∷ []) →
    after ≡ wire.at (first + length (items_in false got)) → left ≡ b ∷ [] → length got ≡ 572
    → LeavesRoom old new by.asked (packet by (wire.at first) true (Data false got) ∷ [])
    → Cuts old new by first got (Byte b) after left
cut_full old new by first got b after left sent is_after is_left full room =
    let p = packet by (wire.at first) true (Data false got) in
    let t : (length got == 572) ≡ true = ap (λ n. n == 572) full in
    let now : p ∷ [] ≡ cut_now wire by first got (Byte b) = ap (λ c. cond c (p ∷ []) []) (sym t) in
    record {
      sent = subst (SendsTo old new by.asked) now sent;
      rest = λ xs. ap (λ c. numbered wire by first
          (cond c (open_piece got ∷ pieces (b ∷ []) xs) (pieces (got ++ b ∷ []) xs))) t
          ∙ ap (λ l. p ∷ l) (sym (numbered_at by (first + length (items_in false got)) (pieces (b ∷ []) xs))
          ∙ (λ i. numbered wire by (sym is_after i) (pieces (sym is_left i) xs)))
          ∙ ap (λ l. l ++ numbered wire by after (pieces left xs)) now;
      room = subst (LeavesRoom old new by.asked) now room;
    }

-- ---- counting

-- with an item left, fewer pieces are counted than there are items
pub count_few : (n filled bytes : ℕ) (all : List Item) (x : Item) (xs : List Item)
    → Counted n filled bytes all (x ∷ xs) → n + 1 ≤ length all
count_few n filled bytes all x xs c =
    let few = pieces_few [] all in
    let some = pieces_some c.got x xs in
    let w = c.whole in
    omega (arith, few, some, w)

-- ---- the queue of an end

pub item_next : (e e' : EndState) (i end : ℕ) (x : Item) → e ≡ e' → slice_get (queued e.sender) i ≡ Some x → i < end
    → take (end - i) (drop i (queued e'.sender)) ≡ x ∷ take (end - (i + 1)) (drop (i + 1) (queued e'.sender))
item_next e e' i end x same is before =
    let at : slice_get (queued e'.sender) i
    ≡ Some x = subst (λ (s : EndState). slice_get (queued s.sender) i ≡ Some x) same is in
    let n : suc i ≡ i + 1 = omega arith in
    next_of (queued e'.sender) i end x before at ∙ ap (λ m. x ∷ take (end - m) (drop m (queued e'.sender))) n

pub none_left : {X : Type 0} (end i : ℕ) (l : List X) → end ≤ i → take (end - i) l ≡ []
none_left end i l done = let n : end - i ≡ 0 = omega arith in ap (λ m. take m l) n

pub stretch_few : (s : Sender) (from count : ℕ) → length (stretch s from count) ≤ count
stretch_few s from count = let e = length-take count (drop from (queued s)) in omega (arith, e)

-- the last piece counts if it has bytes
bytes_count : (got : List ℕ) (m : ℕ) → (0 < length got → m ≡ 1) → (length got ≤ 0 → m ≡ 0) → length (last_piece got) ≡ m
bytes_count [] m some none = sym (none (omega arith))
bytes_count (b ∷ got) m some none = sym (some (omega arith))

pub count_ends : (n filled bytes r : ℕ) (all left : List Item) → left ≡ [] → (0 < filled → r ≡ n + 1)
    → (filled ≤ 0 → r ≡ n + 0) → Counted n filled bytes all left → r ≡ length (pieces [] all)
count_ends n filled bytes r all left is some none c =
    let h = c.has in
    let last = bytes_count c.got (r - n) (λ lt. let e = some (omega (arith, h, lt)) in omega (arith, e))
    (λ le. let e = none (omega (arith, h, le)) in omega (arith, e)) in
    let w : n + length (pieces c.got [])
    ≡ length (pieces [] all) =
    subst (λ (l : List Item). n + length (pieces c.got l) ≡ length (pieces [] all)) is c.whole in
    go (filled) h last w some none
  where
    go : (f : ℕ) → length c.got ≡ f → length (last_piece c.got) ≡ r - n → n + length (last_piece c.got)
        ≡ length (pieces [] all) → (0 < f → r ≡ n + 1) → (f ≤ 0 → r ≡ n + 0) → r ≡ length (pieces [] all)
    go zero h last w some none = let e = none (omega arith) in omega (arith, e, last, w)
    go (suc f) h last w some none = let e = some (omega arith) in omega (arith, e, last, w)

-- the last piece has all its bytes, and a header if it is anything
last_carried : (got : List ℕ) → bytes_of (last_piece got) ≡ 13 * length (last_piece got) + length got
last_carried [] = refl
last_carried (b ∷ got) = omega arith

pub count_carries : (n filled bytes r : ℕ) (all left : List Item) → left ≡ [] → r ≡ length (pieces [] all)
    → Counted n filled bytes all left → 13 * r + bytes ≡ bytes_of (pieces [] all)
count_carries n filled bytes r all left is counted c =
    let w : n + length (last_piece c.got) ≡ length (pieces [] all) =
    subst (λ (l : List Item). n + length (pieces c.got l) ≡ length (pieces [] all)) is c.whole in
    let k : 13 * n + bytes + bytes_of (last_piece c.got) ≡ bytes_of (pieces [] all) + length c.got =
    subst (λ (l : List Item). 13 * n + bytes + bytes_of (pieces c.got l) ≡ bytes_of (pieces [] all) + length c.got) is
    c.carried in
    let last = last_carried c.got in
    omega (arith, w, k, last, counted)

pub count_most : (n filled bytes : ℕ) (all left : List Item) → Counted n filled bytes all left → n ≤ length all
count_most n filled bytes all left c = let few = pieces_few [] all in let w = c.whole in omega (arith, few, w)
