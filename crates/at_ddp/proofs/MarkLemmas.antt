-- Where each datagram of a list lies.
use Rattle.std.proofs.Common.{◌≡◌, ℕ, zero, suc, ◌+◌, ◌-◌, ◌<◌, ◌≤◌, List, [], ◌∷◌, ◌++◌, length, take, drop, refl, sym}
use Rattle.std.proofs.Common.{ap, subst, ◌∙◌, append_assoc, arith, Some, None, ◌⊎◌, inl, inr, get_or}
use Rattle.std.specs.Prelude.{slice_range, slice_get, map}
use Rattle.std.specs.Option.{option_map_or}
use Rattle.std.proofs.lemmas.Option.{slice_get_within, slice_get_cases}
use Rattle.std.proofs.lemmas.List.{length-append, take-append-le, drop-append-le, length-drop, take_rest}
use Rattle.std.proofs.Math.Seq.{drop-append_seam, drop-append-add}
use Rattle.at_ddp.specs.Outbox.{Posted}
use Rattle.at_ddp.specs.Marks.{pieces, AreMarks, behind, start_at}
use Rattle.at_ddp.specs.declared.outbox.Mark.{Mark}

pub length-pieces : (start : ℕ) (ms : List Mark) (bytes : List ℕ) → length (pieces start ms bytes) ≡ length ms
length-pieces start [] bytes = refl
length-pieces start (m ∷ ms) bytes = ap (λ n. suc n) (length-pieces m.end ms bytes)

AreMarks-le : (start : ℕ) (ms : List Mark) (len : ℕ) → AreMarks start ms len → start ≤ len
AreMarks-le start [] len h = omega arith
AreMarks-le start (m ∷ ms) len h = omega (arith, AreMarks-le m.end ms len h.1)

AreMarks-push : (start : ℕ) (ms : List Mark) (len : ℕ) (m : Mark) → AreMarks start ms len → len ≤ m.end
    → AreMarks start (ms ++ m ∷ []) m.end
AreMarks-push start [] len m h le = (omega arith, refl)
AreMarks-push start (x ∷ ms) len m h le = (h.0, AreMarks-push x.end ms len m h.1 le)

last_piece : (bytes new : List ℕ) → slice_range (bytes ++ new) (length bytes) (length bytes + length new) ≡ new
last_piece bytes new =
    ap (λ n. take (n - length bytes) (drop (length bytes) (bytes ++ new))) (sym (length-append bytes new))
    ∙ take_rest (bytes ++ new) (length bytes) ∙ drop-append_seam bytes new

piece_stays : (start end : ℕ) (bytes new : List ℕ) → start ≤ end → end ≤ length bytes
    → slice_range (bytes ++ new) start end ≡ slice_range bytes start end
piece_stays start end bytes new le fits =
    rw (drop-append-le start bytes new (omega arith))
    (take-append-le (end - start) (drop start bytes) new (omega (arith, length-drop start bytes)))

pieces-push : (start : ℕ) (ms : List Mark) (bytes new : List ℕ) (node : ℕ) → AreMarks start ms (length bytes) →
    pieces start (ms ++ record { end = length bytes + length new; node = node } ∷ []) (bytes ++ new)
    ≡ pieces start ms bytes ++ record { node = node; bytes = new } ∷ []
pieces-push start [] bytes new node h = rw h (ap (λ p. record { node = node; bytes = p } ∷ []) (last_piece bytes new))
pieces-push start (m ∷ ms) bytes new node h =
    let first = piece_stays start m.end bytes new h.0 (AreMarks-le m.end ms (length bytes) h.1) in
    rw (first, pieces-push m.end ms bytes new node h.1) refl

-- ---- one more datagram

-- what is appended in three parts
pub in_parts : (bytes one two three x y z : List ℕ) → one ≡ bytes ++ x → two ≡ one ++ y → three ≡ two ++ z
    → three ≡ bytes ++ (x ++ (y ++ z))
in_parts bytes one two three x y z first second last =
    last ∙ ap (λ b. b ++ z) (second ∙ ap (λ b. b ++ y) first) ∙ append_assoc (bytes ++ x) y z
    ∙ append_assoc bytes x (y ++ z)

pub marks_after : (ms ms' : List Mark) (bytes whole new : List ℕ) (node : ℕ) → AreMarks 0 ms (length bytes)
    → whole ≡ bytes ++ new → ms' ≡ ms ++ record { end = length whole; node = node } ∷ [] → AreMarks 0 ms' (length whole)
marks_after ms ms' bytes whole new node h is last =
    rw last (AreMarks-push 0 ms (length bytes) (record { end = length whole; node = node }) h
    (omega (arith, ap length is, length-append bytes new)))

pub pieces_after : (ms ms' : List Mark) (bytes whole new : List ℕ) (node : ℕ) (items : List Posted)
    → AreMarks 0 ms (length bytes) → whole ≡ bytes ++ new → ms' ≡ ms ++ record { end = length whole; node = node } ∷ []
    → pieces 0 ms bytes ≡ items → pieces 0 ms' whole ≡ items ++ record { node = node; bytes = new } ∷ []
pieces_after ms ms' bytes whole new node items h is last before =
    let len : length whole ≡ length bytes + length new = ap length is ∙ length-append bytes new in
    rw (last, len, is, ← before) (pieces-push 0 ms bytes new node h)

-- ---- the datagrams of another list behind those of one

-- each mark is within the bytes
pub mark_within : (from : ℕ) (ms : List Mark) (len k : ℕ) (d : Mark) → AreMarks from ms len → k < length ms
    → (get_or ms k d).end ≤ len
mark_within from [] len k d h lt = absurd (omega arith)
mark_within from (m ∷ ms) len zero d h lt = AreMarks-le m.end ms len h.1
mark_within from (m ∷ ms) len (suc k) d h lt = mark_within m.end ms len k d h.1 (omega arith)

AreMarks-behind : (base from : ℕ) (ms : List Mark) (len : ℕ) → AreMarks from ms len
    → AreMarks (base + from) (map (behind base) ms) (base + len)
AreMarks-behind base from [] len h = ap (λ n. base + n) h
AreMarks-behind base from (m ∷ ms) len h = (omega (arith, h.0), AreMarks-behind base m.end ms len h.1)

AreMarks-both : (start : ℕ) (ms others : List Mark) (len more : ℕ) → AreMarks start ms len → AreMarks 0 others more
    → AreMarks start (ms ++ map (behind len) others) (len + more)
AreMarks-both start [] others len more h g =
    subst (λ n. AreMarks n (map (behind len) others) (len + more)) (omega (arith, h))
    (AreMarks-behind len 0 others more g)
AreMarks-both start (m ∷ ms) others len more h g = (h.0, AreMarks-both m.end ms others len more h.1 g)

piece_behind : (bytes more : List ℕ) (from end : ℕ)
    → slice_range (bytes ++ more) (length bytes + from) (length bytes + end) ≡ slice_range more from end
piece_behind bytes more from end =
    ap (λ n. take n (drop (length bytes + from) (bytes ++ more))) (omega arith)
    ∙ ap (take (end - from)) (drop-append-add bytes more from)

pieces-behind : (bytes more : List ℕ) (from : ℕ) (ms : List Mark)
    → pieces (length bytes + from) (map (behind (length bytes)) ms) (bytes ++ more) ≡ pieces from ms more
pieces-behind bytes more from [] = refl
pieces-behind bytes more from (m ∷ ms) =
    rw (piece_behind bytes more from m.end, pieces-behind bytes more m.end ms) refl

pieces-both : (start : ℕ) (ms others : List Mark) (bytes more : List ℕ) → AreMarks start ms (length bytes)
    → pieces start (ms ++ map (behind (length bytes)) others) (bytes ++ more)
    ≡ pieces start ms bytes ++ pieces 0 others more
pieces-both start [] others bytes more h =
    ap (λ n. pieces n (map (behind (length bytes)) others) (bytes ++ more)) (omega (arith, h))
    ∙ pieces-behind bytes more 0 others
pieces-both start (m ∷ ms) others bytes more h =
    let first = piece_stays start m.end bytes more h.0 (AreMarks-le m.end ms (length bytes) h.1) in
    rw (first, pieces-both m.end ms others bytes more h.1) refl

-- the marks and the pieces of both lists
pub both : (ms others ms' : List Mark) (bytes more bytes' : List ℕ) (base : ℕ) → AreMarks 0 ms (length bytes)
    → AreMarks 0 others (length more) → base ≡ length bytes → ms' ≡ ms ++ map (behind base) others
    → bytes' ≡ bytes ++ more
    → AreMarks 0 ms' (length bytes') × (pieces 0 ms' bytes' ≡ pieces 0 ms bytes ++ pieces 0 others more)
both ms others ms' bytes more bytes' base h g at marks all = rw (marks, all, at) (
  subst (AreMarks 0 (ms ++ map (behind (length bytes)) others)) (sym (length-append bytes more))
      (AreMarks-both 0 ms others (length bytes) (length more) h g),
  pieces-both 0 ms others bytes more h,
)

-- ---- the datagram at an index

-- where the bytes of the datagram at an index lie
pub record Lies (ms : List Mark) (bytes : List ℕ) (from i : ℕ) (m : Mark) : Type 0 where
  pub start : ℕ
  pub is_start : start_at from ms i ≡ start
  pub in_order : start ≤ m.end
  pub within : m.end ≤ length bytes
  pub item : slice_get (pieces from ms bytes) i ≡ Some (record { node = m.node; bytes = slice_range bytes start m.end })

-- the start does not matter past the first mark
other_start : (from from' : ℕ) (ms : List Mark) (i : ℕ) → i < length ms
    → option_map_or (λ (m : Mark). m.end) (slice_get ms i) from
    ≡ option_map_or (λ (m : Mark). m.end) (slice_get ms i) from'
other_start from from' [] i lt = absurd (omega arith)
other_start from from' (m ∷ ms) zero lt = refl
other_start from from' (m ∷ ms) (suc i) lt = other_start from from' ms i (omega arith)

next_start : (from : ℕ) (x : Mark) (ms : List Mark) (i : ℕ) → i < length ms → start_at from (x ∷ ms) (suc i)
    ≡ start_at x.end ms i
next_start from x ms zero lt = refl
next_start from x [] (suc i) lt = absurd (omega arith)
next_start from x (y ∷ ms) (suc i) lt = other_start from x.end (y ∷ ms) i (omega arith)

pub lies : (from : ℕ) (ms : List Mark) (bytes : List ℕ) (i : ℕ) (m : Mark) → AreMarks from ms (length bytes)
    → slice_get ms i ≡ Some m → Lies ms bytes from i m
lies from [] bytes i m h at = absurd (cc)
lies from (x ∷ ms) bytes zero m h at =
    let same : x ≡ m = cc in
    let ends : AreMarks m.end ms (length bytes) = subst (λ (y : Mark). AreMarks y.end ms (length bytes)) same h.1 in
    record {
      start = from;
      is_start = refl;
      in_order = subst (λ (y : Mark). from ≤ y.end) same h.0;
      within = AreMarks-le m.end ms (length bytes) ends;
      item = ap (λ (y : Mark). Some (record { node = y.node; bytes = slice_range bytes from y.end })) same;
    }
lies from (x ∷ ms) bytes (suc i) m h at =
    let rest = lies x.end ms bytes i m h.1 at in
    record {
      start = rest.start;
      is_start = next_start from x ms i (slice_get_within ms i m at) ∙ rest.is_start;
      in_order = rest.in_order;
      within = rest.within;
      item = rest.item;
    }

-- the same for a list of these pieces
pub lies_in : (items : List Posted) (ms : List Mark) (bytes : List ℕ) (i : ℕ) → pieces 0 ms bytes ≡ items
    → AreMarks 0 ms (length bytes) → i < length items → (m : Mark) × (slice_get ms i ≡ Some m) × Lies ms bytes 0 i m
lies_in items ms bytes i is h lt = go (slice_get_cases ms i).1
  where
    go : ((m : Mark) × (i < length ms) × (slice_get ms i ≡ Some m) × (get_or ms i m ≡ m))
        ⊎ ((length ms ≤ i) × (slice_get ms i ≡ None)) → (m : Mark) × (slice_get ms i ≡ Some m) × Lies ms bytes 0 i m
    go (inl here) = (here.0, here.2, lies 0 ms bytes i here.0 h here.2)
    go (inr past) = absurd (omega (arith, past.0, length-pieces 0 ms bytes, ap (length {A = Posted}) is))
