-- How many items segments carry, and how far what one says lets an end go on.
use Rattle.std.proofs.Common.{◌≡◌, ℕ, zero, suc, ◌+◌, ◌-◌, ◌*◌, ◌≤◌, ◌≢◌, Bool, true, false, cond, List, [], ◌∷◌, ◌++◌}
use Rattle.std.proofs.Common.{length, take, drop, Option, Some, None, refl, sym, ap, ◌∙◌, arith, lit≤}
use Rattle.std.specs.Prelude.{nat_le, ◌==◌}
use Rattle.std.proofs.lemmas.Bool.{true≢false, eq-eqb}
use Rattle.at_adsp_frame.specs.Segments.{Part, Data, Probe, Open, Close, Reset, ResetAck, Advice}
use Rattle.at_adsp_end.specs.Cuts.{Piece, items_in, items_of, last_piece, numbered, open_piece, pieces}
use Rattle.at_adsp_end.specs.Ends.{EndState, free}
use Rattle.at_adsp_end.specs.Hearing.{Brings, Resets, Saying, fitting, passed, rest, saying}
use Rattle.at_adsp_end.specs.Positions.{whole}
use Rattle.at_adsp_end.specs.Sending.{going, sending}
use Rattle.at_adsp_end.specs.declared.forward.Forward.TheVariants.{Jump}
use Rattle.at_adsp_end.specs.declared.item.Item.{Item}
use Rattle.at_adsp_end.specs.declared.item.Item.TheVariants.{Byte, End}
use Rattle.at_adsp.proofs.Hears.{ahead_far}
use Rattle.at_adsp.proofs.Logs.{length_both}

-- ---- lists

pub length_drop : {X : Type 0} (d : ℕ) (xs : List X) → length (drop d xs) ≡ length xs - d
length_drop zero xs = omega arith
length_drop (suc d) [] = omega arith
length_drop (suc d) (x ∷ xs) = let rest = length_drop d xs in omega (arith, rest)

pub length_take : {X : Type 0} (k : ℕ) (xs : List X) → length (take k xs) ≤ length xs
length_take zero xs = omega arith
length_take (suc k) [] = omega arith
length_take (suc k) (x ∷ xs) = let rest = length_take k xs in omega (arith, rest)

-- a piece has at most 573 items
last_many : (got : List ℕ) → length got ≤ 572 → length got ≤ 573 * length (last_piece got)
last_many [] few = omega arith
last_many (b ∷ got) few = omega (arith, few)

pieces_many : (got : List ℕ) (xs : List Item) → length got ≤ 572 → length got + length xs ≤ 573 * length (pieces got xs)
pieces_many got [] few = let last = last_many got few in omega (arith, last)
pieces_many got (End ∷ xs) few = let rest = pieces_many [] xs (lit≤ tt) in omega (arith, rest, few)
pieces_many got (Byte b ∷ xs) few =
    go (pieces_many (b ∷ []) xs (lit≤ tt)) (λ more. pieces_many (got ++ b ∷ []) xs more) (length got == 572) refl
  where
    go : length (b ∷ []) + length xs ≤ 573 * length (pieces (b ∷ []) xs)
        → (length (got ++ b ∷ []) ≤ 572
        → length (got ++ b ∷ []) + length xs ≤ 573 * length (pieces (got ++ b ∷ []) xs)) →
        (c : Bool) → (length got == 572) ≡ c
        → length got + length (Byte b ∷ xs) ≤ 573 * length
        (cond c (open_piece got ∷ pieces (b ∷ []) xs) (pieces (got ++ b ∷ []) xs))
    go full rest true is = omega (arith, full, few)
    go full rest false is =
        let other : length got ≢ 572 = (λ e. true≢false (sym (eq-eqb (length got) 572 e) ∙ is)) in
        let both = length_both got (b ∷ []) in
        let more = rest (omega (arith, both, few, other)) in
        omega (arith, more, both)

pub numbered_length : (e : EndState) (first : ℕ) (ps : List Piece) → length (numbered whole e first ps) ≡ length ps
numbered_length e first [] = refl
numbered_length e first (p ∷ ps) = ap suc (numbered_length e (first + length (items_of p)) ps)

-- so the segments that go now carry all that goes
pub going_many : (e : EndState) → length (going e.sender) ≤ 573 * length (sending whole e).sent
going_many e =
    let n = numbered_length e (e.sender.front + length e.sender.unacknowledged) (pieces [] (going e.sender)) in
    let many = pieces_many [] (going e.sender) (lit≤ tt) in
    omega (arith, n, many)

-- ---- what a segment says

abbrev pub count_of : Part → ℕ
count_of (Data end bytes) = length (items_in end bytes)
count_of other = 0

-- what a segment says to an end that expects this number
abbrev pub FewSaid : ℕ → ℕ → Saying → Type 0
FewSaid bound r (Brings items) = r + length items ≤ bound
FewSaid bound r (Resets (Jump d)) = r + d ≤ bound
FewSaid bound r other = Unit {0}

pub rest_few : (bound : ℕ) (items : List Item) (first r : ℕ) (o : Option ℕ) → whole.ahead first r ≡ o
    → first + length items ≤ bound → r ≤ bound → r + length (rest items o) ≤ bound
rest_few bound items first r None is le most = omega (arith, most)
rest_few bound items first r (Some d) is le most = let far = ahead_far first r d is in let n = length_drop d items in
    omega (arith, le, most, far, n)

reset_few : (bound r first room : ℕ) (a behind : Option ℕ) → first ≤ bound → whole.ahead r first ≡ a
    → FewSaid bound r (Resets (fitting room a behind))
reset_few bound r first room None None le is = tt
reset_few bound r first room None (Some d) le is = tt
reset_few bound r first room (Some d) behind le is = go (nat_le d room) behind
  where
    go : (b : Bool) (behind : Option ℕ) → FewSaid bound r (Resets (cond b (Jump d) (passed behind)))
    go true behind = let far = ahead_far r first d is in omega (arith, far, le)
    go false None = tt
    go false (Some x) = tt

pub saying_few : (bound : ℕ) (e : EndState) (first next : ℕ) (part : Part) → first + count_of part ≤ bound
    → e.receiver.received ≤ bound → FewSaid bound e.receiver.received (saying whole e first next part)
saying_few bound e first next (Data end bytes) le most = rest_few bound (items_in end bytes) first e.receiver.received
    (whole.ahead first e.receiver.received) refl le most
saying_few bound e first next Probe le most = tt
saying_few bound e first next (Open kind dest) le most = tt
saying_few bound e first next Close le most = tt
saying_few bound e first next Reset le most = reset_few bound e.receiver.received first (free e)
    (whole.ahead e.receiver.received first) (whole.ahead first e.receiver.received) (omega (arith, le)) refl
saying_few bound e first next ResetAck le most = tt
saying_few bound e first next Advice le most = tt
