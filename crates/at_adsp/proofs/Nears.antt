-- What a segment tells an end is the same on the cable, where its numbers lie near those of the end.
use Rattle.std.proofs.Common.{◌≡◌, ℕ, ◌+◌, ◌-◌, ◌%◌, ◌^◌, ◌<◌, ◌≤◌, Bool, true, false, cond, List}
use Rattle.std.proofs.Common.{Some, None, refl, sym, ap, subst, ◌∙◌, arith, lit<, lit≤}
use Rattle.std.specs.Prelude.{nat_le, nat_lt, ◌==◌, ◌&&◌, length}
use Rattle.std.proofs.lemmas.Bool.{leb-true, leb-false, eqb-true, eqb-false, eq-eqb, le-leb, le-ltb, ltb-true}
use Rattle.std.proofs.lemmas.Bool.{ltb-false, ne_eqb}
use Rattle.at_adsp_frame.specs.Segments.{Content, Part, Data, Probe, Open, Close, Reset, ResetAck, Advice}
use Rattle.at_adsp_end.specs.Cuts.{items_in}
use Rattle.at_adsp_end.specs.Ends.{EndState, free}
use Rattle.at_adsp_end.specs.Hearing.{Answers, Brings, Resets, fitting, rest, saying, told}
use Rattle.at_adsp_end.specs.Positions.{far_around, whole, wire}
use Rattle.at_adsp_end.specs.Sending.{acks, at_most}
use Rattle.at_adsp_end.specs.declared.item.Item.{Item}
use Rattle.at_adsp.specs.Wires.{wired, wired_segment}
use Rattle.at_adsp.proofs.Fews.{count_of}
use Rattle.at_adsp.proofs.Rounds.{ahead_back, ahead_on, at_adds, far_back, far_on}
use Rattle.std.proofs.lemmas.List.{drop_all}

abbrev M : ℕ
M = 2 ^ 32

-- numbers less than half of all numbers apart
pub record Near (a b : ℕ) : Type 0 where
  pub on : b < a + 2 ^ 31
  pub back : a < b + 2 ^ 31

ahead_near : (a b : ℕ) → Near a b → wire.ahead (a % M) (b % M) ≡ whole.ahead a b
ahead_near a b h = go (nat_le a b) refl
  where
    go : (c : Bool) → nat_le a b ≡ c → wire.ahead (a % M) (b % M) ≡ cond c (Some (b - a)) None
    go true e =
        let le = leb-true a b e in
        let on = h.on in
        let there : a + (b - a) ≡ b = omega (arith, le) in
        subst (λ x. wire.ahead (a % M) (x % M) ≡ Some (b - a)) there
        (ahead_on M (2 ^ 31) a (b - a) (lit≤ tt) (omega (arith, on, le)))
    go false e =
        let lt = leb-false a b e in
        let back = h.back in
        let there : b + (a - b) ≡ a = omega (arith, lt) in
        subst (λ x. wire.ahead (x % M) (b % M) ≡ None) there
        (ahead_back M (2 ^ 31) b (a - b) (omega (arith, lt)) (omega (arith, back, lt)) (lit< tt))

-- numbers less than all numbers apart that are one on the cable are one
one_near : (a b : ℕ) → a < b + 2 ^ 32 → b < a + 2 ^ 32 → a % M ≡ b % M → a ≡ b
one_near a b back on same = go (nat_le a b) refl
  where
    -- the way from a number to itself
    far_same : (x d : ℕ) → d < M → x % M ≡ (x + d) % M → d ≡ 0
    far_same x d lt is =
        sym (far_on M x d (lit< tt) lt) ∙ ap (λ y. far_around M (x % M) y) (sym is ∙ ap (λ y. y % M) (omega arith))
        ∙ far_on M x 0 (lit< tt) (lit< tt)

    go : (c : Bool) → nat_le a b ≡ c → a ≡ b
    go true e =
        let le = leb-true a b e in
        let there : a + (b - a) ≡ b = omega (arith, le) in
        let none = far_same a (b - a) (omega (arith, on, le)) (same ∙ ap (λ x. x % M) (sym there)) in
        omega (arith, none, le)
    go false e =
        let lt = leb-false a b e in
        let there : b + (a - b) ≡ a = omega (arith, lt) in
        let none = far_same b (a - b) (omega (arith, back, lt)) (sym same ∙ ap (λ x. x % M) (sym there)) in
        omega (arith, none, lt)

equal_near : (a b : ℕ) → a < b + 2 ^ 32 → b < a + 2 ^ 32 → (a % M == b % M) ≡ (a == b)
equal_near a b back on = go (a == b) refl
  where
    go : (c : Bool) → (a == b) ≡ c → (a % M == b % M) ≡ c
    go true e = eq-eqb (a % M) (b % M) (ap (λ x. x % M) (eqb-true a b e))
    go false e = ne_eqb (a % M) (b % M) (λ same. eqb-false a b e (one_near a b back on same))

-- ---- what a segment tells an end

-- what a segment expects next does not lie half of all numbers past what an end sent first, and what was sent last does
-- not lie all numbers past that
pub record NearAcks (e : EndState) (next : ℕ) : Type 0 where
  pub on : next < e.sender.front + 2 ^ 31
  pub back : e.sender.front + length e.sender.unacknowledged < next + 2 ^ 32

-- a number that lies behind acknowledges nothing
none_behind : (n front next : ℕ) → next < front → front + n < next + 2 ^ 32
    → at_most n (wire.ahead (front % M) (next % M)) ≡ None
none_behind n front next lt near = go (nat_lt (far_around M (front % M) (next % M)) (2 ^ 31))
    (nat_le (far_around M (front % M) (next % M)) n) refl
  where
    there : next + (front - next) ≡ front
    there = omega (arith, lt)

    far : far_around M (front % M) (next % M) ≡ M - (front - next)
    far = ap (λ x. far_around M (x % M) (next % M)) (sym there)
        ∙ far_back M next (front - next) (omega (arith, lt)) (omega (arith, lt, near))

    go : (c d : Bool) → nat_le (far_around M (front % M) (next % M)) n ≡ d →
        at_most n (cond c (Some (far_around M (front % M) (next % M))) None) ≡ None
    go true true is =
        let le = leb-true (far_around M (front % M) (next % M)) n is in
        let same = far in
        absurd (omega (arith, le, same, near, lt))
    go true false is = ap (λ d. cond d (Some (far_around M (front % M) (next % M))) None) is
    go false d is = refl

-- what it acknowledges
pub acks_near : (e : EndState) (next : ℕ) → NearAcks e next → acks wire (wired e).sender (next % M)
    ≡ acks whole e.sender next
acks_near e next near = go (nat_le e.sender.front next) refl
  where
    go : (c : Bool) → nat_le e.sender.front next ≡ c →
        at_most (length e.sender.unacknowledged) (wire.ahead (e.sender.front % M) (next % M))
        ≡ at_most (length e.sender.unacknowledged) (cond c (Some (next - e.sender.front)) None)
    go true is =
        let le = leb-true e.sender.front next is in
        let on = near.on in
        let there : e.sender.front + (next - e.sender.front) ≡ next = omega (arith, le) in
        ap (at_most (length e.sender.unacknowledged))
        (subst (λ x. wire.ahead (e.sender.front % M) (x % M) ≡ Some (next - e.sender.front)) there
        (ahead_on M (2 ^ 31) e.sender.front (next - e.sender.front) (lit≤ tt) (omega (arith, on, le))))
    go false is = none_behind (length e.sender.unacknowledged) e.sender.front next
        (leb-false e.sender.front next is) near.back

-- Of data that begins half of all numbers behind, or further, nothing is left on the cable, and nothing where numbers
-- may be of any size.
rest_near : (items : List Item) (first received : ℕ) → length items ≤ 2 ^ 31 → first < received + 2 ^ 31
    → received < first + 2 ^ 32 → rest items (wire.ahead (first % M) (received % M))
    ≡ rest items (whole.ahead first received)
rest_near items first received few on back = go (nat_lt received (first + 2 ^ 31)) refl
  where
    go : (c : Bool) → nat_lt received (first + 2 ^ 31) ≡ c → rest items (wire.ahead (first % M) (received % M))
        ≡ rest items (whole.ahead first received)
    go true e =
        let lt = ltb-true received (first + 2 ^ 31) e in
        ap (rest items) (ahead_near first received (record { on = lt; back = on }))
    go false e =
        let le = ltb-false received (first + 2 ^ 31) e in
        let there : first + (received - first) ≡ received = omega (arith, le) in
        let far : far_around M (first % M) (received % M)
        ≡ received - first = ap (λ x. far_around M (first % M) (x % M)) (sym there)
        ∙ far_on M first (received - first) (lit< tt) (omega (arith, back, le)) in
        let none : wire.ahead (first % M) (received % M)
        ≡ None = ap (λ x. cond (nat_lt x (2 ^ 31)) (Some x) None) far
        ∙ ap (λ b. cond b (Some (received - first)) None) (le-ltb (received - first) (2 ^ 31) (omega (arith, le))) in
        let ahead : whole.ahead first received
        ≡ Some (received - first) = ap (λ b. cond b (Some (received - first)) None) (le-leb first received
        (omega (arith, le))) in
        ap (rest items) none ∙ sym (drop_all (received - first) items (omega (arith, few, le)))
        ∙ ap (rest items) (sym ahead)

-- a forward reset lies less than half of all numbers behind
abbrev pub LiesNear : Part → ℕ → ℕ → Type 0
LiesNear Reset received first = received < first + 2 ^ 31
LiesNear other received first = Unit {0}

-- the numbers of a segment with this body and those of the end that hears it
pub record IsNearPart (e : EndState) (first next : ℕ) (part : Part) : Type 0 where
  pub acked : NearAcks e next
  pub on : first < e.receiver.received + 2 ^ 31
  pub back : e.receiver.received < first + 2 ^ 32
  pub exact : LiesNear part e.receiver.received first
  pub count : count_of part ≤ 2 ^ 31

abbrev pub IsNear : EndState → Content → Type 0
IsNear e s = IsNearPart e s.first s.next s.body

saying_near : (e : EndState) (first next : ℕ) (part : Part) → IsNearPart e first next part
    → saying wire (wired e) (first % M) (next % M) part ≡ saying whole e first next part
saying_near e first next (Data end bytes) h =
    ap Brings (rest_near (items_in end bytes) first e.receiver.received h.count h.on h.back)
saying_near e first next Probe h = refl
saying_near e first next (Open kind dest) h = refl
saying_near e first next Close h = refl
saying_near e first next Reset h =
    let on = h.on in
    let exact = h.exact in
    λ i. Resets (fitting (free e) (ahead_near e.receiver.received first (record { on = on; back = exact }) i)
    (ahead_near first e.receiver.received (record { on = exact; back = on }) i))
saying_near e first next ResetAck h =
    ap (λ b. Answers (e.sender.resetting && b))
    (ap (λ x. next % M == x) (at_adds M e.sender.front (length e.sender.unacknowledged))
    ∙ equal_near next (e.sender.front + length e.sender.unacknowledged)
    (let a = h.acked in let on = a.on in omega (arith, on))
    (let a = h.acked in let back = a.back in omega (arith, back)))
saying_near e first next Advice h = refl

pub told_near : (e : EndState) (s : Content) → IsNear e s → told wire (wired e) (wired_segment s) ≡ told whole e s
told_near e s h = λ i. record {
  acks = acks_near e s.next h.acked i;
  window = s.window;
  ack = s.ack;
  saying = saying_near e s.first s.next s.body h i;
}
