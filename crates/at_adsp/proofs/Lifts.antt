-- What a segment with any numbers tells an end on the cable, another tells it where numbers may be of any size.
use Rattle.std.proofs.Common.{◌≡◌, ℕ, zero, suc, ◌+◌, ◌-◌, ◌%◌, ◌^◌, ◌<◌, ◌≤◌, Bool, true, false, cond, List, [], ◌∷◌}
use Rattle.std.proofs.Common.{◌++◌, length, drop, Option, Some, None, refl, sym, ap, subst, ◌∙◌, arith, lit≤}
use Rattle.std.specs.Prelude.{IfSome, nat_le, ◌==◌, ◌&&◌}
use Rattle.std.proofs.lemmas.Bool.{and_parts, eqb-true, eq-eqb, leb-true, leb-false, le-leb, lt-leb}
use Rattle.at_adsp_frame.specs.Segments.{Content, Part, Data, Probe, Open, Close, Reset, ResetAck, Advice}
use Rattle.at_adsp_end.specs.Cuts.{items_in}
use Rattle.at_adsp_end.specs.Ends.{Change, EndState, Receiver, Sender, control, free}
use Rattle.at_adsp_end.specs.Hearing.{Advises, Answers, Asks, Brings, Closes, Resets, Outcome, Saying, Told, fitting}
use Rattle.at_adsp_end.specs.Hearing.{forward, heard, jumped, passed, rest, saying, told}
use Rattle.at_adsp_end.specs.Positions.{whole, wire}
use Rattle.at_adsp_end.specs.Sending.{acks, at_most, hearing}
use Rattle.at_adsp_end.specs.declared.forward.Forward.{Forward}
use Rattle.at_adsp_end.specs.declared.forward.Forward.TheVariants.{Jump, Older, Beyond}
use Rattle.at_adsp_end.specs.declared.item.Item.{Item}
use Rattle.at_adsp.specs.Wires.{wired}
use Rattle.at_adsp.proofs.Carries.{at_most_within}
use Rattle.at_adsp.proofs.EndMoves.{IsPlainPart}
use Rattle.at_adsp.proofs.Hears.{hearing_receiver}
use Rattle.at_adsp.proofs.Rounds.{ahead_on, at_adds}

abbrev M : ℕ
M = 2 ^ 32

-- ---- numbers that lie so far ahead

ahead_to : (a d : ℕ) → whole.ahead a (a + d) ≡ Some d
ahead_to a d = go (nat_le a (a + d)) refl
  where
    go : (c : Bool) → nat_le a (a + d) ≡ c → cond c (Some ((a + d) - a)) None ≡ Some d
    go true e = ap Some (omega arith)
    go false e = absurd (let lt = leb-false a (a + d) e in omega (arith, lt))

ahead_same : (a : ℕ) → whole.ahead a a ≡ Some 0
ahead_same a = ap (whole.ahead a) (omega arith) ∙ ahead_to a 0

ahead_none : (a b : ℕ) → b < a → whole.ahead a b ≡ None
ahead_none a b lt = ap (λ c. cond c (Some (b - a)) None) (lt-leb a b lt)

-- ---- acknowledgements

-- a number that acknowledges so many items, or none
abbrev pub next_for : Sender → Option ℕ → ℕ
next_for s None = s.front + (length s.unacknowledged + 1)
next_for s (Some k) = s.front + k

pub acks_for : (s : Sender) (o : Option ℕ) → IfSome o (λ k. k ≤ length s.unacknowledged) → acks whole s (next_for s o)
    ≡ o
acks_for s None le =
    ap (at_most (length s.unacknowledged)) (ahead_to s.front (length s.unacknowledged + 1))
    ∙ ap (λ c. cond c (Some (length s.unacknowledged + 1)) None)
    (lt-leb (length s.unacknowledged + 1) (length s.unacknowledged) (omega arith))
acks_for s (Some k) le = ap (at_most (length s.unacknowledged)) (ahead_to s.front k)
    ∙ ap (λ c. cond c (Some k) None) (le-leb k (length s.unacknowledged) le)

pub acks_few : (s : Sender) (next : ℕ) → IfSome (acks wire s next) (λ k. k ≤ length s.unacknowledged)
acks_few s next = at_most_within (length s.unacknowledged) (wire.ahead s.front next)

-- ---- data

-- a segment can carry these items
record Carried (items : List Item) : Type 0 where
  end : Bool
  bytes : List ℕ
  same : items_in end bytes ≡ items

none_left : (d : ℕ) → drop {A = Item} d [] ≡ []
none_left zero = refl
none_left (suc d) = refl

carried : (d : ℕ) (end : Bool) (bytes : List ℕ) → Carried (drop d (items_in end bytes))
carried zero end bytes = record { end = end; bytes = bytes; same = refl }
carried (suc d) end (b ∷ bytes) = carried d end bytes
carried (suc d) true [] = record { end = false; bytes = []; same = sym (none_left d) }
carried (suc d) false [] = record { end = false; bytes = []; same = refl }

carried_rest : (o : Option ℕ) (end : Bool) (bytes : List ℕ) → Carried (rest (items_in end bytes) o)
carried_rest None end bytes = record { end = false; bytes = []; same = refl }
carried_rest (Some d) end bytes = carried d end bytes

-- ---- resets

jump_fits : (room : ℕ) (a behind : Option ℕ) (d : ℕ) → fitting room a behind ≡ Jump d → d ≤ room
jump_fits room None None d is = absurd (cc)
jump_fits room None (Some b) d is = absurd (cc)
jump_fits room (Some x) behind d is = go (nat_le x room) refl behind is
  where
    go : (c : Bool) → nat_le x room ≡ c → (behind : Option ℕ) → cond c (Jump x) (passed behind) ≡ Jump d → d ≤ room
    go true e behind h = let same : x ≡ d = cc in subst (λ y. y ≤ room) same (leb-true x room e)
    go false e None h = absurd (cc)
    go false e (Some b) h = absurd (cc)

-- ---- what has the same effect

-- the steps may differ
pub record SameEffect (o p : Outcome) : Type 0 where
  pub after : o.after ≡ p.after
  pub sent : o.sent ≡ p.sent

-- an end that has little under way while it resets, and nothing unread before anything came
pub record CanLift (e : EndState) : Type 0 where
  pub few : e.sender.resetting ≡ true → length e.sender.unacknowledged < 2 ^ 31
  pub unread : length e.receiver.unread ≤ e.receiver.received

-- another segment of the same end, which opens nothing, and has the same effect
pub record Lifted (e : EndState) (s : Content) (t : Told) : Type 0 where
  pub segment : Content
  pub source : segment.source ≡ s.source
  pub window : segment.window ≡ s.window
  pub plain : IsPlainPart segment.body
  pub same : SameEffect (heard whole e t) (heard whole e (told whole e segment))

module _ (e : EndState) (s : Content) (can : CanLift e) where
  within : IfSome (acks wire (wired e).sender s.next) (λ k. k ≤ length e.sender.unacknowledged)
  within = acks_few (wired e).sender s.next

  abbrev tells : Saying → Told
  tells says = record { acks = acks wire (wired e).sender s.next; window = s.window; ack = s.ack; saying = says }

  abbrev another : ℕ → Bool → Part → Content
  another first ack body =
      record {
        source = s.source;
        first = first;
        next = next_for e.sender (acks wire (wired e).sender s.next);
        window = s.window;
        ack = ack;
        body = body;
      }

  -- it tells the same
  by_saying : (first : ℕ) (body : Part) (says : Saying) → IsPlainPart body
      → saying whole e first (next_for e.sender (acks wire (wired e).sender s.next)) body ≡ says
      → Lifted e s (tells says)
  by_saying first body says plain same = record {
    segment = another first s.ack body;
    source = refl;
    window = refl;
    plain = plain;
    same = record {
      after = ap (λ (x : Told). (heard whole e x).after) (sym told_same);
      sent = ap (λ (x : Told). (heard whole e x).sent) (sym told_same);
    };
  }
    where
      told_same : told whole e (another first s.ack body) ≡ tells says
      told_same = λ i. record {
        acks = acks_for e.sender (acks wire (wired e).sender s.next) within i;
        window = s.window;
        ack = s.ack;
        saying = same i;
      }

  -- data from what is expected on
  lift_data : (end : Bool) (bytes : List ℕ) → Lifted e s (tells (saying wire (wired e) s.first s.next (Data end bytes)))
  lift_data end bytes =
      let c = carried_rest (wire.ahead s.first (e.receiver.received % M)) end bytes in
      by_saying e.receiver.received (Data c.end c.bytes)
      (Brings (rest (items_in end bytes) (wire.ahead s.first (e.receiver.received % M)))) tt
      (ap (λ o. Brings (rest (items_in c.end c.bytes) o)) (ahead_same e.receiver.received) ∙ ap Brings c.same)

  -- an older reset, where nothing was received: one that passes nothing
  passes_nothing : e.receiver.received ≡ 0 → Lifted e s (tells (Resets Older))
  passes_nothing none = record {
    segment = another e.receiver.received s.ack Reset;
    source = refl;
    window = refl;
    plain = tt;
    same = record {
      after = sym unchanged ∙ ap (λ (x : Told). (heard whole e x).after) (sym told_same);
      sent = ap (λ (x : EndState). c.sent ++ control whole x false ResetAck ∷ []) (sym unchanged)
          ∙ ap (λ (x : Told). (heard whole e x).sent) (sym told_same);
    };
  }
    where
      c : Change
      c = hearing whole e s.window (acks wire (wired e).sender s.next)

      told_same : told whole e (another e.receiver.received s.ack Reset) ≡ tells (Resets (Jump 0))
      told_same = λ i. record {
        acks = acks_for e.sender (acks wire (wired e).sender s.next) within i;
        window = s.window;
        ack = s.ack;
        saying =
            (ap (λ o. Resets (fitting (free e) o o)) (ahead_same e.receiver.received)
            ∙ ap (λ b. Resets (cond b (Jump 0) Older)) (le-leb 0 (free e) (omega arith))) i;
      }

      empty : e.receiver.unread ≡ []
      empty = go e.receiver.unread refl
        where
          go : (xs : List Item) → e.receiver.unread ≡ xs → xs ≡ []
          go [] is = refl
          go (x ∷ xs) is = absurd (let less = can.unread in let many = ap length is in omega (arith, less, many, none))

      receiver_same : record { received = e.receiver.received + 0; unread = [] } ≡ e.receiver
      receiver_same = (λ i. record { received = plus i; unread = sym empty i })
        where
          plus : e.receiver.received + 0 ≡ e.receiver.received
          plus = omega arith

      unchanged : jumped whole (hearing whole e s.window (acks wire (wired e).sender s.next)).after 0
          ≡ (hearing whole e s.window (acks wire (wired e).sender s.next)).after
      unchanged =
          let r = hearing_receiver e s.window (acks wire (wired e).sender s.next) in
          let f : EndState = (hearing whole e s.window (acks wire (wired e).sender s.next)).after in
          let same : record { received = f.receiver.received + 0; unread = [] }
          ≡ f.receiver = subst (λ (x : Receiver). record { received = x.received + 0; unread = [] } ≡ x)
          (sym r) receiver_same in
          λ i. record f { receiver = same i }

  lift_older : Lifted e s (tells (Resets Older))
  lift_older = go e.receiver.received refl
    where
      go : (r : ℕ) → e.receiver.received ≡ r → Lifted e s (tells (Resets Older))
      go zero is = passes_nothing is
      go (suc r) is =
          by_saying r Reset (Resets Older) tt
          (ap (λ x. Resets (fitting (free e) (whole.ahead x r) (whole.ahead r x))) is
          ∙ (λ i. Resets (fitting (free e) (ahead_none (suc r) r (omega arith) i) (past i))))
        where
          past : whole.ahead r (suc r) ≡ Some 1
          past = ap (whole.ahead r) (omega arith) ∙ ahead_to r 1

  lift_reset : (f : Forward) → forward wire (wired e) s.first ≡ f → Lifted e s (tells (Resets f))
  lift_reset (Jump d) is =
      by_saying (e.receiver.received + d) Reset (Resets (Jump d)) tt
      (ap (λ o. Resets (fitting (free e) o (whole.ahead (e.receiver.received + d) e.receiver.received)))
      (ahead_to e.receiver.received d)
      ∙ ap (λ b. Resets (cond b (Jump d) (passed (whole.ahead (e.receiver.received + d) e.receiver.received))))
      (le-leb d (free e) (jump_fits (free e) (wire.ahead (e.receiver.received % M) s.first)
      (wire.ahead s.first (e.receiver.received % M)) d is)))
  lift_reset Older is = lift_older
  lift_reset Beyond is =
      by_saying (e.receiver.received + (free e + 1)) Reset (Resets Beyond) tt
      ((λ i. Resets (fitting (free e) (ahead_to e.receiver.received (free e + 1) i)
      (ahead_none (e.receiver.received + (free e + 1)) e.receiver.received (omega arith) i)))
      ∙ ap (λ b. Resets (cond b (Jump (free e + 1)) Beyond)) (lt-leb (free e + 1) (free e) (omega arith)))

  -- an answer that this end does not wait for tells no more than that the other end is there
  lift_other : Lifted e s (tells (Answers false))
  lift_other = record {
    segment = another 0 false Probe;
    source = refl;
    window = refl;
    plain = tt;
    same = record {
      after = ap (λ o. (hearing whole e s.window o).after)
          (sym (acks_for e.sender (acks wire (wired e).sender s.next) within));
      sent = ap (λ o. (hearing whole e s.window o).sent ++ [])
          (sym (acks_for e.sender (acks wire (wired e).sender s.next) within));
    };
  }

  lift_answer : (b : Bool)
      → (e.sender.resetting && (s.next == (e.sender.front % M + length e.sender.unacknowledged) % M)) ≡ b
      → Lifted e s (tells (Answers b))
  lift_answer false is = lift_other
  lift_answer true is =
      by_saying 0 ResetAck (Answers true) tt
      (ap Answers (λ i. both.0 i
      && eq-eqb (next_for e.sender (acks wire (wired e).sender s.next))
      (e.sender.front + length e.sender.unacknowledged) (ap (next_for e.sender) all_acked) i))
    where
      both : (e.sender.resetting ≡ true)
          × ((s.next == (e.sender.front % M + length e.sender.unacknowledged) % M) ≡ true)
      both = and_parts e.sender.resetting (s.next == (e.sender.front % M + length e.sender.unacknowledged) % M) is

      next_is : s.next ≡ (e.sender.front + length e.sender.unacknowledged) % M
      next_is = eqb-true s.next ((e.sender.front % M + length e.sender.unacknowledged) % M) both.1
          ∙ at_adds M e.sender.front (length e.sender.unacknowledged)

      all_acked : acks wire (wired e).sender s.next ≡ Some (length e.sender.unacknowledged)
      all_acked =
          ap (λ x. at_most (length e.sender.unacknowledged) (wire.ahead (e.sender.front % M) x)) next_is
          ∙ ap (at_most (length e.sender.unacknowledged))
          (ahead_on M (2 ^ 31) e.sender.front (length e.sender.unacknowledged) (lit≤ tt) (can.few both.0))
          ∙ ap (λ c. cond c (Some (length e.sender.unacknowledged)) None)
          (le-leb (length e.sender.unacknowledged) (length e.sender.unacknowledged) (omega arith))

  lift_part : (part : Part) → IsPlainPart part → Lifted e s (tells (saying wire (wired e) s.first s.next part))
  lift_part (Data end bytes) plain = lift_data end bytes
  lift_part Probe plain = by_saying 0 Probe Asks tt refl
  lift_part (Open kind dest) plain = absurd plain
  lift_part Close plain = by_saying 0 Close Closes tt refl
  lift_part Reset plain = lift_reset (forward wire (wired e) s.first) refl
  lift_part ResetAck plain =
      lift_answer (e.sender.resetting && (s.next == (e.sender.front % M + length e.sender.unacknowledged) % M)) refl
  lift_part Advice plain = by_saying 0 Advice Advises tt refl

  pub lifted : IsPlainPart s.body → Lifted e s (told wire (wired e) s)
  lifted plain = lift_part s.body plain
