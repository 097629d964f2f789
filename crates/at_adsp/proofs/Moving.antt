-- How far the numbers of an end go on.
use Rattle.std.proofs.Common.{◌≡◌, ℕ, ◌+◌, ◌-◌, ◌≤◌, Bool, true, false, cond, List, [], ◌++◌, length, take, Option}
use Rattle.std.proofs.Common.{Some, None, sym, ap, ◌∙◌, arith}
use Rattle.std.specs.Prelude.{IfSome, max}
use Rattle.std.proofs.lemmas.List.{length-take}
use Rattle.at_adsp_frame.specs.Segments.{Content}
use Rattle.at_adsp_end.specs.Calls.{is_last, probed, reading, ticked, writing}
use Rattle.at_adsp_end.specs.Ends.{EndState, Sender, free, limit, places}
use Rattle.at_adsp_end.specs.Positions.{Numbers}
use Rattle.at_adsp_end.specs.Sending.{acknowledged, acks, closing, dropped, going, hearing, resetting_now, sent_on}
use Rattle.at_adsp_end.specs.declared.item.Item.{Item}
use Rattle.at_adsp_end.specs.declared.tick.Tick.{Tick}
use Rattle.at_adsp_end.specs.declared.tick.Tick.TheVariants as timer
use Rattle.at_adsp.specs.Moving.{IsPast, MovesOn}
use Rattle.at_adsp.proofs.Carries.{at_most_within}
use Rattle.at_adsp.proofs.Fews.{length_drop}
use Rattle.at_adsp.proofs.Logs.{length_both}

-- what is added to a number is added to its position
abbrev pub Adds : Numbers → Type 0
Adds N = (a k : ℕ) → N.at (N.at a + k) ≡ N.at (a + k)

-- so many items were passed, and the limit went on by so many
pub record Gone (N : Numbers) (window : ℕ) (s u : Sender) : Type 0 where
  pub passed : ℕ
  pub front : N.at u.front ≡ N.at (s.front + passed)
  pub queue : passed + (length u.unacknowledged + length u.waiting) ≤ length s.unacknowledged + length s.waiting
  pub more : ℕ
  pub few : more ≤ window
  pub reach : passed + length u.unacknowledged + u.credit ≡ length s.unacknowledged + s.credit + more

-- ---- what goes

length_going : (s : Sender) → (length (going s) ≤ s.credit) × (length (going s) ≤ length s.waiting)
length_going s = go s.resetting
  where
    go : (b : Bool) → (length (cond b [] (take s.credit s.waiting)) ≤ s.credit)
        × (length (cond b [] (take s.credit s.waiting)) ≤ length s.waiting)
    go true = (omega arith, omega arith)
    go false = let e = length-take s.credit s.waiting in (omega (arith, e), omega (arith, e))

module _ (N : Numbers) (adds : Adds N) where
  at_same : (a : ℕ) → N.at a ≡ N.at (a + 0)
  at_same a = let e : a ≡ a + 0 = omega arith in ap N.at e

  at_again : (a : ℕ) → N.at (N.at a) ≡ N.at a
  at_again a = at_same (N.at a) ∙ adds a 0 ∙ sym (at_same a)

  at_on : (a b k : ℕ) → N.at a ≡ N.at b → N.at (a + k) ≡ N.at (b + k)
  at_on a b k same = sym (adds a k) ∙ ap (λ x. N.at (x + k)) same ∙ adds b k

  at_both : (a j k : ℕ) → N.at (a + j + k) ≡ N.at (a + (j + k))
  at_both a j k = let e : a + j + k ≡ a + (j + k) = omega arith in ap N.at e

  -- ---- senders

  pub gone_same : (s : Sender) → Gone N 0 s s
  gone_same s = record {
    passed = 0;
    front = at_same s.front;
    queue = omega arith;
    more = 0;
    few = omega arith;
    reach = omega arith;
  }

  pub gone_on : (window : ℕ) (s u v : Sender) → Gone N window s u → Gone N 0 u v → Gone N window s v
  gone_on window s u v h k =
      let q = h.queue in
      let r = k.queue in
      let f = h.few in
      let g = k.few in
      let x = h.reach in
      let y = k.reach in
      record {
        passed = h.passed + k.passed;
        front = k.front ∙ at_on u.front (s.front + h.passed) k.passed h.front ∙ at_both s.front h.passed k.passed;
        queue = omega (arith, q, r);
        more = h.more;
        few = f;
        reach = omega (arith, x, y, g);
      }

  pub gone_wider : (window : ℕ) (s u : Sender) → Gone N 0 s u → Gone N window s u
  gone_wider window s u h = let f = h.few in
      record {
        passed = h.passed;
        front = h.front;
        queue = h.queue;
        more = h.more;
        few = omega (arith, f);
        reach = h.reach;
      }

  pub sent_gone : (s : Sender) → Gone N 0 s (sent_on s)
  sent_gone s =
      let few = length_going s in
      let c = few.0 in
      let w = few.1 in
      let both = length_both s.unacknowledged (going s) in
      let rest = length_drop (length (going s)) s.waiting in
      record {
        passed = 0;
        front = at_same s.front;
        queue = omega (arith, w, both, rest);
        more = 0;
        few = omega arith;
        reach = omega (arith, c, both);
      }

  pub acknowledged_gone : (k window : ℕ) (s : Sender) → k ≤ length s.unacknowledged
      → Gone N window s (acknowledged N k window s)
  acknowledged_gone k window s le =
      let rest = length_drop k s.unacknowledged in
      let wide = widest s.credit (window - (length s.unacknowledged - k)) in
      let low = wide.0 in
      let high = wide.1 in
      record {
        passed = k;
        front = at_again (s.front + k);
        queue = omega (arith, rest, le);
        more = max s.credit (window - (length s.unacknowledged - k)) - s.credit;
        few = omega (arith, low, high);
        reach = omega (arith, rest, le, low);
      }
    where
      widest : (a b : ℕ) → (a ≤ max a b) × (max a b ≤ a + b)
      widest a b = (omega arith, omega arith)

  pub dropped_gone : (s : Sender) → Gone N 0 s (dropped N s)
  dropped_gone s = record {
    passed = length s.unacknowledged;
    front = at_again (s.front + length s.unacknowledged);
    queue = omega arith;
    more = 0;
    few = omega arith;
    reach = omega arith;
  }

  pub hearing_gone : (e : EndState) (window : ℕ) (o : Option ℕ) → IfSome o (λ k. k ≤ length e.sender.unacknowledged)
      → Gone N window e.sender (hearing N e window o).after.sender
  hearing_gone e window None le = gone_wider window e.sender e.sender (gone_same e.sender)
  hearing_gone e window (Some k) le =
      gone_on window e.sender (acknowledged N k window e.sender) (sent_on (acknowledged N k window e.sender))
      (acknowledged_gone k window e.sender le) (sent_gone (acknowledged N k window e.sender))

  -- ---- ends

  limit_past : (window : ℕ) (s u : Sender) → Gone N window s u → IsPast N window (limit N s) (limit N u)
  limit_past window s u h =
      let x : ℕ = length u.unacknowledged + u.credit in
      let y : ℕ = length s.unacknowledged + s.credit in
      let r = h.reach in
      let split : u.front + length u.unacknowledged + u.credit ≡ u.front + x = omega arith in
      let join : s.front + h.passed + x ≡ s.front + length s.unacknowledged + s.credit + h.more = omega (arith, r) in (
        h.more,
        h.few,
        at_again (u.front + length u.unacknowledged + u.credit) ∙ ap N.at split
            ∙ at_on u.front (s.front + h.passed) x h.front ∙ ap N.at join
            ∙ sym (adds (s.front + length s.unacknowledged + s.credit) h.more),
      )

  pub moves_by : (window : ℕ) (e f : EndState) → Gone N window e.sender f.sender
      → IsPast N (free e) e.receiver.received f.receiver.received → MovesOn N window e f
  moves_by window e f h expected =
      let q = h.queue in
      record {
        front = (h.passed, omega (arith, q), h.front);
        limit = limit_past window e.sender f.sender h;
        expected = expected;
      }

  pub expects_same : (most a : ℕ) → IsPast N most a a
  expects_same most a = (0, omega arith, at_same a)

  pub moves_same : (window : ℕ) (e : EndState) → MovesOn N window e e
  moves_same window e = moves_by window e e (gone_wider window e.sender e.sender (gone_same e.sender))
      (expects_same (free e) e.receiver.received)

  -- an opening is heard
  pub hearing_moves : (e : EndState) (s : Content)
      → MovesOn N s.window e (hearing N e s.window (acks N e.sender s.next)).after
  hearing_moves e s = moves_by s.window e (hearing N e s.window (acks N e.sender s.next)).after
      (hearing_gone e s.window (acks N e.sender s.next)
      (at_most_within (length e.sender.unacknowledged) (N.ahead e.sender.front s.next)))
      (heard_receiver (acks N e.sender s.next))
    where
      heard_receiver : (o : Option ℕ)
          → IsPast N (free e) e.receiver.received (hearing N e s.window o).after.receiver.received
      heard_receiver None = expects_same (free e) e.receiver.received
      heard_receiver (Some k) = expects_same (free e) e.receiver.received

  pub closing_moves : (e : EndState) → MovesOn N 0 e (closing N e).after
  closing_moves e = moves_by 0 e (closing N e).after
      (let h = dropped_gone e.sender in
      record { passed = h.passed; front = h.front; queue = h.queue; more = h.more; few = h.few; reach = h.reach })
      (expects_same (free e) e.receiver.received)

  pub resetting_moves : (e : EndState) → MovesOn N 0 e (resetting_now N e).after
  resetting_moves e = moves_by 0 e (resetting_now N e).after
      (let h = dropped_gone e.sender in
      record { passed = h.passed; front = h.front; queue = h.queue; more = h.more; few = h.few; reach = h.reach })
      (expects_same (free e) e.receiver.received)

  pub reading_moves : (e : EndState) (count : ℕ) → MovesOn N 0 e (reading N e count).after
  reading_moves e count = moves_by 0 e (reading N e count).after (gone_same e.sender)
      (expects_same (free e) e.receiver.received)

  pub writing_moves : (e : EndState) (items : List Item) → MovesOn N 0 e (writing N e items).after
  writing_moves e items =
      let s : Sender = record e.sender { waiting = e.sender.waiting ++ take (places e) items } in
      let h = sent_gone s in
      record {
        front = (0, omega arith, at_same e.sender.front);
        limit = limit_past 0 s (sent_on s) h;
        expected = expects_same (free e) e.receiver.received;
      }

  pub ticked_moves : (e : EndState) (tick : Tick) → MovesOn N 0 e (ticked N e tick).after
  ticked_moves e timer.Retransmit = moves_same 0 e
  ticked_moves e timer.Probe = go (is_last e timer.Probe)
    where
      go : (b : Bool) → MovesOn N 0 e (probed N e b).after
      go true = moves_by 0 e (probed N e true).after
          (let h = dropped_gone e.sender in
          record { passed = h.passed; front = h.front; queue = h.queue; more = h.more; few = h.few; reach = h.reach })
          (expects_same (free e) e.receiver.received)
      go false = moves_by 0 e (probed N e false).after (gone_same e.sender) (expects_same (free e) e.receiver.received)
