-- How far a segment that an open end hears lets its numbers go on.
use Rattle.std.proofs.Common.{◌≡◌, ℕ, ◌+◌, ◌≤◌, Bool, true, false, cond, List, length, Option, Some, None, refl, sym}
use Rattle.std.proofs.Common.{ap, subst, ◌∙◌, arith}
use Rattle.std.specs.Prelude.{◌&&◌, ◌==◌, nat_le}
use Rattle.std.proofs.lemmas.Bool.{leb-true}
use Rattle.std.proofs.lemmas.List.{length-take}
use Rattle.at_adsp_frame.specs.Segments.{Content, Part, Data, Probe, Open, Close, Reset, ResetAck, Advice}
use Rattle.at_adsp_end.specs.Cuts.{items_in}
use Rattle.at_adsp_end.specs.Ends.{Change, EndState, Receiver, Sender, free, next_unsent}
use Rattle.at_adsp_end.specs.Hearing.{after_hearing, answer_came, fitting, forward, passed, reset_came, rest, saying}
use Rattle.at_adsp_end.specs.Hearing.{taken}
use Rattle.at_adsp_end.specs.Positions.{Numbers}
use Rattle.at_adsp_end.specs.Sending.{acks, hearing, sent_on}
use Rattle.at_adsp_end.specs.declared.forward.Forward.{Forward}
use Rattle.at_adsp_end.specs.declared.forward.Forward.TheVariants.{Jump, Older, Beyond}
use Rattle.at_adsp_end.specs.declared.item.Item.{Item}
use Rattle.at_adsp.specs.Moving.{IsPast, MovesOn}
use Rattle.at_adsp.proofs.Carries.{at_most_within}
use Rattle.at_adsp.proofs.Moving.{Adds, Gone, dropped_gone, expects_same, gone_on, hearing_gone, moves_by, sent_gone}

module _ (N : Numbers) (adds : Adds N) (e : EndState) (s : Content) where
  abbrev c : Change
  c = hearing N e s.window (acks N e.sender s.next)

  gone : Gone N s.window e.sender (hearing N e s.window (acks N e.sender s.next)).after.sender
  gone = hearing_gone N adds e s.window (acks N e.sender s.next)
      (at_most_within (length e.sender.unacknowledged) (N.ahead e.sender.front s.next))

  -- the half that receives is as it was
  receives : (o : Option ℕ) → (hearing N e s.window o).after.receiver ≡ e.receiver
  receives None = refl
  receives (Some k) = refl

  has_room : (o : Option ℕ) → free (hearing N e s.window o).after ≡ free e
  has_room None = refl
  has_room (Some k) = refl

  past : (count : ℕ) → count ≤ free e
      → IsPast N (free e) e.receiver.received
      (N.at ((hearing N e s.window (acks N e.sender s.next)).after.receiver.received + count))
  past count le = (
    count,
    le,
    at_once (e.receiver.received + count)
        ((hearing N e s.window (acks N e.sender s.next)).after.receiver.received + count)
        (ap (λ (r : Receiver). r.received + count) (receives (acks N e.sender s.next))),
  )
    where
      at_once : (a b : ℕ) → b ≡ a → N.at (N.at b) ≡ N.at a
      at_once a b same = let x : N.at b ≡ N.at b + 0 = omega arith in let y : b + 0 ≡ b = omega arith in ap N.at x
          ∙ adds b 0 ∙ ap N.at y ∙ ap N.at same

  still : IsPast N (free e) e.receiver.received (hearing N e s.window (acks N e.sender s.next)).after.receiver.received
  still = subst (λ (r : Receiver). IsPast N (free e) e.receiver.received r.received)
      (sym (receives (acks N e.sender s.next))) (expects_same N adds (free e) e.receiver.received)

  fits : (items : List Item) → length (taken (hearing N e s.window (acks N e.sender s.next)).after items) ≤ free e
  fits items =
      let k = length-take (free (hearing N e s.window (acks N e.sender s.next)).after) items in
      let same = has_room (acks N e.sender s.next) in
      omega (arith, k, same)

  jumps : (f : Forward) → (d : ℕ) → f ≡ Jump d → (a b : Option ℕ) → fitting (free e) a b ≡ f → d ≤ free e
  jumps f d is None None same = absurd (let g = same ∙ is in cc)
  jumps f d is None (Some x) same = absurd (let g = same ∙ is in cc)
  jumps f d is (Some x) b same = go (nat_le x (free e)) refl (same ∙ is)
    where
      go : (t : Bool) → nat_le x (free e) ≡ t → cond t (Jump x) (passed b) ≡ Jump d → d ≤ free e
      go true le h = let small = leb-true x (free e) le in let same : x ≡ d = cc in omega (arith, small, same)
      go false le h = none b h
        where
          none : (o : Option ℕ) → passed o ≡ Jump d → d ≤ free e
          none None h = absurd (cc)
          none (Some y) h = absurd (cc)

  pub heard_moves : (part : Part)
      → MovesOn N s.window e (after_hearing N (hearing N e s.window (acks N e.sender s.next)) s.ack
      (saying N e s.first s.next part)).after
  heard_moves (Data end bytes) =
      moves_by N adds s.window e _ gone
      (past _ (fits (rest (items_in end bytes) (N.ahead s.first e.receiver.received))))
  heard_moves Probe = moves_by N adds s.window e _ gone still
  heard_moves (Open kind dest) = moves_by N adds s.window e _ gone still
  heard_moves Close = moves_by N adds s.window e _
      (gone_on N adds s.window e.sender c.after.sender _ gone
      (let h = dropped_gone N adds c.after.sender in
      record { passed = h.passed; front = h.front; queue = h.queue; more = h.more; few = h.few; reach = h.reach }))
      still
  heard_moves Reset = go (forward N e s.first) refl
    where
      go : (f : Forward) → forward N e s.first ≡ f
          → MovesOn N s.window e (reset_came N (hearing N e s.window (acks N e.sender s.next)) f).after
      go (Jump d) is = moves_by N adds s.window e _ gone
          (past d (jumps (Jump d) d refl (N.ahead e.receiver.received s.first)
          (N.ahead s.first e.receiver.received) is))
      go Older is = moves_by N adds s.window e _ gone still
      go Beyond is = moves_by N adds s.window e _ gone still
  heard_moves ResetAck = go (e.sender.resetting && (s.next == next_unsent N e.sender))
    where
      go : (b : Bool) → MovesOn N s.window e (answer_came N (hearing N e s.window (acks N e.sender s.next)) b).after
      go true =
          let u : Sender = record (hearing N e s.window (acks N e.sender s.next)).after.sender { resetting = false } in
          let h = sent_gone N adds u in
          moves_by N adds s.window e _
          (gone_on N adds s.window e.sender (hearing N e s.window (acks N e.sender s.next)).after.sender
          (sent_on u) gone (record {
            passed = h.passed;
            front = h.front;
            queue = h.queue;
            more = h.more;
            few = h.few;
            reach = h.reach;
          })) still
      go false = moves_by N adds s.window e _ gone still
  heard_moves Advice = moves_by N adds s.window e _ gone still
