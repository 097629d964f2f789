-- What goes once a segment is heard.
use Rattle.std.proofs.Common.{◌≡◌, ℕ, ◌+◌, ◌-◌, ◌%◌, ◌^◌, ◌≤◌, Bool, true, false, cond, List, [], ◌∷◌, ◌++◌, length}
use Rattle.std.proofs.Common.{take}
use Rattle.std.proofs.Common.{drop, Option, Some, None, refl, sym, ap, subst, ◌∙◌, arith}
use Rattle.std.specs.Prelude.{unwrap_or}
use Rattle.std.proofs.lemmas.Bool.{true≢false}
use Rattle.std.proofs.Math.Seq.{drop-append_seam, take-append-add, take-append_seam}
use Rattle.std.proofs.lemmas.List.{drop-append-le, length-drop, length-take}
use Rattle.at_ddp.specs.declared.address.Address.{Address}
use Rattle.at_adsp_frame.specs.Segments.{Data, ResetAck}
use Rattle.at_adsp_end.specs.Cuts.{Piece, items_of, pieces, numbered}
use Rattle.at_adsp_end.specs.Ends.{Change, EndState, Sender, control, packet}
use Rattle.at_adsp_end.specs.Hearing.{Forward, Jump, Older, Beyond, jumped, reset_came}
use Rattle.at_adsp_end.specs.Loads.{IsLoad}
use Rattle.at_adsp_end.specs.Outgoings.{IsWithin, credit_after, going_after, stretch}
use Rattle.at_adsp_end.specs.Positions.{wire}
use Rattle.at_adsp_end.specs.Sending.{acknowledged, going, hearing, sending, repeated}
use Rattle.at_adsp_end.specs.declared.item.Item.{Item}
use Rattle.at_adsp_end.specs.declared.load.Load.{Load}
use Rattle.at_adsp_end.specs.declared.phase.Phase.{Phase}
use Rattle.at_adsp_end.specs.declared.remote.Remote.{Remote}
use Rattle.at_adsp_end.proofs.CutLemmas.{numbered_at}
use Rattle.at_adsp_end.proofs.QueueLemmas.{going_first}
use Rattle.at_ddp.proofs.ListLemmas.{take_same}

-- ---- the waiting items that go

cond_few : (b : Bool) (xs ys : List Item) → length xs ≤ length ys → length (cond b [] xs) ≤ length ys
cond_few true xs ys h = omega arith
cond_few false xs ys h = h

pub going_few : (s : Sender) → length (going s) ≤ length s.waiting
going_few s = cond_few s.resetting (take s.credit s.waiting) s.waiting
    (let e = length-take s.credit s.waiting in omega (arith, e))

pub waiting_stretch : (s : Sender) (n : ℕ) → stretch s (length s.unacknowledged) n ≡ take n s.waiting
waiting_stretch s n = ap (take n) (drop-append_seam s.unacknowledged s.waiting)

pub going_stretch : (s : Sender) → stretch s (length s.unacknowledged) (length (going s)) ≡ going s
going_stretch s = waiting_stretch s (length (going s)) ∙ going_first s

pub after_stretch : (s : Sender) (window : ℕ) (acks : Option ℕ)
    → stretch s (length s.unacknowledged) (length (going_after s window acks)) ≡ going_after s window acks
after_stretch s window None = refl
after_stretch s window (Some k) = waiting_stretch s (length (going (acknowledged wire k window s)))
    ∙ going_first (acknowledged wire k window s)

-- ---- what was sent goes again

pub sent_stretch : (s : Sender) → stretch s 0 (length s.unacknowledged) ≡ s.unacknowledged
sent_stretch s = take-append_seam s.unacknowledged s.waiting

-- ---- after room was made

-- ---- the numbers and the room of what goes

pub numbers_same : (e : EndState) (first p : ℕ) (xs ys : List Item) → first ≡ p % 2 ^ 32 → xs ≡ ys
    → numbered wire e first (pieces [] xs) ≡ numbered wire e p (pieces [] ys)
numbers_same e first p xs ys at same =
    (λ i. numbered wire e (at i) (pieces [] (same i))) ∙ numbered_at e p (pieces [] ys)

-- ---- what is unacknowledged once a segment is heard

dropped_then : (u w : List Item) (k g : ℕ) → k ≤ length u → take (length u - k + g) (drop k (u ++ w))
    ≡ drop k u ++ take g w
dropped_then u w k g within =
    ap (take (length u - k + g)) (drop-append-le k u w within)
    ∙ ap (λ n. take (n + g) (drop k u ++ w)) (sym (length-drop k u)) ∙ take-append-add (drop k u) w g

pub unacknowledged_after : (e : EndState) (window : ℕ) (acks : Option ℕ) (k sent n : ℕ) → IsWithin e.sender acks → k
    ≡ unwrap_or acks 0 → sent ≡ length e.sender.unacknowledged → n ≡ length (going_after e.sender window acks) →
    (hearing wire e window acks).after.sender.unacknowledged ≡ stretch e.sender k (sent - k + n)
unacknowledged_after e window None k sent n within at is count =
    let all : sent - k + n ≡ length e.sender.unacknowledged = omega (arith, at, is, count) in
    sym (sent_stretch e.sender) ∙ (λ i. stretch e.sender (sym at i) (sym all i))
unacknowledged_after e window (Some k') k sent n within at is count =
    let s = e.sender in
    let r = acknowledged wire k' window s in
    sym (dropped_then s.unacknowledged s.waiting k' (length (going r)) within
    ∙ ap (λ l. drop k' s.unacknowledged ++ l) (going_first r))
    ∙ (λ i. stretch s (sym at i) (sym is i - sym at i + sym count i))

-- ---- what goes once a forward reset is answered

unreset : (s : Sender) (b : Bool) → b ≡ true
    → take (s.credit - length (cond b [] (take s.credit s.waiting)))
    (drop (length (cond b [] (take s.credit s.waiting))) s.waiting) ≡ take s.credit s.waiting
unreset s true is = ap (λ n. take n s.waiting) (omega arith)
unreset s false is = absurd (true≢false (sym is))

pub going_unreset : (e : EndState) (window : ℕ) (acks : Option ℕ) → e.sender.resetting ≡ true
    → going (record (hearing wire e window acks).after.sender { resetting = false })
    ≡ take (credit_after e.sender window acks) e.sender.waiting
going_unreset e window None is = refl
going_unreset e window (Some k) is = unreset (acknowledged wire k window e.sender) e.sender.resetting is

pub unreset_stretch : (s : Sender) (credit : ℕ) → stretch s (length s.unacknowledged) (length (take credit s.waiting))
    ≡ take credit s.waiting
unreset_stretch s credit = waiting_stretch s (length (take credit s.waiting)) ∙ take_same credit s.waiting

-- ---- loads

-- so much are these items, cut into segments, at whichever end
abbrev pub AreLoad : Load → Address → List Item → Type 0
AreLoad load to xs = (e : EndState) (p : ℕ) → IsLoad load to (numbered wire e p (pieces [] xs))

pub hearing_load : (load : Load) (to : Address) (e : EndState) (window : ℕ) (acks : Option ℕ) (sent n : ℕ) → sent
    ≡ length e.sender.unacknowledged → n ≡ length (going_after e.sender window acks)
    → AreLoad load to (stretch e.sender sent n) → IsLoad load to (hearing wire e window acks).sent
hearing_load load to e window acks sent n at count are =
    go acks (subst (AreLoad load to)
    ((λ i. stretch e.sender (at i) (count i)) ∙ after_stretch e.sender window acks) are)
  where
    go : (acks : Option ℕ) → AreLoad load to (going_after e.sender window acks)
        → IsLoad load to (hearing wire e window acks).sent
    go None are = are e 0
    go (Some k) are = are (record e { sender = acknowledged wire k window e.sender; ticks = 0 })
        ((e.sender.front + k) % 2 ^ 32 + length (drop k e.sender.unacknowledged))

pub sending_load : (load : Load) (to : Address) (e : EndState) (sent n : ℕ) → sent ≡ length e.sender.unacknowledged
    → n ≡ length (going e.sender) → AreLoad load to (stretch e.sender sent n) → IsLoad load to (sending wire e).sent
sending_load load to e sent n at count are =
    subst (AreLoad load to) ((λ i. stretch e.sender (at i) (count i)) ∙ going_stretch e.sender) are e
    (e.sender.front + length e.sender.unacknowledged)

pub advice_load : (load : Load) (to : Address) (e e' : EndState) (window : ℕ) (acks : Option ℕ) (k sent n : ℕ) → e'
    ≡ (hearing wire e window acks).after → IsWithin e.sender acks → k ≡ unwrap_or acks 0 → sent
    ≡ length e.sender.unacknowledged →
    n ≡ length (going_after e.sender window acks) → AreLoad load to (stretch e.sender k (sent - k + n))
    → IsLoad load to (repeated wire e')
advice_load load to e e' window acks k sent n is within at all count are =
    subst (AreLoad load to)
    (sym (unacknowledged_after e window acks k sent n within at all count)
    ∙ ap (λ (x : EndState). x.sender.unacknowledged) (sym is)) are e' e'.sender.front

pub unreset_load : (load : Load) (to : Address) (e e' e'' : EndState) (window : ℕ) (acks : Option ℕ) (sent n : ℕ)
    → e.sender.resetting ≡ true → e' ≡ (hearing wire e window acks).after → e''
    ≡ record e' { sender = record e'.sender { resetting = false } } →
    sent ≡ length e.sender.unacknowledged → n ≡ length (take (credit_after e.sender window acks) e.sender.waiting)
    → AreLoad load to (stretch e.sender sent n) → IsLoad load to (sending wire e'').sent
unreset_load load to e e' e'' window acks sent n is heard unset all count are =
    subst (AreLoad load to)
    ((λ i. stretch e.sender (all i) (count i))
    ∙ unreset_stretch e.sender (credit_after e.sender window acks) ∙ sym (going_unreset e window acks is)
    ∙ ap (λ (x : EndState). going (record x.sender { resetting = false })) (sym heard)
    ∙ ap (λ (x : EndState). going x.sender) (sym unset)) are e''
    (e''.sender.front + length e''.sender.unacknowledged)

-- ---- an end that opens sends the same

numbered_opened : (e : EndState) (remote : Option Remote) (phase : Phase) (p : ℕ) (ps : List Piece)
    → numbered wire e p ps ≡ numbered wire (record e { remote = remote; phase = phase }) p ps
numbered_opened e remote phase p [] = refl
numbered_opened e remote phase p (x ∷ ps) =
    ap (λ l. packet e (wire.at p) true (Data x.end x.bytes) ∷ l)
    (numbered_opened e remote phase (p + length (items_of x)) ps)

pub hearing_opened : (e : EndState) (remote : Option Remote) (phase : Phase) (window : ℕ) (acks : Option ℕ)
    → (hearing wire e window acks).sent ≡ (hearing wire (record e { remote = remote; phase = phase }) window acks).sent
hearing_opened e remote phase window None = refl
hearing_opened e remote phase window (Some k) =
    numbered_opened (record e { sender = acknowledged wire k window e.sender; ticks = 0 }) remote phase
    ((e.sender.front + k) % 2 ^ 32 + length (drop k e.sender.unacknowledged))
    (pieces [] (going (acknowledged wire k window e.sender)))

-- ---- a forward reset, and where it is answered to

abbrev pub reset_later : Change → Forward → EndState
reset_later c (Jump d) = jumped wire c.after d
reset_later c Older = c.after
reset_later c Beyond = c.after

pub reset_sent : (c : Change) (f : Forward) → (f ≡ Beyond → ⊥) → (reset_came wire c f).sent
    ≡ c.sent ++ control wire (reset_later c f) false ResetAck ∷ []
reset_sent c (Jump d) ahead = refl
reset_sent c Older ahead = refl
reset_sent c Beyond ahead = absurd (ahead refl)

pub hearing_asked : (e : EndState) (window : ℕ) (acks : Option ℕ) → (hearing wire e window acks).after.asked ≡ e.asked
hearing_asked e window None = refl
hearing_asked e window (Some k) = refl

pub reset_asked : (c : Change) (f : Forward) → (reset_came wire c f).after.asked ≡ c.after.asked
reset_asked c (Jump d) = refl
reset_asked c Older = refl
reset_asked c Beyond = refl
