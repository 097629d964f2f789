-- That an end goes on by little in one event, and that a forward reset tells exactly how far it has come.
use Rattle.std.proofs.Common.{◌≡◌, ℕ, ◌+◌, ◌*◌, ◌≤◌, Bool, true, false, cond, List, [], ◌∷◌, ◌++◌, length, Option}
use Rattle.std.proofs.Common.{Some}
use Rattle.std.proofs.Common.{None, refl, arith}
use Rattle.std.specs.Prelude.{IfSome, nat_le}
use Rattle.std.specs.List.{AllByRecursion}
use Rattle.std.proofs.lemmas.Bool.{leb-true}
use Rattle.at_ddp.proofs.Alls.{all_both, all_implied}
use Rattle.at_adsp_frame.specs.Segments.{Content, Part, Data, Probe, Open, Close, Reset, ResetAck, Advice}
use Rattle.at_adsp_end.specs.Calls.{probed, probes, reading, sent_again, ticked}
use Rattle.at_adsp_end.specs.Calls.{read_opens, after_read}
use Rattle.at_adsp_end.specs.Cuts.{Piece, items_of, numbered, pieces}
use Rattle.at_adsp_end.specs.Ends.{Change, EndState, control, free}
use Rattle.at_adsp_end.specs.Hearing.{Advises, Answers, Asks, Brings, Closes, Resets, Saying, after_hearing, fitting}
use Rattle.at_adsp_end.specs.Hearing.{heard, if_asked, jumped, passed, saying, taking, told}
use Rattle.at_adsp_end.specs.Positions.{whole}
use Rattle.at_adsp_end.specs.Sending.{acknowledged, acks, going, hearing, repeated, sending}
use Rattle.at_adsp_end.specs.declared.forward.Forward.TheVariants.{Jump, Older, Beyond}
use Rattle.at_adsp_end.specs.declared.phase.Phase.{Phase}
use Rattle.at_adsp_end.specs.declared.phase.Phase.TheVariants as phase
use Rattle.at_adsp_end.specs.declared.tick.Tick.TheVariants.{Retransmit}
use Rattle.at_adsp.proofs.Carries.{acks_within}
use Rattle.at_adsp.proofs.Fews.{going_many, length_drop}
use Rattle.at_adsp.proofs.Logs.{length_both}
use Rattle.at_adsp.proofs.Paces.{Keeps, Marks, Paces, acked_keeps, free_fits, hearing_paces, length_going, marks_of}
use Rattle.at_adsp.proofs.Paces.{take_few}

-- from the one to the other by at most so much
pub record IsSlow (most : ℕ) (a b : Marks) : Type 0 where
  pub gave : b.gave ≤ a.gave + most
  pub took : b.took ≤ a.took + most

-- ---- forward resets

-- a forward reset leads no further than this
abbrev pub FitsIn : ℕ → Saying → Type 0
FitsIn room (Resets (Jump d)) = d ≤ room
FitsIn room other = Unit {0}

reset_fits : (room left : ℕ) (a behind : Option ℕ) → left ≤ room → FitsIn room (Resets (fitting left a behind))
reset_fits room left None None le = tt
reset_fits room left None (Some d) le = tt
reset_fits room left (Some d) behind le = go (nat_le d left) refl behind
  where
    go : (b : Bool) → nat_le d left ≡ b → (behind : Option ℕ) → FitsIn room (Resets (cond b (Jump d) (passed behind)))
    go true e behind = let few = leb-true d left e in omega (arith, few, le)
    go false e None = tt
    go false e (Some x) = tt

saying_fits : (room : ℕ) (e : EndState) (first next : ℕ) (part : Part) → free e ≤ room
    → FitsIn room (saying whole e first next part)
saying_fits room e first next Reset le =
    reset_fits room (free e) (whole.ahead e.receiver.received first) (whole.ahead first e.receiver.received) le
saying_fits room e first next (Data end bytes) le = tt
saying_fits room e first next Probe le = tt
saying_fits room e first next (Open kind dest) le = tt
saying_fits room e first next Close le = tt
saying_fits room e first next ResetAck le = tt
saying_fits room e first next Advice le = tt

-- it tells how many items its end gave numbers to; other segments need not
abbrev pub TellsAll : ℕ → ℕ → Part → Type 0
TellsAll gave first Reset = gave ≤ first
TellsAll gave first other = Unit {0}

abbrev pub IsExact : ℕ → Content → Type 0
IsExact gave s = TellsAll gave s.first s.body

-- it is no forward reset
abbrev pub IsCalm : Part → Type 0
IsCalm Reset = ⊥
IsCalm other = Unit {0}

abbrev AllCalm : List Content → Type 0
AllCalm out = AllByRecursion (λ (s : Content). IsCalm s.body) out

calm_exact : (gave first : ℕ) (part : Part) → IsCalm part → TellsAll gave first part
calm_exact gave first Reset calm = absurd calm
calm_exact gave first other calm = tt

all_exact : (gave : ℕ) (out : List Content) → AllByRecursion (λ (s : Content). IsCalm s.body) out
    → AllByRecursion (IsExact gave) out
all_exact gave out calm =
    all_implied (λ (s : Content). IsCalm s.body) (IsExact gave) out (λ s. calm_exact gave s.first s.body) calm

numbered_calm : (e : EndState) (first : ℕ) (ps : List Piece) → AllCalm (numbered whole e first ps)
numbered_calm e first [] = tt
numbered_calm e first (p ∷ ps) = (tt, numbered_calm e (first + length (items_of p)) ps)

asked_calm : (b : Bool) (e : EndState) → AllCalm (if_asked whole b e)
asked_calm true e = (tt, tt)
asked_calm false e = tt

hearing_calm : (e : EndState) (window : ℕ) (acks : Option ℕ) → AllCalm (hearing whole e window acks).sent
hearing_calm e window None = tt
hearing_calm e window (Some j) =
    let f : EndState = record e { sender = acknowledged whole j window e.sender; ticks = 0 } in
    numbered_calm f (f.sender.front + length f.sender.unacknowledged) (pieces [] (going f.sender))

with_calm : (out more : List Content) → AllCalm out → AllCalm more → AllCalm (out ++ more)
with_calm out more a b = all_both (λ (s : Content). IsCalm s.body) out more a b

after_hearing_calm : (c : Change) (ack : Bool) (s : Saying) → AllCalm c.sent
    → AllCalm (after_hearing whole c ack s).sent
after_hearing_calm c ack (Brings items) h = with_calm c.sent (if_asked whole ack (taking whole c.after items)) h
    (asked_calm ack (taking whole c.after items))
after_hearing_calm c ack Asks h = with_calm c.sent (if_asked whole ack c.after) h (asked_calm ack c.after)
after_hearing_calm c ack Closes h = h
after_hearing_calm c ack (Resets (Jump d)) h =
    with_calm c.sent (control whole (jumped whole c.after d) false ResetAck ∷ []) h (tt, tt)
after_hearing_calm c ack (Resets Older) h = with_calm c.sent (control whole c.after false ResetAck ∷ []) h (tt, tt)
after_hearing_calm c ack (Resets Beyond) h = with_calm c.sent [] h tt
after_hearing_calm c ack (Answers false) h = with_calm c.sent [] h tt
after_hearing_calm c ack (Answers true) h =
    let g : EndState = record c.after { sender = record c.after.sender { resetting = false } } in
    with_calm (c.sent ++ (sending whole g).sent) []
    (with_calm c.sent (sending whole g).sent h
    (numbered_calm g (g.sender.front + length g.sender.unacknowledged) (pieces [] (going g.sender)))) tt
after_hearing_calm c ack Advises h = with_calm c.sent (repeated whole c.after) h
    (numbered_calm c.after c.after.sender.front (pieces [] c.after.sender.unacknowledged))

pub heard_exact : (e : EndState) (s : Content) (gave : ℕ)
    → AllByRecursion (IsExact gave) (heard whole e (told whole e s)).sent
heard_exact e s gave =
    let c : Change = hearing whole e s.window (acks whole e.sender s.next) in
    all_exact gave (heard whole e (told whole e s)).sent
    (after_hearing_calm c s.ack (told whole e s).saying (hearing_calm e s.window (acks whole e.sender s.next)))

pub hearing_exact : (e : EndState) (window : ℕ) (acks : Option ℕ) (gave : ℕ)
    → AllByRecursion (IsExact gave) (hearing whole e window acks).sent
hearing_exact e window acks gave = all_exact gave (hearing whole e window acks).sent (hearing_calm e window acks)

pub sending_exact : (e : EndState) (gave : ℕ) → AllByRecursion (IsExact gave) (sending whole e).sent
sending_exact e gave = all_exact gave (sending whole e).sent
    (numbered_calm e (e.sender.front + length e.sender.unacknowledged) (pieces [] (going e.sender)))

pub reading_exact : (e : EndState) (count gave : ℕ) → AllByRecursion (IsExact gave) (reading whole e count).sent
reading_exact e count gave =
    all_exact gave (reading whole e count).sent (asked_calm (read_opens e count) (after_read e count))

-- a stream that is being reset has nothing new under way
again_exact : (e : EndState) (p : Phase) → AllByRecursion (IsExact (marks_of e).gave) (sent_again whole e p)
again_exact e phase.Opening = (tt, tt)
again_exact e phase.Half = (tt, tt)
again_exact e phase.Open = go e.sender.resetting
  where
    go : (b : Bool) → AllByRecursion (IsExact (marks_of e).gave)
        (cond b (control whole e false Reset ∷ []) (repeated whole e))
    go true = (omega arith, tt)
    go false = all_exact (marks_of e).gave (repeated whole e)
        (numbered_calm e e.sender.front (pieces [] e.sender.unacknowledged))
again_exact e phase.Closed = tt

pub ticked_exact : (e : EndState) → AllByRecursion (IsExact (marks_of e).gave) (ticked whole e Retransmit).sent
ticked_exact e = again_exact e e.phase

probes_exact : (e : EndState) (p : Phase) (gave : ℕ) → AllByRecursion (IsExact gave) (probes whole e p)
probes_exact e phase.Opening gave = (tt, tt)
probes_exact e phase.Half gave = (tt, tt)
probes_exact e phase.Open gave = (tt, tt)
probes_exact e phase.Closed gave = tt

pub probed_exact : (e : EndState) (b : Bool) (gave : ℕ) → AllByRecursion (IsExact gave) (probed whole e b).sent
probed_exact e true gave = tt
probed_exact e false gave = probes_exact e e.phase gave

-- ---- an end that is here goes on by little

module _ (room : ℕ) (here : Bool) (is : here ≡ true) where
  pub sending_slow : (e : EndState) → Keeps room here e → IsSlow room (marks_of e) (marks_of (sending whole e).after)
  sending_slow e k =
      let q = k.queue is in
      let both = length_both e.sender.unacknowledged (going e.sender) in
      let few = length_going e.sender in
      record { gave = omega (arith, q, both, few); took = omega arith }

  pub hearing_slow : (e : EndState) (window : ℕ) (acks : Option ℕ) → (here ≡ true → window ≤ room)
      → IfSome acks (λ k. k ≤ length e.sender.unacknowledged) → Keeps room here e →
      IsSlow room (marks_of e) (marks_of (hearing whole e window acks).after)
  hearing_slow e window None fits le k = record { gave = omega arith; took = omega arith }
  hearing_slow e window (Some j) fits le k =
      let d = length_drop j e.sender.unacknowledged in
      let f : EndState = record e { sender = acknowledged whole j window e.sender; ticks = 0 } in
      let s = sending_slow f (acked_keeps room here e window j fits le k) in
      let gave = s.gave in
      record { gave = omega (arith, gave, d, le); took = s.took }

  after_hearing_slow : (e : EndState) (c : Change) (ack : Bool) (s : Saying)
      → IsSlow room (marks_of e) (marks_of c.after) → Keeps room here c.after → FitsIn room s →
      IsSlow (room + room) (marks_of e) (marks_of (after_hearing whole c ack s).after)
  after_hearing_slow e c ack (Brings items) h k fits =
      let gave = h.gave in
      let took = h.took in
      let few = take_few (free c.after) items in
      let left = free_fits room here c.after k in
      record { gave = omega (arith, gave); took = omega (arith, took, few, left) }
  after_hearing_slow e c ack Asks h k fits = let gave = h.gave in let took = h.took in
      record { gave = omega (arith, gave); took = omega (arith, took) }
  after_hearing_slow e c ack Closes h k fits = let gave = h.gave in let took = h.took in
      record { gave = omega (arith, gave); took = omega (arith, took) }
  after_hearing_slow e c ack (Resets (Jump d)) h k fits = let gave = h.gave in let took = h.took in
      record { gave = omega (arith, gave); took = omega (arith, took, fits) }
  after_hearing_slow e c ack (Resets Older) h k fits = let gave = h.gave in let took = h.took in
      record { gave = omega (arith, gave); took = omega (arith, took) }
  after_hearing_slow e c ack (Resets Beyond) h k fits = let gave = h.gave in let took = h.took in
      record { gave = omega (arith, gave); took = omega (arith, took) }
  after_hearing_slow e c ack (Answers false) h k fits = let gave = h.gave in let took = h.took in
      record { gave = omega (arith, gave); took = omega (arith, took) }
  after_hearing_slow e c ack (Answers true) h k fits =
      let g : EndState = record c.after { sender = record c.after.sender { resetting = false } } in
      let s = sending_slow g (record { queue = k.queue; space = k.space; unread = k.unread }) in
      let gave = h.gave in
      let took = h.took in
      let more = s.gave in
      record { gave = omega (arith, gave, more); took = omega (arith, took) }
  after_hearing_slow e c ack Advises h k fits = let gave = h.gave in let took = h.took in
      record { gave = omega (arith, gave); took = omega (arith, took) }

  pub heard_slow : (e : EndState) (s : Content) → (here ≡ true → s.window ≤ room) → Keeps room here e
      → IsSlow (room + room) (marks_of e) (marks_of (heard whole e (told whole e s)).after)
  heard_slow e s fits k =
      let acked = acks whole e.sender s.next in
      let within = acks_within e.sender s.next in
      let p = hearing_paces room here e s.window acked fits within k in
      after_hearing_slow e (hearing whole e s.window acked) s.ack (told whole e s).saying
      (hearing_slow e s.window acked fits within k) p.keeps
      (saying_fits room e s.first s.next s.body (free_fits room here e k))

pub same_slow : (most : ℕ) (e f : EndState) → (marks_of f).gave ≡ (marks_of e).gave
    → f.receiver.received ≡ e.receiver.received → IsSlow most (marks_of e) (marks_of f)
same_slow most e f gave took = record { gave = omega (arith, gave); took = omega (arith, took) }

-- ---- what an end gives numbers to goes in segments, of which each has at most 573 items

pub sending_sends : (e : EndState) → (marks_of (sending whole e).after).gave
    ≤ (marks_of e).gave + 573 * length (sending whole e).sent
sending_sends e =
    let both = length_both e.sender.unacknowledged (going e.sender) in
    let many = going_many e in
    omega (arith, both, many)

pub hearing_sends : (e : EndState) (window : ℕ) (acks : Option ℕ)
    → IfSome acks (λ k. k ≤ length e.sender.unacknowledged)
    → (marks_of (hearing whole e window acks).after).gave
    ≤ (marks_of e).gave + 573 * length (hearing whole e window acks).sent
hearing_sends e window None le = omega arith
hearing_sends e window (Some j) le =
    let d = length_drop j e.sender.unacknowledged in
    let f : EndState = record e { sender = acknowledged whole j window e.sender; ticks = 0 } in
    let s = sending_sends f in
    omega (arith, s, d, le)

after_hearing_sends : (e : EndState) (c : Change) (ack : Bool) (s : Saying)
    → (marks_of c.after).gave ≤ (marks_of e).gave + 573 * length c.sent
    → (marks_of (after_hearing whole c ack s).after).gave
    ≤ (marks_of e).gave + 573 * length (after_hearing whole c ack s).sent
after_hearing_sends e c ack (Brings items) h =
    let both = length_both c.sent (if_asked whole ack (taking whole c.after items)) in omega (arith, h, both)
after_hearing_sends e c ack Asks h = let both = length_both c.sent (if_asked whole ack c.after) in omega
    (arith, h, both)
after_hearing_sends e c ack Closes h = omega (arith, h)
after_hearing_sends e c ack (Resets (Jump d)) h =
    let both = length_both c.sent (control whole (jumped whole c.after d) false ResetAck ∷ []) in omega (arith, h, both)
after_hearing_sends e c ack (Resets Older) h =
    let both = length_both c.sent (control whole c.after false ResetAck ∷ []) in omega (arith, h, both)
after_hearing_sends e c ack (Resets Beyond) h = let both = length_both {X = Content} c.sent [] in omega (arith, h, both)
after_hearing_sends e c ack (Answers false) h = let both = length_both {X = Content} c.sent [] in omega (arith, h, both)
after_hearing_sends e c ack (Answers true) h =
    let g : EndState = record c.after { sender = record c.after.sender { resetting = false } } in
    let both = length_both c.sent (sending whole g).sent in
    let none = length_both {X = Content} (c.sent ++ (sending whole g).sent) [] in
    let s = sending_sends g in
    omega (arith, h, both, none, s)
after_hearing_sends e c ack Advises h = let both = length_both c.sent (repeated whole c.after) in
    omega (arith, h, both)

pub heard_sends : (e : EndState) (s : Content) → (marks_of (heard whole e (told whole e s)).after).gave
    ≤ (marks_of e).gave + 573 * length (heard whole e (told whole e s)).sent
heard_sends e s =
    let acked = acks whole e.sender s.next in
    after_hearing_sends e (hearing whole e s.window acked) s.ack (told whole e s).saying
    (hearing_sends e s.window acked (acks_within e.sender s.next))

-- ---- what an end does in one event

pub record Advances (room : ℕ) (here : Bool) (e f : EndState) (out : List Content) : Type 0 where
  pub paces : Paces room here e f out
  pub slow : here ≡ true → IsSlow (room + room) (marks_of e) (marks_of f)
  pub exact : AllByRecursion (IsExact (marks_of f).gave) out
  pub sends : (marks_of f).gave ≤ (marks_of e).gave + 573 * length out
