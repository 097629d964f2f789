-- What the calls, the timers and the segments that an end hears leave of it, and what it sends then.
use Rattle.std.proofs.Common.{◌≡◌, ℕ, ◌+◌, Bool, true, false, cond, List, [], ◌∷◌, ◌++◌, length, Option, Some, None}
use Rattle.std.proofs.Common.{◌⊎◌, inl, inr, refl, sym, ap, subst, ◌∙◌}
use Rattle.std.specs.List.{AllByRecursion}
use Rattle.std.proofs.lemmas.Bool.{true≢false}
use Rattle.at_ddp.proofs.Alls.{all_both, all_implied}
use Rattle.at_adsp_frame.specs.Segments.{Content, Part, Open, Reset, ResetAck}
use Rattle.at_adsp_end.specs.Calls.{open_again, probes, reading, sent_again, read_opens, after_read}
use Rattle.at_adsp_end.specs.Cuts.{Piece, items_of, numbered, pieces}
use Rattle.at_adsp_end.specs.Ends.{Change, EndState, control, has_opened, id_of, is_half, is_open, is_opening}
use Rattle.at_adsp_end.specs.Hearing.{Brings, Asks, Closes, Resets, Answers, Advises, Saying, Told, after_hearing}
use Rattle.at_adsp_end.specs.Hearing.{heard, if_asked, jumped, taking}
use Rattle.at_adsp_end.specs.declared.forward.Forward.TheVariants.{Jump, Older, Beyond}
use Rattle.at_adsp_end.specs.Positions.{Numbers}
use Rattle.at_adsp_end.specs.Sending.{acknowledged, going, hearing, repeated, sending}
use Rattle.at_adsp_end.specs.declared.phase.Phase.{Phase}
use Rattle.at_adsp_end.specs.declared.phase.Phase.TheVariants as phase
use Rattle.at_adsp.proofs.Sayings.{IsSaid, Says, SaysPart}
use Rattle.at_adsp.proofs.Sound.{IsKnown, Knows, Reaches}

-- ---- phases

pub open_is : (p : Phase) → is_open p ≡ true → p ≡ phase.Open
open_is phase.Opening h = absurd (true≢false (sym h))
open_is phase.Half h = absurd (true≢false (sym h))
open_is phase.Open h = refl
open_is phase.Closed h = absurd (true≢false (sym h))

pub half_is : (p : Phase) → is_half p ≡ true → p ≡ phase.Half
half_is phase.Opening h = absurd (true≢false (sym h))
half_is phase.Half h = refl
half_is phase.Open h = absurd (true≢false (sym h))
half_is phase.Closed h = absurd (true≢false (sym h))

pub opening_is : (p : Phase) → is_opening p ≡ true → p ≡ phase.Opening
opening_is phase.Opening h = refl
opening_is phase.Half h = absurd (true≢false (sym h))
opening_is phase.Open h = absurd (true≢false (sym h))
opening_is phase.Closed h = absurd (true≢false (sym h))

-- ---- the end after it

-- the same end in the same phase
pub record Same (e f : EndState) : Type 0 where
  pub id : f.id ≡ e.id
  pub listener : f.listener ≡ e.listener
  pub asked : f.asked ≡ e.asked
  pub remote : f.remote ≡ e.remote
  pub phase : f.phase ≡ e.phase

-- the same end in the same phase, or closed
pub record Quiet (e f : EndState) : Type 0 where
  pub id : f.id ≡ e.id
  pub listener : f.listener ≡ e.listener
  pub asked : f.asked ≡ e.asked
  pub remote : f.remote ≡ e.remote
  pub phase : (f.phase ≡ e.phase) ⊎ ((e.phase ≡ phase.Open) × (f.phase ≡ phase.Closed))

pub same_itself : (e : EndState) → Same e e
same_itself e = record { id = refl; listener = refl; asked = refl; remote = refl; phase = refl }

pub hearing_same : (N : Numbers) (e : EndState) (window : ℕ) (acks : Option ℕ) → Same e (hearing N e window acks).after
hearing_same N e window None = record { id = refl; listener = refl; asked = refl; remote = refl; phase = refl }
hearing_same N e window (Some k) = record { id = refl; listener = refl; asked = refl; remote = refl; phase = refl }

after_hearing_quiet : (N : Numbers) (c : Change) (ack : Bool) (s : Saying) → c.after.phase ≡ phase.Open
    → Quiet c.after (after_hearing N c ack s).after
after_hearing_quiet N c ack (Brings items) open_ =
    record { id = refl; listener = refl; asked = refl; remote = refl; phase = inl refl }
after_hearing_quiet N c ack Asks open_ =
    record { id = refl; listener = refl; asked = refl; remote = refl; phase = inl refl }
after_hearing_quiet N c ack Closes open_ =
    record { id = refl; listener = refl; asked = refl; remote = refl; phase = inr (open_, refl) }
after_hearing_quiet N c ack (Resets (Jump d)) open_ =
    record { id = refl; listener = refl; asked = refl; remote = refl; phase = inl refl }
after_hearing_quiet N c ack (Resets Older) open_ =
    record { id = refl; listener = refl; asked = refl; remote = refl; phase = inl refl }
after_hearing_quiet N c ack (Resets Beyond) open_ =
    record { id = refl; listener = refl; asked = refl; remote = refl; phase = inl refl }
after_hearing_quiet N c ack (Answers false) open_ =
    record { id = refl; listener = refl; asked = refl; remote = refl; phase = inl refl }
after_hearing_quiet N c ack (Answers true) open_ =
    record { id = refl; listener = refl; asked = refl; remote = refl; phase = inl refl }
after_hearing_quiet N c ack Advises open_ =
    record { id = refl; listener = refl; asked = refl; remote = refl; phase = inl refl }

same_quiet : (e f g : EndState) → Same e f → Quiet f g → Quiet e g
same_quiet e f g s q = record {
  id = q.id ∙ s.id;
  listener = q.listener ∙ s.listener;
  asked = q.asked ∙ s.asked;
  remote = q.remote ∙ s.remote;
  phase = go q.phase;
}
  where
    go : (g.phase ≡ f.phase) ⊎ ((f.phase ≡ phase.Open) × (g.phase ≡ phase.Closed)) → (g.phase ≡ e.phase)
        ⊎ ((e.phase ≡ phase.Open) × (g.phase ≡ phase.Closed))
    go (inl h) = inl (h ∙ s.phase)
    go (inr h) = inr (sym s.phase ∙ h.0, h.1)

pub heard_quiet : (N : Numbers) (e : EndState) (t : Told) → e.phase ≡ phase.Open → Quiet e (heard N e t).after
heard_quiet N e t open_ =
    let s = hearing_same N e t.window t.acks in
    same_quiet e (hearing N e t.window t.acks).after (heard N e t).after s
    (after_hearing_quiet N (hearing N e t.window t.acks) t.ack t.saying (s.phase ∙ open_))

-- what is known of an end is known of the same end
pub same_known : (e f : EndState) → Same e f → IsKnown e → IsKnown f
same_known e f s k = subst IsKnown
    (λ i. record e {
      listener = sym s.listener i;
      asked = sym s.asked i;
      remote = sym s.remote i;
      phase = sym s.phase i;
    }) k

pub quiet_known : (e f : EndState) → Quiet e f → IsKnown e → IsKnown f
quiet_known e f q k = go q.phase
  where
    go : (f.phase ≡ e.phase) ⊎ ((e.phase ≡ phase.Open) × (f.phase ≡ phase.Closed)) → IsKnown f
    go (inl same) = same_known e f
        (record { id = q.id; listener = q.listener; asked = q.asked; remote = q.remote; phase = same }) k
    go (inr h) =
        let reaches : Reaches e.asked e.remote = subst (λ p. Knows p e.listener e.asked e.remote) h.0 k in
        subst IsKnown (λ i. record
        e { listener = sym q.listener i; asked = sym q.asked i; remote = sym q.remote i; phase = sym h.1 i })
        reaches

pub quiet_opened : (e f : EndState) → Quiet e f → has_opened f.phase ≡ has_opened e.phase
quiet_opened e f q = go q.phase
  where
    go : (f.phase ≡ e.phase) ⊎ ((e.phase ≡ phase.Open) × (f.phase ≡ phase.Closed)) → has_opened f.phase
        ≡ has_opened e.phase
    go (inl same) = ap has_opened same
    go (inr h) = ap has_opened h.1 ∙ sym (ap has_opened h.0)

-- ---- what it sends

-- the packet opens nothing
abbrev pub IsPlainPart : Part → Type 0
IsPlainPart (Open kind dest) = ⊥
IsPlainPart other = Unit {0}

abbrev pub Plain : List Content → Type 0
Plain sent = AllByRecursion (λ (s : Content). IsPlainPart s.body) sent

plain_part : (e : EndState) (source : ℕ) (part : Part) → IsPlainPart part → SaysPart e source part
plain_part e source (Open kind dest) h = absurd h
plain_part e source other h = h

pub plain_says : (e : EndState) (sent : List Content) → Plain sent → AllByRecursion (Says e) sent
plain_says e sent h = all_implied (λ (s : Content). IsPlainPart s.body) (Says e) sent
    (λ s is. plain_part e s.source s.body is) h

pub numbered_plain : (N : Numbers) (e : EndState) (first : ℕ) (ps : List Piece) → Plain (numbered N e first ps)
numbered_plain N e first [] = tt
numbered_plain N e first (p ∷ ps) = (tt, numbered_plain N e (first + length (items_of p)) ps)

pub sending_plain : (N : Numbers) (e : EndState) → Plain (sending N e).sent
sending_plain N e = numbered_plain N e (e.sender.front + length e.sender.unacknowledged) (pieces [] (going e.sender))

pub hearing_plain : (N : Numbers) (e : EndState) (window : ℕ) (acks : Option ℕ) → Plain (hearing N e window acks).sent
hearing_plain N e window None = tt
hearing_plain N e window (Some k) = sending_plain N (record e { sender = acknowledged N k window e.sender; ticks = 0 })

if_plain : (N : Numbers) (ack : Bool) (e : EndState) → Plain (if_asked N ack e)
if_plain N true e = (tt, tt)
if_plain N false e = tt

-- the end whose reset is answered
abbrev ready : EndState → EndState
ready e = record e { sender = record e.sender { resetting = false } }

after_hearing_plain : (N : Numbers) (c : Change) (ack : Bool) (s : Saying) → Plain c.sent
    → Plain (after_hearing N c ack s).sent
after_hearing_plain N c ack (Brings items) h = all_both (λ (s : Content). IsPlainPart s.body) c.sent
    (if_asked N ack (taking N c.after items)) h (if_plain N ack (taking N c.after items))
after_hearing_plain N c ack Asks h = all_both (λ (s : Content). IsPlainPart s.body) c.sent (if_asked N ack c.after) h
    (if_plain N ack c.after)
after_hearing_plain N c ack Closes h = h
after_hearing_plain N c ack (Resets (Jump d)) h = all_both (λ (s : Content). IsPlainPart s.body) c.sent
    (control N (jumped N c.after d) false ResetAck ∷ []) h (tt, tt)
after_hearing_plain N c ack (Resets Older) h = all_both (λ (s : Content). IsPlainPart s.body) c.sent
    (control N c.after false ResetAck ∷ []) h (tt, tt)
after_hearing_plain N c ack (Resets Beyond) h = all_both (λ (s : Content). IsPlainPart s.body) c.sent [] h tt
after_hearing_plain N c ack (Answers false) h = all_both (λ (s : Content). IsPlainPart s.body) c.sent [] h tt
after_hearing_plain N c ack (Answers true) h =
    all_both (λ (s : Content). IsPlainPart s.body) (c.sent ++ (sending N (ready c.after)).sent) []
    (all_both (λ (s : Content). IsPlainPart s.body) c.sent (sending N (ready c.after)).sent h
    (sending_plain N (ready c.after))) tt
after_hearing_plain N c ack Advises h = all_both (λ (s : Content). IsPlainPart s.body) c.sent (repeated N c.after) h
    (numbered_plain N c.after c.after.sender.front (pieces [] c.after.sender.unacknowledged))

pub heard_plain : (N : Numbers) (e : EndState) (t : Told) → Plain (heard N e t).sent
heard_plain N e t = after_hearing_plain N (hearing N e t.window t.acks) t.ack t.saying
    (hearing_plain N e t.window t.acks)

pub again_plain : (N : Numbers) (e : EndState) → Plain (open_again N e)
again_plain N e = go e.sender.resetting
  where
    go : (b : Bool) → Plain (cond b (control N e false Reset ∷ []) (repeated N e))
    go true = (tt, tt)
    go false = numbered_plain N e e.sender.front (pieces [] e.sender.unacknowledged)

pub reading_plain : (N : Numbers) (e : EndState) (count : ℕ) → Plain (reading N e count).sent
reading_plain N e count = if_plain N (read_opens e count) (after_read e count)

-- ---- answers and acknowledgements

pub reaches_said : (e : EndState) (listener : Bool) → e.listener ≡ listener → Reaches e.asked e.remote
    → IsSaid e listener e.id (id_of e.remote)
reaches_said e listener listens h = record {
  id = refl;
  listens = listens;
  remote = h.1 ∙ ap Some (λ i. record { address = e.asked; id = id_of (sym h.1 i) });
}

-- an end that listening made answers its remote
pub answering_said : (e : EndState) (p : Phase) → Knows p e.listener e.asked e.remote → e.listener ≡ true
    → IsSaid e true e.id (id_of e.remote)
answering_said e phase.Opening k listens = absurd (true≢false (sym listens ∙ k.0))
answering_said e phase.Half k listens = reaches_said e true listens k.1
answering_said e phase.Open k listens = reaches_said e true listens k
answering_said e phase.Closed k listens = reaches_said e true listens k

pub again_says : (N : Numbers) (e : EndState) (p : Phase) → Knows p e.listener e.asked e.remote
    → AllByRecursion (Says e) (sent_again N e p)
again_says N e phase.Opening k = (tt, tt)
again_says N e phase.Half k = (reaches_said e true k.0 k.1, tt)
again_says N e phase.Open k = plain_says e (open_again N e) (again_plain N e)
again_says N e phase.Closed k = tt

pub probes_says : (N : Numbers) (e : EndState) (p : Phase) → Knows p e.listener e.asked e.remote
    → AllByRecursion (Says e) (probes N e p)
probes_says N e phase.Opening k = (tt, tt)
probes_says N e phase.Half k = (reaches_said e true k.0 k.1, tt)
probes_says N e phase.Open k = (tt, tt)
probes_says N e phase.Closed k = tt
