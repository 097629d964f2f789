-- What an end does keeps to all that its writer did: its calls, its timers and what it hears.
use Rattle.std.proofs.Common.{◌≡◌, ℕ, Bool, true, false, cond, List, [], ◌∷◌, ◌++◌, length, map, take}
use Rattle.std.proofs.Common.{Option, Some, None, refl, sym, ap, subst, ◌∙◌}
use Rattle.std.specs.List.{AllByRecursion}
use Rattle.at_adsp_frame.specs.Segments.{Content, ResetAck, Reset}
use Rattle.at_adsp_end.specs.Calls.{after_read, probed, probes, reading, read_opens, sent_again, writing}
use Rattle.at_adsp_end.specs.Ends.{Change, EndState, control, is_closed, places}
use Rattle.at_adsp_end.specs.Hearing.{Brings, Asks, Closes, Resets, Answers, Advises, Saying, after_hearing, heard}
use Rattle.at_adsp_end.specs.Hearing.{if_asked, jumped, taking, told}
use Rattle.at_adsp_end.specs.Positions.{whole}
use Rattle.at_adsp_end.specs.Sending.{acks, closing, hearing, repeated, sending}
use Rattle.at_adsp_end.specs.declared.forward.Forward.TheVariants.{Jump, Older, Beyond}
use Rattle.at_adsp_end.specs.declared.item.Item.{Item}
use Rattle.at_adsp_end.specs.declared.phase.Phase.{Phase}
use Rattle.at_adsp_end.specs.declared.phase.Phase.TheVariants as phase
use Rattle.at_adsp.specs.Reading.{Written, Put}
use Rattle.at_adsp.proofs.Carries.{Carries, Goes, Writer, acks_within, answered, hearing_goes, repeated_carry}
use Rattle.at_adsp.proofs.Carries.{reset_carries, sending_goes, shuts, so_goes, stays, then_goes, writer_of}
use Rattle.at_adsp.proofs.Logs.{Log}
use Rattle.at_adsp.proofs.Senders.{Writes, writing_keeps}
use Rattle.at_ddp.proofs.ListLemmas.{take_same}

asked_carries : (e : EndState) (l : List Log) (b : Bool) → AllByRecursion (Carries e.id l) (if_asked whole b e)
asked_carries e l true = ((refl, tt), tt)
asked_carries e l false = tt

-- ---- what it hears

abbrev ready : EndState → EndState
ready e = record e { sender = record e.sender { resetting = false } }

after_hearing_goes : (w : List Written) (l : List Log) (c : Change) (ack : Bool) (s : Saying) → is_closed c.after.phase
    ≡ false → Goes w l c.after c.sent → Goes w l (after_hearing whole c ack s).after (after_hearing whole c ack s).sent
after_hearing_goes w l c ack (Brings items) open_ h =
    then_goes w w l c.after (taking whole c.after items) c.sent (if_asked whole ack (taking whole c.after items)) h refl
    (λ k x. stays w k (taking whole c.after items) (if_asked whole ack (taking whole c.after items)) x
    (asked_carries (taking whole c.after items) k ack))
after_hearing_goes w l c ack Asks open_ h =
    then_goes w w l c.after c.after c.sent (if_asked whole ack c.after) h refl
    (λ k x. stays w k c.after (if_asked whole ack c.after) x (asked_carries c.after k ack))
after_hearing_goes w l c ack Closes open_ h =
    so_goes w l c.after (after_hearing whole c ack Closes).after c.sent h refl
    (λ k x. shuts w k c.after.phase c.after.sender c.after x)
after_hearing_goes w l c ack (Resets (Jump d)) open_ h =
    then_goes w w l c.after (jumped whole c.after d) c.sent
    (control whole (jumped whole c.after d) false ResetAck ∷ []) h refl
    (λ k x. stays w k (jumped whole c.after d) (control whole (jumped whole c.after d) false ResetAck ∷ []) x
    ((refl, tt), tt))
after_hearing_goes w l c ack (Resets Older) open_ h =
    then_goes w w l c.after c.after c.sent (control whole c.after false ResetAck ∷ []) h refl
    (λ k x. stays w k c.after (control whole c.after false ResetAck ∷ []) x ((refl, tt), tt))
after_hearing_goes w l c ack (Resets Beyond) open_ h =
    then_goes w w l c.after c.after c.sent [] h refl (λ k x. stays w k c.after [] x tt)
after_hearing_goes w l c ack (Answers false) open_ h =
    then_goes w w l c.after c.after c.sent [] h refl (λ k x. stays w k c.after [] x tt)
after_hearing_goes w l c ack (Answers true) open_ h =
    let f : EndState = (sending whole (ready c.after)).after in
    let more : List Content = (sending whole (ready c.after)).sent in
    then_goes w w l f f (c.sent ++ more) []
    (then_goes w w l c.after f c.sent more h refl
    (λ k x. sending_goes w k (ready c.after) (answered w k c.after.sender (x.writes open_))))
    refl (λ k x. stays w k f [] x tt)
after_hearing_goes w l c ack Advises open_ h =
    then_goes w w l c.after c.after c.sent (repeated whole c.after) h refl
    (λ k x. stays w k c.after (repeated whole c.after) x (repeated_carry w k c.after (x.writes open_)))

hearing_phase : (e : EndState) (window : ℕ) (acks : Option ℕ) → (hearing whole e window acks).after.phase ≡ e.phase
hearing_phase e window None = refl
hearing_phase e window (Some k) = refl

pub heard_goes : (w : List Written) (l : List Log) (e : EndState) (s : Content) → is_closed e.phase ≡ false
    → Writer w l e.phase e.sender
    → Goes w l (heard whole e (told whole e s)).after (heard whole e (told whole e s)).sent
heard_goes w l e s open_ h =
    after_hearing_goes w l (hearing whole e s.window (acks whole e.sender s.next)) s.ack (told whole e s).saying
    (ap is_closed (hearing_phase e s.window (acks whole e.sender s.next)) ∙ open_)
    (hearing_goes w l e s.window (acks whole e.sender s.next) (acks_within e.sender s.next) (h.writes open_))

-- the packet that opens an end, which is in no phase that is closed
pub first_goes : (w : List Written) (l : List Log) (e : EndState) (s : Content) (first : List Content)
    → is_closed e.phase ≡ false → Writes w l e.sender → AllByRecursion (Carries e.id l) first →
    Goes w l (hearing whole e s.window (acks whole e.sender s.next)).after
    (first ++ (hearing whole e s.window (acks whole e.sender s.next)).sent)
first_goes w l e s first open_ h c =
    then_goes w w l e (hearing whole e s.window (acks whole e.sender s.next)).after first
    (hearing whole e s.window (acks whole e.sender s.next)).sent
    (stays w l e first (writer_of w l e.phase e.sender h) c) (same (acks whole e.sender s.next))
    (λ k x. hearing_goes w k e s.window (acks whole e.sender s.next) (acks_within e.sender s.next) (x.writes open_))
  where
    same : (o : Option ℕ) → (hearing whole e s.window o).after.id ≡ e.id
    same None = refl
    same (Some k) = refl

-- ---- what is called

pub closing_goes : (w : List Written) (l : List Log) (e : EndState) → Writer w l e.phase e.sender
    → Goes w l (closing whole e).after (closing whole e).sent
closing_goes w l e h = stays w l (closing whole e).after (closing whole e).sent (shuts w l e.phase e.sender e h)
    ((refl, tt), tt)

pub writing_goes : (w : List Written) (l : List Log) (e : EndState) (items : List Item) → Writes w l e.sender →
    Goes (w ++ map Put (take (length (take (places e) items)) items)) l (writing whole e items).after
    (writing whole e items).sent
writing_goes w l e items h =
    subst (λ xs. Goes (w ++ map Put xs) l (writing whole e items).after (writing whole e items).sent)
    (sym (take_same (places e) items))
    (sending_goes (w ++ map Put (take (places e) items)) l
    (record e { sender = record e.sender { waiting = e.sender.waiting ++ take (places e) items } })
    (writing_keeps w l e.sender (take (places e) items) h))

pub reading_goes : (w : List Written) (l : List Log) (e : EndState) (count : ℕ) → Writer w l e.phase e.sender
    → Goes w l (reading whole e count).after (reading whole e count).sent
reading_goes w l e count h = stays w l (after_read e count) (reading whole e count).sent h
    (asked_carries (after_read e count) l (read_opens e count))

-- ---- timers

again_carries : (w : List Written) (l : List Log) (e : EndState) → Writes w l e.sender → (p : Phase)
    → AllByRecursion (Carries e.id l) (sent_again whole e p)
again_carries w l e h phase.Opening = ((refl, tt), tt)
again_carries w l e h phase.Half = ((refl, tt), tt)
again_carries w l e h phase.Open = go e.sender.resetting refl
  where
    go : (b : Bool) → e.sender.resetting ≡ b
        → AllByRecursion (Carries e.id l) (cond b (control whole e false Reset ∷ []) (repeated whole e))
    go true is = ((refl, reset_carries w l e h is), tt)
    go false is = repeated_carry w l e h
again_carries w l e h phase.Closed = tt

probes_carry : (l : List Log) (e : EndState) (p : Phase) → AllByRecursion (Carries e.id l) (probes whole e p)
probes_carry l e phase.Opening = ((refl, tt), tt)
probes_carry l e phase.Half = ((refl, tt), tt)
probes_carry l e phase.Open = ((refl, tt), tt)
probes_carry l e phase.Closed = tt

pub probed_goes : (w : List Written) (l : List Log) (e : EndState) (b : Bool) → Writer w l e.phase e.sender
    → Goes w l (probed whole e b).after (probed whole e b).sent
probed_goes w l e true h =
    stays w l (probed whole e true).after [] (shuts w l e.phase e.sender (record e { ticks = 4 }) h) tt
probed_goes w l e false h = stays w l (probed whole e false).after (probed whole e false).sent h
    (probes_carry l e e.phase)

pub again_goes : (w : List Written) (l : List Log) (e : EndState) → is_closed e.phase ≡ false
    → Writer w l e.phase e.sender → Goes w l e (sent_again whole e e.phase)
again_goes w l e open_ h = stays w l e (sent_again whole e e.phase) h (again_carries w l e (h.writes open_) e.phase)
