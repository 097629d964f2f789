-- What came of a call of the ends, as what the socket did.
use Rattle.std.proofs.Common.{◌≡◌, ℕ, Bool, true, false, cond, List, [], ◌∷◌, ◌++◌, length, map, Option, Some, None}
use Rattle.std.proofs.Common.{Result, Ok, Err, refl, sym, ap, subst, ◌∙◌}
use Rattle.std.specs.Prelude.{◌==◌, ◌&&◌, min, not, take, drop}
use Rattle.std.specs.Result.{ForOk}
use Rattle.std.proofs.lemmas.List.{append-nil, drop_min, take_min}
use Rattle.at_ddp.specs.Outbox.{Posted, Outbox}
use Rattle.at_ddp.specs.Sending.{Sends}
use Rattle.at_ddp.specs.declared.address.Address.{Address}
use Rattle.at_ddp.specs.Protocols.{adsp_kind}
use Rattle.at_adsp_end.specs.Calls.{is_idle, is_last, probed, ticked}
use Rattle.at_adsp_end.specs.Ends.{EndState, acknowledging, free, has_opened, is_closed, is_open, spelled_all}
use Rattle.at_adsp_end.specs.Fault.{number_of}
use Rattle.at_adsp_end.specs.Positions.{wire}
use Rattle.at_adsp_end.specs.Sending.{closing}
use Rattle.at_adsp_end.specs.declared.fault.StreamFault.{StreamFault}
use Rattle.at_adsp_end.specs.declared.fault.StreamFault.TheVariants.{NotOpen}
use Rattle.at_adsp_end.specs.declared.item.Item.{Item}
use Rattle.at_adsp_end.specs.declared.change.EndChange.{EndChange}
use Rattle.at_adsp_end.specs.declared.change.EndChange.TheVariants as step
use Rattle.at_adsp_end.specs.declared.tick.Tick.{Tick}
use Rattle.at_adsp_end.specs.declared.tick.Tick.TheVariants as tick
use Rattle.at_adsp_ends.specs.Calls.{closed_at, frees, read_at, ticked_at, unread_at}
use Rattle.at_adsp_ends.specs.Moves.{IsCalled}
use Rattle.at_adsp_ends.specs.Receiving.{settled}
use Rattle.at_adsp_ends.specs.Tables.{Done, EndTable, freed, moved}
use Rattle.at_event.specs.Outcomes.{IsStep, idle, posted, refused_as, sent_by, wants_memory}
use Rattle.at_event.specs.Kinds.{takes_memory}
use Rattle.at_event.specs.declared.Report.{Report}
use Rattle.at_event.specs.declared.seat.Seat.{Seat}
use Rattle.at_event.proofs.PostLemmas.{posts as posts_from}
use Rattle.at_stream_socket.specs.Calls.{called}
use Rattle.at_stream_socket.specs.Sockets.{streams_at, told_by, told_read}

-- ---- what is sent

-- the outbox of the socket for streams, behind these datagrams
pub record IsBox (s : Seat) (box : Outbox) (before : List Posted) : Type 0 where
  pub items : box.items ≡ before
  pub from : box.from ≡ streams_at s.net s.number
  pub kind : box.kind ≡ adsp_kind

pub posts : (s : Seat) (box boxed : Outbox) (before : List Posted) (pushes : List (Address × List ℕ))
    → IsBox s box before → Sends box boxed pushes
    → boxed.items ≡ before ++ map posted (sent_by (streams_at s.net s.number) adsp_kind pushes)
posts s box boxed before pushes b sends =
    posts_from box boxed pushes before (streams_at s.net s.number) adsp_kind sends b.items b.from b.kind

pub nothing_posted : (s : Seat) (box boxed : Outbox) (before : List Posted) → IsBox s box before → Sends box boxed []
    → boxed.items ≡ before
nothing_posted s box boxed before b sends = sends.items ∙ append-nil box.items ∙ b.items

-- ---- reports

pub told_some : (A : Type 0) (s : EndChange) → wants_memory {A = A} (told_by s) ≡ false
told_some A step.Ignored = refl
told_some A (step.Made id) = refl
told_some A (step.Opened id) = refl
told_some A step.Turned = refl
told_some A (step.Denied id) = refl
told_some A step.Again = refl
told_some A step.Idle = refl
told_some A (step.Heard id items) = refl
told_some A (step.Dropped id) = refl
told_some A (step.Closed id) = refl
told_some A (step.Freed id) = refl

-- what is told takes memory, unless it is told as ignored
pub told_takes : (A : Type 0) (s : EndChange) → (s ≡ step.Ignored → ⊥) → takes_memory {A = A} (told_by s) ≡ true
told_takes A step.Ignored heeds = absurd (heeds refl)
told_takes A (step.Made id) heeds = refl
told_takes A (step.Opened id) heeds = refl
told_takes A step.Turned heeds = refl
told_takes A (step.Denied id) heeds = refl
told_takes A step.Again heeds = refl
told_takes A step.Idle heeds = refl
told_takes A (step.Heard id items) heeds = refl
told_takes A (step.Dropped id) heeds = refl
told_takes A (step.Closed id) heeds = refl
told_takes A (step.Freed id) heeds = refl

-- ---- calls

-- the report of what came of a call
abbrev pub reported : {A X : Type 0} → (X → Report A) → Result X StreamFault → Report A
reported told (Ok x) = told x
reported told (Err fault) = refused_as (number_of fault)

-- a refusal is one report, and changes nothing
refused_step : (A : Type 0) (t : EndTable) (start : List Posted) (number : Option ℕ)
    → IsStep {A = A} (idle t (refused_as number)) t start (refused_as number) t start
refused_step A t start None = (refl, refl, refl)
refused_step A t start (Some n) = (refl, refl, sym (append-nil start))

pub call_step : {A X : Type 0} (s : Seat) (old new : EndTable) (told : X → Report A) (r : Result (Done X) StreamFault)
    (tried : Result X StreamFault) (box boxed : Outbox) (before : List Posted) →
    ((x : X) → wants_memory (told x) ≡ false) → ForOk r (λ d. takes_memory (told d.answer) ≡ true)
    → IsBox s box before → IsCalled r tried old new box boxed
    → IsStep (called s old told r) old before (reported told tried) new boxed.items
call_step s old new told (Ok d) (Ok x) box boxed before some takes b h =
    rw (some x) (ap told h.answer_is, h.state, posts s box boxed before (spelled_all d.sent) b h.sent)
call_step s old new told (Ok d) (Err fault) box boxed before some takes b h =
    let nothing = h.1 in
    subst (λ f. IsStep (called s old told (Ok d)) old before (refused_as (number_of f)) new boxed.items) (sym h.0)
    (nothing.state, nothing_posted s box boxed before b nothing.sent, takes d refl)
call_step {A} s old new told (Err refusal) tried box boxed before some takes b h =
    let nothing = h.1 in
    rw (h.0, nothing.state, nothing_posted s box boxed before b nothing.sent)
    (refused_step A old before (number_of refusal))

-- ---- closing and ticking

-- a step that is told as this one is
told_so : (A : Type 0) (s answer : EndChange) → takes_memory {A = A} (told_by s) ≡ true → s ≡ answer
    → takes_memory {A = A} (told_by answer) ≡ true
told_so A s answer takes same = subst (λ x. takes_memory {A = A} (told_by x) ≡ true) same takes

-- what closes or frees an end takes memory
pub closing_takes : (A : Type 0) (t : EndTable) (o : Option EndState)
    → ForOk (closed_at wire t o) (λ d. takes_memory {A = A} (told_by d.answer) ≡ true)
closing_takes A t None d is = absurd (cc)
closing_takes A t (Some e) d is = go (is_open e.phase) is
  where
    go : (b : Bool) → ◌≡◌ {A = Result (Done EndChange) StreamFault}
        (cond b (Ok (moved t (step.Closed e.id) (closing wire e).after (closing wire e).sent))
        (Ok (freed t (step.Freed e.id) e))) (Ok d)
        → takes_memory {A = A} (told_by d.answer) ≡ true
    go true is = told_so A (step.Closed e.id) d.answer refl (cc)
    go false is = told_so A (step.Freed e.id) d.answer refl (cc)

-- so does a tick of an end that stays
staying_takes : (A : Type 0) (e : EndState) (tick : Tick)
    → takes_memory {A = A} (told_by (ticked wire e tick).step) ≡ true
staying_takes A e tick.Retransmit = go (is_idle e)
  where
    go : (b : Bool) → takes_memory {A = A} (told_by (cond b step.Idle step.Again)) ≡ true
    go true = refl
    go false = refl
staying_takes A e tick.Probe = go (is_last e tick.Probe)
  where
    go : (b : Bool) → takes_memory {A = A} (told_by (probed wire e b).step) ≡ true
    go true = refl
    go false = refl

pub ticking_takes : (A : Type 0) (t : EndTable) (tick : Tick) (o : Option EndState)
    → ForOk (ticked_at wire t tick o) (λ d. takes_memory {A = A} (told_by d.answer) ≡ true)
ticking_takes A t tick None d is = absurd (cc)
ticking_takes A t tick (Some e) d is = go (is_closed e.phase) (frees e tick) is
  where
    go : (closed last : Bool) → ◌≡◌ {A = Result (Done EndChange) StreamFault}
        (cond closed (Err NotOpen)
        (cond last (Ok (freed t (step.Freed e.id) e)) (Ok (settled t (ticked wire e tick))))) (Ok d)
        → takes_memory {A = A} (told_by d.answer) ≡ true
    go true last is = absurd (cc)
    go false true is = told_so A (step.Freed e.id) d.answer refl (cc)
    go false false is = told_so A (ticked wire e tick).step d.answer (staying_takes A e tick) (cc)

-- ---- reading

-- what is read and what is left, as the end then is
abbrev left_at : EndState → List Item → EndState
left_at e left = record e { receiver = record e.receiver { unread = left } }

abbrev read_of_it : EndTable → EndState → List Item → List Item → Done (List Item)
read_of_it t e some left =
    moved t some (left_at e left)
    (cond (is_open e.phase && (free e == 0) && not (free (left_at e left) == 0))
    (acknowledging wire (left_at e left) ∷ []) [])

-- there is no more to read than there is
read_fewer_at : (t : EndTable) (e : EndState) (n u : ℕ) (b : Bool)
    → ◌≡◌ {A = Result ℕ StreamFault} (cond b (Ok (length e.receiver.unread)) (Err NotOpen)) (Ok u) →
    ◌≡◌ {A = Result (Done (List Item)) StreamFault}
    (cond b (Ok (read_of_it t e (take (min n u) e.receiver.unread) (drop (min n u) e.receiver.unread)))
    (Err NotOpen)) (cond b (Ok (read_of_it t e (take n e.receiver.unread) (drop n e.receiver.unread)))
    (Err NotOpen))
read_fewer_at t e n u true is =
    let all : length e.receiver.unread ≡ u = cc in
    subst (λ m. ◌≡◌ {A = Result (Done (List Item)) StreamFault}
    (Ok (read_of_it t e (take (min n m) e.receiver.unread) (drop (min n m) e.receiver.unread)))
    (Ok (read_of_it t e (take n e.receiver.unread) (drop n e.receiver.unread)))) all
    (λ i. Ok (read_of_it t e (take_min n e.receiver.unread i) (drop_min n e.receiver.unread i)))
read_fewer_at t e n u false is = refl

pub read_fewer : (t : EndTable) (n u : ℕ) (o : Option EndState) → unread_at o ≡ Ok u → read_at wire t (min n u) o
    ≡ read_at wire t n o
read_fewer t n u None is = refl
read_fewer t n u (Some e) is = read_fewer_at t e n u (has_opened e.phase) is

-- what can be read of takes memory
can_read_at : (t : EndTable) (e : EndState) (n u : ℕ) (b : Bool)
    → ◌≡◌ {A = Result ℕ StreamFault} (cond b (Ok (length e.receiver.unread)) (Err NotOpen)) (Ok u)
    → (A : Type 0) (s : Seat) (d : Done (List Item)) →
    takes_memory {A = A} (called s t told_read (cond b (Ok d) (Err NotOpen))).report ≡ true
can_read_at t e n u true is A s d = refl
can_read_at t e n u false is A s d = absurd (cc)

pub can_read : (A : Type 0) (s : Seat) (t : EndTable) (n u : ℕ) (o : Option EndState) → unread_at o ≡ Ok u
    → takes_memory {A = A} (called s t told_read (read_at wire t n o)).report ≡ true
can_read A s t n u None is = absurd (cc)
can_read A s t n u (Some e) is =
    can_read_at t e n u (has_opened e.phase) is A s
    (read_of_it t e (take n e.receiver.unread) (drop n e.receiver.unread))
