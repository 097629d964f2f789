-- How an end that hears goes on through all that its peer's writer did.
use Rattle.std.proofs.Common.{◌≡◌, ℕ, ◌+◌, ◌-◌, ◌≤◌, Bool, true, false, cond, List, [], ◌++◌, length}
use Rattle.std.proofs.Common.{take, drop, Option, Some, None, refl, sym, subst, arith}
use Rattle.std.specs.Prelude.{nat_le}
use Rattle.std.proofs.lemmas.Bool.{leb-true, leb-false}
use Rattle.at_adsp_frame.specs.Segments.{Content, Part, Data, Reset, Probe, Close, Open, ResetAck, Advice}
use Rattle.at_adsp_end.specs.Calls.{after_read}
use Rattle.at_adsp_end.specs.Cuts.{items_in}
use Rattle.at_adsp_end.specs.Ends.{Change, EndState, Receiver, free}
use Rattle.at_adsp_end.specs.Hearing.{Brings, Asks, Closes, Resets, Answers, Advises, Saying, after_hearing, fitting}
use Rattle.at_adsp_end.specs.Hearing.{heard, passed, rest, saying, told}
use Rattle.at_adsp_end.specs.Positions.{whole}
use Rattle.at_adsp_end.specs.Sending.{acks, hearing}
use Rattle.at_adsp_end.specs.declared.forward.Forward.TheVariants.{Jump, Older, Beyond}
use Rattle.at_adsp_end.specs.declared.item.Item.{Item}
use Rattle.at_adsp.proofs.Carries.{CarriesPart, IsCut}
use Rattle.at_adsp.proofs.Logs.{Log, went_of}
use Rattle.at_adsp.proofs.Readers.{Reading, nothing_there, reading_jumps, reading_reads, reading_takes}
use Rattle.at_adsp.proofs.Senders.{some_before}
use Rattle.at_adsp.proofs.Slices.{IsSlice, slice_first, slice_rest}
use Rattle.std.proofs.lemmas.List.{drop_all}

-- what a segment says to an end that stands at this number of its peer's log
abbrev Means : List Log → ℕ → Saying → Type 0
Means l r (Brings items) = IsSlice items (went_of l) r
Means l r (Resets (Jump d)) = IsCut l (r + d)
Means l r other = Unit {0}

-- ---- data

-- what is not received yet of a segment's items
rest_slice : (items : List Item) (all : List Item) (first r : ℕ) → IsSlice items all first → IsSlice [] all r
    → IsSlice (rest items (whole.ahead first r)) all r
rest_slice items all first r h none = go (nat_le first r) refl
  where
    within : first ≤ r → (b : Bool) → nat_le (r - first) (length items) ≡ b → IsSlice (drop (r - first) items) all r
    within le true is =
        let few = leb-true (r - first) (length items) is in
        let at : first + (r - first) ≡ r = omega (arith, le) in
        subst (IsSlice (drop (r - first) items) all) at (slice_rest (r - first) items all first few h)
    within le false is = subst (λ xs. IsSlice xs all r)
        (sym (drop_all (r - first) items (let more = leb-false (r - first) (length items) is in omega (arith, more))))
        none

    go : (b : Bool) → nat_le first r ≡ b → IsSlice (rest items (cond b (Some (r - first)) None)) all r
    go true is = within (leb-true first r is) (nat_le (r - first) (length items)) refl
    go false is = none

-- ---- resets

pub ahead_far : (a b d : ℕ) → whole.ahead a b ≡ Some d → b ≡ a + d
ahead_far a b d is = go (nat_le a b) refl is
  where
    go : (c : Bool) → nat_le a b ≡ c → cond c (Some (b - a)) None ≡ Some d → b ≡ a + d
    go true e h = let le = leb-true a b e in let same : b - a ≡ d = cc in omega (arith, le, same)
    go false e h = absurd (cc)

reset_means : (l : List Log) (r first room : ℕ) (a behind : Option ℕ) → IsCut l first → whole.ahead r first ≡ a
    → Means l r (Resets (fitting room a behind))
reset_means l r first room None None h is = tt
reset_means l r first room None (Some d) h is = tt
reset_means l r first room (Some d) behind h is = go (nat_le d room) behind
  where
    go : (b : Bool) (behind : Option ℕ) → Means l r (Resets (cond b (Jump d) (passed behind)))
    go true behind = subst (IsCut l) (ahead_far r first d is) h
    go false None = tt
    go false (Some x) = tt

-- ---- every segment

saying_means : (e : EndState) (l : List Log) (first next : ℕ) (part : Part) → CarriesPart l first part
    → IsSlice [] (went_of l) e.receiver.received → Means l e.receiver.received (saying whole e first next part)
saying_means e l first next (Data end bytes) h none =
    rest_slice (items_in end bytes) (went_of l) first e.receiver.received h none
saying_means e l first next Probe h none = tt
saying_means e l first next (Open kind dest) h none = tt
saying_means e l first next Close h none = tt
saying_means e l first next Reset h none =
    reset_means l e.receiver.received first (free e) (whole.ahead e.receiver.received first)
    (whole.ahead first e.receiver.received) h refl
saying_means e l first next ResetAck h none = tt
saying_means e l first next Advice h none = tt

-- what was read and what is unread, of a log
abbrev pub Reader : List Item → List Log → Receiver → Type 0
Reader got l r = Reading got r.unread l r.received

some_slice : (k : ℕ) (xs all : List Item) (first : ℕ) → IsSlice xs all first → IsSlice (take k xs) all first
some_slice k xs all first h =
    slice_first (take k xs) (drop k xs) all first (subst (λ ys. IsSlice ys all first) (sym (some_before k xs)) h)

after_hearing_reads : (got : List Item) (l : List Log) (c : Change) (ack : Bool) (s : Saying)
    → Means l c.after.receiver.received s → Reader got l c.after.receiver
    → Reader got l (after_hearing whole c ack s).after.receiver
after_hearing_reads got l c ack (Brings items) m h =
    let t = some_slice (free c.after) items (went_of l) c.after.receiver.received m in
    reading_takes got c.after.receiver.unread t.before (take (free c.after) items) t.after l c.after.receiver.received
    t.stands t.at h
after_hearing_reads got l c ack Asks m h = h
after_hearing_reads got l c ack Closes m h = h
after_hearing_reads got l c ack (Resets (Jump d)) m h =
    subst (Reading got [] l) m.at
    (reading_jumps got c.after.receiver.unread m.dropped l m.before m.after c.after.receiver.received m.stands
    (let at = m.at in omega (arith, at)) h)
after_hearing_reads got l c ack (Resets Older) m h = h
after_hearing_reads got l c ack (Resets Beyond) m h = h
after_hearing_reads got l c ack (Answers false) m h = h
after_hearing_reads got l c ack (Answers true) m h = h
after_hearing_reads got l c ack Advises m h = h

pub hearing_receiver : (e : EndState) (window : ℕ) (acks : Option ℕ) → (hearing whole e window acks).after.receiver
    ≡ e.receiver
hearing_receiver e window None = refl
hearing_receiver e window (Some k) = refl

pub heard_reads : (got : List Item) (l : List Log) (e : EndState) (s : Content) → CarriesPart l s.first s.body
    → Reader got l e.receiver → Reader got l (heard whole e (told whole e s)).after.receiver
heard_reads got l e s carries h =
    let same : e.receiver ≡ (hearing whole e s.window (acks whole e.sender s.next)).after.receiver =
    sym (hearing_receiver e s.window (acks whole e.sender s.next)) in
    let none = nothing_there got e.receiver.unread l e.receiver.received h in
    after_hearing_reads got l (hearing whole e s.window (acks whole e.sender s.next)) s.ack (told whole e s).saying
    (subst (λ (r : Receiver). Means l r.received (told whole e s).saying) same
    (saying_means e l s.first s.next s.body carries none))
    (subst (Reader got l) same h)

-- the client reads
pub read_reads : (got : List Item) (l : List Log) (e : EndState) (count : ℕ) → Reader got l e.receiver
    → Reader (got ++ take count e.receiver.unread) l (after_read e count).receiver
read_reads got l e count h =
    reading_reads got (take count e.receiver.unread) (drop count e.receiver.unread) l e.receiver.received
    (subst (λ us. Reading got us l e.receiver.received) (sym (some_before count e.receiver.unread)) h)
