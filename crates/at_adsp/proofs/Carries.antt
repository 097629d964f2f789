-- What segments carry of all that a writer did, and that an end that sends keeps to it.
use Rattle.std.proofs.Common.{◌≡◌, ℕ, ◌+◌, ◌≤◌, Bool, true, false, cond, List, [], ◌∷◌, ◌++◌, length, map, Option, Some}
use Rattle.std.proofs.Common.{None, refl, sym, ap, subst, ◌∙◌, append_assoc, arith}
use Rattle.std.specs.Prelude.{nat_le, IfSome}
use Rattle.std.specs.List.{AllByRecursion}
use Rattle.std.proofs.lemmas.Bool.{true≢false, false≢true, leb-true}
use Rattle.at_ddp.proofs.Alls.{all_both, all_implied}
use Rattle.at_adsp_frame.specs.Segments.{Content, Part, Data, Reset}
use Rattle.at_adsp_end.specs.Cuts.{Piece, items_in, items_of, numbered, pieces}
use Rattle.at_adsp_end.specs.Ends.{EndState, Sender, is_closed}
use Rattle.at_adsp_end.specs.Positions.{whole}
use Rattle.at_adsp_end.specs.Sending.{acknowledged, acks, at_most, going, hearing, repeated, resetting_now, sending}
use Rattle.at_adsp_end.specs.Sending.{shut}
use Rattle.at_adsp_end.specs.declared.item.Item.{Item}
use Rattle.at_adsp_end.specs.declared.phase.Phase.{Phase}
use Rattle.at_adsp.specs.Reading.{Written, Put, Reset as reset_here}
use Rattle.at_adsp.proofs.Logs.{Log, Went, Cut, flat, went_of, length_both, nothing_more, went_both}
use Rattle.at_adsp.proofs.Senders.{Writes, acknowledged_keeps, repeated_slice, reset_keeps, sending_keeps, sent_slice}
use Rattle.at_adsp.proofs.Slices.{AreSlices, IsSlice, are_slices, pieces_whole, slice_grows}

-- ---- what a segment carries

-- a reset stands in the log at this number
pub record IsCut (l : List Log) (first : ℕ) : Type 0 where
  pub before : List Log
  pub dropped : List Item
  pub after : List Log
  pub stands : l ≡ before ++ (Cut dropped ∷ after)
  pub at : length (went_of before) ≡ first

abbrev pub CarriesPart : List Log → ℕ → Part → Type 0
CarriesPart l first (Data end bytes) = IsSlice (items_in end bytes) (went_of l) first
CarriesPart l first Reset = IsCut l first
CarriesPart l first other = Unit {0}

-- a segment of this end
abbrev pub Carries : ℕ → List Log → Content → Type 0
Carries id l s = (s.source ≡ id) × CarriesPart l s.first s.body

pub part_grows : (l k : List Log) (first : ℕ) (part : Part) → CarriesPart l first part → CarriesPart (l ++ k) first part
part_grows l k first (Data end bytes) h = subst (λ w. IsSlice (items_in end bytes) w first) (sym (went_both l k))
    (slice_grows (items_in end bytes) (went_of l) (went_of k) first h)
part_grows l k first Reset h = record {
  before = h.before;
  dropped = h.dropped;
  after = h.after ++ k;
  stands = ap (λ x. x ++ k) h.stands ∙ append_assoc h.before (Cut h.dropped ∷ h.after) k;
  at = h.at;
}
part_grows l k first other h = h

all_grow : (id : ℕ) (l k : List Log) (out : List Content) → AllByRecursion (Carries id l) out
    → AllByRecursion (Carries id (l ++ k)) out
all_grow id l k out h = all_implied (Carries id l) (Carries id (l ++ k)) out
    (λ s c. (c.0, part_grows l k s.first s.body c.1)) h

-- ---- what an end does

-- the log begins what was written, and an end that is not closed keeps the rest
pub record Writer (w : List Written) (l : List Log) (p : Phase) (s : Sender) : Type 0 where
  pub rest : List Written
  pub starts : w ≡ flat l ++ rest
  pub writes : is_closed p ≡ false → Writes w l s

pub writer_of : (w : List Written) (l : List Log) (p : Phase) (s : Sender) → Writes w l s → Writer w l p s
writer_of w l p s h = record { rest = map Put s.waiting; starts = h.is_written; writes = λ open_. h }

-- an end moved on from this log, and sent this
pub record Goes (w : List Written) (l : List Log) (f : EndState) (out : List Content) : Type 0 where
  pub log : List Log
  pub more : List Log
  pub is : log ≡ l ++ more
  pub writer : Writer w log f.phase f.sender
  pub carries : AllByRecursion (Carries f.id log) out

pub stays : (w : List Written) (l : List Log) (f : EndState) (out : List Content) → Writer w l f.phase f.sender
    → AllByRecursion (Carries f.id l) out → Goes w l f out
stays w l f out h c = record { log = l; more = []; is = sym (nothing_more l); writer = h; carries = c }

-- the end goes on
pub then_goes : (v w : List Written) (l : List Log) (f g : EndState) (out more : List Content) → Goes v l f out → g.id
    ≡ f.id → ((k : List Log) → Writer v k f.phase f.sender → Goes w k g more) → Goes w l g (out ++ more)
then_goes v w l f g out more h same on =
    let x = on h.log h.writer in
    record {
      log = x.log;
      more = h.more ++ x.more;
      is = x.is ∙ ap (λ k. k ++ x.more) h.is ∙ append_assoc l h.more x.more;
      writer = x.writer;
      carries =
          all_both (Carries g.id x.log) out more
          (subst (λ i. AllByRecursion (Carries i x.log) out) (sym same)
          (subst (λ k. AllByRecursion (Carries f.id k) out) (sym x.is) (all_grow f.id h.log x.more out h.carries)))
          x.carries;
    }

-- the end changes, and sends no more
pub so_goes : (w : List Written) (l : List Log) (f g : EndState) (out : List Content) → Goes w l f out → g.id ≡ f.id
    → ((k : List Log) → Writer w k f.phase f.sender → Writer w k g.phase g.sender) → Goes w l g out
so_goes w l f g out h same on = record {
  log = h.log;
  more = h.more;
  is = h.is;
  writer = on h.log h.writer;
  carries = subst (λ i. AllByRecursion (Carries i h.log) out) (sym same) h.carries;
}

-- ---- data

numbered_carry : (e : EndState) (l : List Log) (first : ℕ) (ps : List Piece) → AreSlices (went_of l) first ps
    → AllByRecursion (Carries e.id l) (numbered whole e first ps)
numbered_carry e l first [] h = tt
numbered_carry e l first (p ∷ ps) h = ((refl, h.0), numbered_carry e l (first + length (items_of p)) ps h.1)

cut_carry : (e : EndState) (l : List Log) (first : ℕ) (xs : List Item) → IsSlice xs (went_of l) first
    → AllByRecursion (Carries e.id l) (numbered whole e first (pieces [] xs))
cut_carry e l first xs h =
    numbered_carry e l first (pieces [] xs)
    (are_slices (pieces [] xs) (went_of l) first
    (subst (λ ys. IsSlice ys (went_of l) first) (sym (pieces_whole [] xs)) h))

pub sending_goes : (w : List Written) (l : List Log) (e : EndState) → Writes w l e.sender
    → Goes w l (sending whole e).after (sending whole e).sent
sending_goes w l e h = record {
  log = l ++ map Went (going e.sender);
  more = map Went (going e.sender);
  is = refl;
  writer = writer_of w (l ++ map Went (going e.sender)) e.phase (sending whole e).after.sender
      (sending_keeps w l e.sender h);
  carries = cut_carry e (l ++ map Went (going e.sender)) (e.sender.front + length e.sender.unacknowledged)
      (going e.sender) (sent_slice w l e.sender h);
}

pub repeated_carry : (w : List Written) (l : List Log) (e : EndState) → Writes w l e.sender
    → AllByRecursion (Carries e.id l) (repeated whole e)
repeated_carry w l e h = cut_carry e l e.sender.front e.sender.unacknowledged (repeated_slice w l e.sender h)

-- ---- acknowledgements

pub at_most_within : (n : ℕ) (o : Option ℕ) → IfSome (at_most n o) (λ k. k ≤ n)
at_most_within n None = tt
at_most_within n (Some k) = go (nat_le k n) refl
  where
    go : (b : Bool) → nat_le k n ≡ b → IfSome (cond b (Some k) None) (λ k. k ≤ n)
    go true e = leb-true k n e
    go false e = tt

pub acks_within : (s : Sender) (next : ℕ) → IfSome (acks whole s next) (λ k. k ≤ length s.unacknowledged)
acks_within s next = at_most_within (length s.unacknowledged) (whole.ahead s.front next)

pub hearing_goes : (w : List Written) (l : List Log) (e : EndState) (window : ℕ) (acks : Option ℕ)
    → IfSome acks (λ k. k ≤ length e.sender.unacknowledged) → Writes w l e.sender →
    Goes w l (hearing whole e window acks).after (hearing whole e window acks).sent
hearing_goes w l e window None within h = stays w l (record e { ticks = 0 }) [] (writer_of w l e.phase e.sender h) tt
hearing_goes w l e window (Some k) within h =
    sending_goes w l (record e { sender = acknowledged whole k window e.sender; ticks = 0 })
    (acknowledged_keeps w l e.sender k window within h)

-- ---- an end that is closed

pub shuts : (w : List Written) (l : List Log) (p : Phase) (s : Sender) (e : EndState) → Writer w l p s
    → Writer w l (shut whole e).phase (shut whole e).sender
shuts w l p s e h = record { rest = h.rest; starts = h.starts; writes = λ open_. absurd (true≢false open_) }

-- ---- resets

numbers_so_far : (w : List Written) (l : List Log) (s : Sender) → Writes w l s → length (went_of l)
    ≡ s.front + length s.unacknowledged
numbers_so_far w l s h = let a = ap length h.is_numbered in let b = length_both h.gone s.unacknowledged in
    let c = h.at_front in omega (arith, a, b, c)

pub resetting_goes : (w : List Written) (l : List Log) (e : EndState) → Writes w l e.sender
    → Goes (w ++ reset_here ∷ []) l (resetting_now whole e).after (resetting_now whole e).sent
resetting_goes w l e h = record {
  log = l ++ Cut e.sender.waiting ∷ [];
  more = Cut e.sender.waiting ∷ [];
  is = refl;
  writer = writer_of (w ++ reset_here ∷ []) (l ++ Cut e.sender.waiting ∷ []) e.phase
      (resetting_now whole e).after.sender (reset_keeps w l e.sender h);
  carries = (
    (
      refl,
      record {
        before = l;
        dropped = e.sender.waiting;
        after = [];
        stands = refl;
        at = numbers_so_far w l e.sender h;
      },
    ),
    tt,
  );
}

-- a reset that is unanswered is sent again as it was
pub reset_carries : (w : List Written) (l : List Log) (e : EndState) → Writes w l e.sender → e.sender.resetting ≡ true
    → IsCut l (e.sender.front + length e.sender.unacknowledged)
reset_carries w l e h is =
    let c = h.stands is in
    record {
      before = c.before;
      dropped = c.ds;
      after = [];
      stands = c.is_cut;
      at =
          let n = numbers_so_far w l e.sender h in
          let m = ap (λ k. length (went_of k)) c.is_cut in
          let b = ap length (went_both c.before (Cut c.ds ∷ [])) in
          let d = length_both (went_of c.before) [] in
          omega (arith, n, m, b, d);
    }

-- the reset of this end is answered
pub answered : (w : List Written) (l : List Log) (s : Sender) → Writes w l s
    → Writes w l (record s { resetting = false })
answered w l s h = record {
  is_written = h.is_written;
  gone = h.gone;
  is_numbered = h.is_numbered;
  at_front = h.at_front;
  nothing_sent = λ e. absurd (false≢true e);
  stands = λ e. absurd (false≢true e);
}
