-- A delivery: which datagram comes, why it is refused, and what it does.
use Rattle.std.proofs.Common.{◌≡◌, ℕ, ◌≤◌, true, false, List, [], length, Option, Some, None, sym}
use Rattle.std.proofs.Common.{ap, subst, ◌∙◌}
use Rattle.std.proofs.lemmas.Option.{slice_get_past}
use Rattle.std.specs.Prelude.{slice_get, ◌==◌, ◌||◌, if◌then◌else◌}
use Rattle.at_node.specs.Numbers.{Carries, DrawsHearing}
use Rattle.at_node.specs.declared.numbers.Draw.{Draw}
use Rattle.at_event.specs.declared.Report.{Report}
use Rattle.at_world.specs.Draws.{Draws, last_of, is_no_later}
use Rattle.at_world.specs.Sents.{SentDatagram}
use Rattle.at_setup.specs.declared.event.Event.{Event}
use Rattle.at_setup.specs.declared.event.Event.TheVariants as event
use Rattle.at_setup.specs.declared.refusal.Refusal.{Refusal}
use Rattle.at_setup.specs.declared.refusal.Refusal.TheVariants.{NoDatagram, NotForNode}
use Rattle.at_world.specs.Worlds.{WorldState, is_over, node_at, node_refusal, refusal, refusal_at, delivery_refusal}
use Rattle.at_world.specs.Worlds.{is_for, AreFree, IsTimely, IsPlayable, PlaysAt}
use Rattle.at_nodes.specs.Taking.{Receives}
use Rattle.at_world.specs.Worlds.{PlaysDelivery}
use Rattle.at_world.proofs.FreshLemmas.{IsFresh, drawn_before, fresh_of}

pub refused_at : (A : Type 0) (w : WorldState) (e : Event A) (r : Option Refusal) → is_over w ≡ false → refusal_at w e
    ≡ r → refusal w e ≡ r
refused_at A w e r runs is = rw runs is

refused_delivery : (A : Type 0) (w : WorldState) (which k : ℕ) (s : SentDatagram) (r : Option Refusal) → is_over w
    ≡ false → slice_get w.sent which ≡ Some s →
    (if is_for s k then node_refusal (node_at w k) else Some NotForNode) ≡ r
    → refusal {A = A} w (event.Deliver which k) ≡ r
refused_delivery A w which k s r runs is so =
    refused_at A w (event.Deliver which k) r runs (ap (delivery_refusal w k) is ∙ so)

pub for_it : (A : Type 0) (w : WorldState) (which k : ℕ) (s : SentDatagram) (r : Option Refusal) → is_over w ≡ false
    → slice_get w.sent which ≡ Some s → is_for s k ≡ true → node_refusal (node_at w k) ≡ r →
    refusal {A = A} w (event.Deliver which k) ≡ r
for_it A w which k s r runs is for so = refused_delivery A w which k s r runs is (rw for so)

pub not_sent : (A : Type 0) (w : WorldState) (which k : ℕ) → is_over w ≡ false → length w.sent ≤ which
    → refusal {A = A} w (event.Deliver which k) ≡ Some NoDatagram
not_sent A w which k runs past = refused_at A w (event.Deliver which k) (Some NoDatagram) runs
    (ap (delivery_refusal w k) (slice_get_past w.sent which past))

pub for_same : (s : SentDatagram) (to k : ℕ) → to ≡ s.to → ((to == k) || (to == 255)) ≡ is_for s k
for_same s to k same = ap (λ n. (n == k) || (n == 255)) same

-- what was found of the datagram's bytes, and of the event that sent it
pub fresh_there : (w : WorldState) (s : SentDatagram) (ds : Draws) (bytes : List ℕ) (e : ℕ) → ds ≡ w.last → bytes
    ≡ s.bytes → e ≡ s.event →
    ((node : ℕ) (draw : Draw) → Carries bytes node draw → is_no_later (last_of ds node draw) e ≡ true) → IsFresh w s
fresh_there w s ds bytes e known same when fine = λ node draw carries.
    (λ j. is_no_later (last_of (sym known j) node draw) (sym when j))
    ∙ (fine node draw (subst (λ l. Carries l node draw) (sym same) carries))

pub one : (w : WorldState) (which : ℕ) (s t : SentDatagram) → slice_get w.sent which ≡ Some s → slice_get w.sent which
    ≡ Some t → s ≡ t
one w which s t here there = let both : Some s ≡ Some t = sym here ∙ there in cc

-- what the bytes that were sent would make the node draw
abbrev pub HeardFree : WorldState → ℕ → List ℕ → Type 0
HeardFree w k bytes = AreFree w.nodes k (λ n draw. DrawsHearing n bytes draw)

pub timely_at : (A : Type 0) (w : WorldState) (which k : ℕ) (s : SentDatagram) → slice_get w.sent which ≡ Some s
    → IsFresh w s → HeardFree w k s.bytes → IsTimely {A = A} w (event.Deliver which k)
timely_at A w which k s is fresh free = record {
  fresh = λ t there node draw drawn carries last. drawn_before (last_of w.last node draw) t.event drawn
      (subst (IsFresh w) (one w which s t is there) fresh node draw carries) last;
  free = λ n here draw came. free n here draw
      (subst (λ (t : SentDatagram). DrawsHearing n t.bytes draw) (sym (one w which s came.0 is came.1)) came.2);
}

-- the node would draw a number that is held
pub held_there : (A : Type 0) (w : WorldState) (which k : ℕ) (s : SentDatagram) (bytes : List ℕ)
    → slice_get w.sent which ≡ Some s → bytes ≡ s.bytes → ¬ HeardFree w k bytes
    → IsTimely {A = A} w (event.Deliver which k) → ⊥
held_there A w which k s bytes is same held timely =
    let free : HeardFree w k s.bytes = λ n here draw draws. timely.free n here draw (s, is, draws) in
    held (subst (HeardFree w k) (sym same) free)

pub stale_there : (A : Type 0) (w : WorldState) (which k : ℕ) (s : SentDatagram) (ds : Draws) (bytes : List ℕ) (e : ℕ)
    → slice_get w.sent which ≡ Some s → ds ≡ w.last → bytes ≡ s.bytes → e ≡ s.event →
    (node : ℕ) × (draw : Draw) × Carries bytes node draw × (is_no_later (last_of ds node draw) e ≡ false)
    → IsTimely {A = A} w (event.Deliver which k) → ⊥
stale_there A w which k s ds bytes e is known same when (node, draw, carries, late) timely =
    let fine : is_no_later (last_of w.last node draw) s.event
    ≡ true = fresh_of A w which k s is timely node draw (subst (λ l. Carries l node draw) same carries) in
    let not : is_no_later (last_of w.last node draw) s.event
    ≡ false = (λ j. is_no_later (last_of (sym known j) node draw) (sym when j)) ∙ late in
    absurd (cc)

-- ---- what is answered

-- nothing refuses the delivery
pub deliverable : (A : Type 0) (w : WorldState) (which k : ℕ) (s : SentDatagram) → is_over w ≡ false
    → slice_get w.sent which ≡ Some s → is_for s k ≡ true → node_refusal (node_at w k) ≡ None → IsFresh w s
    → HeardFree w k s.bytes → IsPlayable {A = A} w (event.Deliver which k)
deliverable A w which k s runs is for there fresh free = record {
  allowed = for_it A w which k s None runs is for there;
  timely = timely_at A w which k s is fresh free;
}

pub delivered : (A : Type 0) (w : WorldState) (which k : ℕ) (s : SentDatagram) (bytes : List ℕ) (w' : WorldState)
    (r : Report A) → slice_get w.sent which ≡ Some s → is_for s k ≡ true → bytes ≡ s.bytes
    → PlaysAt w k (Receives {A = A} bytes) r w' → PlaysDelivery w which k r w'
delivered A w which k s bytes w' r is for same played = record {
  datagram = s;
  was_sent = is;
  is_for_it = for;
  plays = record {
    node = played.node;
    stands = played.stands;
    after = played.after;
    out = played.out;
    steps = subst (λ l. Receives {A = A} l played.node [] r played.after played.out) same played.steps;
    booked = played.booked;
  };
}
