-- A world's step: what a node sends is stamped, and the rest stays as it was.
use Rattle.std.proofs.Common.{◌≡◌, ℕ, ◌+◌, Bool, true, false, List, ◌++◌, length, map}
use Rattle.std.proofs.Common.{set, Option, Some, None, sym, ap, subst, ◌∙◌, arith}
use Rattle.std.proofs.lemmas.Bool.{true≢false}
use Rattle.std.proofs.lemmas.Bool.Decides.{nat_tests}
use Rattle.std.specs.Prelude.{◌<◌, ◌≤◌, nat_le, nat_lt, ◌||◌, find, IfSome}
use Rattle.at_ddp.specs.Outbox.{Posted}
use Rattle.at_ddp.specs.Tables.{replaced}
use Rattle.at_ddp.proofs.Alls.{all_replaced}
use Rattle.at_ddp.proofs.TableLemmas.{Found}
use Rattle.at_node.specs.declared.numbers.Draw.{Draw}
use Rattle.at_node.specs.declared.numbers.Input.{Input}
use Rattle.at_event.specs.declared.Report.{Report}
use Rattle.at_node.specs.Numbers.{drawn_by, Draws as DrawsFor}
use Rattle.at_node.specs.Nodes.{NodeState}
use Rattle.at_world.specs.Draws.{noted}
use Rattle.at_world.specs.Sents.{stamp}
use Rattle.at_world.specs.declared.log.Log.{Log}
use Rattle.at_setup.specs.declared.refusal.Refusal.TheVariants.{NotForNode}
use Rattle.at_node.specs.Limits.{IsWithin}
use Rattle.at_nodes.specs.Nodes.{AreWithin, is_numbered, holds_some}
use Rattle.at_world.specs.Worlds.{AreFree, WorldState, is_over, node_at, node_refusal, recorded}

-- ---- refusals

pub node_stands : (w : WorldState) (k : ℕ) (nodes : List NodeState) (i : ℕ) (given : NodeState) → nodes ≡ w.nodes
    → (f : Found (is_numbered k) nodes i) → given ≡ f.entry → node_at w k ≡ Some given
node_stands w k nodes i given same f is = ap (find (is_numbered k)) (sym same) ∙ f.first
    ∙ ap (λ (n : NodeState). Some n) (sym is)

pub none_stands : (w : WorldState) (k : ℕ) (nodes : List NodeState) → nodes ≡ w.nodes → find (is_numbered k) nodes
    ≡ None → node_refusal (node_at w k) ≡ Some NotForNode
none_stands w k nodes same none = ap (λ l. node_refusal (find (is_numbered k) l)) (sym same) ∙ ap node_refusal none

pub one_stands : (w : WorldState) (k : ℕ) (n : NodeState) → node_at w k ≡ Some n → node_refusal (node_at w k) ≡ None
one_stands w k n is = ap node_refusal is

-- whether a record stands under the number that would be drawn, as it was looked up
pub held_at : (A : Type 0) (nodes : List NodeState) (k : ℕ) (i : Input A) (given : NodeState) (draw : Option Draw)
    → find (is_numbered k) nodes ≡ Some given → IfSome draw (DrawsFor given i) → true ≡ holds_some nodes k draw
    → AreFree nodes k (λ n x. DrawsFor n i x) → ⊥
held_at A nodes k i given None stands found held free = absurd (cc)
held_at A nodes k i given (Some draw) stands found held free = true≢false (held ∙ free given stands draw found)

pub free_at : (A : Type 0) (nodes : List NodeState) (k : ℕ) (i : Input A) (given : NodeState) (draw : Option Draw)
    → find (is_numbered k) nodes ≡ Some given → ((x : Draw) → DrawsFor given i x → draw ≡ Some x)
    → false ≡ holds_some nodes k draw → AreFree nodes k (λ n x. DrawsFor n i x)
free_at A nodes k i given draw stands only free n here x draws =
    let both : Some n ≡ Some given = sym here ∙ stands in
    let one : n ≡ given = cc in
    let is = only x (subst (λ y. DrawsFor {A = A} y i x) one draws) in
    (λ j. holds_some nodes k (sym is j)) ∙ sym free

-- the same of the nodes of a world
pub all_free : (A : Type 0) (w : WorldState) (k : ℕ) (i : Input A) (nodes : List NodeState) → nodes ≡ w.nodes
    → AreFree nodes k (λ n x. DrawsFor n i x) → AreFree w.nodes k (λ n x. DrawsFor n i x)
all_free A w k i nodes same free = subst (λ l. AreFree l k (λ n x. DrawsFor n i x)) same free

pub some_held : (A : Type 0) (w : WorldState) (k : ℕ) (i : Input A) (nodes : List NodeState) → nodes ≡ w.nodes
    → ¬ AreFree nodes k (λ n x. DrawsFor n i x) → ¬ AreFree w.nodes k (λ n x. DrawsFor n i x)
some_held A w k i nodes same held = subst (λ l. ¬ AreFree l k (λ n x. DrawsFor n i x)) same held

-- ---- what an answered step is

-- the world in which a node has taken an input, and this is recorded
pub recorded_by : (A B : Type 0) (w : WorldState) (k i : ℕ) (r : Report A) (drawn : Option Draw)
    (nodes : List NodeState) (after : NodeState) (log log' : Log B) (out : List Posted) → drawn ≡ drawn_by r
    → record {
      nodes = nodes;
      sent = log.sent;
      last = log.last;
      events = log.events;
      failed = log.failed;
    } ≡ w → Found (is_numbered k) nodes i
    → log' ≡ record {
      sent = log.sent ++ map (stamp log.events) out;
      last = noted log.last k log.events drawn;
      events = log.events + 1;
      failed = false;
    }
    → record {
      nodes = set nodes i after;
      sent = log'.sent;
      last = log'.last;
      events = log'.events;
      failed = log'.failed;
    } ≡ recorded w k r after out
recorded_by A B w k i r drawn nodes after log log' out so view f is =
    (λ j. record {
      nodes = sym (f.set_is after) j;
      sent = (is j).sent;
      last = (is j).last;
      events = (is j).events;
      failed = (is j).failed;
    })
    ∙ (λ j. record {
      nodes = replaced (is_numbered k) after nodes;
      sent = log.sent ++ map (stamp log.events) out;
      last = noted log.last k log.events (so j);
      events = log.events + 1;
      failed = false;
    })
    ∙ ap (λ (v : WorldState). recorded v k r after out) view

-- the nodes keep to their limits, if the one that took the input does
pub stays_within : (nodes : List NodeState) (k i : ℕ) (after : NodeState) → AreWithin nodes
    → Found (is_numbered k) nodes i → IsWithin after → AreWithin (set nodes i after)
stays_within nodes k i after all f one =
    subst AreWithin (f.set_is after) (all_replaced IsWithin (is_numbered k) after nodes all one)

-- ---- what is known of a world that runs

pub few_events : (w : WorldState) (events : ℕ) → events ≡ w.events → is_over w ≡ false → events < 200000
few_events w events is runs =
    fits events (nat_lt 868928 (length w.sent)) (ap (λ n. nat_le 200000 n || nat_lt 868928 (length w.sent)) is ∙ runs)
  where
    fits : (n : ℕ) (b : Bool) → (nat_le 200000 n || b) ≡ false → n < 200000
    fits n b e = grind (arith, nat_tests)

-- fewer datagrams were sent than would end the play
pub few_datagrams : (w : WorldState) → is_over w ≡ false → length w.sent ≤ 868928
few_datagrams w = go (nat_le 200000 w.events) (length w.sent)
  where
    go : (b : Bool) (n : ℕ) → (b || nat_lt 868928 n) ≡ false → n ≤ 868928
    go true n h = absurd (cc)
    go false n h = grind (arith, nat_tests)
