-- Each event of a world is safe, and a safe play goes on by one event.
use Rattle.std.proofs.Common.{◌≡◌, ℕ, ◌+◌, ◌<◌, ◌≤◌, Bool, true, false, cond, List, [], ◌∷◌, ◌++◌, length, map, take}
use Rattle.std.proofs.Common.{Some, None, Result, Ok, Err, refl, sym, ap, subst, ◌∙◌, append-nil, arith, get_or}
use Rattle.std.specs.Prelude.{IfOk, find, nat_le, nat_lt, ◌||◌}
use Rattle.std.proofs.lemmas.Bool.Decides.{nat_tests}
use Rattle.std.proofs.lemmas.List.{length-append, length-map, take_more}
use Rattle.at_ddp.specs.Outbox.{Posted}
use Rattle.at_ddp.specs.Tables.{replaced}
use Rattle.at_ddp.proofs.CountLemmas.{length_replaced}
use Rattle.at_event.specs.Outcomes.{Comes, IsStep, Outcome, posted}
use Rattle.at_event.specs.declared.Call.{Call}
use Rattle.at_event.specs.declared.Report.{Report}
use Rattle.at_event.specs.declared.Report.TheVariants as report
use Rattle.at_event.specs.declared.Timer.{Timer}
use Rattle.at_event.specs.declared.service.Reply.{Reply}
use Rattle.at_node.specs.Numbers.{drawn_by}
use Rattle.at_node.specs.Hearing.{Hears}
use Rattle.at_node.specs.Limits.{IsWithin}
use Rattle.at_node.specs.Nodes.{NodeState, called, timed}
use Rattle.at_setup.specs.declared.event.Event.{Event}
use Rattle.at_setup.specs.declared.event.Event.TheVariants as event
use Rattle.at_atp_frame.specs.declared.fault.AtpFault.TheVariants.{Full}
use Rattle.at_steps.specs.Safety.{IsTableOf, IsTableOfCall, IsReason, IsSafe as IsSafeOutcome, IsTrueOf}
use Rattle.at_event.specs.declared.Reason.TheVariants.{OfTransactions}
use Rattle.at_steps.specs.Safety.{TransactionTable, number_told}
use Rattle.at_event.specs.declared.Reason.{Reason}
use Rattle.at_world.specs.Draws.{noted}
use Rattle.at_world.specs.Events.{node_of}
use Rattle.at_nodes.specs.Nodes.{AreWithin}
use Rattle.at_world.specs.Safety.{HasNoEffect, IsSafe, KeepsLimits, Safely, Wants}
use Rattle.at_world.specs.Sents.{SentDatagram, stamp}
use Rattle.at_nodes.specs.Taking.{Receives}
use Rattle.at_nodes.specs.Nodes.{is_numbered}
use Rattle.at_world.specs.Worlds.{WorldState, IsPlayable, Plays, PlaysAt, is_over, node_at}
use Rattle.at_world.specs.Worlds.{recorded}
use Rattle.at_setup.specs.declared.refusal.EventFault.{EventFault}
use Rattle.at_world.proofs.Runs.{still_runs}
use Rattle.at_world.proofs.WorldLemmas.{few_datagrams}

-- what the layer below promises of each event of a node
pub record SafetyLaws (A : Type 0) : Type 0 where
  pub call : (n : NodeState) (call : Call A) → IsWithin n → IsSafeOutcome IsTableOfCall n n (called n call)
  pub timer : (n : NodeState) (time : Timer) → IsWithin n → IsSafeOutcome {A = A} IsTableOfCall n n (timed n time)
  pub datagram : (n : NodeState) (said : Reply A) (bytes : List ℕ) (o : Outcome A NodeState) → IsWithin n
      → Hears said n bytes o → IsSafeOutcome (IsTableOf bytes) n n o

-- ---- a node's step

pub record IsSafeHere {A : Type 0} (P : TransactionTable → Type 0) (n : NodeState) (r : Report A) (after : NodeState)
    (out : List Posted) : Type 0 where
  pub memory : r ≡ report.NoMemory → (after ≡ n) × (out ≡ [])
  pub refused : (number : ℕ) → r ≡ report.Refused number → (after ≡ n) × (out ≡ [])
  pub told : (number : ℕ) → number_told r ≡ Some number → IsReason P n number
  pub few : length out ≤ 131070

module _ (A : Type 0) (P : TransactionTable → Type 0) (n : NodeState) (r : Report A) (after : NodeState)
    (out : List Posted) where
  -- an outcome that is safe
  of_outcome : (o : Outcome A NodeState) → IsSafeOutcome P n n o → (r ≡ report.NoMemory → ⊥)
      → (r ≡ o.report) × (after ≡ o.state) × (out ≡ map posted o.out) → IsSafeHere P n r after out
  of_outcome o safe some l = record {
    memory = λ is. absurd (some is);
    refused = λ number is. let it = safe.no_effect number (sym l.0 ∙ is) in (
      l.1 ∙ ap (λ (x : Outcome A NodeState). x.state) it,
      l.2 ∙ ap (λ (x : Outcome A NodeState). map posted x.out) it,
    );
    told = λ number is. safe.reason number (sym (ap number_told l.0) ∙ is);
    few = subst (λ x. length x ≤ 131070) (sym l.2) (omega (arith, safe.few, length-map o.out posted));
  }

nothing : (A : Type 0) (P : TransactionTable → Type 0) (n after : NodeState) (out : List Posted) → after ≡ n → out ≡ []
    → IsSafeHere {A = A} P n report.NoMemory after out
nothing A P n after out same none = record {
  memory = λ is. (same, none);
  refused = λ number is. absurd (cc);
  told = λ number is. absurd (cc);
  few = subst (λ x. length x ≤ 131070) (sym none) (omega arith);
}

-- a step of a call or a timer
of_step : (A : Type 0) (P : TransactionTable → Type 0) (n : NodeState) (o : Outcome A NodeState) (r : Report A)
    (after : NodeState)
    (out : List Posted) → IsSafeOutcome P n n o → IsStep o n [] r after out → IsSafeHere P n r after out
of_step A P n o report.NoMemory after out safe h = nothing A P n after out h.0 h.1
of_step A P n o r after out safe h = of_outcome A P n r after out o safe (λ is. cc) h

-- a step over received bytes
of_coming : (A : Type 0) (P : TransactionTable → Type 0) (n : NodeState) (May : Outcome A NodeState
    → Type 0) (r : Report A)
    (after : NodeState) (out : List Posted) → ((o : Outcome A NodeState) → May o → IsSafeOutcome P n n o)
    → Comes May n [] r after out → IsSafeHere P n r after out
of_coming A P n May report.NoMemory after out safe h = nothing A P n after out h.0 h.1
of_coming A P n May r after out safe h = of_outcome A P n r after out h.0 (safe h.0 h.1) (λ is. cc) h.2

of_receiving : (A : Type 0) → SafetyLaws A → (n : NodeState) (bytes : List ℕ) (r : Report A) (after : NodeState)
    (out : List Posted) → IsWithin n → Receives bytes n [] r after out → IsSafeHere (IsTableOf bytes) n r after out
of_receiving A laws n bytes r after out within h =
    of_coming A (IsTableOf bytes) n (Hears h.0 n bytes) r after out
    (λ o hears. laws.datagram n h.0 bytes o within hears) h.1

-- the places that a step may want are such that the event may want
full_there : (P Q : TransactionTable → Type 0) (n : NodeState) → ((place : TransactionTable) → P place → Q place)
    → (why : Reason)
    → IsTrueOf P n why → IsTrueOf Q n why
full_there P Q n more (OfTransactions Full) h = (h.0, more h.0 h.1, h.2)
full_there P Q n more why h = h

of_event : (A : Type 0) (P Q : TransactionTable → Type 0) (n : NodeState) (r : Report A) (after : NodeState)
    (out : List Posted)
    → ((place : TransactionTable) → P place → Q place) → IsSafeHere P n r after out → IsSafeHere Q n r after out
of_event A P Q n r after out more safe = record {
  memory = safe.memory;
  refused = safe.refused;
  told = λ number is. let it = safe.told number is in record {
    why = it.why;
    numbered = it.numbered;
    is_true = full_there P Q n more it.why it.is_true;
  };
  few = safe.few;
}

-- ---- the node and the world

-- an entry in its own place
replaced_same : (k : ℕ) (n : NodeState) (nodes : List NodeState) → find (is_numbered k) nodes ≡ Some n
    → replaced (is_numbered k) n nodes ≡ nodes
replaced_same k n [] h = absurd (cc)
replaced_same k n (x ∷ xs) h = go (λ g. replaced_same k n xs g) (is_numbered k x) refl h
  where
    go : (find (is_numbered k) xs ≡ Some n → replaced (is_numbered k) n xs ≡ xs) → (b : Bool) → is_numbered k x ≡ b
        → cond b (Some x) (find (is_numbered k) xs) ≡ Some n
        → cond b (n ∷ xs) (x ∷ replaced (is_numbered k) n xs) ≡ x ∷ xs
    go ih true is g = let same : x ≡ n = cc in ap (λ y. y ∷ xs) (sym same)
    go ih false is g = ap (λ l. x ∷ l) (ih g)

-- the node that stands keeps to its limits
one_within : (k : ℕ) (n : NodeState) (nodes : List NodeState) → AreWithin nodes → find (is_numbered k) nodes ≡ Some n
    → IsWithin n
one_within k n [] all h = absurd (cc)
one_within k n (x ∷ xs) all h = go (λ g. one_within k n xs all.1 g) (is_numbered k x) h
  where
    go : (find (is_numbered k) xs ≡ Some n → IsWithin n) → (b : Bool)
        → cond b (Some x) (find (is_numbered k) xs) ≡ Some n → IsWithin n
    go ih true g = let same : x ≡ n = cc in subst IsWithin same all.0
    go ih false g = ih g

no_draw : (A : Type 0) (r r' : Report A) → r ≡ r' → drawn_by r' ≡ None → drawn_by r ≡ None
no_draw A r r' is none = ap drawn_by is ∙ none

-- an event that is not refused comes before the limits
events_left : (w : WorldState) → is_over w ≡ false → w.events + 1 ≤ 200000
events_left w = go w.events (nat_lt 868928 (length w.sent))
  where
    go : (n : ℕ) (b : Bool) → (nat_le 200000 n || b) ≡ false → n + 1 ≤ 200000
    go n b h = grind (arith, nat_tests)

module _ (A : Type 0) (w : WorldState) (e : Event A) (r : Report A) (w' : WorldState) (runs : is_over w ≡ false)
    (all : AreWithin w'.nodes) where
  -- nothing is recorded of a step without an effect
  no_effect : (n after : NodeState) (out : List Posted) → node_at w (node_of e) ≡ Some n → after ≡ n → out ≡ []
      → drawn_by r ≡ None → w' ≡ recorded w (node_of e) r after out → HasNoEffect w w'
  no_effect n after out stands same none draws is = record {
    nodes = ap (λ (v : WorldState). v.nodes) is
        ∙ ap (λ x. replaced (is_numbered (node_of e)) x w.nodes) same ∙ replaced_same (node_of e) n w.nodes stands;
    sent = ap (λ (v : WorldState). v.sent) is ∙ ap (λ l. w.sent ++ map (stamp w.events) l) none ∙ append-nil w.sent;
    last = ap (λ (v : WorldState). v.last) is ∙ ap (noted w.last (node_of e) w.events) draws;
  }

  -- what is recorded of a step keeps to the limits
  still_few : (after : NodeState) (out : List Posted) → length out ≤ 131070
      → w' ≡ recorded w (node_of e) r after out → length w.nodes ≤ 16 → KeepsLimits w'
  still_few after out few is nodes =
      let as_many = length_replaced (is_numbered (node_of e)) after w.nodes in
      let stamped = length-map {B = SentDatagram} out (stamp w.events) in
      let joined = length-append w.sent (map (stamp w.events) out) in
      record {
        few_nodes = subst (λ (v : WorldState). length v.nodes ≤ 16) (sym is) (omega (arith, nodes, as_many));
        within = all;
        few_events = subst (λ (v : WorldState). v.events ≤ 200000) (sym is) (events_left w runs);
        few_sent = subst (λ (v : WorldState). length v.sent ≤ 1000000) (sym is)
            (omega (arith, few, stamped, joined, few_datagrams w runs));
      }

  pub of_playing : (S : NodeState → List Posted → Report A → NodeState → List Posted → Type 0)
      → PlaysAt w (node_of e) S r w'
      → ((n after : NodeState) (out : List Posted) → node_at w (node_of e) ≡ Some n → S n [] r after out
      → IsSafeHere (Wants w e) n r after out) → IsSafe w e r w'
  of_playing S p here =
      let safe = here p.node p.after p.out p.stands p.steps in
      record {
        memory = λ is. let it = safe.memory is in
            no_effect p.node p.after p.out p.stands it.0 it.1 (no_draw A r report.NoMemory is refl) p.booked;
        refused = λ number is. let it = safe.refused number is in
            no_effect p.node p.after p.out p.stands it.0 it.1 (no_draw A r (report.Refused number) is refl) p.booked;
        told = λ number is. record { node = p.node; stands = p.stands; reason = safe.told number is };
        limits = still_few p.after p.out safe.few p.booked;
      }

pub step_safe : (A : Type 0) → SafetyLaws A → (w : WorldState) (e : Event A) (r : Report A) (w' : WorldState)
    → IsPlayable w e → Plays w e r w' → AreWithin w.nodes → AreWithin w'.nodes → IsSafe w e r w'
step_safe A laws w (event.Call k call) r w' playable p before all =
    let e : Event A = event.Call k call in
    of_playing A w e r w' (still_runs {A = A} w e playable.allowed) all _ p.0
    (λ n after out stands steps. of_step A IsTableOfCall n (called n call) r after out
    (laws.call n call (one_within k n w.nodes before stands)) steps)
step_safe A laws w (event.Timer k time) r w' playable p before all =
    let e : Event A = event.Timer k time in
    of_playing A w e r w' (still_runs {A = A} w e playable.allowed) all _ p
    (λ n after out stands steps. of_step A IsTableOfCall n (timed n time) r after out
    (laws.timer n time (one_within k n w.nodes before stands)) steps)
step_safe A laws w (event.Deliver which k) r w' playable d before all =
    let e : Event A = event.Deliver which k in
    let bytes = (d.datagram).bytes in
    of_playing A w e r w' (still_runs {A = A} w e playable.allowed) all _ d.plays
    (λ n after out stands steps. of_event A (IsTableOf bytes) (Wants w e) n r after out
    (λ place at. (d.datagram, d.was_sent, at))
    (of_receiving A laws n bytes r after out (one_within k n w.nodes before stands) steps))
step_safe A laws w (event.Forge k bytes) r w' playable p before all =
    let e : Event A = event.Forge k bytes in
    of_playing A w e r w' (still_runs {A = A} w e playable.allowed) all _ p
    (λ n after out stands steps. of_receiving A laws n bytes r after out (one_within k n w.nodes before stands) steps)

-- whatever the step answers
pub all_safe : (A : Type 0) → SafetyLaws A → (w : WorldState) (e : Event A) (w' : WorldState)
    (answer : Result (Report A) EventFault) → IfOk answer (λ r. IsPlayable w e × Plays w e r w') → AreWithin w.nodes
    → AreWithin w'.nodes → IfOk answer (λ r. IsSafe w e r w')
all_safe A laws w e w' (Err f) p before after = tt
all_safe A laws w e w' (Ok r) p before after = step_safe A laws w e r w' p.0 p.1 before after

-- ---- a play

one_more : (A : Type 0) (w : WorldState) (es : List (Event A)) (rs : List (Report A)) (mid : WorldState) (e : Event A)
    (r : Report A) (w' : WorldState) → Safely w es rs mid → Plays mid e r w' → IsSafe mid e r w' → KeepsLimits w'
    → Safely w (es ++ e ∷ []) (rs ++ r ∷ []) w'
one_more A w [] [] mid e r w' h plays safe keeps =
    (w', subst (λ x. Plays x e r w') h plays, subst (λ x. IsSafe x e r w') h safe, keeps, refl)
one_more A w (a ∷ es) (b ∷ rs) mid e r w' h plays safe keeps =
    (h.0, h.1, h.2, h.3, one_more A h.0 es rs mid e r w' h.4 plays safe keeps)
one_more A w [] (b ∷ rs) mid e r w' h plays safe keeps = absurd h
one_more A w (a ∷ es) [] mid e r w' h plays safe keeps = absurd h

pub safely_more : (A : Type 0) (w : WorldState) (es : List (Event A)) (i : ℕ) (e : Event A) (rs : List (Report A))
    (mid : WorldState) (r : Report A) (w' : WorldState) → i < length es → e ≡ get_or es i e
    → Safely w (take i es) rs mid → Plays mid e r w' → IsSafe mid e r w' → KeepsLimits w'
    → Safely w (take (i + 1) es) (rs ++ r ∷ []) w'
safely_more A w es i e rs mid r w' within is h plays safe keeps =
    subst (λ l. Safely w l (rs ++ r ∷ []) w')
    (sym (take_more es i e within ∙ ap (λ x. take i es ++ x ∷ []) (sym is)))
    (one_more A w (take i es) rs mid e r w' h plays safe keeps)
