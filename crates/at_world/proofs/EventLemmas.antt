-- Events of each kind: why they are refused, and what they do.
use Rattle.std.proofs.Common.{Bor, ◌≡◌, ◌∙◌, ℕ, false, List, Option, None, Some, ap, sym, subst}
use Rattle.std.specs.Prelude.{Result, Ok, Err, IfOk, IfErr}
use Rattle.at_event.specs.Kinds.{IsCall}
use Rattle.at_node.specs.Numbers.{Draws as DrawsFor}
use Rattle.at_node.specs.declared.numbers.Input.{Input}
use Rattle.at_node.specs.declared.numbers.Input.TheVariants as input
use Rattle.at_event.specs.declared.Call.{Call}
use Rattle.at_event.specs.declared.Report.{Report}
use Rattle.at_event.specs.declared.Timer.{Timer}
use Rattle.at_setup.specs.declared.event.Event.{Event}
use Rattle.at_setup.specs.declared.event.Event.TheVariants as event
use Rattle.at_setup.specs.declared.refusal.Refusal.{Refusal}
use Rattle.at_setup.specs.declared.refusal.Refusal.TheVariants.{Limit, NoDatagram, NotForNode, Untimely}
use Rattle.at_setup.specs.declared.refusal.EventFault.{EventFault}
use Rattle.at_setup.specs.declared.refusal.EventFault.TheVariants as fault
use Rattle.at_world.specs.Worlds.{WorldState, is_over, AreFree, IsPlayable, IsNotTaken, IsFault, IsTimely, Plays}
use Rattle.at_nodes.specs.Taking.{Takes}
use Rattle.at_world.specs.Worlds.{PlaysAt, PlaysDelivery, node_at, node_refusal, refusal}
use Rattle.at_world.proofs.DeliveryLemmas.{refused_at}
use Rattle.at_world.proofs.WorldLemmas.{one_stands}

-- why a node did not take what an event brings it is why the event was not played
not_taken : (A : Type 0) (w w' : WorldState) (e : Event A) (k : ℕ) (i : Input A) (answer : Result (Report A) EventFault)
    → ((r : Option Refusal) → node_refusal (node_at w k) ≡ r → refusal w e ≡ r)
    → (AreFree w.nodes k (λ n x. DrawsFor n i x) → IsTimely w e)
    → (IsTimely w e → AreFree w.nodes k (λ n x. DrawsFor n i x))
    → IfErr answer (λ f. IsNotTaken w k i f w') → IfErr answer (λ f. IsFault w e f w')
not_taken A w w' e k i (Ok r) refused timely free p = tt
not_taken A w w' e k i (Err fault.NoMemory) refused timely free p =
    (p.0, p.1, λ whole. record { allowed = refused None p.2; timely = timely p.3 })
not_taken A w w' e k i (Err (fault.Refused Limit)) refused timely free p = (refused (Some Limit) p.0, p.1)
not_taken A w w' e k i (Err (fault.Refused NoDatagram)) refused timely free p = (refused (Some NoDatagram) p.0, p.1)
not_taken A w w' e k i (Err (fault.Refused NotForNode)) refused timely free p = (refused (Some NotForNode) p.0, p.1)
not_taken A w w' e k i (Err (fault.Refused Untimely)) refused timely free p =
    ((refused None p.0, λ t. p.1 (free t)), p.2)

-- a timer draws no number, and brings no datagram
idle_timely : (A : Type 0) (w : WorldState) (k : ℕ) (time : Timer) → IsTimely {A = A} w (event.Timer k time)
idle_timely A w k time = record { fresh = λ s there. absurd there; free = λ n here draw came. absurd came.1 }

module _ (A : Type 0) (w w' : WorldState) (e : Event A) (k : ℕ) (time : Timer) (answer : Result (Report A) EventFault)
    (is : e ≡ event.Timer k time) (runs : is_over w ≡ false) where
  pub fired : IfOk answer (λ r. PlaysAt w k (Takes {A = A} (input.Timer time)) r w')
      → IfOk answer (λ r. IsPlayable w e × Plays w e r w')
  fired h = subst (λ x. IfOk answer (λ r. IsPlayable w x × Plays w x r w')) (sym is) (go answer h)
    where
      go : (a : Result (Report A) EventFault) → IfOk a (λ r. PlaysAt w k (Takes {A = A} (input.Timer time)) r w')
          → IfOk a (λ r. IsPlayable {A = A} w (event.Timer k time) × Plays w (event.Timer k time) r w')
      go (Err f) p = tt
      go (Ok r) p = (
        record {
          allowed = refused_at A w (event.Timer k time) None runs
              (one_stands w k p.node p.stands);
          timely = idle_timely A w k time;
        },
        p,
      )

  pub not_fired : IfErr answer (λ f. IsNotTaken {A = A} w k (input.Timer time) f w')
      → IfErr answer (λ f. IsFault w e f w')
  not_fired h = subst (λ x. IfErr answer (λ f. IsFault w x f w')) (sym is)
      (not_taken A w w' (event.Timer k time) k (input.Timer time) answer
      (λ r. refused_at A w (event.Timer k time) r runs) (λ free. idle_timely A w k time)
      (λ timely n here draw draws. absurd draws) h)

-- a call draws a number only if it is free
module _ (A : Type 0) (w w' : WorldState) (e : Event A) (k : ℕ) (call : Call A) (lent : Bor (Call A))
    (answer : Result (Report A) EventFault) (is : e ≡ event.Call k call) (same : lent.now ≡ call)
    (runs : is_over w ≡ false) where
  pub called_by : IfOk answer (λ r. PlaysAt w k (Takes {A = A} (input.Call lent)) r w')
      → IfOk answer (λ r. AreFree w.nodes k (λ n x. DrawsFor n (input.Call lent) x)) → IsCall call
      → IfOk answer (λ r. IsPlayable w e × Plays w e r w')
  called_by h free range = subst (λ x. IfOk answer (λ r. IsPlayable w x × Plays w x r w')) (sym is)
      (subst (λ (x : Call A). IfOk answer (λ r. IsPlayable w (event.Call k x) × Plays w (event.Call k x) r w')) same
      (go answer h free (subst (λ (x : Call A). IsCall x) (sym same) range)))
    where
      go : (a : Result (Report A) EventFault) → IfOk a (λ r. PlaysAt w k (Takes {A = A} (input.Call lent)) r w')
          → IfOk a (λ r. AreFree w.nodes k (λ n x. DrawsFor n (input.Call lent) x)) → IsCall lent.now
          → IfOk a (λ r. IsPlayable {A = A} w (event.Call k lent.now) × Plays w (event.Call k lent.now) r w')
      go (Err f) p q range' = tt
      go (Ok r) p q range' = (
        record {
          allowed = refused_at A w (event.Call k lent.now) None runs
              (one_stands w k p.node p.stands);
          timely = record { fresh = λ s there. absurd there; free = q };
        },
        (p, range'),
      )

  pub not_called : IfErr answer (λ f. IsNotTaken {A = A} w k (input.Call lent) f w')
      → IfErr answer (λ f. IsFault w e f w')
  not_called h = subst (λ x. IfErr answer (λ f. IsFault w x f w')) (sym is)
      (subst (λ (x : Call A). IfErr answer (λ f. IsFault w (event.Call k x) f w')) same
      (not_taken A w w' (event.Call k lent.now) k (input.Call lent) answer
      (λ r. refused_at A w (event.Call k lent.now) r runs)
      (λ free. record { fresh = λ s there. absurd there; free = free }) (λ timely. timely.free) h))

-- bytes that no node sent draw a number only if it is free
module _ (A : Type 0) (w w' : WorldState) (k : ℕ) (bytes : List ℕ) (lent : Bor (List ℕ))
    (answer : Result (Report A) EventFault) (same : lent.now ≡ bytes) (runs : is_over w ≡ false) where
  pub forged : IfOk answer (λ r. PlaysAt w k (Takes {A = A} (input.Received lent)) r w')
      → IfOk answer (λ r. AreFree w.nodes k (λ n x. DrawsFor {A = A} n (input.Received lent) x))
      → IfOk answer (λ r. IsPlayable {A = A} w (event.Forge k bytes) × Plays {A = A} w (event.Forge k bytes) r w')
  forged h free =
      subst (λ x. IfOk answer (λ r. IsPlayable {A = A} w (event.Forge k x) × Plays w (event.Forge k x) r w')) same
      (go answer h free)
    where
      go : (a : Result (Report A) EventFault) → IfOk a (λ r. PlaysAt w k (Takes {A = A} (input.Received lent)) r w')
          → IfOk a (λ r. AreFree w.nodes k (λ n x. DrawsFor {A = A} n (input.Received lent) x))
          → IfOk a (λ r. IsPlayable {A = A} w (event.Forge k lent.now) × Plays w (event.Forge k lent.now) r w')
      go (Err f) p q = tt
      go (Ok r) p q = (
        record {
          allowed = refused_at A w (event.Forge k lent.now) None runs
              (one_stands w k p.node p.stands);
          timely = record { fresh = λ s there. absurd there; free = q };
        },
        p,
      )

  pub not_forged : IfErr answer (λ f. IsNotTaken {A = A} w k (input.Received lent) f w')
      → IfErr answer (λ f. IsFault {A = A} w (event.Forge k bytes) f w')
  not_forged h = subst (λ x. IfErr answer (λ f. IsFault {A = A} w (event.Forge k x) f w')) same
      (not_taken A w w' (event.Forge k lent.now) k (input.Received lent) answer
      (λ r. refused_at A w (event.Forge k lent.now) r runs)
      (λ free. record { fresh = λ s there. absurd there; free = free }) (λ timely. timely.free) h)

-- the same of bytes that an event holds
module _ (A : Type 0) (w w' : WorldState) (e : Event A) (k : ℕ) (bytes given : List ℕ)
    (answer : Result (Report A) EventFault) (is : e ≡ event.Forge k bytes) (same : given ≡ bytes) where
  pub brought : IfOk answer (λ r. IsPlayable {A = A} w (event.Forge k given)
      × Plays {A = A} w (event.Forge k given) r w') → IfOk answer (λ r. IsPlayable w e × Plays w e r w')
  brought h = subst (λ x. IfOk answer (λ r. IsPlayable w x × Plays w x r w'))
      (ap (λ x. event.Forge k x) same ∙ sym is) h

  pub not_brought : IfErr answer (λ f. IsFault {A = A} w (event.Forge k given) f w')
      → IfErr answer (λ f. IsFault w e f w')
  not_brought h = subst (λ x. IfErr answer (λ f. IsFault w x f w')) (ap (λ x. event.Forge k x) same ∙ sym is) h

module _ (A : Type 0) (w w' : WorldState) (e : Event A) (which k : ℕ) (answer : Result (Report A) EventFault)
    (is : e ≡ event.Deliver which k) where
  pub came : IfOk answer (λ r. IsPlayable {A = A} w (event.Deliver which k) × PlaysDelivery w which k r w')
      → IfOk answer (λ r. IsPlayable w e × Plays w e r w')
  came h = subst (λ x. IfOk answer (λ r. IsPlayable w x × Plays w x r w')) (sym is) h

  pub not_came : IfErr answer (λ f. IsFault {A = A} w (event.Deliver which k) f w')
      → IfErr answer (λ f. IsFault w e f w')
  not_came h = subst (λ x. IfErr answer (λ f. IsFault w x f w')) (sym is) h
