-- What a world is, which events it refuses, and what each event does to it.
use Rattle.std.specs.Prelude.{◌≡◌, ℕ, ◌+◌, ◌≤◌, ◌==◌, ◌||◌, nat_le, nat_lt, if◌then◌else◌, Bool, true, false, List, []}
use Rattle.std.specs.Prelude.{◌++◌, length, map, find, slice_get, Option, Some, None}
use Rattle.std.specs.List.{list_any}
use Rattle.at_ddp.specs.Outbox.{Posted}
use Rattle.at_ddp.specs.Tables.{replaced}
use Rattle.at_node.specs.declared.numbers.Draw.{Draw}
use Rattle.at_node.specs.declared.numbers.Input.{Input}
use Rattle.at_event.specs.declared.Report.{Report}
use Rattle.at_event.specs.Kinds.{IsCall}
use Rattle.at_node.specs.Numbers.{Carries, DrawsHearing, drawn_by, draw_of, holds}
use Rattle.at_node.specs.Numbers.{Draws as DrawsFor}
use Rattle.at_node.specs.Nodes.{NodeState, called, timed}
use Rattle.at_event.specs.Outcomes.{IsStep}
use Rattle.at_nodes.specs.Nodes.{is_numbered}
use Rattle.at_nodes.specs.Taking.{Receives}
use Rattle.at_world.specs.Draws.{Draws, last_of, noted, is_no_later}
use Rattle.at_world.specs.Events.{node_of}
use Rattle.at_world.specs.Sents.{SentDatagram, stamp}
use Rattle.at_setup.specs.declared.event.Event.{Event}
use Rattle.at_setup.specs.declared.event.Event.TheVariants as event
use Rattle.at_setup.specs.declared.refusal.Refusal.{Refusal}
use Rattle.at_setup.specs.declared.refusal.Refusal.TheVariants as refusals
use Rattle.at_setup.specs.declared.refusal.EventFault.{EventFault}
use Rattle.at_setup.specs.declared.refusal.EventFault.TheVariants as fault

pub record WorldState : Type 0 where
  pub nodes : List NodeState
  pub sent : List SentDatagram  -- all that was ever sent, by number
  pub last : Draws  -- the event of the last draw of each number of each node
  pub events : ℕ  -- how many were played
  pub failed : Bool  -- the world found no memory of its own

abbrev pub node_at : WorldState → ℕ → Option NodeState
node_at w k = find (is_numbered k) w.nodes

-- ---- refusals

-- no more events are played
abbrev pub is_over : WorldState → Bool
is_over w = nat_le 200000 w.events || nat_lt 868928 (length w.sent)

abbrev pub node_refusal : Option NodeState → Option Refusal
node_refusal None = Some refusals.NotForNode
node_refusal (Some n) = None

-- a datagram is for the node that it was sent to, and for every node if it was sent to 255
abbrev pub is_for : SentDatagram → ℕ → Bool
is_for s k = (s.to == k) || (s.to == 255)

abbrev pub delivery_refusal : WorldState → ℕ → Option SentDatagram → Option Refusal
delivery_refusal w k None = Some refusals.NoDatagram
delivery_refusal w k (Some s) = if is_for s k then node_refusal (node_at w k) else Some refusals.NotForNode

abbrev pub refusal_at : {A : Type 0} → WorldState → Event A → Option Refusal
refusal_at w (event.Deliver which k) = delivery_refusal w k (slice_get w.sent which)
refusal_at w e = node_refusal (node_at w (node_of e))

-- why an event is refused whatever its numbers: the first reason
abbrev pub refusal : {A : Type 0} → WorldState → Event A → Option Refusal
refusal w e = if is_over w then Some refusals.Limit else refusal_at w e

-- ---- numbers that are used again

-- an event delivers this datagram
abbrev pub Delivers : {A : Type 0} → WorldState → Event A → SentDatagram → Type 0
Delivers w (event.Deliver which k) s = slice_get w.sent which ≡ Some s
Delivers w e s = ⊥

-- an event makes its node draw this number; a timer draws none
abbrev pub DrawsNumber : {A : Type 0} → WorldState → Event A → NodeState → Draw → Type 0
DrawsNumber w (event.Call k call) n draw = draw_of n call ≡ Some draw
DrawsNumber w (event.Forge k bytes) n draw = DrawsHearing n bytes draw
DrawsNumber w e n draw = (s : SentDatagram) × Delivers w e s × DrawsHearing n s.bytes draw

-- under the numbers that a node of these draws so none of them holds a record or an end
abbrev pub AreFree : List NodeState → ℕ → (NodeState → Draw → Type 0) → Type 0
AreFree nodes k D = (n : NodeState) → find (is_numbered k) nodes ≡ Some n → (draw : Draw) → D n draw
    → list_any (λ x. holds x k draw) nodes ≡ false

-- No packet outlives the number that it carries. No event after the one that sent a datagram drew a number that this
-- carries, and no number is drawn while a record is held under it. Bytes that no node sent were sent at no time, so of
-- these only what they draw is looked at.
pub record IsTimely {A : Type 0} (w : WorldState) (e : Event A) : Type 0 where
  pub fresh : (s : SentDatagram) → Delivers w e s → (node : ℕ) (draw : Draw) (drawn : ℕ) → Carries s.bytes node draw
      → last_of w.last node draw ≡ Some drawn → drawn ≤ s.event
  pub free : AreFree w.nodes (node_of e) (DrawsNumber w e)

-- an event that nothing refuses
pub record IsPlayable {A : Type 0} (w : WorldState) (e : Event A) : Type 0 where
  pub allowed : refusal w e ≡ None
  pub timely : IsTimely w e

-- why an event is refused: the first reason in the order of limit, datagram, node, time
abbrev pub Refuses : {A : Type 0} → WorldState → Event A → Refusal → Type 0
Refuses w e refusals.Untimely = (refusal w e ≡ None) × ¬ IsTimely w e
Refuses w e r = refusal w e ≡ Some r

-- no event after this one drew the number, if there is one
abbrev pub is_in_time : Draws → Option (ℕ × Draw) → ℕ → Bool
is_in_time last None event = true
is_in_time last (Some number) event = is_no_later (last_of last number.0 number.1) event

-- ---- steps

-- the world after a node's step: what the node drew and sent is recorded
abbrev pub recorded : {A : Type 0} → WorldState → ℕ → Report A → NodeState → List Posted → WorldState
recorded w k r after out = record {
  nodes = replaced (is_numbered k) after w.nodes;
  sent = w.sent ++ map (stamp w.events) out;
  last = noted w.last k w.events (drawn_by r);
  events = w.events + 1;
  failed = false;
}

-- what some node drew and sent is recorded as that of the next event
abbrev pub with_event : WorldState → ℕ → Option Draw → List Posted → WorldState
with_event w k drawn out = record w {
  sent = w.sent ++ map (stamp w.events) out;
  last = noted w.last k w.events drawn;
  events = w.events + 1;
  failed = false;
}

-- a node's step is one of these, and nothing else happens
pub record PlaysAt {A : Type 0} (w : WorldState) (k : ℕ)
    (S : NodeState → List Posted → Report A → NodeState → List Posted → Type 0) (r : Report A) (w' : WorldState)
    : Type 0 where
  pub node : NodeState
  pub stands : node_at w k ≡ Some node
  pub after : NodeState
  pub out : List Posted
  pub steps : S node [] r after out
  pub booked : w' ≡ recorded w k r after out

pub record PlaysDelivery {A : Type 0} (w : WorldState) (which k : ℕ) (r : Report A) (w' : WorldState) : Type 0 where
  pub datagram : SentDatagram
  pub was_sent : slice_get w.sent which ≡ Some datagram
  pub is_for_it : is_for datagram k ≡ true
  pub plays : PlaysAt w k (Receives datagram.bytes) r w'

-- The world after an event that gives a report: the node's own step, over the bytes that were sent. The parts of a call
-- are in the ranges of their types.
abbrev pub Plays : {A : Type 0} → WorldState → Event A → Report A → WorldState → Type 0
Plays w (event.Call k call) r w' = PlaysAt w k (λ n. IsStep (called n call) n) r w' × IsCall call
Plays w (event.Deliver which k) r w' = PlaysDelivery w which k r w'
Plays w (event.Timer k timer) r w' = PlaysAt w k (λ n. IsStep (timed n timer) n) r w'
Plays w (event.Forge k bytes) r w' = PlaysAt w k (Receives bytes) r w'

-- Why an event was not played. A world that had not failed is out of memory only if nothing else refuses the event.
abbrev pub IsFault : {A : Type 0} → WorldState → Event A → EventFault → WorldState → Type 0
IsFault w e (fault.Refused r) w' = Refuses w e r × (w' ≡ w)
IsFault w e fault.NoMemory w' = (w'.failed ≡ true) × (w'.sent ≡ w.sent) × (w.failed ≡ false → IsPlayable w e)

-- why a node did not take an input
abbrev pub IsNotTaken : {A : Type 0} → WorldState → ℕ → Input A → EventFault → WorldState → Type 0
IsNotTaken w k i (fault.Refused refusals.Untimely) w' =
    (node_refusal (node_at w k) ≡ None) × (¬ AreFree w.nodes k (λ n draw. DrawsFor n i draw)) × (w' ≡ w)
IsNotTaken w k i (fault.Refused r) w' = (node_refusal (node_at w k) ≡ Some r) × (w' ≡ w)
IsNotTaken w k i fault.NoMemory w' =
    (w'.failed ≡ true) × (w'.sent ≡ w.sent) × (node_refusal (node_at w k) ≡ None)
    × AreFree w.nodes k (λ n draw. DrawsFor n i draw)
