-- What is timely in a world is timely in the network of its requesters and responders.
use Rattle.std.proofs.Common.{◌≡◌, ℕ, ◌+◌, Bool, true, false, cond, List, [], ◌∷◌, ◌++◌, Option, Some, None, refl, sym}
use Rattle.std.proofs.Common.{subst}
use Rattle.std.specs.Prelude.{find, ◌==◌, not}
use Rattle.std.specs.List.{AllByRecursion, list_all, list_any}
use Rattle.std.proofs.lemmas.Bool.{or_parts}
use Rattle.at_ddp.specs.declared.address.Address.{Address}
use Rattle.at_atp.specs.Network as network
use Rattle.at_atp.specs.Network.{Drawn, NoneHolds}
use Rattle.at_atp_responder.specs.Records.{Record}
use Rattle.at_node.specs.Numbers.{holds}
use Rattle.at_transaction_socket.specs.TransactionSockets.{asking}
use Rattle.at_node.specs.Nodes.{NodeState}
use Rattle.at_node.specs.declared.numbers.Draw.{Draw}
use Rattle.at_node.specs.declared.numbers.Draw.TheVariants.{Conn, Lookup, Tid}
use Rattle.at_steps.specs.AtpHappenings.{HoldsNo, numbers_drawn}
use Rattle.at_world.specs.Draws.{Draws, last_of, noted, is_no_later}
use Rattle.at_nodes.specs.Nodes.{is_numbered, holds_some}
use Rattle.at_world.proofs.NotedLemmas.{noted_now}
use Rattle.at_world.proofs.NotedLists.{IsListed, all_timely, still_listed}
use Rattle.at_world.proofs.Parts.Atp.Places.{service_of, served_of, records_at}

-- ---- deliveries

-- the world noted each number that was drawn
abbrev pub IsNoted : Draws → ℕ → Drawn → Type 0
IsNoted = IsListed (λ (x : Drawn). x.who) (λ (x : Drawn). x.tid) (λ (x : Drawn). x.event) Tid

-- a number that no later event drew in the world, no later event drew in the network
pub in_time : (last : Draws) (events : ℕ) (who : Address) (tid event : ℕ) (drawn : List Drawn)
    → AllByRecursion (IsNoted last events) drawn → is_no_later (last_of last who.node (Tid tid)) event ≡ true
    → list_all (network.is_no_later who tid event) drawn ≡ true
in_time = all_timely (λ (x : Drawn). x.who) (λ (x : Drawn). x.tid) (λ (x : Drawn). x.event) Tid

-- ---- draws

pub all_noted : (last : Draws) (events k : ℕ) (o : Option Draw) (drawn : List Drawn)
    → AllByRecursion (IsNoted last events) drawn → AllByRecursion (IsNoted (noted last k events o) (events + 1)) drawn
all_noted = still_listed (λ (x : Drawn). x.who) (λ (x : Drawn). x.tid) (λ (x : Drawn). x.event) Tid

-- and so is each number that an event drew now, if it drew one
pub drawn_too : (last : Draws) (events event net k : ℕ) (d : Option Draw) (drawn : List Drawn) → events ≡ event
    → AllByRecursion (IsNoted (noted last k events d) (events + 1)) drawn
    → AllByRecursion (IsNoted (noted last k events d) (events + 1)) (drawn ++ numbers_drawn event (asking net k) d)
drawn_too last events event net k None [] same all = tt
drawn_too last events event net k (Some (Lookup id)) [] same all = tt
drawn_too last events event net k (Some (Conn id)) [] same all = tt
drawn_too last events event net k (Some (Tid tid)) [] same all = (
  subst (λ i. IsNoted (noted last k events (Some (Tid tid))) (events + 1)
      (record { event = i; who = asking net k; tid = tid })) same (noted_now last events k (Tid tid)),
  tt,
)
drawn_too last events event net k d (x ∷ drawn) same all = (all.0, drawn_too last events event net k d drawn same all.1)

-- ---- records that are held

-- no node of the list holds a record, nor does the one that is found
not_held : (k : ℕ) (draw : Draw) (j : ℕ) (n : NodeState) (nodes : List NodeState)
    → list_any (λ x. holds x k draw) nodes ≡ false → find (is_numbered j) nodes ≡ Some n → holds n k draw ≡ false
not_held k draw j n [] h is = absurd (cc)
not_held k draw j n (y ∷ ys) h is =
    let both = or_parts (holds y k draw) (list_any (λ x. holds x k draw) ys) h in
    go (y.seat.number == j) is both.0 (λ g. not_held k draw j n ys both.1 g)
  where
    go : (b : Bool) → cond b (Some y) (find (is_numbered j) ys) ≡ Some n → holds y k draw ≡ false
        → (find (is_numbered j) ys ≡ Some n → holds n k draw ≡ false) → holds n k draw ≡ false
    go true g apart ih = let same : y ≡ n = cc in subst (λ x. holds x k draw ≡ false) same apart
    go false g apart ih = ih g

-- what is promised of a number that a node does not hold
abbrev pub Unheld : Type 0
Unheld = (net k tid : ℕ) (n : NodeState) → holds n k (Tid tid) ≡ false
    → HoldsNo (asking net k) tid n.atp.transactions.service_responder × HoldsNo (asking net k) tid
    n.atp.zones.zone_responder

none_held_by : (unheld : Unheld) (net k tid : ℕ) (o : Option NodeState) (nodes : List NodeState) (j : ℕ)
    → list_any (λ x. holds x k (Tid tid)) nodes ≡ false → find (is_numbered j) nodes ≡ o
    → HoldsNo (asking net k) tid (service_of o) × HoldsNo (asking net k) tid (served_of o)
none_held_by unheld net k tid None nodes j h is = (refl, refl)
none_held_by unheld net k tid (Some n) nodes j h is = unheld net k tid n (not_held k (Tid tid) j n nodes h is)

-- a number that no node holds, no responder holds
pub none_holds : (unheld : Unheld) (net k tid : ℕ) (nodes : List NodeState) (responders : Address → List Record)
    → ((at : Address) → responders at ≡ records_at net nodes at) → holds_some nodes k (Some (Tid tid)) ≡ false
    → NoneHolds responders (asking net k) tid
none_holds unheld net k tid nodes responders same free at =
    let both = none_held_by unheld net k tid (find (is_numbered at.node) nodes) nodes at.node free refl in
    subst (HoldsNo (asking net k) tid) (sym (same at))
    (go (net == at.net) (129 == at.socket) (6 == at.socket) both.0 both.1)
  where
    go : (a b c : Bool) → HoldsNo (asking net k) tid (service_of (find (is_numbered at.node) nodes))
        → HoldsNo (asking net k) tid (served_of (find (is_numbered at.node) nodes)) →
        HoldsNo (asking net k) tid
        (cond a (cond b (service_of (find (is_numbered at.node) nodes))
        (cond c (served_of (find (is_numbered at.node) nodes)) [])) [])
    go true true c x y = x
    go true false true x y = y
    go true false false x y = refl
    go false b c x y = refl
