-- What is timely in a world is timely in the network of its names and lookups.
use Rattle.std.proofs.Common.{◌≡◌, ℕ, ◌+◌, true, List, Option, Some, None, sym, subst}
use Rattle.std.specs.List.{AllByRecursion, list_all}
use Rattle.at_ddp.specs.declared.address.Address.{Address}
use Rattle.at_nbp.specs.Network as network
use Rattle.at_nbp.specs.Network.{Begun}
use Rattle.at_name_socket.specs.NameSockets.{names_of}
use Rattle.at_node.specs.declared.numbers.Draw.{Draw}
use Rattle.at_node.specs.declared.numbers.Draw.TheVariants.{Conn, Lookup, Tid}
use Rattle.at_steps.specs.NameHappenings.{BeginsBy}
use Rattle.at_world.specs.Draws.{Draws, last_of, noted, is_no_later}
use Rattle.at_world.proofs.NotedLemmas.{Noted, noted_now}
use Rattle.at_world.proofs.NotedLists.{IsListed, all_timely, still_listed}

-- the world noted the identifier of each lookup that began
abbrev pub IsNoted : Draws → ℕ → Begun → Type 0
IsNoted = IsListed (λ (b : Begun). b.who) (λ (b : Begun). b.id) (λ (b : Begun). b.event) Lookup

-- an identifier that no later event drew in the world, no later event drew in the network
pub in_time : (last : Draws) (events : ℕ) (who : Address) (id event : ℕ) (begun : List Begun)
    → AllByRecursion (IsNoted last events) begun → is_no_later (last_of last who.node (Lookup id)) event ≡ true
    → list_all (network.is_no_later who id event) begun ≡ true
in_time = all_timely (λ (b : Begun). b.who) (λ (b : Begun). b.id) (λ (b : Begun). b.event) Lookup

all_noted : (last : Draws) (events k : ℕ) (o : Option Draw) (begun : List Begun)
    → AllByRecursion (IsNoted last events) begun → AllByRecursion (IsNoted (noted last k events o) (events + 1)) begun
all_noted = still_listed (λ (b : Begun). b.who) (λ (b : Begun). b.id) (λ (b : Begun). b.event) Lookup

-- the lookups that began up to an event, which drew this number, are noted after it
pub all_noted_then : (last : Draws) (events event net k : ℕ) (d : Option Draw) (before now : List Begun) → events
    ≡ event → BeginsBy event (names_of net k) d before now → AllByRecursion (IsNoted last events) before →
    AllByRecursion (IsNoted (noted last k events d) (events + 1)) now
all_noted_then last events event net k None before now same is all = subst (AllByRecursion (IsNoted last (events + 1)))
    (sym is) (all_noted last events k None before all)
all_noted_then last events event net k (Some (Tid tid)) before now same is all =
    subst (AllByRecursion (IsNoted (noted last k events (Some (Tid tid))) (events + 1))) (sym is)
    (all_noted last events k (Some (Tid tid)) before all)
all_noted_then last events event net k (Some (Conn id)) before now same is all =
    subst (AllByRecursion (IsNoted (noted last k events (Some (Conn id))) (events + 1))) (sym is)
    (all_noted last events k (Some (Conn id)) before all)
all_noted_then last events event net k (Some (Lookup id)) before now same is all =
    let last' = noted last k events (Some (Lookup id)) in
    subst (AllByRecursion (IsNoted last' (events + 1))) (sym is.1) (
      subst (λ i. Noted last' (events + 1) k (Lookup id) i) same (noted_now last events k (Lookup id)),
      all_noted last
          events k (Some (Lookup id)) before all,
    )
