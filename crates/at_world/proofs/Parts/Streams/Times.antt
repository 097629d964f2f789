-- What is timely in a world is timely in the network of its ends of streams.
use Rattle.std.proofs.Common.{◌≡◌, ℕ, ◌+◌, Bool, true, false, List, [], ◌∷◌, ◌++◌, map, Option, Some, None, refl}
use Rattle.std.proofs.Common.{subst}
use Rattle.std.specs.Prelude.{◌==◌, ◌&&◌, ◌||◌}
use Rattle.std.specs.List.{AllByRecursion, list_all}
use Rattle.std.proofs.lemmas.Bool.{eqb-false}
use Rattle.at_ddp.specs.declared.address.Address.{Address}
use Rattle.at_adsp.specs.Connections.{streams}
use Rattle.at_adsp.specs.Network as network
use Rattle.at_adsp.specs.Network.{Made, Network}
use Rattle.at_node.specs.declared.numbers.Draw.{Draw}
use Rattle.at_node.specs.declared.numbers.Draw.TheVariants.{Conn, Lookup, Tid}
use Rattle.at_steps.specs.StreamHappenings.{Drawn, identifiers, numbers_drawn}
use Rattle.at_stream_socket.specs.Sockets.{streams_at}
use Rattle.at_world.specs.Draws.{Draws, last_of, noted, is_no_later}
use Rattle.at_world.proofs.NotedLemmas.{Noted, noted_now}
use Rattle.at_world.proofs.NotedLists.{IsListed, one_timely, still_listed}

-- the world noted each identifier that was drawn
abbrev pub IsNoted : Draws → ℕ → Drawn → Type 0
IsNoted = IsListed (λ (d : Drawn). d.who) (λ (d : Drawn). d.id) (λ (d : Drawn). d.event) Conn

-- an identifier that no later event drew in the world, no later event drew in the network
all_in_time : (last : Draws) (events : ℕ) (who : Address) (id event : ℕ) (made : List Made)
    → AllByRecursion (IsNoted last events) (identifiers (map (λ (m : Made). m.stream) made))
    → is_no_later (last_of last who.node (Conn id)) event ≡ true → list_all (network.is_no_later event who id) made
    ≡ true
all_in_time last events who id event [] all fresh = refl
all_in_time last events who id event (m ∷ made) all fresh =
    let drawn : Drawn = record { event = m.stream.birth; who = m.stream.owner; id = m.stream.id } in
    let one = one_timely (λ (d : Drawn). d.who) (λ (d : Drawn). d.id) (λ (d : Drawn). d.event) Conn last events who id
    event drawn all.0 fresh in
    λ i. one i && all_in_time last events who id event made all.1 fresh i

-- an identifier that is none, or that no later event drew in the world, is kept in the network
pub kept_in_time : (last : Draws) (events : ℕ) (who : Address) (id event : ℕ) (n : Network)
    → AllByRecursion (IsNoted last events) (identifiers (streams n))
    → (((id ≡ 0) → ⊥) → is_no_later (last_of last who.node (Conn id)) event ≡ true)
    → network.is_kept n.made event who id ≡ true
kept_in_time last events who id event n all fresh = go (id == 0) refl
  where
    go : (b : Bool) → (id == 0) ≡ b → (b || list_all (network.is_no_later event who id) n.made) ≡ true
    go true e = refl
    go false e = all_in_time last events who id event n.made all (fresh (eqb-false id 0 e))

all_noted : (last : Draws) (events k : ℕ) (o : Option Draw) (drawn : List Drawn)
    → AllByRecursion (IsNoted last events) drawn → AllByRecursion (IsNoted (noted last k events o) (events + 1)) drawn
all_noted = still_listed (λ (d : Drawn). d.who) (λ (d : Drawn). d.id) (λ (d : Drawn). d.event) Conn

-- what was drawn up to an event is noted after it
pub all_noted_then : (last : Draws) (events event net k : ℕ) (d : Option Draw) (before : List Drawn) → events ≡ event
    → AllByRecursion (IsNoted last events) before
    → AllByRecursion (IsNoted (noted last k events d) (events + 1)) (numbers_drawn event (streams_at net k) d ++ before)
all_noted_then last events event net k None before same all = all_noted last events k None before all
all_noted_then last events event net k (Some (Tid tid)) before same all =
    all_noted last events k (Some (Tid tid)) before all
all_noted_then last events event net k (Some (Lookup id)) before same all =
    all_noted last events k (Some (Lookup id)) before all
all_noted_then last events event net k (Some (Conn id)) before same all =
    let last' = noted last k events (Some (Conn id)) in (
      subst (λ i. Noted last' (events + 1) k (Conn id) i) same (noted_now last events k (Conn id)),
      all_noted last
          events k (Some (Conn id)) before all,
    )
