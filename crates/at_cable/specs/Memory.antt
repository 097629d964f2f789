-- A cable in memory: what was sent waits for each node in turn, and one call may be made to fail.
use Rattle.std.specs.Prelude.{◌≡◌, ℕ, ◌+◌, ◌-◌, ◌==◌, ◌||◌, nat_le, min, if◌then◌else◌, Bool, true, false, List, ◌++◌}
use Rattle.std.specs.Prelude.{map, filter, find, take, Option, Some, None, Result, Ok, Err}
use Rattle.at_ddp.specs.Outbox.{Posted}
use Rattle.at_ddp.specs.Tables.{without_first}
use Rattle.at_cable.specs.Calls.{last_count}
use Rattle.at_cable.specs.declared.fault.CableFault.{CableFault}

pub record MemoryState : Type 0 where
  pub nodes : List ℕ  -- who is on the cable
  pub waiting : List Posted  -- what was sent and not received yet, each for the node that it names
  pub due : Option ℕ  -- how many calls come before the one that fails
  pub failed : ℕ  -- how many calls failed

-- does a datagram to this destination come to a node? 255 is every node (Inside AppleTalk, DDP)
abbrev pub reaches : ℕ → ℕ → Bool
reaches to n = (n == to) || (to == 255)

-- a datagram waits for each node that it reaches
abbrev pub copies : ℕ → List ℕ → List ℕ → List Posted
copies to bytes nodes = map (λ n. record { node = n; bytes = bytes }) (filter (reaches to) nodes)

-- is the next call the one that fails?
abbrev pub is_due : Option ℕ → Bool
is_due None = false
is_due (Some calls) = calls == 0

abbrev pub next_due : Option ℕ → Option ℕ
next_due None = None
next_due (Some calls) = if calls == 0 then None else Some (calls - 1)

-- must the next call fail?
abbrev pub fails : MemoryState → Bool
fails m = is_due m.due || nat_le last_count m.failed

-- one call less comes before the one that fails
abbrev pub begun : MemoryState → MemoryState
begun m = record m { due = next_due m.due }

abbrev pub counted : MemoryState → MemoryState
counted m = record m { failed = min (m.failed + 1) last_count }

-- A send that must not fail lets the datagram wait. It may fail all the same, if memory runs out.
abbrev pub Sends : MemoryState → ℕ → ℕ → List ℕ → Result (Unit {0}) CableFault → MemoryState → Type 0
Sends m from to bytes (Ok answer) m' =
    (fails m ≡ false) × (m' ≡ record (begun m) { waiting = m.waiting ++ copies to bytes m.nodes })
Sends m from to bytes (Err fault) m' = m' ≡ counted (begun m)

abbrev pub is_for : ℕ → Posted → Bool
is_for node p = p.node == node

-- the bytes of a datagram that there is room for
abbrev pub start_of : ℕ → Option Posted → Option (List ℕ)
start_of room None = None
start_of room (Some p) = Some (take room p.bytes)

-- A receive fails only if it must. Otherwise it takes the first datagram that waits for the node.
abbrev pub Receives : MemoryState → ℕ → ℕ → Result (Option (List ℕ)) CableFault → MemoryState → Type 0
Receives m node room (Ok answer) m' =
    (fails m ≡ false) × (answer ≡ start_of room (find (is_for node) m.waiting))
    × (m' ≡ record (begun m) { waiting = without_first (is_for node) m.waiting })
Receives m node room (Err fault) m' = (fails m ≡ true) × (m' ≡ counted (begun m))
