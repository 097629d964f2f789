-- The datagrams of a node that wait to be taken, and what is kept beside them.
use Rattle.std.specs.Prelude.{◌≡◌, ℕ, ◌<◌, List, [], ◌++◌}
use Rattle.at_ddp.specs.Outbox.{Posted}

pub record Kept : Type 0 where
  pub taken : ℕ  -- how many are kept of which the memory is not freed yet, though they are taken
  pub first : List Posted  -- those behind them in the same list
  pub later : List Posted  -- those that were sent since

-- all that waits, in the order of sending
abbrev pub waiting_of : Kept → List Posted
waiting_of k = k.first ++ k.later

-- before anything is sent
abbrev pub nothing_kept : Kept
nothing_kept = record { taken = 0; first = []; later = [] }

-- When all of the earlier list are taken, none of it is kept, and the later list has taken its place.
pub record FreesTaken (taken count : ℕ) (later : List Posted) : Type 0 where
  pub some_wait : 0 < count → taken < count
  pub none_wait : count ≡ 0 → later ≡ []
