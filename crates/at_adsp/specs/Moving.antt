-- That the numbers of an end never move back (Inside AppleTalk, ADSP, "Sequence numbers" and "Flow control").
use Rattle.std.specs.Prelude.{◌≡◌, ◌≤◌, ℕ, ◌+◌, Bool, List, length, Some, IfOk, Result}
use Rattle.at_ddp.specs.declared.address.Address.{Address}
use Rattle.at_adsp_frame.specs.Segments.{Content}
use Rattle.at_adsp_end.specs.Ends.{EndState, free, limit}
use Rattle.at_adsp_end.specs.Positions.{Numbers}
use Rattle.at_adsp_end.specs.declared.fault.StreamFault.{StreamFault}
use Rattle.at_adsp_end.specs.declared.item.Item.{Item}
use Rattle.at_adsp_end.specs.declared.tick.Tick.{Tick}
use Rattle.at_adsp_ends.specs.Calls.{closed_at, connected, listened, read_at, reset_at, ticked_at, wrote}
use Rattle.at_adsp_ends.specs.Receiving.{received}
use Rattle.at_adsp_ends.specs.Tables.{Done, EndTable, by_id, next_id}

-- the new number is the old one, or one that lies past it, by at most so much
abbrev pub IsPast : Numbers → ℕ → ℕ → ℕ → Type 0
IsPast N most old new = (count : ℕ) × (count ≤ most) × (N.at new ≡ N.at (old + count))

-- An end has moved on, and heard at most this window: its front by at most what was queued, its limit by at most the
-- window, and what it expects by at most what was free. The front of an end that is closed goes on to its next unsent
-- number. Its limit has no effect from then on.
pub record MovesOn (N : Numbers) (window : ℕ) (old new : EndState) : Type 0 where
  pub front : IsPast N (length old.sender.unacknowledged + length old.sender.waiting) old.sender.front new.sender.front
  pub limit : IsPast N window (limit N old.sender) (limit N new.sender)
  pub expected : IsPast N (free old) old.receiver.received new.receiver.received

-- each end that stands before and after has moved on
abbrev pub AllMoveOn : Numbers → ℕ → EndTable → EndTable → Type 0
AllMoveOn N window old new =
    (id : ℕ) (e f : EndState) → by_id old id ≡ Some e → by_id new id ≡ Some f → MovesOn N window e f

-- A call leaves each limit as it is.
abbrev pub MovesOnBy : {X : Type 0} → Numbers → EndTable → Result (Done X) StreamFault → Type 0
MovesOnBy N t r = IfOk r (λ d. AllMoveOn N 0 t d.after)

-- no segment, call or tick moves a number back
pub record NeverMovesBack (N : Numbers) (t : EndTable) : Type 0 where
  pub received : (from : Address) (s : Content) → AllMoveOn N s.window t (received N t from s).after
  pub connected : (to : Address) → MovesOnBy N t (connected t to (next_id t))
  pub listens : (on : Bool) → AllMoveOn N 0 t (listened t on)
  pub closed : (id : ℕ) → MovesOnBy N t (closed_at N t (by_id t id))
  pub ticked : (tick : Tick) (id : ℕ) → MovesOnBy N t (ticked_at N t tick (by_id t id))
  pub read : (count id : ℕ) → MovesOnBy N t (read_at N t count (by_id t id))
  pub reset : (id : ℕ) → MovesOnBy N t (reset_at N t (by_id t id))
  pub wrote : (items : List Item) (id : ℕ) → MovesOnBy N t (wrote N t items (by_id t id))
