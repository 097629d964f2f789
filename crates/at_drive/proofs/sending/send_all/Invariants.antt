use Rattle.std.proofs.Common.{◌≡◌, ℕ, ◌+◌, ◌-◌, ◌≤◌, ◌++◌, List, length, take}
use Rattle.std.specs.Prelude.{vec_len, vec_capacity}
use Rattle.at_drive.specs.Sendings.{Sends}
use Rattle.at_drive.proofs.sending.send_all.Given as goal

-- the datagrams so far were sent, and there is room to note each of the others
abbrev pub invariant-loop-index : goal.invariant-loop-index
invariant-loop-index g l = record {
  sent : (notes : List ℕ)
      × Sends g.C.Cable.sends l.at l.from (take l.index l.out.items) l.initial.cable notes l.cable
      × (l.faults.items ≡ l.initial.faults.items ++ notes);
  room : vec_len l.faults + (length l.out.items - l.index) ≤ vec_capacity l.faults;
}
