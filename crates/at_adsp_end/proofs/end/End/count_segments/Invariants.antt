use Rattle.std.proofs.Common.{◌+◌, ◌-◌, ◌≤◌, take, drop}
use Rattle.at_adsp_end.specs.Outgoings.{Counted, queued, stretch}
use Rattle.at_adsp_end.proofs.end.End.count_segments.Given as goal

abbrev pub invariant-loop-index : goal.invariant-loop-index
invariant-loop-index g l = record {
  counted : Counted l.counting.segments l.counting.filled l.counting.bytes
      (stretch l.fn.self.sender l.fn.from l.fn.count)
      (take (l.index-end - l.index) (drop l.index (queued l.fn.self.sender)));
  filled : l.counting.filled ≤ 572;
  bytes : l.fn.from + l.counting.bytes ≤ l.index;
  within : l.index ≤ l.fn.from + l.fn.count;
}
