use Rattle.std.proofs.Common.{◌-◌, take, drop}
use Rattle.at_adsp_end.specs.Outgoings.{queued, stretch}
use Rattle.at_adsp_end.proofs.SentLemmas.{SoFar}
use Rattle.at_adsp_end.proofs.end.End.send_items.Given as goal

abbrev pub invariant-loop-index : goal.invariant-loop-index
invariant-loop-index g l = SoFar l.fn.out l.out l.fn.self l.fn.first l.cutting.first l.cutting.bytes.items
    (stretch l.fn.self.sender l.fn.from l.fn.count)
    (take (l.index-end - l.index) (drop l.index (queued l.fn.self.sender)))
