use Rattle.std.proofs.Common.{◌≡◌}
use Rattle.at_nbp.proofs.ReplyExistence.{AreCounted}
use Rattle.at_nbp.proofs.names.Names.count_matching.Given as goal

abbrev pub invariant-loop-name : goal.invariant-loop-name
invariant-loop-name g l = (l.name-items ≡ l.self.names) × AreCounted l.self l.pattern l.name-index l.count
