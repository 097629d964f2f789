use Rattle.std.proofs.Common.{◌≡◌, vec_capacity}
use Rattle.at_nbp.proofs.ReplyLemmas.{AreMatching}
use Rattle.at_nbp.proofs.names.Names.matching.Given as goal

abbrev pub invariant-loop-name : goal.invariant-loop-name
invariant-loop-name g l = (l.name-items ≡ l.self.names)
    × AreMatching l.self l.pattern l.name-index l.found.items (vec_capacity l.found)
