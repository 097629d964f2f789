use Rattle.at_table.proofs.PlaceLemmas.{agree_empty}
use Rattle.at_table.proofs.table.Table.new.Goals as goal

pub invariant_of-result : goal.invariant_of-result
invariant_of-result g c = rw (c.new.ensures.empty, c.new-2.ensures.empty) agree_empty
