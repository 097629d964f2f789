use Rattle.std.proofs.Common.{refl}
use Rattle.at_nbp.proofs.NameTableLemmas.{no_names}
use Rattle.at_nbp.proofs.names.Names.new.Goals as goal

pub invariant_of-result : goal.invariant_of-result
invariant_of-result g c = rw c.new-2.ensures.empty (no_names, refl)
