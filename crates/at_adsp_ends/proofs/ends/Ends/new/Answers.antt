use Rattle.std.proofs.Common.{List, sym, ap, subst}
use Rattle.std.specs.Map.{lookup}
use Rattle.at_adsp_end.specs.Ends.{EndState}
use Rattle.at_adsp_ends.specs.Filed.{same_key}
use Rattle.at_adsp_ends.specs.Tables.{AreEnds, no_ends}
use Rattle.at_adsp_ends.proofs.FiledLemmas.{none_filed}
use Rattle.at_adsp_ends.proofs.TableLaws.{none_lawful}
use Rattle.at_adsp_ends.proofs.ends.Ends.new.Goals as goal

pub invariant_of-result : goal.invariant_of-result
invariant_of-result g c = (
  subst (λ (l : List EndState). AreEnds (record (no_ends c.args.rooms) { ends = l }))
      (sym c.new.ensures.items) (none_lawful c.args.rooms c.requires),
  none_filed c.new.result _ _ c.new.ensures.keys c.new.ensures.items
      (λ r. ap (lookup (same_key (r.address, r.id))) c.new-2.ensures.empty),
)
