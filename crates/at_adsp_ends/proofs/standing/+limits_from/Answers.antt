use Rattle.std.proofs.Common.{List, sym, subst}
use Rattle.std.specs.List.{AllByRecursion}
use Rattle.at_adsp_end.specs.Ends.{EndState, FitsRooms}
use Rattle.at_adsp_ends.proofs.standing.+limits_from.Goals as goal
use Rattle.at_ddp.proofs.ListLemmas.{drop_next}

pub returns-then-index-len : goal.returns-then-index-len
returns-then-index-len g t c = subst (λ (l : List EndState). AllByRecursion FitsRooms l)
    (sym (drop_next c.args.ends.now.items c.args.index c.at.result.now c.at.ensures))
    (c.limits.ensures, c.limits_from.ensures)
