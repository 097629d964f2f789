use Rattle.std.proofs.Common.{sym, subst, arith}
use Rattle.std.specs.List.{IsDistinct}
use Rattle.at_nbp.specs.Lookups.{IsSearch}
use Rattle.at_nbp.proofs.search.Search.begin.Goals as goal

pub invariant_of-result : goal.invariant_of-result
unfolding IsDistinct
invariant_of-result g c =
    subst (λ finds. IsSearch (record { id = c.args.id; pattern = c.asked.result; finds = finds }))
    (sym c.new.ensures.empty) (record { few = omega arith; match = tt; differ = tt })
