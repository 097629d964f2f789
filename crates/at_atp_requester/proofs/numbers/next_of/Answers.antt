use Rattle.std.proofs.lemmas.Grind.{common_steps}
use Rattle.std.proofs.Common.{IsSome, subst, sym, arith, rules}
use Rattle.at_atp_requester.proofs.RequestLemmas.{draws_one}
use Rattle.at_atp_requester.proofs.numbers.next_of.Goals as goal

pub returns-then-open-lt-OPEN-clause-some : goal.returns-then-open-lt-OPEN-clause-some
returns-then-open-lt-OPEN-clause-some g c = λ few. subst (λ o. IsSome o) (sym c.free_number.ensures)
    (draws_one _ c.args.next _ (omega arith) (omega (arith, c.open_but-open.ensures)))

pub returns-else-open-lt-OPEN-clause-number : goal.returns-else-open-lt-OPEN-clause-number
returns-else-open-lt-OPEN-clause-number g c = grind (arith, common_steps)

pub returns-else-open-lt-OPEN-clause-some : goal.returns-else-open-lt-OPEN-clause-some
returns-else-open-lt-OPEN-clause-some g c = search rules
