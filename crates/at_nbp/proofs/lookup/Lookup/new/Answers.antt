use Rattle.std.proofs.Common.{sym, subst}
use Rattle.at_nbp.specs.Lookups.{AreLookups}
use Rattle.at_nbp.proofs.LookupLaws.{none_lawful}
use Rattle.at_nbp.proofs.lookup.Lookup.new.Goals as goal

pub invariant_of-result : goal.invariant_of-result
invariant_of-result g c =
    subst (λ searches. AreLookups
    (record { own = c.args.own; to = c.args.to; function = c.args.function; next = 0; searches = searches }))
    (sym c.new.ensures.items)
    (none_lawful c.args.own c.args.to c.args.function c.requires)
