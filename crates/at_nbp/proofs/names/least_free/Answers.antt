use Rattle.std.proofs.Common.{arith}
use Rattle.at_nbp.proofs.NumberLemmas.{numbers_in_use}
use Rattle.at_nbp.proofs.names.least_free.Goals as goal

pub overflow_add-number : goal.overflow_add-number
overflow_add-number c = omega
    (arith, numbers_in_use c.args.socket c.loop-number.number c.args.names.now c.loop-number.invariant, c.requires)

pub loop-number-smaller : goal.loop-number-smaller
loop-number-smaller c = omega
    (arith, numbers_in_use c.args.socket c.loop-number.number c.args.names.now c.loop-number.invariant, c.requires)
