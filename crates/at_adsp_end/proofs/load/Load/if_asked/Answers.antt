use Rattle.std.proofs.Common.{refl}
use Rattle.at_adsp_end.specs.Ends.{acknowledging}
use Rattle.at_adsp_end.specs.Positions.{wire}
use Rattle.at_adsp_end.proofs.load.Load.if_asked.Goals as goal

pub returns-then-ack-clause-is : goal.returns-then-ack-clause-is
returns-then-ack-clause-is c = rw c.if-ack.true (λ to e. c.of_one.ensures.is to (acknowledging wire e) refl)
