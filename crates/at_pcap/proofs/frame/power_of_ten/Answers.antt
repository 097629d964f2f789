use Rattle.std.proofs.Common.{arith}
use Rattle.std.proofs.Math.Nat.{one-le-pow}
use Rattle.at_pcap.proofs.frame.power_of_ten.Goals as goal

pub returns-clause-above : goal.returns-clause-above
returns-clause-above c = omega (arith, c.pow.ensures, one-le-pow c.from.result 10 (omega arith))
