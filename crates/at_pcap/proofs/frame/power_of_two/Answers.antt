use Rattle.std.proofs.Common.{arith}
use Rattle.std.proofs.Math.Nat.{pow-le-pow_right}
use Rattle.at_pcap.proofs.frame.power_of_two.Goals as goal

pub returns-clause-below : goal.returns-clause-below
returns-clause-below c =
    omega (
      arith,
      c.pow.ensures,
      pow-le-pow_right {n = 2} (omega arith) {i = c.from.result} {j = 30}
          (omega (arith, c.from.ensures, c.min.ensures)),
    )
