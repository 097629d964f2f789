use Rattle.std.proofs.Common.{◌^◌, arith, lit<, lit≤}
use Rattle.at_adsp.proofs.Rounds.{ahead_back, ahead_on}
use Rattle.at_adsp.proofs.laws.near_numbers_are_told_apart_on_the_cable.Goals as goal

pub returns-clause-ahead : goal.returns-clause-ahead
returns-clause-ahead c a d near = ahead_on (2 ^ 32) (2 ^ 31) a d (lit≤ tt) near

pub returns-clause-behind : goal.returns-clause-behind
returns-clause-behind c b d some near = ahead_back (2 ^ 32) (2 ^ 31) b d some (omega (arith, near)) (lit< tt)
