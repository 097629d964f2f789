use Rattle.std.proofs.Common.{◌-◌, length}
use Rattle.at_adsp_ends.proofs.standing.+limits_from.Given as goal

abbrev pub decreases-limits_from : goal.decreases-limits_from
decreases-limits_from g l = length l.ends.now.items - l.index
