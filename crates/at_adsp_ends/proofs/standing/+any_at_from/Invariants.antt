use Rattle.std.proofs.Common.{◌-◌, length}
use Rattle.at_adsp_ends.proofs.standing.+any_at_from.Given as goal

abbrev pub decreases-any_at_from : goal.decreases-any_at_from
decreases-any_at_from g l = length l.ends.now.items - l.index
