use Rattle.std.proofs.Common.{◌≡◌, replicate, None}
use Rattle.at_atp_requester.proofs.part.no_parts.Given as goal

abbrev pub invariant-loop-i : goal.invariant-loop-i
invariant-loop-i g l = l.parts.items ≡ replicate l._i None
