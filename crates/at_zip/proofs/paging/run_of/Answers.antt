use Rattle.std.proofs.lemmas.Grind.{common_steps}
use Rattle.std.proofs.Common.{arith, refl}
use Rattle.at_zip.proofs.paging.run_of.Goals as goal

pub returns-then-size-room : goal.returns-then-size-room
returns-then-size-room c = grind (arith, common_steps)

pub loop-index-init : goal.loop-index-init
loop-index-init c = refl
