use Rattle.std.proofs.Common.{refl}
use Rattle.at_adsp_ends.proofs.standing.+any_at_from.Goals as goal
use Rattle.at_ddp.proofs.ListLemmas.{drop_next}

pub returns-then-has_remote_at : goal.returns-then-has_remote_at
returns-then-has_remote_at g t c = rw (
  drop_next c.args.ends.now.items c.args.index c.at-end.result.now c.at-end.ensures,
  ← c.has_remote_at.ensures,
  c.if-has_remote_at.true,
) refl

pub returns-else-has_remote_at : goal.returns-else-has_remote_at
returns-else-has_remote_at g t c = rw (
  drop_next c.args.ends.now.items c.args.index c.at-end.result.now c.at-end.ensures,
  ← c.has_remote_at.ensures,
  c.if-has_remote_at.false,
) c.any_at_from.ensures
