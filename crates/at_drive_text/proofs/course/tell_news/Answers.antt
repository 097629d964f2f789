use Rattle.std.proofs.Common.{subst}
use Rattle.std.specs.Prelude.{slice_get}
use Rattle.at_drive_text.specs.Told.{TellsRefusal}
use Rattle.at_drive_text.proofs.course.tell_news.Goals as goal

pub returns : goal.returns
returns g c = (
  c.tell_refusal.new.diagnostics,
  subst (λ xs. TellsRefusal g.E.Paper.page c.args.at (slice_get xs 0) c.args.diagnostics.now
      c.tell_refusal.new.diagnostics) c.deref.ensures.value c.tell_refusal.ensures,
  rw (c.is_first.ensures, c.deref-2.ensures.value) at c.tell_cable.ensures,
)
