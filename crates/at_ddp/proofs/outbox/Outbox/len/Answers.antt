use Rattle.std.proofs.Common.{length, sym, ap, ◌∙◌}
use Rattle.at_ddp.specs.Outbox.{Outbox}
use Rattle.at_ddp.proofs.MarkLemmas.{length-pieces}
use Rattle.at_ddp.proofs.outbox.Outbox.len.Goals as goal

pub returns : goal.returns
returns g c = c.len.ensures ∙ c.self.inside.marks.ok.0
    ∙ sym (length-pieces 0 c.self.inside.marks.items c.self.inside.bytes.items)
    ∙ ap (λ (d : Outbox). length d.items) c.self.view_is
