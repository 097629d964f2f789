use Rattle.std.proofs.Common.{◌≡◌, length, ap, ◌∙◌, sym, arith}
use Rattle.std.specs.Prelude.{slice_get}
use Rattle.std.proofs.lemmas.Option.{get_or_from_slice_get}
use Rattle.at_ddp.specs.Outbox.{Outbox}
use Rattle.at_ddp.specs.declared.outbox.Mark.{Mark}
use Rattle.at_ddp.proofs.MarkLemmas.{length-pieces, lies_in}
use Rattle.at_ddp.proofs.outbox.Outbox.node.Goals as goal

pub index-requires : goal.index-requires
index-requires g c = omega (
  arith,
  c.self.inside.marks.ok.0,
  length-pieces 0 c.self.inside.marks.items c.self.inside.bytes.items,
  ap
      (λ (d : Outbox). length d.items) c.self.view_is,
)

pub returns : goal.returns
returns g c =
    let is = ap (λ (d : Outbox). d.items) c.self.view_is in
    let at = lies_in c.args.self.now.items c.self.inside.marks.items c.self.inside.bytes.items c.args.index is
    c.self.invariant c.requires in
    let mark : c.index.result.now ≡ at.0 = c.index.ensures
    ∙ get_or_from_slice_get c.self.inside.marks.items c.args.index at.0 c.index.result.now at.1 in
    (_, ap (λ l. slice_get l c.args.index) (sym is) ∙ at.2.item, ap (λ (m : Mark). m.node) mark)
