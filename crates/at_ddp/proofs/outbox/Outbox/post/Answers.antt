use Rattle.std.proofs.Common.{ap, ◌∙◌}
use Rattle.at_ddp.specs.Outbox.{Outbox}
use Rattle.at_ddp.proofs.MarkLemmas.{in_parts, marks_after, pieces_after}
use Rattle.at_ddp.proofs.outbox.Outbox.post.Goals as goal

pub invariant_of-self : goal.invariant_of-self
invariant_of-self g c =
    let first = rw c.unwrap.ensures at c.extend_from_slice.ensures.items in
    let second = rw c.unwrap-2.ensures at c.extend_from_slice-2.ensures.items in
    let third = rw c.unwrap-3.ensures at c.extend_from_slice-3.ensures.items in
    let last = rw (c.unwrap-4.ensures, c.len-end.ensures, c.extend_from_slice-3.new.self.ok.0) at
    c.push.ensures.items in
    marks_after c.self.inside.marks.items _ c.self.inside.bytes.items _ _ c.args.node c.self.invariant
    (in_parts c.self.inside.bytes.items _ _ _ c.args.header.now c.args.front.now c.args.back.now first second third)
    last

pub returns-clause-ok : goal.returns-clause-ok
returns-clause-ok g c =
    let first = rw c.unwrap.ensures at c.extend_from_slice.ensures.items in
    let second = rw c.unwrap-2.ensures at c.extend_from_slice-2.ensures.items in
    let third = rw c.unwrap-3.ensures at c.extend_from_slice-3.ensures.items in
    let last = rw (c.unwrap-4.ensures, c.len-end.ensures, c.extend_from_slice-3.new.self.ok.0) at
    c.push.ensures.items in
    pieces_after c.self.inside.marks.items _ c.self.inside.bytes.items _ _ c.args.node _ c.self.invariant
    (in_parts c.self.inside.bytes.items _ _ _ c.args.header.now c.args.front.now c.args.back.now first second third)
    last
    (ap (λ (d : Outbox). d.items) c.self.view_is ∙ c.in_ok-reserve.ensures.items)
