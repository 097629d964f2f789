use Rattle.std.proofs.Common.{◌≡◌, ◌≤◌, ◌++◌, arith, ap, refl, ◌∙◌, length, sym, subst, get_or}
use Rattle.at_ddp.specs.Marks.{AreMarks, pieces}
use Rattle.at_ddp.proofs.MarkLemmas.{both, mark_within}
use Rattle.at_ddp.proofs.outbox.Outbox.append.Given.{Over}
use Rattle.at_ddp.proofs.outbox.Outbox.append.Goals.{After-clear}
use Rattle.at_ddp.proofs.outbox.Outbox.append.Goals as goal

pub push_marks-requires-clause-fits : goal.push_marks-requires-clause-fits
push_marks-requires-clause-fits g c k d lt =
    let within : (get_or c.deref.result.now k d).end ≤ length c.other.inside.bytes.items = mark_within 0
    c.deref.result.now (length c.other.inside.bytes.items) k d
    (subst (λ ms. AreMarks 0 ms (length c.other.inside.bytes.items)) (sym c.deref.ensures.value) c.other.invariant)
    lt in
    omega (
      arith,
      within,
      c.len-3.ensures,
      c.in_ok-reserve-2.ensures.ok,
      c.reserve-2.new.self.ok,
      c.other.inside.bytes.ok.0,
      c.len-2.ensures,
    )

-- what is in the list and in its marks
moved : (g : Over) (c : After-clear g)
    → AreMarks 0 c.push_marks.new.marks.items (length c.extend_from_slice.new.self.items)
    × (pieces 0 c.push_marks.new.marks.items c.extend_from_slice.new.self.items
    ≡ pieces 0 c.self.inside.marks.items c.self.inside.bytes.items
    ++ pieces 0 c.other.inside.marks.items c.other.inside.bytes.items)
moved g c =
    let base : c.len-3.result ≡ length c.self.inside.bytes.items = c.len-3.ensures ∙ c.reserve-2.new.self.ok.0
    ∙ ap length c.in_ok-reserve-2.ensures.items in
    let all = rw c.unwrap.ensures at c.extend_from_slice.ensures.items in
    both c.self.inside.marks.items c.other.inside.marks.items c.push_marks.new.marks.items
    c.self.inside.bytes.items c.other.inside.bytes.items c.extend_from_slice.new.self.items c.len-3.result
    c.self.invariant c.other.invariant base
    (c.push_marks.ensures ∙ rw (c.in_ok-reserve.ensures.items, c.deref.ensures.value) refl)
    (all ∙ rw (c.in_ok-reserve-2.ensures.items, c.deref-2.ensures.value) refl)

pub invariant_of-self-2 : goal.invariant_of-self-2
invariant_of-self-2 g c = (moved g c).0

pub returns-clause-ok : goal.returns-clause-ok
returns-clause-ok g c =
    ((moved g c).1 ∙ rw (sym c.self.view_is, sym c.other.view_is) refl, c.clear.ensures.items)
