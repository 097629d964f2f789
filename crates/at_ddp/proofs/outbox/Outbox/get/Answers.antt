use Rattle.std.proofs.Common.{◌≡◌, ◌<◌, ◌≤◌, ℕ, List, length, ap, ◌∙◌, sym, arith, Some}
use Rattle.std.specs.Prelude.{slice_get, slice_range}
use Rattle.at_ddp.specs.Outbox.{Outbox, Posted}
use Rattle.at_ddp.specs.Marks.{pieces, AreMarks, start_at}
use Rattle.at_ddp.specs.declared.outbox.Mark.{Mark}
use Rattle.at_ddp.proofs.MarkLemmas.{length-pieces, lies_in}
use Rattle.at_ddp.proofs.outbox.Outbox.get.Given.{Over}
use Rattle.at_ddp.proofs.outbox.Outbox.get.Goals as goal

-- the bytes lie between the two places that `span` returns
record Spans (items : List Posted) (now : List ℕ) (i start end : ℕ) : Type 0 where
  pub in_order : start ≤ end
  pub within : end ≤ length now
  pub item : (p : Posted) × (slice_get items i ≡ Some p) × (slice_range now start end ≡ p.bytes)

spans : (items : List Posted) (ms : List Mark) (bytes now : List ℕ) (given : List Mark) (i start end : ℕ)
    → pieces 0 ms bytes ≡ items → AreMarks 0 ms (length bytes) → i < length items →
    given ≡ ms → now ≡ bytes → start ≡ start_at 0 given i → (m : Mark) × (slice_get given i ≡ Some m) × (end ≡ m.end)
    → Spans items now i start end
spans items ms bytes now given i start end is h lt same same' s e =
    let at = lies_in items ms bytes i is h lt in
    let mark : e.0 ≡ at.0 = let l : Some e.0 ≡ Some at.0 = sym e.1 ∙ ap (λ l. slice_get l i) same ∙ at.1 in cc in
    let starts : start ≡ at.2.start = s ∙ ap (λ l. start_at 0 l i) same ∙ at.2.is_start in
    let ends : end ≡ at.0.end = e.2 ∙ ap (λ (m : Mark). m.end) mark in
    record {
      in_order = omega (arith, at.2.in_order);
      within = omega (arith, at.2.within, ap length same');
      item = (_, ap (λ l. slice_get l i) (sym is) ∙ at.2.item, λ j. slice_range (same' j) (starts j) (ends j));
    }

here : (g : Over) (c : goal.After-deref-2 g)
    → Spans c.args.self.now.items c.deref-2.result.now c.args.index c.span-start.result.0 c.span-start.result.1
here g c = spans c.args.self.now.items c.self.inside.marks.items c.self.inside.bytes.items c.deref-2.result.now
    c.deref.result.now c.args.index _ _
    (ap (λ (d : Outbox). d.items) c.self.view_is) c.self.invariant c.requires c.deref.ensures.value
    c.deref-2.ensures.value c.span-start.ensures.start c.span-start.ensures.end

pub span-start-requires : goal.span-start-requires
span-start-requires g c =
    omega (
      arith,
      ap length c.deref.ensures.value,
      length-pieces 0 c.self.inside.marks.items c.self.inside.bytes.items,
      ap (λ (d : Outbox). length d.items) c.self.view_is,
    )

pub slice_bounds-result-count : goal.slice_bounds-result-count
slice_bounds-result-count g c = (here g c).in_order

pub slice_bounds-result-start : goal.slice_bounds-result-start
slice_bounds-result-start g c = (here g c).in_order

pub slice_bounds-result-end : goal.slice_bounds-result-end
slice_bounds-result-end g c = (here g c).within

pub returns : goal.returns
returns g c = (spans c.args.self.now.items c.self.inside.marks.items c.self.inside.bytes.items c.deref-2.result.now
    c.deref.result.now c.args.index _ _
    (ap (λ (d : Outbox). d.items) c.self.view_is) c.self.invariant c.requires c.deref.ensures.value
    c.deref-2.ensures.value c.span-start.ensures.start c.span-start.ensures.end).item
