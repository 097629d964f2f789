use Rattle.std.proofs.Common.{◌++◌, map, ◌∙◌, ap, refl, sym}
use Rattle.at_world.specs.Sents.{stamp}
use Rattle.at_world.proofs.SentLemmas.{more_stamped, nothing_in, nothing_more}
use Rattle.at_world.proofs.sent.SentList.append.Goals as goal

pub returns-then-is_empty-clause-ok : goal.returns-then-is_empty-clause-ok
returns-then-is_empty-clause-ok g c =
    let none = sym c.is_empty.ensures ∙ c.if-is_empty.true in (
      nothing_more c.args.self.now c.args.out.now.items c.args.event none,
      nothing_in c.args.out.now.items none,
    )

pub returns-clause-ok : goal.returns-clause-ok
returns-clause-ok g c = (
  (more_stamped c.self.inside.events.items c.push_all.new.stamps.items c.self.inside.list.items
      c.append.new.self.items c.args.out.now.items c.len-count.result c.args.event c.self.invariant
      c.in_ok-append.ensures.ok.0 c.len-count.ensures
      (c.push_all.ensures ∙ rw c.in_ok-reserve.ensures.items refl)).1
      ∙ ap (λ (l : _). l ++ map (stamp c.args.event) c.args.out.now.items) c.self.view_is,
  c.in_ok-append.ensures.ok.1,
)
