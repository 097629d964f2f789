use Rattle.std.proofs.Common.{rules, sym, ◌∙◌}
use Rattle.at_world.proofs.FreshLemmas.{both_in_time, first_late, second_late}
use Rattle.at_world.proofs.timely.is_fresh.Goals as goal

pub returns-then-is_no_later-clause-fresh : goal.returns-then-is_no_later-clause-fresh
returns-then-is_no_later-clause-fresh g c = λ fine node draw carries.
    both_in_time c.args.last.now c.args.event c.carried_in.result _ node draw (search rules)
    (sym c.is_no_later.ensures ∙ c.if-is_no_later.true) (sym c.is_no_later-then-is_no_later.ensures ∙ fine)
    ((c.carried_in.ensures node draw).1 carries)

pub returns-then-is_no_later-clause-stale : goal.returns-then-is_no_later-clause-stale
returns-then-is_no_later-clause-stale g c = λ not.
    let l = second_late c.args.last.now c.args.event c.carried_in.result _ (search rules)
    (sym c.is_no_later-then-is_no_later.ensures ∙ not) in
    (l.0, l.1, (c.carried_in.ensures l.0 l.1).0 l.2, l.3)

pub returns-else-is_no_later-clause-stale : goal.returns-else-is_no_later-clause-stale
returns-else-is_no_later-clause-stale g c = λ not.
    let l = first_late c.args.last.now c.args.event c.carried_in.result _ (search rules)
    (sym c.is_no_later.ensures ∙ c.if-is_no_later.false) in
    (l.0, l.1, (c.carried_in.ensures l.0 l.1).0 l.2, l.3)
