use Rattle.std.proofs.Common.{sym, ap, is_some, ◌∙◌}
use Rattle.at_atp_requester.proofs.StandingLemmas.{closed_is_gone, others_stay, some_position}
use Rattle.at_atp_requester.proofs.numbers.is_open.Goals as goal

pub returns-then-eq : goal.returns-then-eq
returns-then-eq g c = sym (closed_is_gone c.args.closed c.args.tid c.args.standing.now.items c.requires.differ
    (sym c.eq.ensures ∙ c.if-eq.true))

pub returns : goal.returns
returns g c = c.is_some.ensures ∙ ap is_some c.index_numbered.ensures.first
    ∙ some_position c.args.tid 0 c.args.standing.now.items
    ∙ sym (others_stay c.args.closed c.args.tid c.args.standing.now.items (sym c.eq.ensures ∙ c.if-eq.false))
