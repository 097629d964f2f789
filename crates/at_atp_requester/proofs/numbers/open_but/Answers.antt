use Rattle.std.proofs.Common.{◌-◌, sym, ap, length, ◌∙◌}
use Rattle.at_atp_requester.specs.Standing.{left_open}
use Rattle.at_atp_requester.proofs.StandingLemmas.{none_less, one_less}
use Rattle.at_atp_requester.proofs.numbers.open_but.Goals as goal

pub returns-in-Some-index_numbered : goal.returns-in-Some-index_numbered
returns-in-Some-index_numbered g c = ap (λ n. n - 1) c.len-in-Some-index_numbered.ensures.items
    ∙ one_less c.in-Some.tid c.in-Some-index_numbered.field-0 c.args.standing.now.items
    (sym c.index_numbered.ensures.first ∙ c.in-Some-index_numbered.is)
    ∙ ap (λ o. length (left_open c.args.standing.now.items o)) (sym c.in-Some.is)

pub returns-in-None : goal.returns-in-None
returns-in-None g c = c.len-in-None.ensures.items
    ∙ none_less c.in-Some.tid c.args.standing.now.items (sym c.index_numbered.ensures.first ∙ c.in-None.is)
    ∙ ap (λ o. length (left_open c.args.standing.now.items o)) (sym c.in-Some.is)
