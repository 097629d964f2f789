use Rattle.std.proofs.Common.{sym, ap, subst, ◌∙◌}
use Rattle.at_atp_requester.specs.Requests.{NumbersDiffer, Requests, closing, next_number}
use Rattle.at_atp_requester.proofs.ClosingLemmas.{turns_to}
use Rattle.at_atp_requester.proofs.StandingLemmas.{closing_is}
use Rattle.at_atp_requester.proofs.requester.Requester.next_number.Goals as goal

pub returns-clause-number : goal.returns-clause-number
returns-clause-number g c =
    let r : Requests = record { next = c.self.inside.next; standing = c.self.inside.standing.items } in
    c.next_of.ensures.number ∙ ap next_number (sym (closing_is r c.args.closed))
    ∙ ap (λ (x : Requests). next_number (closing x c.args.closed)) c.self.view_is

pub returns-clause-turn : goal.returns-clause-turn
returns-clause-turn g c =
    turns_to g.row.A.Denot c.args.self.now c.args.closed c.next_of.result
    (subst (λ (r : Requests). NumbersDiffer r.standing) c.self.view_is c.self.invariant.0.differ)
    (returns-clause-number g c)
