use Rattle.std.proofs.Common.{ap, sym, ◌∙◌}
use Rattle.at_atp_requester.specs.Requests.{has_number}
use Rattle.at_atp_requester.specs.Standing.{tid_of}
use Rattle.at_atp_requester.proofs.StandingLemmas.{fresh_in}
use Rattle.at_atp_requester.proofs.standing.pass_on.Goals as goal

pub push-requires-clause-fresh : goal.push-requires-clause-fresh
push-requires-clause-fresh g c = fresh_in c.remove.new.self c.tid-tid.result
    (c.remove.ensures.keyed tid_of c.requires.filed)
    (ap (λ l. has_number l c.tid-tid.result) c.remove.ensures.items
    ∙ ap (has_number _) c.tid-tid.ensures ∙ c.requires.fresh)

pub returns-clause-filed : goal.returns-clause-filed
returns-clause-filed g c = c.push.ensures.keyed tid_of (c.remove.ensures.keyed tid_of c.requires.filed)
    (sym c.tid-tid.ensures)
