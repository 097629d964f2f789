use Rattle.std.proofs.Common.{Some, sym, ap, ◌∙◌}
use Rattle.at_atp_requester.specs.Requests.{Requests, closing, next_number}
use Rattle.at_atp_requester.proofs.ClosingLemmas.{room_left}
use Rattle.at_atp_requester.proofs.StandingLemmas.{closing_is}
use Rattle.at_atp_requester.proofs.TurnLemmas.{drawn_next}
use Rattle.at_atp_requester.proofs.requester.Requester.following.Goals as goal

pub unwrap-tid-requires : goal.unwrap-tid-requires
unwrap-tid-requires g c =
    let r : Requests = record { next = c.self.inside.next; standing = c.self.inside.standing.items } in
    c.next_of.ensures.some
    (room_left r.standing c.args.ended (rw (← c.self.view_is) at c.requires) c.self.invariant.0.few)

pub returns-clause-drawn : goal.returns-clause-drawn
returns-clause-drawn g c =
    let r : Requests = record { next = c.self.inside.next; standing = c.self.inside.standing.items } in
    rw (← c.self.view_is) (drawn_next (closing r (Some c.args.ended)) c.unwrap-tid.result
    c.begin.result _ _ _
    (sym (ap next_number (closing_is r (Some c.args.ended))) ∙ sym c.next_of.ensures.number
    ∙ c.unwrap-tid.ensures) c.begin.ensures)
