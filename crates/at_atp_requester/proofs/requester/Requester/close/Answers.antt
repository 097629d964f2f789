use Rattle.std.proofs.Common.{◌≡◌, sym, ap, subst, ◌∙◌}
use Rattle.at_atp_requester.specs.Requests.{IsRequester, Requests, heard}
use Rattle.at_atp_requester.specs.Standing.{tid_of}
use Rattle.at_atp_requester.proofs.DifferLemmas.{heard_lawful}
use Rattle.at_atp_requester.proofs.TurnLemmas.{it_ends_in, left_by}
use Rattle.at_atp_requester.proofs.requester.Requester.close.Goals as goal

pub remove-requires : goal.remove-requires
remove-requires g c =
    let (from, packet, it) = c.requires in
    let r : Requests = record { next = c.self.inside.next; standing = c.self.inside.standing.items } in
    let e = it_ends_in g.row.A.Denot r c.args.self.now from packet c.args.ending c.self.view_is it in
    (e.found).within

pub invariant_of-self : goal.invariant_of-self
invariant_of-self g c =
    let (from, packet, it) = c.requires in
    let r : Requests = record { next = c.self.inside.next; standing = c.self.inside.standing.items } in
    let e = it_ends_in g.row.A.Denot r c.args.self.now from packet c.args.ending c.self.view_is it in
    let left : record { next = r.next; standing = c.remove.new.self.items }
    ≡ (heard {A = g.row.A.Denot} r from packet).after =
    ap (λ l. record { next = r.next; standing = l }) c.remove.ensures.items ∙ sym (ap (λ h. h.after) e.came) in (
      subst IsRequester (sym left) (heard_lawful g.row.A.Denot r from packet c.self.invariant.0),
      c.remove.ensures.keyed tid_of c.self.invariant.1,
    )

pub returns-clause-state : goal.returns-clause-state
returns-clause-state g c from packet it =
    let r : Requests = record { next = c.self.inside.next; standing = c.self.inside.standing.items } in
    let e = it_ends_in g.row.A.Denot r c.args.self.now from packet c.args.ending c.self.view_is it in
    ap (λ l. record { next = r.next; standing = l }) c.remove.ensures.items
    ∙ sym (left_by g.row.A.Denot r c.args.self.now from packet c.args.ending.tid c.args.ending.index c.self.view_is e)

pub returns-clause-silent : goal.returns-clause-silent
returns-clause-silent g c from packet it =
    let r : Requests = record { next = c.self.inside.next; standing = c.self.inside.standing.items } in
    let e = it_ends_in g.row.A.Denot r c.args.self.now from packet c.args.ending c.self.view_is it in
    ap (λ (x : Requests). (heard {A = g.row.A.Denot} x from packet).sent) (sym c.self.view_is)
    ∙ ap (λ h. h.sent) e.came
