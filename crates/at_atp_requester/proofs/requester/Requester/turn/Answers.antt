use Rattle.std.proofs.Common.{◌≡◌, ◌+◌, ◌%◌, ◌++◌, false, [], ◌∷◌, Some, sym, ap, subst, ◌∙◌, arith, rules}
use Rattle.std.specs.Prelude.{remove}
use Rattle.at_ddp.specs.Sending.{Sends}
use Rattle.at_atp_frame.specs.Frames.{Content, content, spelled}
use Rattle.at_atp_requester.specs.Requests.{IsRequester, Requests, beginning, begun, closing, has_number, next_number}
use Rattle.at_atp_requester.specs.Requests.{request_by}
use Rattle.at_atp_requester.proofs.DifferLemmas.{passed_lawful}
use Rattle.at_atp_requester.proofs.OpenLemmas.{drawn_free}
use Rattle.at_atp_requester.proofs.TurnLemmas.{gone_at, it_ends, it_ends_in, left_by}
use Rattle.at_atp_requester.proofs.ClosingLemmas.{found_there}
use Rattle.at_atp_requester.proofs.requester.Requester.turn.Given.{Over}
use Rattle.at_atp_requester.proofs.requester.Requester.turn.Goals as goal
use Rattle.at_atp_requester.proofs.requester.Requester.turn.Goals.{After-pass_on-number}

-- the next one stands last, and the one that ended is gone
items_after : (g : Over) (c : After-pass_on-number g) → c.pass_on-number.new.standing.items
    ≡ remove c.self.inside.standing.items c.args.ending.index ++ c.in_ok-next.next ∷ []
items_after g c = c.pass_on-number.ensures.items
    ∙ ap (λ l. remove l c.args.ending.index ++ c.in_ok-next.next ∷ []) c.reserve.ensures.items

asks_as : (g : Over) (c : After-pass_on-number g)
    → c.in_ok-next.next ≡ beginning c.pass_on-number.result c.args.from c.args.user [] 1 false c.args.retries
asks_as g c = c.in_ok-next.ensures.asks
    ∙ ap (λ n. beginning n c.args.from c.args.user [] 1 false c.args.retries) (sym c.pass_on-number.ensures.number)

pub following-requires : goal.following-requires
following-requires g c =
    let (packet, it) = c.requires in
    let f = (it_ends g.row.A.Denot c.args.self.now c.args.from packet c.args.ending it).found in
    found_there c.args.self.now.standing c.args.ending.tid c.args.from f.entry f.first

pub pass_on-number-requires-clause-within : goal.pass_on-number-requires-clause-within
pass_on-number-requires-clause-within g c =
    let (packet, it) = c.requires in
    let r : Requests = record { next = c.self.inside.next; standing = c.self.inside.standing.items } in
    let e = it_ends_in g.row.A.Denot r c.args.self.now c.args.from packet c.args.ending c.self.view_is it in
    rw c.reserve.ensures.items (e.found).within

pub pass_on-number-requires-clause-filed : goal.pass_on-number-requires-clause-filed
pass_on-number-requires-clause-filed g c =
    rw (← c.reserve.ensures.keys, ← c.reserve.ensures.items) at c.self.invariant.1

pub pass_on-number-requires-clause-fresh : goal.pass_on-number-requires-clause-fresh
pass_on-number-requires-clause-fresh g c =
    let (packet, it) = c.requires in
    let r : Requests = record { next = c.self.inside.next; standing = c.self.inside.standing.items } in
    let e = it_ends_in g.row.A.Denot r c.args.self.now c.args.from packet c.args.ending c.self.view_is it in
    let free = drawn_free (closing r (Some c.args.ending.tid)) c.in_ok-next.next.tid
    (rw (← c.self.view_is) at c.in_ok-next.ensures.drawn) in
    rw c.reserve.ensures.items
    (ap (λ l. has_number l c.in_ok-next.next.tid)
    (sym (gone_at r c.args.ending.tid c.args.from c.args.ending.index e.found c.self.invariant.0.differ))
    ∙ free)

pub invariant_of-self-2 : goal.invariant_of-self-2
invariant_of-self-2 g c =
    let (packet, it) = c.requires in
    let r : Requests = record { next = c.self.inside.next; standing = c.self.inside.standing.items } in
    let e = it_ends_in g.row.A.Denot r c.args.self.now c.args.from packet c.args.ending c.self.view_is it in
    let gone = gone_at r c.args.ending.tid c.args.from c.args.ending.index e.found c.self.invariant.0.differ in
    let free = drawn_free (closing r (Some c.args.ending.tid)) c.in_ok-next.next.tid
    (rw (← c.self.view_is) at c.in_ok-next.ensures.drawn) in
    let fresh : has_number (remove r.standing c.args.ending.index) c.in_ok-next.next.tid ≡ false =
    ap (λ l. has_number l c.in_ok-next.next.tid) (sym gone) ∙ free in
    let items = items_after g (goal.at.invariant_of-self-2 g c).After-pass_on-number in (
      subst (λ l. IsRequester (record { next = (c.pass_on-number.result + 1) % 65536; standing = l })) (sym items)
          (passed_lawful r c.args.ending.index c.in_ok-next.next ((c.pass_on-number.result + 1) % 65536)
          (e.found).within (omega arith) fresh c.self.invariant.0),
      c.pass_on-number.ensures.filed,
    )

pub returns-clause-drawn : goal.returns-clause-drawn
returns-clause-drawn g c packet it =
    let r : Requests = record { next = c.self.inside.next; standing = c.self.inside.standing.items } in
    let e = it_ends_in g.row.A.Denot r c.args.self.now c.args.from packet c.args.ending c.self.view_is it in
    ap next_number
    (left_by g.row.A.Denot r c.args.self.now c.args.from packet c.args.ending.tid c.args.ending.index c.self.view_is e)
    ∙ ap (λ l. next_number (record { next = r.next; standing = l }))
    (sym (gone_at r c.args.ending.tid c.args.from c.args.ending.index e.found c.self.invariant.0.differ))
    ∙ rw (← c.self.view_is) at c.in_ok-next.ensures.drawn ∙ ap Some (sym c.pass_on-number.ensures.number)

pub returns-clause-state : goal.returns-clause-state
returns-clause-state g c packet it =
    let r : Requests = record { next = c.self.inside.next; standing = c.self.inside.standing.items } in
    let e = it_ends_in g.row.A.Denot r c.args.self.now c.args.from packet c.args.ending c.self.view_is it in
    let asks = asks_as g (goal.at.returns-clause-state g c).After-pass_on-number in
    let items = items_after g (goal.at.returns-clause-state g c).After-pass_on-number in
    let left = left_by g.row.A.Denot r c.args.self.now c.args.from packet c.args.ending.tid c.args.ending.index
    c.self.view_is e in
    (λ j. record {
      next = (c.pass_on-number.result + 1) % 65536;
      standing = (items ∙ ap (λ t. remove r.standing c.args.ending.index ++ t ∷ []) asks) j;
    })
    ∙ ap (λ (x : Requests). begun x (beginning c.pass_on-number.result c.args.from c.args.user [] 1 false
    c.args.retries)) (sym left)

pub returns-clause-sent : goal.returns-clause-sent
returns-clause-sent g c =
    let asks = asks_as g (goal.at.returns-clause-sent g c).After-pass_on-number in
    let asked : content c.request.result
    ≡ request_by (beginning c.pass_on-number.result c.args.from c.args.user [] 1 false c.args.retries) =
    c.request.ensures.request ∙ ap request_by asks in
    subst (λ (x : Content). Sends c.args.out.now c.send.new.out ((c.args.from, spelled x) ∷ [])) asked (search rules)
