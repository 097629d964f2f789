use Rattle.std.proofs.Common.{◌≡◌, Some, refl, sym, ap, subst, ◌∙◌}
use Rattle.std.specs.Prelude.{is_some}
use Rattle.std.specs.List.{position_from}
use Rattle.at_atp_frame.specs.Frames.{content, number_of}
use Rattle.at_atp_requester.specs.Arriving.{arrival_of}
use Rattle.at_atp_requester.specs.Requests.{IsRequester, Requests, finishes, is_of}
use Rattle.at_ddp.proofs.FoundLemmas.{entry_is}
use Rattle.at_ddp.proofs.TableLemmas.{found, not_found}
use Rattle.at_atp_requester.proofs.ClosingLemmas.{is_free_then}
use Rattle.at_atp_requester.proofs.TurnLemmas.{finishes_at, finishes_none}
use Rattle.at_atp_requester.proofs.requester.Requester.ending.Given.{Over}
use Rattle.at_atp_requester.proofs.requester.Requester.ending.Goals as goal
use Rattle.at_atp_requester.proofs.requester.Requester.ending.Goals.{After-would_end}

-- whether the packet ends the transaction that was found
ends_found : (g : Over) (c : After-would_end g)
    → c.would_end.result ≡ finishes g.row.A.Denot c.args.self.now c.args.from (content c.args.frame.now)
ends_found g c =
    let r : Requests = record { next = c.self.inside.next; standing = c.self.inside.standing.items } in
    let f = found (is_of c.in_ok-tid.tid c.args.from) r.standing c.in_ok-index.index (sym c.index_of.ensures
    ∙ c.in_ok-index.was) in
    let entry : c.at-transaction.result.now ≡ f.entry = entry_is f c.at-transaction.result.now
    c.at-transaction.ensures in
    let ends = rw entry at c.would_end.ensures (arrival_of c.in_ok-tid.arriving) c.in_ok-tid.arriving.sts refl in
    rw (← c.self.view_is, c.in_ok-tid.ensures.answer)
    (ends ∙ finishes_at _ r c.args.from _ _ _ _ _ _ c.in_ok-index.index f)

pub at-transaction-requires : goal.at-transaction-requires
at-transaction-requires g c = (found (is_of c.in_ok-tid.tid c.args.from) c.self.inside.standing.items
    c.in_ok-index.index (sym c.index_of.ensures ∙ c.in_ok-index.was)).within

pub returns-in_err-index-clause-ends : goal.returns-in_err-index-clause-ends
returns-in_err-index-clause-ends g c =
    let r : Requests = record { next = c.self.inside.next; standing = c.self.inside.standing.items } in
    ap is_some c.from_residual-in_err-index.ensures ∙ rw (← c.self.view_is, c.in_ok-tid.ensures.answer)
    (finishes_none _ r c.args.from _ _ _ _ _ _
    (not_found (is_of c.in_ok-tid.tid c.args.from) 0 r.standing (sym c.index_of.ensures ∙ c.in_err-index.was)))

pub returns-then-would_end-clause-ends : goal.returns-then-would_end-clause-ends
returns-then-would_end-clause-ends g c = sym c.if-would_end.true
    ∙ ends_found g (goal.at.returns-then-would_end-clause-ends g c).After-would_end

pub returns-then-would_end-clause-place : goal.returns-then-would_end-clause-place
returns-then-would_end-clause-place g c = record {
  finishes_it = sym (ends_found g (goal.at.returns-then-would_end-clause-place g c).After-would_end)
      ∙ c.if-would_end.true;
  number = ap number_of c.in_ok-tid.ensures.answer;
  place = subst (λ (r : Requests). position_from (is_of c.in_ok-tid.tid c.args.from) 0 r.standing
      ≡ Some c.in_ok-index.index) c.self.view_is (sym c.index_of.ensures ∙ c.in_ok-index.was);
}

pub returns-else-would_end-clause-ends : goal.returns-else-would_end-clause-ends
returns-else-would_end-clause-ends g c = sym c.if-would_end.false
    ∙ ends_found g (goal.at.returns-else-would_end-clause-ends g c).After-would_end

pub returns-in_err-index-clause-free : goal.returns-in_err-index-clause-free
returns-in_err-index-clause-free g c = is_free_then g.row.A.Denot c.args.self.now c.args.from
    (content c.args.frame.now) (subst (λ (r : Requests). IsRequester r) c.self.view_is c.self.invariant.0)

pub returns-then-would_end-clause-free : goal.returns-then-would_end-clause-free
returns-then-would_end-clause-free g c = is_free_then g.row.A.Denot c.args.self.now c.args.from
    (content c.args.frame.now) (subst (λ (r : Requests). IsRequester r) c.self.view_is c.self.invariant.0)

pub returns-else-would_end-clause-free : goal.returns-else-would_end-clause-free
returns-else-would_end-clause-free g c = is_free_then g.row.A.Denot c.args.self.now c.args.from
    (content c.args.frame.now) (subst (λ (r : Requests). IsRequester r) c.self.view_is c.self.invariant.0)
