use Rattle.std.proofs.Common.{◌≡◌, rules, set, sym, ap, subst, ◌∙◌, arith}
use Rattle.std.specs.List.{position_from}
use Rattle.std.proofs.lemmas.Bool.{true≢false}
use Rattle.std.proofs.lemmas.List.{length-set}
use Rattle.at_atp_frame.specs.Frames.{Response}
use Rattle.at_atp_requester.specs.Requests.{Requests, IsRequester, is_of}
use Rattle.at_atp_requester.proofs.DifferLemmas.{heard_lawful, set_lawful}
use Rattle.at_atp_requester.proofs.StayLemmas.{of_number}
use Rattle.at_ddp.proofs.FoundLemmas.{entry_is, set_back}
use Rattle.at_atp_requester.specs.Standing.{tid_of}
use Rattle.at_ddp.proofs.TableLemmas.{found, not_found}
use Rattle.at_atp_requester.proofs.StepLemmas.{heard_none, heard_some, no_effect_some}
use Rattle.at_atp_requester.proofs.requester.Requester.receive.Goals as goal

pub returns-in_default-index_of-clause-ok : goal.returns-in_default-index_of-clause-ok
returns-in_default-index_of-clause-ok g c =
    let standing = ap (λ (r : Requests). r.standing) c.self.view_is in
    rw c.in-Some.ensures.answer (heard_none c.args.self.now c.args.from _ _ _ _ _ _ c.args.out.now
    (not_found (is_of c.in-Some.tid c.args.from) 0 c.args.self.now.standing
    (ap (position_from (is_of c.in-Some.tid c.args.from) 0) (sym standing) ∙ sym c.index_of.ensures
    ∙ c.in_default-index_of.is)))

pub at_mut-transaction-requires : goal.at_mut-transaction-requires
at_mut-transaction-requires g c = (found (is_of c.in-Some.tid c.args.from) c.self.inside.standing.items
    c.in-Some-index_of.index (sym c.index_of.ensures ∙ c.in-Some-index_of.is)).within

pub settle-requires-clause-within : goal.settle-requires-clause-within
settle-requires-clause-within g c = omega (
  arith,
  length-set c.self.inside.standing.items c.in-Some-index_of.index c.hear.new.self,
  (found (is_of c.in-Some.tid c.args.from) c.self.inside.standing.items c.in-Some-index_of.index (sym c.index_of.ensures
      ∙ c.in-Some-index_of.is)).within,
)

pub settle-requires-clause-filed : goal.settle-requires-clause-filed
settle-requires-clause-filed g c = c.at_mut-transaction.ensures.keyed tid_of c.self.invariant.1 c.hear.new.self
    c.hear.ensures.number

pub returns-clause-ok : goal.returns-clause-ok
returns-clause-ok g c =
    let f = found (is_of c.in-Some.tid c.args.from) c.self.inside.standing.items c.in-Some-index_of.index
    (sym c.index_of.ensures ∙ c.in-Some-index_of.is) in
    let entry : c.at_mut-transaction.result.now ≡ f.entry = entry_is f c.at_mut-transaction.result.now
    c.at_mut-transaction.ensures.value in
    let e = rw entry at c.in_ok-step.ensures.ok in
    rw (← c.self.view_is, c.in-Some.ensures.answer)
    (heard_some (record { next = c.self.inside.next; standing = c.self.inside.standing.items }) c.args.from _ _ _ _
    _ _ c.in-Some-index_of.index c.in_ok-step.step c.hear.new.self c.settle.new.standing.items c.args.out.now
    c.hear.new.out f e c.settle.ensures.items)

pub returns-in_err-step-clause-ignored : goal.returns-in_err-step-clause-ignored
returns-in_err-step-clause-ignored g c =
    let f = found (is_of c.in-Some.tid c.args.from) c.self.inside.standing.items c.in-Some-index_of.index
    (sym c.index_of.ensures ∙ c.in-Some-index_of.is) in
    let entry : c.at_mut-transaction.result.now ≡ f.entry = entry_is f c.at_mut-transaction.result.now
    c.at_mut-transaction.ensures.value in
    let refused = rw entry at c.in_err-step.ensures.ignored in
    rw (← c.self.view_is, c.in-Some.ensures.answer)
    (λ h. absurd (true≢false
    (sym (refused (no_effect_some _ (record { next = c.self.inside.next; standing = c.self.inside.standing.items })
    c.args.from _ _ _ _ _ _ c.in-Some-index_of.index f h)))))

pub invariant_of-self-2 : goal.invariant_of-self-2
invariant_of-self-2 g c =
    let r : Requests = record { next = c.self.inside.next; standing = c.self.inside.standing.items } in
    let f = found (is_of c.in-Some.tid c.args.from) c.self.inside.standing.items c.in-Some-index_of.index
    (sym c.index_of.ensures ∙ c.in-Some-index_of.is) in
    let entry : c.at_mut-transaction.result.now ≡ f.entry = entry_is f c.at_mut-transaction.result.now
    c.at_mut-transaction.ensures.value in
    let e = rw entry at c.in_ok-step.ensures.ok in
    let h = heard_some r c.args.from _ _ _ _ _ _ c.in-Some-index_of.index c.in_ok-step.step c.hear.new.self
    c.settle.new.standing.items c.args.out.now c.hear.new.out f e c.settle.ensures.items in (
      subst IsRequester (sym h.is_new) (heard_lawful g.row.A.Denot r c.args.from
          (Response c.in-Some.arriving.sequence_number c.in-Some.arriving.eom c.in-Some.arriving.sts c.in-Some.tid
          c.in-Some.arriving.user c.in-Some.arriving.bytes.now) c.self.invariant.0),
      c.settle.ensures.filed,
    )

pub invariant_of-self : goal.invariant_of-self
invariant_of-self g c =
    let r : Requests = record { next = c.self.inside.next; standing = c.self.inside.standing.items } in
    let f = found (is_of c.in-Some.tid c.args.from) r.standing c.in-Some-index_of.index
    (sym c.index_of.ensures ∙ c.in-Some-index_of.is) in
    let same : (c.hear.new.self).tid ≡ (f.entry).tid = c.hear.ensures.number
    ∙ ap tid_of (entry_is f c.at_mut-transaction.result.now c.at_mut-transaction.ensures.value) in (
      set_lawful r c.in-Some.tid c.in-Some-index_of.index (is_of c.in-Some.tid c.args.from) c.hear.new.self
          (λ x p. of_number c.in-Some.tid c.args.from x p) f same c.self.invariant.0,
      c.at_mut-transaction.ensures.keyed tid_of c.self.invariant.1 c.hear.new.self c.hear.ensures.number,
    )

pub returns-in_err-step-clause-unchanged : goal.returns-in_err-step-clause-unchanged
returns-in_err-step-clause-unchanged g c =
    let same = set_back c.self.inside.standing.items c.in-Some-index_of.index c.at_mut-transaction.result.now
    c.hear.new.self c.at_mut-transaction.ensures.value c.in_err-step.ensures.unchanged in
    let all : record {
      next = c.self.inside.next;
      standing = set c.self.inside.standing.items c.in-Some-index_of.index c.hear.new.self;
    } ≡ c.args.self.now = (λ j. record { next = c.self.inside.next; standing = same j }) ∙ c.self.view_is in
    search rules
