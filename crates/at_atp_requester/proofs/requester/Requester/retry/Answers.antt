use Rattle.std.proofs.Common.{◌≡◌, refl, sym, ap, subst, ◌∙◌, arith}
use Rattle.std.proofs.lemmas.Bool.{eqb-true}
use Rattle.at_ddp.specs.Tables.{without_first}
use Rattle.at_atp_requester.specs.Requests.{Requests, Transaction, IsRequester, is_numbered}
use Rattle.at_atp_requester.proofs.DifferLemmas.{set_lawful, without_lawful}
use Rattle.at_atp_requester.proofs.StepLemmas.{remove-set}
use Rattle.at_atp_requester.proofs.RetryLemmas.{not_open, is_open, asked_again, closed, not_closing, closes_nothing}
use Rattle.std.proofs.lemmas.List.{length-set}
use Rattle.at_ddp.proofs.FoundLemmas.{entry_is, set_back}
use Rattle.at_atp_requester.specs.Standing.{tid_of}
use Rattle.at_ddp.proofs.TableLemmas as places
use Rattle.at_ddp.proofs.TableLemmas.{Found, not_found}
use Rattle.at_atp_requester.proofs.requester.Requester.retry.Given.{Over}
use Rattle.at_atp_requester.proofs.requester.Requester.retry.Goals as goal
use Rattle.at_atp_requester.proofs.requester.Requester.retry.Goals.{After-index_numbered, After-take_retry, In-Some}

abbrev requests : (g : Over) → After-index_numbered g → Requests
requests g c = record { next = c.self.inside.next; standing = c.self.inside.standing.items }

found : (g : Over) (c : In-Some g) → Found (is_numbered c.args.tid) c.self.inside.standing.items c.in-Some.index
found g c = places.found (is_numbered c.args.tid) c.self.inside.standing.items c.in-Some.index
    (sym c.index_numbered.ensures.first ∙ c.in-Some.is)

-- the transaction that was lent is the one that was found
lent : (g : Over) (c : After-take_retry g)
    (f : Found (is_numbered c.args.tid) c.self.inside.standing.items c.in-Some.index)
    → c.at_mut-transaction.result.now ≡ f.entry
lent g c f = entry_is f c.at_mut-transaction.result.now c.at_mut-transaction.ensures.value

pub returns-in_default-clause-missing : goal.returns-in_default-clause-missing
returns-in_default-clause-missing g c =
    let r = requests g (goal.at.returns-in_default-clause-missing g c).After-index_numbered in
    let none = not_open r c.args.tid
    (not_found (is_numbered c.args.tid) 0 c.self.inside.standing.items (sym c.index_numbered.ensures.first
    ∙ c.in_default.is)) in
    rw (← c.self.view_is) (λ wrong. none, λ nothing. refl)

pub returns-in_default-clause-closes : goal.returns-in_default-clause-closes
returns-in_default-clause-closes g c =
    let r = requests g (goal.at.returns-in_default-clause-closes g c).After-index_numbered in
    let none = not_open r c.args.tid
    (not_found (is_numbered c.args.tid) 0 c.self.inside.standing.items (sym c.index_numbered.ensures.first
    ∙ c.in_default.is)) in
    rw (← c.self.view_is) (closes_nothing r c.args.tid _ none)

pub at_mut-transaction-requires : goal.at_mut-transaction-requires
at_mut-transaction-requires g c =
    let f = found g (goal.at.at_mut-transaction-requires g c).In-Some in
    f.within

pub remove-requires : goal.remove-requires
remove-requires g c =
    let f = found g (goal.at.remove-requires g c).In-Some in
    omega (arith, f.within, length-set c.self.inside.standing.items c.in-Some.index c.take_retry.new.self)

pub returns-in-Err-clause-missing : goal.returns-in-Err-clause-missing
returns-in-Err-clause-missing g c =
    let r = requests g (goal.at.returns-in-Err-clause-missing g c).After-index_numbered in
    let f = found g (goal.at.returns-in-Err-clause-missing g c).In-Some in
    rw (← c.self.view_is) (λ wrong. absurd (cc), λ none. absurd (is_open r c.args.tid c.in-Some.index f none))

pub returns-in-Err-clause-closes : goal.returns-in-Err-clause-closes
returns-in-Err-clause-closes g c =
    let r = requests g (goal.at.returns-in-Err-clause-closes g c).After-index_numbered in
    let f = found g (goal.at.returns-in-Err-clause-closes g c).In-Some in
    let entry = lent g (goal.at.returns-in-Err-clause-closes g c).After-take_retry f in
    let left = rw entry at c.in-Err.ensures.none in
    rw (← c.self.view_is) (not_closing r c.args.tid c.in-Some.index f _ (λ zero. let wrong = left zero in absurd (cc)))

pub returns-in-Ok-true-clause-ok : goal.returns-in-Ok-true-clause-ok
returns-in-Ok-true-clause-ok g c =
    let r = requests g (goal.at.returns-in-Ok-true-clause-ok g c).After-index_numbered in
    let f = found g (goal.at.returns-in-Ok-true-clause-ok g c).In-Some in
    let entry = lent g (goal.at.returns-in-Ok-true-clause-ok g c).After-take_retry f in
    rw (← c.self.view_is) (asked_again r c.args.tid c.in-Some.index f c.at_mut-transaction.result.now
    c.take_retry.new.self c.args.out.now c.take_retry.new.out entry
    (sym c.in-Ok-true.field-0-test ∙ c.in-Ok-true.ensures.taken) c.in-Ok-true.ensures.state
    c.in-Ok-true.ensures.sent)

pub returns-in-Ok-true-clause-missing : goal.returns-in-Ok-true-clause-missing
returns-in-Ok-true-clause-missing g c =
    let r = requests g (goal.at.returns-in-Ok-true-clause-missing g c).After-index_numbered in
    let f = found g (goal.at.returns-in-Ok-true-clause-missing g c).In-Some in
    rw (← c.self.view_is) (λ wrong. absurd (cc), λ none. absurd (is_open r c.args.tid c.in-Some.index f none))

pub returns-in-Ok-false-clause-ok : goal.returns-in-Ok-false-clause-ok
returns-in-Ok-false-clause-ok g c =
    let r = requests g (goal.at.returns-in-Ok-false-clause-ok g c).After-index_numbered in
    let f = found g (goal.at.returns-in-Ok-false-clause-ok g c).In-Some in
    let entry = lent g (goal.at.returns-in-Ok-false-clause-ok g c).After-take_retry f in
    rw (← c.self.view_is) (closed r c.args.tid c.in-Some.index f c.at_mut-transaction.result.now
    c.take_retry.new.self c.remove.new.self.items c.args.out.now c.take_retry.new.out entry
    (sym c.in-Ok-false.field-0-test ∙ c.in-Ok-false.ensures.taken) c.in-Ok-false.ensures.sent
    c.remove.ensures.items)

pub returns-in-Ok-false-clause-missing : goal.returns-in-Ok-false-clause-missing
returns-in-Ok-false-clause-missing g c =
    let r = requests g (goal.at.returns-in-Ok-false-clause-missing g c).After-index_numbered in
    let f = found g (goal.at.returns-in-Ok-false-clause-missing g c).In-Some in
    rw (← c.self.view_is) (λ wrong. absurd (cc), λ none. absurd (is_open r c.args.tid c.in-Some.index f none))

pub invariant_of-self-in-Ok-true : goal.invariant_of-self-in-Ok-true
invariant_of-self-in-Ok-true g c =
    let r = requests g (goal.at.invariant_of-self-in-Ok-true g c).After-index_numbered in
    let f = found g (goal.at.invariant_of-self-in-Ok-true g c).In-Some in
    let entry = lent g (goal.at.invariant_of-self-in-Ok-true g c).After-take_retry f in
    let same : (c.take_retry.new.self).tid ≡ (f.entry).tid = ap (λ (t : Transaction). t.tid) c.in-Ok-true.ensures.state
    ∙ ap (λ (t : Transaction). t.tid) entry in (
      set_lawful r c.args.tid c.in-Some.index (is_numbered c.args.tid) c.take_retry.new.self
          (λ x p. eqb-true x.tid c.args.tid p) f same c.self.invariant.0,
      c.at_mut-transaction.ensures.keyed tid_of c.self.invariant.1 c.take_retry.new.self
          (ap tid_of c.in-Ok-true.ensures.state),
    )

pub invariant_of-self-in-Ok-false : goal.invariant_of-self-in-Ok-false
invariant_of-self-in-Ok-false g c =
    let r = requests g (goal.at.invariant_of-self-in-Ok-false g c).After-index_numbered in
    let f = found g (goal.at.invariant_of-self-in-Ok-false g c).In-Some in
    let gone : c.remove.new.self.items ≡ without_first (is_numbered c.args.tid) c.self.inside.standing.items =
    c.remove.ensures.items ∙ remove-set c.self.inside.standing.items c.in-Some.index c.take_retry.new.self
    ∙ sym f.gone_is in (
      subst (λ l. IsRequester (record { next = c.self.inside.next; standing = l })) (sym gone)
          (without_lawful r (is_numbered c.args.tid) c.self.invariant.0),
      c.remove.ensures.keyed tid_of (c.at_mut-transaction.ensures.keyed tid_of c.self.invariant.1 c.take_retry.new.self
          (ap tid_of c.in-Ok-false.ensures.state)),
    )

pub invariant_of-self : goal.invariant_of-self
invariant_of-self g c =
    let r = requests g (goal.at.invariant_of-self g c).After-index_numbered in
    let f = found g (goal.at.invariant_of-self g c).In-Some in
    let kept : c.take_retry.new.self ≡ c.at_mut-transaction.result.now = c.in-Err.ensures.unchanged in
    let same : (c.take_retry.new.self).tid ≡ (f.entry).tid = ap tid_of kept
    ∙ ap tid_of (entry_is f c.at_mut-transaction.result.now c.at_mut-transaction.ensures.value) in (
      set_lawful r c.args.tid c.in-Some.index (is_numbered c.args.tid) c.take_retry.new.self
          (λ x p. eqb-true x.tid c.args.tid p) f same c.self.invariant.0,
      c.at_mut-transaction.ensures.keyed tid_of c.self.invariant.1 c.take_retry.new.self (ap tid_of kept),
    )

pub returns-in-Err-clause-unchanged : goal.returns-in-Err-clause-unchanged
returns-in-Err-clause-unchanged g c =
    let same = set_back c.self.inside.standing.items c.in-Some.index c.at_mut-transaction.result.now
    c.take_retry.new.self c.at_mut-transaction.ensures.value c.in-Err.ensures.unchanged in
    (λ j. record { next = c.self.inside.next; standing = same j }) ∙ c.self.view_is
