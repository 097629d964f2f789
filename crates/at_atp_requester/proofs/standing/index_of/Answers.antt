use Rattle.std.proofs.Common.{None, cond, sym, ap, ◌∙◌}
use Rattle.std.specs.List.{position_from}
use Rattle.std.proofs.lemmas.Option.{get_or_from_slice_get}
use Rattle.at_ddp.proofs.TableLemmas.{found}
use Rattle.at_atp_requester.specs.Requests.{is_numbered, is_of}
use Rattle.at_atp_requester.proofs.StandingLemmas.{not_of, of_numbered}
use Rattle.at_atp_requester.proofs.standing.index_of.Goals as goal

pub returns-in_err-index : goal.returns-in_err-index
returns-in_err-index g c = c.from_residual.ensures
    ∙ sym (not_of c.args.tid c.args.from c.args.standing.now.items
    (sym c.index_numbered.ensures.first ∙ c.in_err-index.was))

pub returns-then-is_of : goal.returns-then-is_of
returns-then-is_of g c =
    let at = sym c.index_numbered.ensures.first ∙ c.in_ok-index.was in
    let f = found (is_numbered c.args.tid) c.args.standing.now.items c.in_ok-index.index at in
    let entry = sym (get_or_from_slice_get c.args.standing.now.items c.in_ok-index.index c.at-transaction.result.now
    c.at-transaction.result.now c.at-transaction.ensures) ∙ f.at c.at-transaction.result.now in
    sym (of_numbered c.args.tid c.args.from 0 c.args.standing.now.items f.entry c.requires.differ f.first
    ∙ (λ j. cond (is_of c.args.tid c.args.from (sym entry j))
    (position_from (is_numbered c.args.tid) 0 c.args.standing.now.items) None)
    ∙ ap (λ b. cond b (position_from (is_numbered c.args.tid) 0 c.args.standing.now.items) None)
    (sym c.is_of.ensures ∙ c.if-is_of.true) ∙ at)

pub returns-else-is_of : goal.returns-else-is_of
returns-else-is_of g c =
    let at = sym c.index_numbered.ensures.first ∙ c.in_ok-index.was in
    let f = found (is_numbered c.args.tid) c.args.standing.now.items c.in_ok-index.index at in
    let entry = sym (get_or_from_slice_get c.args.standing.now.items c.in_ok-index.index c.at-transaction.result.now
    c.at-transaction.result.now c.at-transaction.ensures) ∙ f.at c.at-transaction.result.now in
    sym (of_numbered c.args.tid c.args.from 0 c.args.standing.now.items f.entry c.requires.differ f.first
    ∙ (λ j. cond (is_of c.args.tid c.args.from (sym entry j))
    (position_from (is_numbered c.args.tid) 0 c.args.standing.now.items) None)
    ∙ ap (λ b. cond b (position_from (is_numbered c.args.tid) 0 c.args.standing.now.items) None)
    (sym c.is_of.ensures ∙ c.if-is_of.false))
