use Rattle.std.proofs.Common.{sym, ap, ◌∙◌}
use Rattle.at_atp_requester.specs.Answers.{is_wanted}
use Rattle.at_atp_requester.specs.Requests.{Transaction}
use Rattle.at_atp_requester.proofs.AnswerLemmas.{wanted-within}
use Rattle.at_atp_requester.proofs.transaction.Transaction.wants.Goals as goal

pub returns-clause-within : goal.returns-clause-within
returns-clause-within g c = λ h.
    let parts = c.deref.ensures.value ∙ ap (λ (t : Transaction). t.parts) c.self.view_is in
    wanted-within c.args.self.now.parts c.args.sequence_number
    (ap (λ l. is_wanted l c.args.sequence_number) (sym parts) ∙ sym c.is_wanted.ensures ∙ h)
