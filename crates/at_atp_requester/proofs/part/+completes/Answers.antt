use Rattle.std.proofs.Common.{sym, ◌∙◌, arith, rules}
use Rattle.std.proofs.lemmas.List.{take_rest}
use Rattle.at_atp_requester.proofs.AnswerLemmas.{whole_past}
use Rattle.at_atp_requester.proofs.part.+completes.Goals as goal

pub returns-else-ends_answer : goal.returns-else-ends_answer
returns-else-ends_answer g t c = λ part ends. rw take_rest at (c.completes.ensures part ends)
    ∙ sym (whole_past c.args.parts.now c.args.sequence_number c.in-Some.part part c.first-item.result
    (omega arith) c.first-item.is c.in-Some.is (sym c.ends_answer.ensures ∙ c.if-ends_answer.false)
    c.if-sequence_number-eq0.false)

pub returns-in-None : goal.returns-in-None
returns-in-None g t c = search rules
