use Rattle.std.proofs.Common.{◌≡◌, [], ap, ◌∙◌, rules}
use Rattle.at_atp_requester.specs.Answers.{AnswerPart, with_part, gathered}
use Rattle.at_atp_requester.specs.Arriving.{arrival_of}
use Rattle.at_atp_requester.specs.Requests.{Transaction}
use Rattle.at_atp_requester.specs.declared.progress.RequestProgress.TheVariants.{Finished}
use Rattle.at_atp_requester.proofs.AnswerLemmas.{gathered-whole}
use Rattle.at_atp_requester.proofs.transaction.Transaction.finish.Goals as goal

pub returns-clause-ok : goal.returns-clause-ok
returns-clause-ok g c = λ packets is.
    let parts : c.replace-parts.result.items
    ≡ with_part c.args.self.now.parts c.args.arriving.now.sequence_number (arrival_of c.args.arriving.now) =
    (λ i. (c.replace-parts.ensures.value i).items) ∙ ap (λ (t : Transaction). t.parts) c.self-2.view_is
    ∙ ap (λ (t : Transaction). t.parts) c.keep_part.ensures
    ∙ ap (λ (p : AnswerPart). with_part c.args.self.now.parts c.args.arriving.now.sequence_number p)
    c.in_ok-part.ensures in
    let all : c.from_vec.result ≡ packets = c.from_vec.ensures ∙ c.gather.ensures
    ∙ (λ i. gathered (c.in_ok-packets.ensures.items i) (parts i))
    ∙ gathered-whole [] (with_part c.args.self.now.parts c.args.arriving.now.sequence_number
    (arrival_of c.args.arriving.now)) packets is in
    (ap Finished all, search rules)
