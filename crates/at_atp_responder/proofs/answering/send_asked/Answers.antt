use Rattle.std.proofs.Common.{length, ap, ◌∙◌}
use Rattle.at_atp_responder.proofs.AnsweringLemmas.{asked_by}
use Rattle.at_atp_responder.proofs.answering.send_asked.Goals as goal

pub returns-clause-counts : goal.returns-clause-counts
returns-clause-counts g c = c.send_answer-count.ensures.count
    ∙ ap length (asked_by c.args.records.now c.args.key c.args.packets.now c.in_ok-request.request.bitmap
    c.in_ok-request.ensures.accepts c.in_ok-request.ensures.bitmap)
