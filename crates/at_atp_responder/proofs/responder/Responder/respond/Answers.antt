use Rattle.std.proofs.lemmas.Grind.{common_steps}
use Rattle.std.proofs.Common.{arith, List, length, sym, subst, ap, ◌∙◌}
use Rattle.std.specs.Prelude.{find}
use Rattle.at_ddp.specs.Sending.{Sends}
use Rattle.at_atp_frame.specs.Frames.{spelled_all}
use Rattle.at_atp_responder.specs.Records.{is_key, Record, answer_fault, asked_for, after_answer}
use Rattle.at_atp_responder.proofs.responder.Responder.respond.Goals as goal

pub returns-clause-ok : goal.returns-clause-ok
returns-clause-ok g c =
    let same = c.self.view_is in record {
      is_new = c.settle_copy.ensures.settled ∙ ap (λ rs. after_answer rs c.args.key c.args.packets.now) c.self.view_is;
      sends = subst (λ (rs : List Record). Sends c.args.out.now c.send_asked.new.out
          (spelled_all (asked_for (find (is_key c.args.key) rs) c.args.key c.args.packets.now))) same
          c.in_ok-sent.ensures.sent;
      counts = c.in_ok-sent.ensures.counts
          ∙ ap (λ (rs : List Record). length (asked_for (find (is_key c.args.key) rs) c.args.key c.args.packets.now))
          same;
    }

pub returns-clause-refuses : goal.returns-clause-refuses
returns-clause-refuses g c =
    rw (sym (ap (λ (rs : List Record). answer_fault rs c.args.key c.args.packets.now) c.self.view_is)
    ∙ c.in_ok-sent.ensures.accepts) tt

pub returns-in_err-sent-clause-memory : goal.returns-in_err-sent-clause-memory
returns-in_err-sent-clause-memory g c = λ h.
    let told = c.in_err-sent.ensures.memory
    (ap (λ (rs : List Record). answer_fault rs c.args.key c.args.packets.now)
    (c.self.view_is) ∙ h) in grind (told, arith, common_steps)
