use Rattle.std.proofs.Common.{◌≤◌, ◌≡◌, List, length, true, subst, ap, ◌∙◌}
use Rattle.std.specs.Prelude.{find}
use Rattle.at_ddp.specs.Sending.{Sends}
use Rattle.at_atp_frame.specs.Frames.{spelled_all}
use Rattle.at_atp_frame.specs.Packets.{Packet}
use Rattle.at_atp_responder.specs.Records.{is_key, fit, Record, asked_for, after_answer}
use Rattle.at_atp_responder.proofs.responder.Responder.hand_over.Goals as goal

pub settle-requires-clause-few : goal.settle-requires-clause-few
settle-requires-clause-few g c =
    subst (λ (ps : List Packet). length ps ≤ 8) c.as_slice.ensures c.in_ok-sent.ensures.few

pub settle-requires-clause-fits : goal.settle-requires-clause-fits
settle-requires-clause-fits g c =
    subst (λ (ps : List Packet). fit ps ≡ true) c.as_slice.ensures c.in_ok-sent.ensures.fits

pub returns-clause-ok : goal.returns-clause-ok
returns-clause-ok g c =
    let same = c.self.view_is in
    let sent = subst (λ (ps : List Packet). Sends c.args.out.now c.send_asked.new.out
    (spelled_all (asked_for (find (is_key c.args.key) c.self.inside.records) c.args.key ps))) c.as_slice.ensures
    c.in_ok-sent.ensures.sent in
    let count = c.in_ok-sent.ensures.counts
    ∙ ap (λ (ps : List Packet). length (asked_for (find (is_key c.args.key) c.self.inside.records) c.args.key ps))
    c.as_slice.ensures in record {
      is_new = c.settle.ensures.settled ∙ ap (λ rs. after_answer rs c.args.key c.args.packets) c.self.view_is;
      sends = subst (λ (rs : List Record). Sends c.args.out.now c.send_asked.new.out
          (spelled_all (asked_for (find (is_key c.args.key) rs) c.args.key c.args.packets))) same sent;
      counts = count ∙ ap (λ (rs : List Record). length
          (asked_for (find (is_key c.args.key) rs) c.args.key c.args.packets)) same;
    }
