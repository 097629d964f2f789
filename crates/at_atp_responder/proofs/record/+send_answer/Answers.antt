use Rattle.std.proofs.lemmas.Grind.{common_steps}
use Rattle.std.proofs.Common.{rules, ℕ, subst, arith}
use Rattle.at_ddp.specs.Sending.{HasRoomFor}
use Rattle.at_atp_responder.proofs.RecordLemmas.{fit_rest, rest_is_less}
use Rattle.at_atp_responder.proofs.record.+send_answer.Goals as goal

pub send_answer-requires : goal.send_answer-requires
send_answer-requires g t c = λ κs h.
    let packets = c.args.packets.now in
    let room = subst (λ (n : ℕ). HasRoomFor c.args.out.now n 586)
    (rest_is_less c.args.packets.now (omega arith)) c.requires.room in (
      search rules,
      (
        search rules,
        (fit_rest c.args.packets.now c.requires.fits, (search rules, c.send_if.ensures.room _ room)),
      ),
    )

pub returns-in-len1-up-clause-sent : goal.returns-in-len1-up-clause-sent
returns-in-len1-up-clause-sent g t c = grind (arith, common_steps)
