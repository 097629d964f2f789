use Rattle.std.proofs.Common.{length, ap, ◌∙◌}
use Rattle.std.proofs.lemmas.Result.{on_ok_weaker}
use Rattle.at_adsp_end.specs.Ends.{EndState}
use Rattle.at_adsp_end.proofs.HearingLemmas.{hearing_load}
use Rattle.at_adsp_end.proofs.end.End.make_room.Goals as goal

pub returns-clause-ok : goal.returns-clause-ok
returns-clause-ok g c =
    let to = c.args.self.now.asked in
    let n = c.sent.ensures ∙ ap (λ (e : EndState). length e.sender.unacknowledged) c.self.view_is in
    let is = hearing_load c.count_segments-load.result to c.args.self.now c.args.advance.window c.args.advance.acks
    _ _ n c.count_going_after-going.ensures.count (c.count_segments-load.ensures.load to) in
    on_ok_weaker c.room.result
    (λ room later more. room to _ (c.plus.ensures to _ later is more)) c.room.ensures.ok

pub returns-clause-succeeds : goal.returns-clause-succeeds
returns-clause-succeeds g c later more h =
    let to = c.args.self.now.asked in
    let n = c.sent.ensures ∙ ap (λ (e : EndState). length e.sender.unacknowledged) c.self.view_is in
    let is = hearing_load c.count_segments-load.result to c.args.self.now c.args.advance.window c.args.advance.acks
    _ _ n c.count_going_after-going.ensures.count (c.count_segments-load.ensures.load to) in
    c.room.ensures.succeeds to _ (c.plus.ensures to _ later is more) h
