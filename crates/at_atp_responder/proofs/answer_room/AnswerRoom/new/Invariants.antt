use Rattle.std.proofs.Common.{◌≡◌, ◌≤◌, vec_len, vec_capacity}
use Rattle.at_atp_responder.proofs.answer_room.AnswerRoom.new.Given as goal

abbrev pub invariant-loop : goal.invariant-loop
invariant-loop g l = (vec_len l.list ≡ 0) × (8 ≤ vec_capacity l.list) × (vec_len l.places ≡ l.counter)
    × (8 ≤ vec_capacity l.places)
