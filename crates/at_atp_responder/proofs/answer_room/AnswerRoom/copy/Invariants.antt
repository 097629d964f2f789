use Rattle.std.proofs.Common.{◌≡◌, ◌≤◌, ◌+◌, take, vec_len, vec_capacity}
use Rattle.at_atp_responder.proofs.answer_room.AnswerRoom.copy.Given as goal

abbrev pub invariant-loop-packet : goal.invariant-loop-packet
invariant-loop-packet g l = (l.list.items ≡ take l.packet-index l.packets) × (vec_len l.list ≡ l.packet-index)
    × (8 ≤ vec_capacity l.list) × (8 ≤ vec_len l.places + l.packet-index)
