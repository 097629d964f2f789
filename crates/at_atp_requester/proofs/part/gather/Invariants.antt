use Rattle.std.proofs.Common.{◌≡◌, ◌+◌, ◌≤◌, length, vec_len, vec_capacity}
use Rattle.at_atp_requester.specs.Answers.{gathered}
use Rattle.at_atp_requester.proofs.part.gather.Given as goal

-- what is left goes on from the packets so far, and there is room for it
abbrev pub invariant-loop-parts : goal.invariant-loop-parts
invariant-loop-parts g l = record {
  goes_on : gathered l.packets.items l.parts.items ≡ gathered l.initial.packets.items l.initial.parts.items;
  room : vec_len l.packets + length l.parts.items ≤ vec_capacity l.packets;
}

abbrev pub decreases-loop-parts : goal.decreases-loop-parts
decreases-loop-parts g l = length l.parts.items
