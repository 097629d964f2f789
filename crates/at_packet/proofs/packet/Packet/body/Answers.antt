use Rattle.std.proofs.Common.{List, ℕ, subst}
use Rattle.std.specs.Prelude.{◌≡◌, IsOkAnd}
use Rattle.at_ddp.specs.Datagram.{BeginsWith, Content}
use Rattle.at_packet.specs.Bodies.{datagram_of}
use Rattle.at_packet.proofs.packet.Packet.body.Goals as goal

pub returns-in-Ok-clause-only : goal.returns-in-Ok-clause-only
returns-in-Ok-clause-only c d rest begins =
    let only = subst (λ bytes. (d : Content) (rest : List ℕ) → BeginsWith bytes d rest
    → IsOkAnd c.self.inside.body (λ b. datagram_of b ≡ d)) c.self.view_is c.self.invariant.only d rest begins in
    rw c.in-Ok.is at only

pub returns-in-Err-clause-only : goal.returns-in-Err-clause-only
returns-in-Err-clause-only c d rest begins =
    let only = subst (λ bytes. (d : Content) (rest : List ℕ) → BeginsWith bytes d rest
    → IsOkAnd c.self.inside.body (λ b. datagram_of b ≡ d)) c.self.view_is c.self.invariant.only d rest begins in
    rw c.in-Err.is at only
