use Rattle.std.proofs.Common.{◌≡◌, subst}
use Rattle.at_words.specs.Numbers.{IsCount}
use Rattle.at_schedule.proofs.event_line.delivery.Goals as goal

pub returns-in_err-datagram-clause-only : goal.returns-in_err-datagram-clause-only
returns-in_err-datagram-clause-only c none datagram node (k, n, is, says, far) =
    let same : k ≡ c.in_ok-next.field-0.now = cc (is, c.in_ok-next.ensures.steps) in
    c.in_err-datagram.ensures datagram (subst (λ v. IsCount v datagram) same says)
