use Rattle.std.proofs.Common.{arith}
use Rattle.std.proofs.lemmas.List.{length-take-le}
use Rattle.at_adsp_end.proofs.QueueLemmas.{advanced}
use Rattle.at_adsp_end.proofs.outgoing.Outgoing.advance.Goals as goal

pub returns : goal.returns
returns g c =
    let o = c.self.inside in
    rw (c.count_going-count.ensures.count, ← c.self.view_is)
    (λ i. record { sender = advanced o.front o.sent o.credit o.queue.items o.resetting i; room = o.queue.capacity })

pub overflow_add-self : goal.overflow_add-self
overflow_add-self g c =
    let within = rw (← c.self.view_is) at c.count_going-count.ensures.within in
    let some = length-take-le c.self.inside.sent c.self.inside.queue.items c.self.invariant.0 in
    omega (arith, within, some)
