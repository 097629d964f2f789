use Rattle.std.proofs.Common.{◌≡◌, ◌≤◌, length, take, refl, arith}
use Rattle.std.proofs.lemmas.List.{length-take-le}
use Rattle.at_adsp_end.proofs.QueueLemmas.{left_last, left_sent, left_waiting}
use Rattle.at_adsp_end.proofs.outgoing.Outgoing.acknowledge.Goals as goal

pub returns : goal.returns
returns g c =
    let q = c.self.inside.queue.items in
    let s = c.self.inside.sent in
    let asked = rw (← c.self.view_is) at c.requires in
    let some : length (take s q) ≡ s = length-take-le s q c.self.invariant.0 in
    let k = c.args.k in
    let fits : k ≤ s = omega (arith, asked, some) in
    let within : k ≤ length q = omega (arith, fits, c.self.invariant.0) in
    rw (
      c.number_after-self-inside.ensures,
      c.credit_with-self-inside.ensures,
      c.truncate_front.ensures,
      c.len.ensures.len,
      ← c.self.view_is,
      left_last k q within,
      left_sent s k q fits,
      left_waiting s k q fits,
    ) refl
