use Rattle.std.proofs.Common.{◌+◌, ◌-◌, ◌≤◌, length, refl, arith}
use Rattle.std.proofs.lemmas.List.{length-drop, take-take}
use Rattle.at_adsp_end.proofs.QueueLemmas.{back_waiting}
use Rattle.at_adsp_end.proofs.outgoing.Outgoing.take_back.Goals as goal

pub returns : goal.returns
returns g c =
    let q = c.self.inside.queue.items in
    let s = c.self.inside.sent in
    let n = c.args.count in
    let asked = rw (← c.self.view_is) at c.requires in
    let rest = length-drop s q in
    let fits : s + n ≤ length q = omega (arith, asked, rest, c.self.invariant.0) in
    let few : s ≤ length q - n = omega (arith, fits) in
    rw (
      c.truncate_back.ensures,
      c.len.ensures.len,
      ← c.self.view_is,
      take-take s
          (length q - n) q few,
      back_waiting s n q fits,
    ) refl
