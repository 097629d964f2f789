use Rattle.std.proofs.Common.{◌∙◌, ◌++◌, ap, drop, sym}
use Rattle.at_held.specs.Waiting.{waiting_of}
use Rattle.at_held.proofs.WaitingLemmas.{first_is}
use Rattle.at_held.proofs.sent.Sent.first.Goals as goal

pub returns : goal.returns
returns c =
    let earlier = c.self.inside.earlier.items in
    let later = c.self.inside.later.items in (
      drop 1 (drop c.self.inside.taken earlier) ++ later,
      ap waiting_of (sym c.self.view_is)
          ∙ ap (λ l. l ++ later)
          (first_is earlier c.self.inside.taken c.node-node.result c.get.result.now c.node-node.ensures c.get.ensures),
    )
