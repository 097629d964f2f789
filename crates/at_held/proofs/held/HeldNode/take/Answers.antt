use Rattle.std.proofs.Common.{refl, subst}
use Rattle.at_nodes.specs.Taking.{Takes}
use Rattle.at_held.specs.Held.{HeldState}
use Rattle.at_held.specs.Waiting.{waiting_of}
use Rattle.at_held.proofs.StepLemmas.{wants_none}
use Rattle.at_held.proofs.held.HeldNode.take.Goals as goal

pub returns : goal.returns
returns c =
    let r = c.take-report.result in
    let new = c.take-report.new in (
      r,
      subst (λ (h : HeldState). Takes c.args.input.now h.node h.waiting r new.node (waiting_of new.self))
          c.self.view_is c.take-report.ensures.takes,
      wants_none r c.in_default.not-NoMemory,
      refl,
    )
