use Rattle.std.proofs.Common.{◌≡◌, ◌++◌, arith, drop, length, subst, sym}
use Rattle.std.proofs.lemmas.Bool.Decides.{nat_tests}
use Rattle.at_held.proofs.StepLemmas.{alone_waiting, behind_waiting}
use Rattle.at_held.specs.Waiting.{Kept, waiting_of}
use Rattle.at_nodes.specs.Taking.{Takes}
use Rattle.at_held.proofs.sent.Sent.take.Goals as goal

-- The lists change places.
pub returns-then-is_empty-clause-takes : goal.returns-then-is_empty-clause-takes
returns-then-is_empty-clause-takes c =
    let i = c.args.input.now in let node = c.args.node.now in let r = c.take-report.result in
    let new = c.take-report.new.node in let out = c.take-report.new.out.items in
    let earlier = c.self.inside.earlier.items in let taken = c.self.inside.taken in
    let none : length earlier ≡ 0 = grind (arith, nat_tests, c.is_empty.ensures, c.if-is_empty.true) in
    let step = alone_waiting i node new r earlier taken c.self.inside.later.items out none c.self.invariant.0
    c.take-report.ensures.takes in
    let placed : drop taken (c.swap.new.x).items ++ (c.swap.new.y).items ≡ drop taken out ++ earlier =
    (λ j. drop taken (c.swap.ensures.x_after j).items ++ (c.swap.ensures.y_after j).items) in
    subst (λ l. Takes i node (waiting_of c.args.self.now) r new l) (sym placed)
    (subst (λ (k : Kept). Takes i node (waiting_of k) r new (drop taken out ++ earlier)) c.self.view_is step)

-- What is sent waits behind the rest of the later list.
pub returns-else-is_empty-clause-takes : goal.returns-else-is_empty-clause-takes
returns-else-is_empty-clause-takes c =
    let out = c.take-report.new.out.items in let first = drop c.self.inside.taken c.self.inside.earlier.items in
    let step = behind_waiting first c.self.inside.later.items out c.args.node.now c.take-report.new.node
    c.take-report.result c.args.input.now c.take-report.ensures.takes in
    subst (λ (k : Kept). Takes c.args.input.now c.args.node.now (waiting_of k) c.take-report.result
    c.take-report.new.node (first ++ out)) c.self.view_is step
