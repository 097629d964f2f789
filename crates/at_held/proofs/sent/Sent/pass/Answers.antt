use Rattle.std.proofs.Common.{◌∙◌, ◌+◌, ◌<◌, ◌≤◌, ◌++◌, ap, append-nil, arith, drop, length, subst, sym}
use Rattle.std.proofs.lemmas.Bool.Decides.{nat_tests}
use Rattle.at_ddp.specs.Outbox.{Outbox as Content}
use Rattle.at_held.specs.Waiting.{waiting_of}
use Rattle.at_held.proofs.WaitingLemmas.{behind, turned}
use Rattle.at_held.proofs.sent.Sent.pass.Goals as goal

pub returns-then-left-gt1 : goal.returns-then-left-gt1
returns-then-left-gt1 c =
    let earlier = c.self.inside.earlier.items in let taken = c.self.inside.taken in
    let some : taken + 1 ≤ length earlier = grind (arith, nat_tests, c.if-left-gt1.true, c.len.ensures) in
    behind earlier taken c.self.inside.later.items some ∙ ap (λ w. drop 1 (waiting_of w)) c.self.view_is

pub returns-else-left-gt1 : goal.returns-else-left-gt1
returns-else-left-gt1 c =
    let earlier = c.self.inside.earlier.items in let taken = c.self.inside.taken in
    let later = c.self.inside.later.items in
    let few : length earlier ≤ taken + 1 = grind (arith, nat_tests, c.if-left-gt1.false, c.len.ensures) in
    let some = subst (λ w. 0 < length (waiting_of w)) (sym c.self.view_is) c.requires in
    ap (λ (d : Content). d.items ++ (c.swap.new.y).items) c.swap.ensures.x_after
    ∙ ap (λ l. later ++ l) (ap (λ (d : Content). d.items) c.swap.ensures.y_after ∙ c.clear.ensures.items)
    ∙ append-nil later
    ∙ sym (turned earlier taken later c.self.invariant.0 c.self.invariant.1 few some)
    ∙ ap (λ w. drop 1 (waiting_of w)) c.self.view_is
