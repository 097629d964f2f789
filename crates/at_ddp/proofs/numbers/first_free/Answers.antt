use Rattle.std.proofs.Common.{◌≡◌, ◌∙◌, ◌+◌, ◌-◌, sym, ap, arith, true, false}
use Rattle.at_ddp.specs.Numbers.{first_free}
use Rattle.at_ddp.proofs.NumberLemmas.{first_free-step}
use Rattle.at_ddp.proofs.numbers.first_free.Goals as goal

pub loop-try-init : goal.loop-try-init
loop-try-init g c next used follows tests =
    let all : c.args.tries ≡ c.args.tries - 0 = omega arith in
    ap (λ n. first_free next used n c.args.first) all

pub returns-then-not-in_use : goal.returns-then-not-in_use
returns-then-not-in_use g c next used follows tests =
    sym (c.loop-try.invariant next used follows tests ∙ first_free-step next used (c.args.tries - c.loop-try._try)
    c.loop-try.number false (λ none. omega (arith, none, c.loop-try-test.true)) (sym (tests _ _ c.in_use.ensures) ∙ c.if-not-in_use.true))

pub loop-try-preserved : goal.loop-try-preserved
loop-try-preserved g c next used follows tests =
    let left : c.args.tries - c.loop-try._try - 1 ≡ c.args.tries - (c.loop-try._try + 1) = omega arith in
    c.loop-try.invariant next used follows tests ∙ first_free-step next used (c.args.tries - c.loop-try._try)
    c.loop-try.number true (λ none. omega (arith, none, c.loop-try-test.true)) (sym (tests _ _ c.in_use.ensures) ∙ c.if-not-in_use.false)
    ∙ (λ i. first_free next used (left i) (sym (follows _ _ c.following-number.ensures) i))

pub returns : goal.returns
returns g c next used follows tests =
    let none_left : c.args.tries - c.loop-try._try ≡ 0 = omega (arith, c.loop-try-test.false) in
    sym (c.loop-try.invariant next used follows tests
    ∙ ap (λ n. first_free next used n c.loop-try.number) none_left)
