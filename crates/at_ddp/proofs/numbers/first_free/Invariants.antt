use Rattle.std.proofs.Common.{◌≡◌, Bool, ◌-◌}
use Rattle.at_ddp.specs.Numbers.{first_free}
use Rattle.at_ddp.proofs.numbers.first_free.Given as goal

-- what is left to try leads to the same number
abbrev pub invariant-loop-try : goal.invariant-loop-try
invariant-loop-try g l =
    (next : _ → _) → (used : _ → Bool) → ((n after : _) → goal.Next-post g l.fn.following n after → after ≡ next n)
    → ((n : _) → (is : Bool) → goal.Used-post g l.fn.in_use n is → is ≡ used n)
    → first_free next used l.fn.tries l.fn.first ≡ first_free next used (l.fn.tries - l._try) l.number
