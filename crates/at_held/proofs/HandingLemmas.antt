-- What is handed out where there is no text.
use Rattle.std.proofs.Common.{◌≡◌, ℕ, [], List, Result, Ok, Err, ap, arith, refl}
use Rattle.at_held.specs.Handing.{HandsText}
use Rattle.at_held.specs.declared.withheld.Withheld.{Withheld}
use Rattle.at_held.specs.declared.withheld.Withheld.TheVariants as withheld

pub nothing_placed : (before after : List ℕ) (answer : Result ℕ Withheld) → HandsText [] before answer after
    → ¬ (answer ≡ Err withheld.NoMemory) → answer ≡ Ok 0
nothing_placed before after (Ok count) h some = ap Ok h.0
nothing_placed before after (Err withheld.NoMemory) h some = absurd (some refl)
nothing_placed before after (Err withheld.Missing) h some = absurd (omega (arith, h.1))
nothing_placed before after (Err (withheld.TooLong count)) h some = absurd (omega (arith, h.1))
