-- The items of a segment that are not received yet.
use Rattle.std.proofs.Common.{◌≡◌, ℕ, zero, suc, ◌≤◌, Bool, List, [], ◌∷◌, length, drop, refl}
use Rattle.std.proofs.Common.{arith}
use Rattle.at_adsp_end.specs.Cuts.{items_in}

pub items_dropped : (end : Bool) (bytes : List ℕ) (d : ℕ) → d ≤ length bytes → drop d (items_in end bytes)
    ≡ items_in end (drop d bytes)
items_dropped end bytes zero h = refl
items_dropped end [] (suc d) h = absurd (omega (arith, h))
items_dropped end (b ∷ bytes) (suc d) h = items_dropped end bytes d (omega (arith, h))
