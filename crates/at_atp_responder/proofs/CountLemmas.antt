-- How many records stand.
use Rattle.std.proofs.Common.{◌≡◌, ◌≤◌, Bool, true, false, cond, List, [], ◌∷◌, length, refl, arith}
use Rattle.at_atp_responder.specs.Records.{Record}
use Rattle.at_ddp.specs.Tables.{replaced, without_first}

-- a record that changes leaves as many
pub as_many : (p : Record → Bool) (y : Record) (rs : List Record) → length (replaced p y rs) ≡ length rs
as_many p y [] = refl
as_many p y (r ∷ rs) = go (p r) (as_many p y rs)
  where
    go : (b : Bool) → length (replaced p y rs) ≡ length rs → length (cond b (y ∷ rs) (r ∷ replaced p y rs))
        ≡ length (r ∷ rs)
    go true ih = omega arith
    go false ih = omega (arith, ih)

-- a record that goes leaves no more
pub no_more : (p : Record → Bool) (rs : List Record) → length (without_first p rs) ≤ length rs
no_more p [] = omega arith
no_more p (r ∷ rs) = go (p r) (no_more p rs)
  where
    go : (b : Bool) → length (without_first p rs) ≤ length rs
        → length (cond b rs (r ∷ without_first p rs)) ≤ length (r ∷ rs)
    go true ih = omega arith
    go false ih = omega (arith, ih)
