-- Lists whose entries differ, with an entry more or less.
use Rattle.std.proofs.Common.{◌≡◌, Bool, true, false, cond, List, [], ◌∷◌, ◌++◌}
use Rattle.std.specs.List.{AllByRecursion, IsDistinct}
use Rattle.at_ddp.specs.Tables.{without_first}
use Rattle.at_ddp.proofs.Alls.{all_both, all_without}

pub differ_append : {X : Type 0} (same : X → X → Bool) (xs : List X) (x : X) → IsDistinct same xs
    → AllByRecursion (λ y. same y x ≡ false) xs → IsDistinct same (xs ++ x ∷ [])
unfolding IsDistinct
differ_append same [] x h apart = (tt, tt)
differ_append same (y ∷ ys) x h apart =
    (all_both (λ z. same y z ≡ false) ys (x ∷ []) h.0 (apart.0, tt), differ_append same ys x h.1 apart.1)

pub differ_without : {X : Type 0} (same : X → X → Bool) (p : X → Bool) (xs : List X) → IsDistinct same xs
    → IsDistinct same (without_first p xs)
unfolding IsDistinct
differ_without same p [] h = tt
differ_without same p (x ∷ xs) h = go (differ_without same p xs h.1) (p x)
  where
    go : IsDistinct same (without_first p xs) → (b : Bool) → IsDistinct same (cond b xs (x ∷ without_first p xs))
    go ih true = h.1
    go ih false = (all_without (λ y. same x y ≡ false) p xs h.0, ih)
