-- What a table lends at the place that was found.
use Rattle.std.proofs.Common.{◌≡◌, ℕ, zero, suc, Bool, List, [], ◌∷◌, set, slice_get, Result, Ok, Err, Some, ap, sym}
use Rattle.std.proofs.Common.{◌∙◌}
use Rattle.std.specs.Prelude.{OnErr}
use Rattle.std.proofs.lemmas.Option.{get_or_from_slice_get}
use Rattle.at_ddp.proofs.TableLemmas.{Found}

-- the entry that was found
pub entry_is : {X : Type 0} {p : X → Bool} {xs : List X} {i : ℕ} (f : Found p xs i) (x : X)
    → slice_get xs i ≡ Some x → x ≡ f.entry
entry_is {xs = xs} {i = i} f x at = sym (get_or_from_slice_get xs i x x at) ∙ f.at x

-- put back as it was lent, it leaves the list
pub set_back : {X : Type 0} (xs : List X) (i : ℕ) (x y : X) → slice_get xs i ≡ Some x → y ≡ x → set xs i y ≡ xs
set_back [] i x y at same = absurd (cc)
set_back (z ∷ xs) zero x y at same = let here : z ≡ x = cc in ap (λ w. w ∷ xs) (same ∙ sym here)
set_back (z ∷ xs) (suc i) x y at same = ap (λ l. z ∷ l) (set_back xs i x y at same)

pub put_back : {X T E : Type 0} (r : Result T E) (xs : List X) (i : ℕ) (x y : X) → slice_get xs i ≡ Some x
    → OnErr r (y ≡ x) → OnErr r (set xs i y ≡ xs)
put_back (Ok z) xs i x y at h = tt
put_back (Err z) xs i x y at h = set_back xs i x y at h
