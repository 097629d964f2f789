-- A set begins empty.
use Rattle.std.proofs.Common.{arith, ◌≡◌, ◌<◌, ℕ, true, false, Some, sym, ◌∙◌}
use Rattle.std.specs.List.{slice_get}
use Rattle.std.proofs.Math.ListN.{replicate}
use Rattle.std.proofs.lemmas.List.{get_or-replicate, length-replicate}
use Rattle.std.proofs.lemmas.Option.{get_or_from_slice_get, slice_get_within}

pub none_in : (size n : ℕ) → slice_get (replicate size false) n ≡ Some true → ⊥
none_in size n h =
    let within : n < size =
    omega (arith, slice_get_within (replicate size false) n true h, length-replicate size false) in
    let was = get_or_from_slice_get (replicate size false) n true false h in
    let is = get_or-replicate size n false false within in
    cc (sym was ∙ is)
