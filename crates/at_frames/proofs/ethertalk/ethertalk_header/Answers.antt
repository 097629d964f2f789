use Rattle.std.proofs.Common.{◌≡◌, ℕ, List, [], ◌∷◌, length, refl, arith, rules}
use Rattle.std.specs.Prelude.{slice_index_or}
use Rattle.at_frames.proofs.ethertalk.ethertalk_header.Goals as goal

-- six bytes are their list
six : (x : List ℕ) → length x ≡ 6
    → x ≡ slice_index_or x 0 0 ∷ slice_index_or x 1 0 ∷ slice_index_or x 2 0 ∷ slice_index_or x 3 0
    ∷ slice_index_or x 4 0 ∷ slice_index_or x 5 0 ∷ []
six (a ∷ b ∷ c ∷ d ∷ e ∷ f ∷ []) len = refl
six _ len = absurd (omega arith)

pub returns : goal.returns
returns c =
    let to : length c.args.to ≡ 6 = search rules in
    let from : length c.args.from ≡ 6 = search rules in
    rw (six c.args.to to, six c.args.from from, c.to_be_bytes.ensures) refl
