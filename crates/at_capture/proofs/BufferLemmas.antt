-- A reader behind a new buffer.
use Rattle.std.proofs.Common.{◌≡◌, ℕ, List, [], ◌∙◌, refl, cond, None, Some}
use Rattle.std.specs.Prelude.{Option, ◌==◌}
use Rattle.std.specs.Io.Buffered.{reader_buffer, reader_capacity, reader_inner, reader_remaining}
use Rattle.std.specs.Io.KnownBytes.{prepend_known}
use Rattle.std.specs.declared.io.buffered.BufReader.{BufReader}

behind_nothing : (known : Option (List ℕ)) → prepend_known [] known ≡ known
behind_nothing None = refl
behind_nothing (Some all) = refl

-- it holds what the reader holds
pub unread : {T A : Type 0} (remaining : T → Option (List ℕ)) (r : BufReader T A) (inner : T)
    → reader_inner r ≡ inner → reader_buffer r ≡ [] → reader_capacity r ≡ 8192
    → reader_remaining remaining r ≡ remaining inner
unread remaining r inner is empty capacity =
    let front : reader_remaining remaining r ≡ prepend_known [] (remaining inner) =
    λ i. cond (capacity i == 0) None (prepend_known (empty i) (remaining (is i))) in
    front ∙ behind_nothing (remaining inner)
