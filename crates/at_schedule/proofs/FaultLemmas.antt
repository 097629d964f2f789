-- What a fault of a line says, told on.
use Rattle.std.proofs.Common.{Result, Ok, Err, Option, Some, ◌≡◌}
use Rattle.std.specs.Prelude.{IfOk, OnOk}
use Rattle.at_call_words.specs.Readings.{IfUnlawful}
use Rattle.at_faults.specs.declared.fault.LineFault.{LineFault}
use Rattle.at_faults.specs.declared.fault.LineFault.TheVariants.{NoMemory, Unlawful}

pub unlawful_map : {T : Type 0} (r : Result T LineFault) (P Q : Type 0) → IfUnlawful r P → (P → Q) → IfUnlawful r Q
unlawful_map (Ok x) P Q h so = tt
unlawful_map (Err (Unlawful rule)) P Q h so = so h
unlawful_map (Err NoMemory) P Q h so = tt

-- the same fault, in place of something else
pub unlawful_told : (S T : Type 0) (fault : LineFault) (P Q : Type 0) → IfUnlawful {T = S} (Err fault) P → (P → Q)
    → IfUnlawful {T = T} (Err fault) Q
unlawful_told S T (Unlawful rule) P Q h so = so h
unlawful_told S T NoMemory P Q h so = tt

-- what was found is so, and what holds of it then
pub on_found : {T E : Type 0} (r : Result (Option T) E) (P : T → Type 0) (Q R : Type 0)
    → IfOk r (λ found. (x : T) × (found ≡ Some x) × P x) → OnOk r Q → ((x : T) → P x → Q → R) → OnOk r R
on_found (Ok found) P Q R (x, is, p) q then = then x p q
on_found (Err fault) P Q R said q then = tt
