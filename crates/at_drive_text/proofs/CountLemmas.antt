-- How far counts go on.
use Rattle.std.proofs.Common.{◌≡◌, ◌⊎◌, ℕ, ◌+◌, ◌<◌, ◌≤◌, ◌^◌, Bool, true, false, List, inl}
use Rattle.std.proofs.Common.{inr}
use Rattle.std.proofs.Common.{ap, subst, arith, Option}
use Rattle.std.specs.Prelude.{Result}
use Rattle.at_cable.specs.declared.fault.CableFault.{CableFault}
use Rattle.at_drive.specs.Drives.{Driven as Nodes}
use Rattle.at_print.specs.Papers.{Page}
use Rattle.at_print.specs.declared.printer.Printer.{Printer}
use Rattle.at_drive_text.specs.Courses.{TellsLine}
use Rattle.at_diagnostics.specs.declared.diagnostics.Diagnostics.{Diagnostics}
use Rattle.at_drive_text.specs.declared.course.Course.{Course}

pub at_grows : {A C W E : Type 0} (S : C → ℕ → ℕ → List ℕ → Result (Unit {0}) CableFault → C → Type 0)
    (R : C → ℕ → ℕ → Result (Option (List ℕ)) CableFault → C → Type 0) (page : W → Page) (heard : E → Page) (e : Bool)
    (line : List ℕ) (o : Course A) (d : Nodes) (c : C) (p : Printer W) (x : Diagnostics E) (o' : Course A) (d' : Nodes)
    (c' : C) (p' : Printer W) (x' : Diagnostics E)
    → TellsLine S R page heard e line o d c p x o' d' c' p' x' → o'.at ≤ o.at + 1
at_grows S R page heard true line o d c p x o' d' c' p' x' (s, says, here, stands, t) =
    let one = t.at in omega (arith, one)
at_grows S R page heard false line o d c p x o' d' c' p' x' (same, nodes, cable, printer, told) =
    let at : o'.at ≡ o.at = ap (λ e. e.at) same in omega (arith, at)

pub bounded : {T : Type 0} (most : T → ℕ) (first now : T) → (now ≡ first) ⊎ (most first < 2 ^ 64)
    → most now < 2 ^ 64 → most first < 2 ^ 64
bounded most first now (inl same) few = subst (λ t. most t < 2 ^ 64) same few
bounded most first now (inr few) now_few = few
