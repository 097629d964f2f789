-- What was read of a file that was sent back to its beginning, and what is too long.
use Rattle.std.proofs.Common.{ℕ, ◌<◌, true, List, IfErr, IfOk, IfSome, None, Ok, Err, Some, inr, length}
use Rattle.std.specs.Prelude.{Option, Result}
use Rattle.std.specs.declared.io.Error.{Error}
use Rattle.at_opened.specs.Rewinds.{Rewound}
use Rattle.at_faults.specs.declared.fault.Fault.{Fault}
use Rattle.at_drive_lines.specs.Drafts.{BeginsSo, IsDriveFault}
use Rattle.at_drive_lines.specs.Lines.{lines_of}
use Rattle.at_drive_lines.specs.declared.head.DriveHead.{DriveHead}
use Rattle.at_udp_text.specs.Ends.{IsFileFault, IsHeadOf}

module _ (A : Type 0) {F : Type 0} (remaining : F → Option (List ℕ))
    (K : F → Result (Unit {0}) Error → F → Type 0) (first : Rewound K) where
  pub head_read : (r : Result (DriveHead A) Fault)
      → IfOk r (λ head. IfSome (lines_of (remaining first.file)) (BeginsSo head.setup head.port))
      → IfOk r (λ head. IsHeadOf remaining K head.setup head.port)
  head_read (Ok head) said = (first, said)
  head_read (Err fault) said = tt

  pub fault_read : (r : Result (DriveHead A) Fault)
      → IfErr r (λ f. IsDriveFault A (lines_of (remaining first.file)) true f)
      → IfErr r (λ f. IsFileFault A remaining K f)
  fault_read (Ok head) why = tt
  fault_read (Err fault) why = inr (first, why)

-- what follows for a text that is too long
pub too_long : {P Q : Type 0} (known : Option (List ℕ)) (most : ℕ) → IfSome known (λ all. most < length all → P)
    → (P → Q) → IfSome known (λ all. most < length all → Q)
too_long None most h f = tt
too_long (Some all) most h f = λ long. f (h long)

-- what holds of any text
pub in_any_case : {P : Type 0} (known : Option (List ℕ)) (most : ℕ) → P
    → IfSome known (λ all. most < length all → P)
in_any_case None most h = tt
in_any_case (Some all) most h = λ long. h
