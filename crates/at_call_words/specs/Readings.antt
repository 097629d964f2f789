-- What a reader gives that tells which rule was broken.
use Rattle.std.specs.Prelude.{Result, Ok, Err}
use Rattle.at_faults.specs.declared.fault.LineFault.{LineFault}
use Rattle.at_faults.specs.declared.fault.LineFault.TheVariants.{NoMemory, Unlawful}
use Rattle.at_faults.specs.declared.rule.Rule.{Rule}

-- What was read is so, or a rule was broken and nothing is so. Nothing is said if a growth was refused.
abbrev pub IsFoundInMemory : {T : Type 0} → Result T LineFault → (T → Type 0) → Type 0
IsFoundInMemory (Ok x) P = P x
IsFoundInMemory {T} (Err (Unlawful rule)) P = (x : T) → ¬ P x
IsFoundInMemory (Err NoMemory) P = Unit {0}

-- what was read is so, or a rule was broken and nothing is so
abbrev pub IsFoundLawful : {T : Type 0} → Result T Rule → (T → Type 0) → Type 0
IsFoundLawful (Ok x) P = P x
IsFoundLawful {T} (Err rule) P = (x : T) → ¬ P x

-- this is so if a rule was broken
abbrev pub IfUnlawful : {T : Type 0} → Result T LineFault → Type 0 → Type 0
IfUnlawful (Ok x) P = Unit {0}
IfUnlawful (Err (Unlawful rule)) P = P
IfUnlawful (Err NoMemory) P = Unit {0}
