-- What was opened, and went back to its beginning.
use Rattle.std.specs.Prelude.{Result, Ok}
use Rattle.std.specs.declared.io.Error.{Error}

-- it went back: B says what may come of sending it back
pub record Rewound {F : Type 0} (B : F → Result (Unit {0}) Error → F → Type 0) : Type 0 where
  pub before : F
  pub file : F
  pub went : B before (Ok tt) file
