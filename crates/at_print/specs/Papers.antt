-- What is known of what a printer prints to.
use Rattle.std.specs.Prelude.{◌≡◌, ℕ, Bool, true, List, Option, Result, Ok, Err}
use Rattle.std.specs.Io.KnownBytes.{Appends}

-- the bytes that it holds, if these are known, and whether a write or a flush failed; where that is not known, one may
-- have
pub record Page : Type 0 where
  pub contents : Option (List ℕ)
  pub has_failed : Bool

-- these bytes were written, if it is known what it holds
abbrev pub Writes : Page → Page → List ℕ → Type 0
Writes old new bytes = Appends old.contents new.contents bytes

-- a write that fails is noted, and no other is
abbrev pub Notes : {E : Type 0} → Page → Page → Result (Unit {0}) E → Type 0
Notes old new (Ok u) = new.has_failed ≡ old.has_failed
Notes old new (Err e) = new.has_failed ≡ true
