-- Steps that refuse, one before the other: which did not, if at the end there is a datagram.
use Rattle.std.proofs.Common.{◌≡◌, ◌⊎◌, inl, inr, Bool, true, false, cond, Result, Ok, Err, refl}
use Rattle.at_frames.specs.Carried.{Load}
use Rattle.at_frames.specs.declared.carried.Reason.{Reason}

-- a step that refuses did not
pub passed : (b : Bool) (reason : Reason) (more : Result Load Reason) (d : Load) → cond b (Err reason) more ≡ Ok d
    → (b ≡ false) × (more ≡ Ok d)
passed true reason more d h = absurd cc
passed false reason more d h = (refl, h)

-- a step that has two ways went one of them
pub went : (b : Bool) (x y : Result Load Reason) (d : Load) → cond b x y ≡ Ok d
    → ((b ≡ true) × (x ≡ Ok d)) ⊎ ((b ≡ false) × (y ≡ Ok d))
went true x y d h = inl (refl, h)
went false x y d h = inr (refl, h)

-- what is refused has no datagram
pub refused : (reason : Reason) (d : Load) → Err reason ≡ Ok d → ⊥
refused reason d h = absurd cc

-- a result is of one datagram
pub ok_is : (a b : Load) (x : Result Load Reason) → x ≡ Ok a → x ≡ Ok b → a ≡ b
ok_is a b x is h = cc

pub when_false : (b : Bool) (x y : Result Load Reason) → b ≡ false → cond b x y ≡ y
when_false true x y h = absurd cc
when_false false x y h = refl

pub same_load : (a b : Load) → a.carrier ≡ b.carrier → a.stations ≡ b.stations → a.header ≡ b.header
    → a.bytes ≡ b.bytes → a ≡ b
same_load a b carrier stations header bytes =
    λ i. record { carrier = carrier i; stations = stations i; header = header i; bytes = bytes i }
