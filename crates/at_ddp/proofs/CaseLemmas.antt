-- Truth values, options and results, case by case.
use Rattle.std.proofs.Common.{◌≡◌, Bool, true, false, Option, Some, None, Result, Ok, Err, refl, sym}
use Rattle.std.specs.Prelude.{OnErr, OnOk, is_some, ◌&&◌}
use Rattle.std.specs.Result.{is_err}
use Rattle.std.proofs.lemmas.Bool.{true≢false}

pub some_of : {X : Type 0} (o : Option X) → is_some o ≡ true → (x : X) × (o ≡ Some x)
some_of None h = absurd (true≢false (sym h))
some_of (Some x) h = (x, refl)

pub none_of : {X : Type 0} (o : Option X) → is_some o ≡ false → o ≡ None
none_of None h = refl
none_of (Some x) h = absurd (true≢false h)

-- what holds anyway holds at an error
pub on_err : {T E : Type 0} (r : Result T E) (P : Type 0) → P → OnErr r P
on_err (Ok x) P p = tt
on_err (Err e) P p = p

pub if_err : {T E : Type 0} (r : Result T E) (P : Type 0) → is_err r ≡ true → OnErr r P → P
if_err (Ok x) P is p = absurd (true≢false (sym is))
if_err (Err e) P is p = p

pub if_ok : {T E : Type 0} (r : Result T E) (P : Type 0) → is_err r ≡ false → OnOk r P → P
if_ok (Ok x) P is p = p
if_ok (Err e) P is p = absurd (true≢false is)

pub regrouped : (a b c d : Bool) → ((a && (b && c)) && d) ≡ (((a && b) && c) && d)
regrouped true b c d = refl
regrouped false b c d = refl
