-- A value as a call finds it, that opened it. An answer that begins with it spells none of its fields.
use Rattle.std.proofs.Common.{◌≡◌}

-- what a path begins with
abbrev pub opened : {X : Type 0} {x y : X} → x ≡ y → X
opened {x = x} is = x
