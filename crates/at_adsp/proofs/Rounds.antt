-- Numbers that come round, and the positions that they stand for.
use Rattle.std.proofs.Common.{◌≡◌, ℕ, zero, ◌+◌, ◌-◌, ◌*◌, ◌/◌, ◌%◌, ◌<◌, ◌≤◌, Bool, true, false, cond, Some, None}
use Rattle.std.proofs.Common.{refl, ap, ◌∙◌, arith}
use Rattle.std.specs.Prelude.{nat_lt}
use Rattle.std.proofs.Math.Nat.{mod-add-mod, add-mod_right, add-mul-mod_self_left, div-add-mod, mod-eq_of_lt, mod-lt}
use Rattle.std.proofs.lemmas.Bool.{lt-ltb, ltb-true}
use Rattle.at_adsp_end.specs.Positions.{far_around, ahead_around}

-- whatever is added to a number is added to its position
pub at_adds : (m a k : ℕ) → (a % m + k) % m ≡ (a + k) % m
at_adds m a k = mod-add-mod a m k

-- the way on
pub far_on : (m a d : ℕ) → zero < m → d < m → far_around m (a % m) ((a + d) % m) ≡ d
far_on m a d some lt =
    let small = mod-lt a some in
    let parts = div-add-mod a m in
    let round : (a + d) + (m - a % m) ≡ (d + m) + m * (a / m) = omega (arith, small, parts) in
    mod-add-mod (a + d) m (m - a % m) ∙ ap (λ x. x % m) round ∙ add-mul-mod_self_left (d + m) m (a / m)
    ∙ add-mod_right d m ∙ mod-eq_of_lt lt

-- the way back, once round
pub far_back : (m b d : ℕ) → zero < d → d < m → far_around m ((b + d) % m) (b % m) ≡ m - d
far_back m b d some lt =
    let wide : zero < m = omega (arith, lt) in
    let small : (b + d) % m < m = mod-lt (b + d) wide in
    let parts = div-add-mod (b + d) m in
    let round : b + (m - (b + d) % m) ≡ (m - d) + m * ((b + d) / m) = omega (arith, small, parts, lt) in
    let less : m - d < m = omega (arith, some, lt) in
    mod-add-mod b m (m - (b + d) % m) ∙ ap (λ x. x % m) round ∙ add-mul-mod_self_left (m - d) m ((b + d) / m)
    ∙ mod-eq_of_lt less

-- near enough, what is ahead is ahead on the wire
pub ahead_on : (m half a d : ℕ) → half ≤ m → d < half → ahead_around m half (a % m) ((a + d) % m) ≡ Some d
ahead_on m half a d few near =
    let same = far_on m a d (omega (arith, few, near)) (omega (arith, few, near)) in
    ap (λ x. cond (nat_lt x half) (Some x) None) same ∙ ap (λ b. cond b (Some d) None) (lt-ltb d half near)

-- and what is behind is not
pub ahead_back : (m half b d : ℕ) → zero < d → d + half ≤ m → zero < half → ahead_around m half ((b + d) % m) (b % m)
    ≡ None
ahead_back m half b d some near big = go (nat_lt (m - d) half) refl
  where
    same : far_around m ((b + d) % m) (b % m) ≡ m - d
    same = far_back m b d some (omega (arith, near, big))

    go : (c : Bool) → nat_lt (m - d) half ≡ c → ahead_around m half ((b + d) % m) (b % m) ≡ None
    go true e = let lt = ltb-true (m - d) half e in absurd (omega (arith, lt, near))
    go false e = ap (λ x. cond (nat_lt x half) (Some x) None) same ∙ ap (λ c. cond c (Some (m - d)) None) e
