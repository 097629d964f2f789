-- Whether what a datagram carries is in time, by the two numbers that it may carry, and as a world tests it.
use Rattle.std.proofs.Common.{◌≡◌, ℕ, zero, suc, ◌<◌, ◌≤◌, true, false, List, [], ◌∷◌, length, get_or, Option, Some}
use Rattle.std.proofs.Common.{None, refl, subst, arith}
use Rattle.std.specs.Prelude.{slice_get}
use Rattle.std.proofs.lemmas.Bool.{le-leb, leb-true}
use Rattle.std.specs.List.{Contains}
use Rattle.at_node.specs.Numbers.{Carries}
use Rattle.at_node.specs.declared.numbers.Draw.{Draw}
use Rattle.at_setup.specs.declared.event.Event.TheVariants as event
use Rattle.at_world.specs.Draws.{Draws, last_of, is_no_later}
use Rattle.at_world.specs.Sents.{SentDatagram}
use Rattle.at_world.specs.Worlds.{WorldState, IsTimely, is_in_time}

pub both_in_time : (ds : Draws) (event : ℕ) (xs : List (Option (ℕ × Draw))) (d : Option (ℕ × Draw)) (node : ℕ)
    (draw : Draw) → length xs ≡ 2 → is_in_time ds (get_or xs 0 d) event ≡ true → is_in_time ds (get_or xs 1 d) event
    ≡ true →
    Contains xs (Some (node, draw)) → is_no_later (last_of ds node draw) event ≡ true
both_in_time ds event [] d node draw two a b (k, within, is) = absurd (omega arith)
both_in_time ds event (x ∷ []) d node draw two a b (k, within, is) = absurd (omega arith)
both_in_time ds event (x ∷ y ∷ []) d node draw two a b (zero, within, is) =
    subst (λ o. is_in_time ds o event ≡ true) is a
both_in_time ds event (x ∷ y ∷ []) d node draw two a b (suc zero, within, is) =
    subst (λ o. is_in_time ds o event ≡ true) is b
both_in_time ds event (x ∷ y ∷ []) d node draw two a b (suc (suc k), within, is) = absurd (omega arith)
both_in_time ds event (x ∷ y ∷ z ∷ l) d node draw two a b h = absurd (omega arith)

-- a number that is not in time
abbrev pub Late : Draws → ℕ → List (Option (ℕ × Draw)) → Type 0
Late ds event xs = (node : ℕ) × (draw : Draw) × Contains xs (Some (node, draw))
    × (is_no_later (last_of ds node draw) event ≡ false)

late_at : (ds : Draws) (event : ℕ) (xs : List (Option (ℕ × Draw))) (k : ℕ) → k < length xs → (o : Option (ℕ × Draw))
    → ((d : Option (ℕ × Draw)) → get_or xs k d ≡ o) → is_in_time ds o event ≡ false → Late ds event xs
late_at ds event xs k within None at late = absurd (cc)
late_at ds event xs k within (Some (node, draw)) at late = (node, draw, (k, within, at (Some (node, draw))), late)

pub first_late : (ds : Draws) (event : ℕ) (xs : List (Option (ℕ × Draw))) (d : Option (ℕ × Draw)) → length xs ≡ 2
    → is_in_time ds (get_or xs 0 d) event ≡ false → Late ds event xs
first_late ds event [] d two late = absurd (omega arith)
first_late ds event (x ∷ xs) d two late = late_at ds event (x ∷ xs) 0 (omega arith) x (λ e. refl) late

pub second_late : (ds : Draws) (event : ℕ) (xs : List (Option (ℕ × Draw))) (d : Option (ℕ × Draw)) → length xs ≡ 2
    → is_in_time ds (get_or xs 1 d) event ≡ false → Late ds event xs
second_late ds event [] d two late = absurd (omega arith)
second_late ds event (x ∷ []) d two late = absurd (omega arith)
second_late ds event (x ∷ y ∷ xs) d two late = late_at ds event (x ∷ y ∷ xs) 1 (omega arith) y (λ e. refl) late

-- ---- as a world tests it

-- no event after the one that sent a datagram drew a number that it carries
abbrev pub IsFresh : WorldState → SentDatagram → Type 0
IsFresh w s =
    (node : ℕ) (draw : Draw) → Carries s.bytes node draw → is_no_later (last_of w.last node draw) s.event ≡ true

no_later : (last : Option ℕ) (event : ℕ) → ((drawn : ℕ) → last ≡ Some drawn → drawn ≤ event)
    → is_no_later last event ≡ true
no_later None event fine = refl
no_later (Some drawn) event fine = le-leb drawn event (fine drawn refl)

pub drawn_before : (last : Option ℕ) (event drawn : ℕ) → is_no_later last event ≡ true → last ≡ Some drawn
    → drawn ≤ event
drawn_before None event drawn fine is = absurd (cc)
drawn_before (Some d) event drawn fine is = let same : d ≡ drawn = cc in
    subst (λ x. x ≤ event) same (leb-true d event fine)

-- a datagram whose delivery is timely is fresh
pub fresh_of : (A : Type 0) (w : WorldState) (which k : ℕ) (s : SentDatagram) → slice_get w.sent which ≡ Some s
    → IsTimely {A = A} w (event.Deliver which k) → IsFresh w s
fresh_of A w which k s is timely = λ node draw carries. no_later (last_of w.last node draw) s.event
    (λ drawn last. timely.fresh s is node draw drawn carries last)
