-- Numbers of one kind that were drawn, as a network lists them, and what the world noted of them. Each entry of such a
-- list tells who drew the number, the number, and the event that drew it.
use Rattle.std.proofs.Common.{◌≡◌, ℕ, ◌+◌, Bool, true, false, List, [], ◌∷◌, Option, refl, sym, ap, ◌∙◌}
use Rattle.std.specs.Prelude.{nat_le, ◌==◌, ◌&&◌, ◌||◌, not}
use Rattle.std.specs.List.{AllByRecursion, list_all}
use Rattle.std.proofs.lemmas.Bool.{and_parts, eqb-true, le-leb}
use Rattle.at_ddp.specs.Address.{same_address}
use Rattle.at_ddp.specs.declared.address.Address.{Address}
use Rattle.at_ddp.proofs.Octets.{same_address-true}
use Rattle.at_node.specs.declared.numbers.Draw.{Draw}
use Rattle.at_world.specs.Draws.{Draws, last_of, noted, is_no_later}
use Rattle.at_world.proofs.NotedLemmas.{Noted, not_later, stays_noted}

module _ {X : Type 0} (who : X → Address) (number event : X → ℕ) (kind : ℕ → Draw) where
  -- the world noted the number
  abbrev pub IsListed : Draws → ℕ → X → Type 0
  IsListed last events x = Noted last events (who x).node (kind (number x)) (event x)

  -- the entry is of another number or address, or its event is not after this one
  abbrev pub is_timely : Address → ℕ → ℕ → X → Bool
  is_timely at id now x = not (same_address (who x) at && (number x == id)) || nat_le (event x) now

  -- a number that no later event drew in the world, no later event drew in the list
  pub one_timely : (last : Draws) (events : ℕ) (at : Address) (id now : ℕ) (x : X) → IsListed last events x
      → is_no_later (last_of last at.node (kind id)) now ≡ true → is_timely at id now x ≡ true
  one_timely last events at id now x its fresh = go (same_address (who x) at && (number x == id)) refl
    where
      go : (b : Bool) → (same_address (who x) at && (number x == id)) ≡ b → (not b || nat_le (event x) now) ≡ true
      go false e = refl
      go true e =
          let both = and_parts (same_address (who x) at) (number x == id) e in
          let same : last_of last at.node (kind id) ≡ last_of last (who x).node (kind (number x)) =
          λ i. last_of last (sym (same_address-true (who x) at both.0) i).node
          (kind (sym (eqb-true (number x) id both.1) i)) in
          le-leb (event x) now (not_later last events (who x).node (kind (number x)) (event x) now its
          (ap (λ o. is_no_later o now) (sym same) ∙ fresh))

  pub all_timely : (last : Draws) (events : ℕ) (at : Address) (id now : ℕ) (xs : List X)
      → AllByRecursion (IsListed last events) xs → is_no_later (last_of last at.node (kind id)) now ≡ true
      → list_all (is_timely at id now) xs ≡ true
  all_timely last events at id now [] all fresh = refl
  all_timely last events at id now (x ∷ xs) all fresh = λ i. one_timely last events at id now x all.0 fresh i
      && all_timely last events at id now xs all.1 fresh i

  -- an event that draws a number, or none, leaves them noted
  pub still_listed : (last : Draws) (events k : ℕ) (o : Option Draw) (xs : List X)
      → AllByRecursion (IsListed last events) xs → AllByRecursion (IsListed (noted last k events o) (events + 1)) xs
  still_listed last events k o [] all = tt
  still_listed last events k o (x ∷ xs) all =
      (stays_noted last events k o (who x).node (kind (number x)) (event x) all.0, still_listed last events k o xs all.1)
