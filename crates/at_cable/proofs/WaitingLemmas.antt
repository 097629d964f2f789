-- What waits on a cable in memory after a receive.
use Rattle.std.proofs.Common.{◌≡◌, ℕ, Bool, true, false, cond, List, [], ◌∷◌, take, get_or, Option, Some, None, Ok}
use Rattle.std.proofs.Common.{refl, sym, ap, ◌∙◌}
use Rattle.std.specs.Prelude.{find, map, remove, option_map}
use Rattle.std.specs.List.{position_from}
use Rattle.at_ddp.specs.Outbox.{Posted}
use Rattle.at_ddp.specs.Tables.{without_first}
use Rattle.at_ddp.proofs.TableLemmas.{found_by, none_by, without_none}
use Rattle.at_cable.specs.Memory.{MemoryState, Receives, begun, fails, is_for}

find-map : {X Y : Type 0} (f : X → Y) (p : Y → Bool) (xs : List X) → find p (map f xs)
    ≡ option_map f (find (λ x. p (f x)) xs)
find-map f p [] = refl
find-map {X} {Y} f p (x ∷ xs) = go (find-map f p xs) (p (f x))
  where
    go : find p (map f xs) ≡ option_map f (find (λ x. p (f x)) xs) → (b : Bool)
        → cond b (Some (f x)) (find p (map f xs)) ≡ option_map f (cond b (Some x) (find (λ x. p (f x)) xs))
    go rest true = refl
    go rest false = rest

without-map : {X Y : Type 0} (f : X → Y) (p : Y → Bool) (xs : List X) → without_first p (map f xs)
    ≡ map f (without_first (λ x. p (f x)) xs)
without-map f p [] = refl
without-map f p (x ∷ xs) = go (without-map f p xs) (p (f x))
  where
    go : without_first p (map f xs) ≡ map f (without_first (λ x. p (f x)) xs) → (b : Bool)
        → cond b (map f xs) (f x ∷ without_first p (map f xs))
        ≡ map f (cond b xs (x ∷ without_first (λ x. p (f x)) xs))
    go rest true = refl
    go rest false = ap (λ l. f x ∷ l) rest

-- A receive by a search over the list xs that the state m' shows, once the call has begun.
module _ {X : Type 0} (f : X → Posted) (m m' : MemoryState) (xs given : List X) (node room : ℕ) (r : Option ℕ)
    (begins : m' ≡ begun m) (shown : map f xs ≡ m'.waiting) (free : fails m ≡ false) (same : given ≡ xs)
    (sought : r ≡ position_from (λ x. is_for node (f x)) 0 given) where
  waits : map f xs ≡ m.waiting
  waits = shown ∙ ap (λ (s : MemoryState). s.waiting) begins

  pub received_nothing : r ≡ None → Receives m node room (Ok None) m'
  received_nothing none =
      let nowhere = none_by (λ x. is_for node (f x)) xs given r same sought none in
      let unfound : find (is_for node) m.waiting ≡ None =
      ap (find (is_for node)) (sym waits) ∙ find-map f (is_for node) xs ∙ ap (option_map f) nowhere in
      let stays : m.waiting ≡ without_first (is_for node) m.waiting =
      sym (without_none (is_for node) m.waiting unfound) in
      (free, rw unfound refl, begins ∙ ap (λ l. record (begun m) { waiting = l }) stays)

  pub received_first : (i : ℕ) (x : X) (left : List X) (got : List ℕ) → r ≡ Some i → x ≡ get_or xs i x → left
      ≡ remove xs i → got ≡ take room (f x).bytes →
      Receives m node room (Ok (Some got)) (record m' { waiting = map f left })
  received_first i x left got some here gone copied =
      let place = found_by (λ x. is_for node (f x)) xs given r i same sought some in
      let entry : place.entry ≡ x = sym (here ∙ place.at x) in
      let first : find (is_for node) m.waiting ≡ Some (f x) =
      ap (find (is_for node)) (sym waits) ∙ find-map f (is_for node) xs ∙ ap (option_map f) (place.first
      ∙ ap Some entry) in
      let stays : map f left ≡ without_first (is_for node) m.waiting =
      sym (ap (without_first (is_for node)) (sym waits) ∙ without-map f (is_for node) xs
      ∙ ap (map f) (place.gone_is ∙ sym gone)) in (
        free,
        rw first (ap Some copied),
        ap (λ (s : MemoryState). record s { waiting = map f left }) begins
            ∙ ap (λ l. record (begun m) { waiting = l }) stays,
      )
