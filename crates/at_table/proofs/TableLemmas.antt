-- What an index and a slab that agree say of the table, and how the calls of both keep it.
use Rattle.std.proofs.Common.{◌≡◌, ℕ, suc, ◌+◌, ◌<◌, Bool, true, false, cond, List, [], ◌∷◌, ◌++◌, length, slice_get}
use Rattle.std.proofs.Common.{filter_map, Option, Some, None, is_some, IsSome, refl, sym, ap, ◌∙◌, arith}
use Rattle.std.specs.Prelude.{remove}
use Rattle.std.specs.List.{position_from}
use Rattle.std.specs.Map.{keys_of, values_of, lookup}
use Rattle.std.proofs.lemmas.List.{length-map, map_push}
use Rattle.std.proofs.lemmas.List.Sums.{sum_by-set}
use Rattle.std.proofs.lemmas.Option.{slice_get-map, gets}
use Rattle.std.proofs.lemmas.Grind.{common_steps}
use Rattle.std.specs.Option.{option_map}
use Rattle.indexmap.proofs.CallerLemmas.{insert_entry-new}
use Rattle.indexmap.specs.IndexMap.{IndexMap, keys, values, index_map_len, insert_entry}
use Rattle.indexmap.proofs.SetLemmas.{map-remove}
use Rattle.slab.specs.Slab as slab
use Rattle.slab.specs.Slab.{Slab, get, slab_len, ContainsKey, with_value}
use Rattle.slab.proofs.SlabLemmas.{Updates-with_value, ContainsKey-within}
use Rattle.at_table.specs.Layout.{Agree, rows_of}
use Rattle.at_table.specs.Rows.{with_item, found}
use Rattle.at_table.proofs.PlaceLemmas.{Changes, length-held, filled_at, held_at, agree_push, pushed, agree_write}
use Rattle.at_table.proofs.PlaceLemmas.{written, agree_remove, removed}

-- ---- where a key stands

-- the value under a key stands at the key's index
pub found_at : {K V : Type 0} (t : K → Bool) (n : ℕ) (ks : List K) (vs : List V) (i : ℕ) → length vs ≡ length ks
    → position_from t n ks ≡ Some i → (j : ℕ) × (i ≡ n + j) × (found t ks vs ≡ slice_get vs j)
found_at t n [] vs i as_many h = absurd (cc)
found_at t n (k ∷ ks) [] i as_many h = absurd (cc)
found_at {V = V} t n (k ∷ ks) (v ∷ vs) i as_many h = go (t k) h
    (λ g. found_at t (n + 1) ks vs i (omega (arith, as_many)) g)
  where
    go : (b : Bool) → cond b (Some n) (position_from t (n + 1) ks) ≡ Some i
        → (position_from t (n + 1) ks ≡ Some i → (j : ℕ) × (i ≡ n + 1 + j) × (found t ks vs ≡ slice_get vs j))
        → (j : ℕ) × (i ≡ n + j) × (cond b (Some v) (found t ks vs) ≡ slice_get (v ∷ vs) j)
    go true e ih = let same : n ≡ i = cc in (0, omega arith, refl)
    go false e ih = let r = ih e in (suc r.0, omega (arith, r.1), r.2)

pub not_found : {K V : Type 0} (t : K → Bool) (n : ℕ) (ks : List K) (vs : List V) → position_from t n ks ≡ None
    → found t ks vs ≡ None
not_found t n [] vs h = refl
not_found t n (k ∷ ks) [] h = refl
not_found t n (k ∷ ks) (v ∷ vs) h = go (t k) h (λ g. not_found t (n + 1) ks vs g)
  where
    go : (b : Bool) → cond b (Some n) (position_from t (n + 1) ks) ≡ None
        → (position_from t (n + 1) ks ≡ None → found t ks vs ≡ None) → cond b (Some v) (found t ks vs) ≡ None
    go true e ih = absurd (cc)
    go false e ih = ih e

absent : {K X : Type 0} (t : K → Bool) (n : ℕ) (es : List (K × X)) → position_from t n (keys_of es) ≡ None
    → lookup t es ≡ None
absent t n [] h = refl
absent t n (e ∷ es) h = go (t e.0) h (λ g. absent t (n + 1) es g)
  where
    go : (b : Bool) → cond b (Some n) (position_from t (n + 1) (keys_of es)) ≡ None
        → (position_from t (n + 1) (keys_of es) ≡ None → lookup t es ≡ None) → cond b (Some e.1) (lookup t es) ≡ None
    go true x ih = absurd (cc)
    go false x ih = ih x

changes : {V : Type 0} {old new : Slab V} {p : ℕ} {now : Option V} → slab.Updates old new p now
    → Changes (get old) (get new) p now
changes u = record { changed = u.changed; others = u.others }

module _ {K V S : Type 0} (index : IndexMap K ℕ S) (entries : Slab V) (a : Agree (get entries) (values index)) where
  pub as_many : length (filter_map (get entries) (values index)) ≡ length index.entries
  as_many = length-held (get entries) (values index) a.filled ∙ length-map index.entries (λ e. e.1)

  pub within : (i : ℕ) → i < length (filter_map (get entries) (values index)) → i < index_map_len index
  within i h = omega (arith, h, as_many)

  module _ (i p : ℕ) (place : slice_get (values index) i ≡ Some p) where
    pub contains : ContainsKey entries p
    contains = filled_at (get entries) (values index) i p a.filled place

    pub value_at : (v : V) → get entries p ≡ Some v → slice_get (filter_map (get entries) (values index)) i ≡ Some v
    value_at v is = held_at (get entries) (values index) i p a.filled place ∙ is

    -- ---- a value is written

    same_len : (w : V) → slab_len (with_value entries p w) ≡ slab_len entries
    same_len w =
        let count = sum_by-set (λ o. cond (is_some o) 1 0) entries.slots p (Some w) None
        (ContainsKey-within entries p contains) in
        let one = ap {B = ℕ} (λ b. cond b 1 0) contains in
        omega (arith, count, one)

    pub agree_written : (w : V) → Agree (get (with_value entries p w)) (values index)
    agree_written w = agree_write (get entries) (get (with_value entries p w)) p (Some w)
        (changes (Updates-with_value entries p w contains)) (values index) a contains refl

    pub rows_written : (w : V) → rows_of index (with_value entries p w) ≡ with_item (rows_of index entries) i w
    rows_written w =
        let items = written (get entries) (get (with_value entries p w)) p (Some w)
        (changes (Updates-with_value entries p w contains)) (values index) i w a place refl in
        rw (items, same_len w) refl

  -- ---- an entry is removed, and those behind it close up

  pub record Shrinks (i : ℕ) (shorter : IndexMap K ℕ S) (rest : Slab V) : Type 0 where
    pub agree : Agree (get rest) (values shorter)
    pub keys_are : keys shorter ≡ remove (keys index) i
    pub items_are : filter_map (get rest) (values shorter) ≡ remove (filter_map (get entries) (values index)) i

  pub shrinks : (i p : ℕ) → slice_get (values index) i ≡ Some p → (shorter : IndexMap K ℕ S) (rest : Slab V)
      → shorter.entries ≡ remove index.entries i → slab.Updates entries rest p None → Shrinks i shorter rest
  shrinks i p place shorter rest closed freed =
      let left : values shorter ≡ remove (values index) i = ap values_of closed
      ∙ map-remove (λ e. e.1) index.entries i in record {
        agree = rw left (agree_remove (get entries) (get rest) p None (changes freed) (values index) i a place refl);
        keys_are = ap keys_of closed ∙ map-remove (λ e. e.0) index.entries i;
        items_are = rw left (removed (get entries) (get rest) p None (changes freed) (values index) i a place);
      }

  -- ---- an entry is put in behind the others

  pub record Grows (key : K) (v : V) (longer : IndexMap K ℕ S) (more : Slab V) : Type 0 where
    pub agree : Agree (get more) (values longer)
    pub keys_are : keys longer ≡ keys index ++ key ∷ []
    pub items_are : filter_map (get more) (values longer) ≡ filter_map (get entries) (values index) ++ v ∷ []

  pub grows : (eq : K → K → Bool) (key : K) (p : ℕ) (v : V) (longer : IndexMap K ℕ S) (more : Slab V)
      → position_from (eq key) 0 (keys index) ≡ None → longer.entries ≡ insert_entry eq index.entries key p
      → get entries p ≡ None → slab.Updates entries more p (Some v) → Grows key v longer more
  grows eq key p v longer more fresh is vacant filled =
      let new : longer.entries ≡ index.entries ++ (key, p) ∷ [] = is
      ∙ insert_entry-new eq index key p (absent (eq key) 0 index.entries fresh) in
      let places : values longer ≡ values index ++ p ∷ [] = ap values_of new
      ∙ map_push (λ e. e.1) index.entries (key, p) in record {
        agree = rw places
            (agree_push (get entries) (get more) p (Some v) (changes filled) (values index) a vacant refl);
        keys_are = ap keys_of new ∙ map_push (λ e. e.0) index.entries (key, p);
        items_are = rw places
            (pushed (get entries) (get more) p (Some v) (changes filled) (values index) a vacant v refl);
      }

-- the place that goes with an index
pub taken : {K S : Type 0} (index : IndexMap K ℕ S) (i : ℕ) (r : Option (K × ℕ)) → i < index_map_len index
    → r ≡ slice_get index.entries i → IsSome r
taken index i r h is = grind (arith, common_steps, gets)

pub place_taken : {K S : Type 0} (index : IndexMap K ℕ S) (i : ℕ) (e : K × ℕ) (r : Option (K × ℕ))
    → r ≡ slice_get index.entries i → r ≡ Some e → slice_get (values index) i ≡ Some e.1
place_taken index i e r is some = slice_get-map (λ x. x.1) index.entries i ∙ ap (option_map (λ x. x.1)) (sym is ∙ some)
