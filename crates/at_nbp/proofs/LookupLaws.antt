-- What holds of every table of lookups, after each call.
use Rattle.std.proofs.Common.{◌≡◌, ℕ, ◌+◌, ◌%◌, ◌<◌, Bool, true, false, cond, List, [], ◌∷◌, ◌++◌, length}
use Rattle.std.proofs.Common.{find, Option, Some, None, refl, sym, subst, ◌∙◌, arith}
use Rattle.std.specs.Prelude.{nat_lt, not, ◌==◌, ◌&&◌}
use Rattle.std.specs.List.{AllByRecursion, IsDistinct, list_any}
use Rattle.std.proofs.lemmas.Bool.{and_parts, eqb-true, not-true}
use Rattle.std.proofs.lemmas.Bool.Decides.{nat_tests}
use Rattle.std.proofs.lemmas.Cmp.{nat_eq_equiv, nat_list_eq_equiv}
use Rattle.std.proofs.lemmas.List.{length-append}
use Rattle.at_ddp.specs.Tables.{replaced}
use Rattle.at_ddp.specs.declared.address.Address.{Address}
use Rattle.at_nbp.specs.Lookups.{Search, Lookups, IsSearch, AreLookups, is_question, is_reply, has_id, search_of}
use Rattle.at_nbp.specs.Lookups.{free_id, next_id, beginning, begun}
use Rattle.at_nbp.specs.Lookups.{find_of, same_find, joins, joined, answered, reply_came, heard, closed}
use Rattle.at_nbp.specs.Names.{is_match}
use Rattle.at_nbp.specs.Packets.{Content}
use Rattle.at_nbp.specs.Tuples.{Entry}
use Rattle.at_nbp.specs.declared.find.Find.{Find}
use Rattle.at_nbp.specs.declared.function.Function.{Function}
use Rattle.at_nbp.specs.declared.name.Name.{Name}
use Rattle.at_ddp.proofs.Alls.{all_implied, all_both, all_replaced, all_without, all_found, none_any}
use Rattle.at_ddp.proofs.DistinctLemmas.{differ_append, differ_without}
use Rattle.at_ddp.proofs.CountLemmas.{length_replaced, length_without}
use Rattle.at_ddp.proofs.NumberLemmas.{is_free}

-- ---- a search in the place of one with the same identifier

abbrev OfId : (Search → Bool) → Search → Type 0
OfId p y = (x : Search) → p x ≡ true → y.id ≡ x.id

ids_replaced : (P : ℕ → Type 0) (p : Search → Bool) (y : Search) (xs : List Search) → OfId p y
    → AllByRecursion (λ x. P x.id) xs → AllByRecursion (λ x. P x.id) (replaced p y xs)
ids_replaced P p y [] of h = tt
ids_replaced P p y (x ∷ xs) of h = go (ids_replaced P p y xs of h.1) (p x) refl
  where
    go : AllByRecursion (λ z. P z.id) (replaced p y xs) → (b : Bool) → p x ≡ b
        → AllByRecursion (λ z. P z.id) (cond b (y ∷ xs) (x ∷ replaced p y xs))
    go ih true e = (subst P (sym (of x e)) h.0, h.1)
    go ih false e = (h.0, ih)

abbrev IdsDiffer : List Search → Type 0
IdsDiffer searches = IsDistinct (λ a b. has_id a.id b) searches

differ_replaced : (p : Search → Bool) (y : Search) (xs : List Search) → OfId p y → IdsDiffer xs
    → IdsDiffer (replaced p y xs)
unfolding IsDistinct
differ_replaced p y [] of h = tt
differ_replaced p y (x ∷ xs) of h = go (differ_replaced p y xs of h.1) (p x) refl
  where
    go : IdsDiffer (replaced p y xs) → (b : Bool) → p x ≡ b → IdsDiffer (cond b (y ∷ xs) (x ∷ replaced p y xs))
    go ih true e = (subst (λ n. AllByRecursion (λ z. (z.id == n) ≡ false) xs) (sym (of x e)) h.0, h.1)
    go ih false e = (ids_replaced (λ n. (n == x.id) ≡ false) p y xs of h.0, ih)

-- ---- identifiers that are drawn

pub drawn_free : (l : Lookups) (id : ℕ) → next_id l ≡ Some id → list_any (has_id id) l.searches ≡ false
drawn_free l id h = go (nat_lt (length l.searches) 8) h
  where
    go : (b : Bool) → cond b (free_id (length l.searches + 1) l.next l.searches) None ≡ Some id
        → list_any (has_id id) l.searches ≡ false
    go true g =
        let d = is_free (λ n. (n + 1) % 256) (λ n. list_any (has_id n) l.searches) (λ n. Unit {0}) (λ n is. tt)
        (length l.searches + 1) l.next id tt g in
        d.1
    go false g = absurd (cc)

-- no open lookup has the identifier that is drawn
pub none_drawn : (l : Lookups) (id : ℕ) → next_id l ≡ Some id → search_of l id ≡ None
none_drawn l id h = go l.searches (none_any (has_id id) l.searches (drawn_free l id h))
  where
    go : (searches : List Search) → AllByRecursion (λ s. has_id id s ≡ false) searches → find (has_id id) searches
        ≡ None
    go [] all = refl
    go (s ∷ searches) all = rw all.0 (go searches all.1)

drawn_few : (l : Lookups) (id : ℕ) → next_id l ≡ Some id → length l.searches < 8
drawn_few l id h = go (nat_lt (length l.searches) 8) refl h
  where
    go : (b : Bool) → nat_lt (length l.searches) 8 ≡ b
        → cond b (free_id (length l.searches + 1) l.next l.searches) None ≡ Some id → length l.searches < 8
    go true e g = grind (arith, nat_tests, e)
    go false e g = absurd (cc)

-- ---- lookups that begin and end

pub none_lawful : (own to : Address) (function : Function) → is_question function ≡ true
    → AreLookups (record { own = own; to = to; function = function; next = 0; searches = [] })
unfolding IsDistinct
none_lawful own to function asks =
    record { asks = asks; few = omega arith; next_fits = omega arith; differ = tt; each = tt }

new_lawful : (id : ℕ) (pattern : Name) → IsSearch (beginning id pattern)
unfolding IsDistinct
new_lawful id pattern = record { few = omega arith; match = tt; differ = tt }

pub begun_lawful : (l : Lookups) (id : ℕ) (pattern : Name) → next_id l ≡ Some id → AreLookups l
    → AreLookups (begun l (beginning id pattern))
begun_lawful l id pattern drawn h =
    let few = drawn_few l id drawn in
    let free = none_any (has_id id) l.searches (drawn_free l id drawn) in
    record {
      asks = h.asks;
      few = omega (arith, few, length-append l.searches (beginning id pattern ∷ []));
      next_fits = omega arith;
      differ = differ_append (λ a b. has_id a.id b) l.searches (beginning id pattern) h.differ
          (all_implied (λ s. has_id id s ≡ false) (λ s. (id == s.id) ≡ false) l.searches
          (λ s e. nat_eq_equiv.symm id s.id ∙ e) free);
      each = all_both IsSearch l.searches (beginning id pattern ∷ []) h.each (new_lawful id pattern, tt);
    }

pub closed_lawful : (l : Lookups) (id : ℕ) → AreLookups l → AreLookups (closed l id)
closed_lawful l id h = record {
  asks = h.asks;
  few = let few = h.few in omega (arith, few, length_without (has_id id) l.searches);
  next_fits = h.next_fits;
  differ = differ_without (λ a b. has_id a.id b) (has_id id) l.searches h.differ;
  each = all_without IsSearch (has_id id) l.searches h.each;
}

-- ---- finds that join

turned : (a b : Find) → same_find a b ≡ same_find b a
turned a b = λ i.
    nat_list_eq_equiv.symm a.name.object b.name.object i && nat_list_eq_equiv.symm a.name.kind b.name.kind i
    && nat_list_eq_equiv.symm a.name.zone b.name.zone i
    && (nat_eq_equiv.symm a.address.net b.address.net i && nat_eq_equiv.symm a.address.node b.address.node i
    && nat_eq_equiv.symm a.address.socket b.address.socket i)
    && nat_eq_equiv.symm a.enumerator b.enumerator i

joined_lawful : (s : Search) (f : Find) → IsSearch s → IsSearch (record s { finds = joined s.pattern s.finds f })
joined_lawful s f h = go (joins s.pattern s.finds f) refl
  where
    go : (b : Bool) → joins s.pattern s.finds f ≡ b → IsSearch (record s { finds = cond b (s.finds ++ f ∷ []) s.finds })
    go true e =
        let outer = and_parts (is_match s.pattern f.name && not (list_any (same_find f) s.finds))
        (nat_lt (length s.finds) 256) e in
        let inner = and_parts (is_match s.pattern f.name) (not (list_any (same_find f) s.finds)) outer.0 in
        let new = none_any (same_find f) s.finds (not-true (list_any (same_find f) s.finds) inner.1) in
        let room : length s.finds < 256 = grind (arith, nat_tests, outer.1) in
        record {
          few = omega (arith, room, length-append s.finds (f ∷ []));
          match = all_both (λ x. is_match s.pattern x.name ≡ true) s.finds (f ∷ []) h.match (inner.0, tt);
          differ = differ_append same_find s.finds f h.differ
              (all_implied (λ x. same_find f x ≡ false) (λ x. same_find x f ≡ false) s.finds
              (λ x apart. turned x f ∙ apart) new);
        }
    go false e = h

pub answered_lawful : (s : Search) (tuples : List Entry) → IsSearch s → IsSearch (answered s tuples)
answered_lawful s [] h = h
answered_lawful s (t ∷ ts) h =
    answered_lawful (record s { finds = joined s.pattern s.finds (find_of s.pattern t) }) ts
    (joined_lawful s (find_of s.pattern t) h)

-- ---- packets that come

came_lawful : (l : Lookups) (p : Content) (o : Option Search) → ((s : Search) → o ≡ Some s → search_of l p.id ≡ Some s)
    → AreLookups l → AreLookups (reply_came l p o).after
came_lawful l p None finds_it h = h
came_lawful l p (Some s) finds_it h =
    let found = all_found IsSearch (has_id p.id) l.searches s h.each (finds_it s refl) in
    let of : OfId (has_id p.id) (answered s p.tuples) = λ x e. eqb-true s.id p.id found.1
    ∙ sym (eqb-true x.id p.id e) in
    let few = h.few in
    record {
      asks = h.asks;
      few = omega (arith, few, length_replaced (has_id p.id) (answered s p.tuples) l.searches);
      next_fits = h.next_fits;
      differ = differ_replaced (has_id p.id) (answered s p.tuples) l.searches of h.differ;
      each = all_replaced IsSearch (has_id p.id) (answered s p.tuples) l.searches h.each
          (answered_lawful s p.tuples found.0);
    }

pub heard_lawful : (l : Lookups) (p : Content) → AreLookups l → AreLookups (heard l p).after
heard_lawful l p h = came_lawful l p (cond (is_reply p.function) (search_of l p.id) None)
    (λ s e. go s (is_reply p.function) e) h
  where
    go : (s : Search) (b : Bool) → cond b (search_of l p.id) None ≡ Some s → search_of l p.id ≡ Some s
    go s true e = e
    go s false e = absurd (cc)
