-- Names that stood, and the tuples and finds that are made of them.
use Rattle.std.proofs.Common.{◌≡◌, ℕ, suc, ◌<◌, ◌≤◌, Bool, true, false, cond, List, [], ◌∷◌, ◌++◌, length}
use Rattle.std.proofs.Common.{drop, filter, Contains, refl, sym, ap, subst, ◌∙◌, arith}
use Rattle.std.specs.List.{AllByRecursion}
use Rattle.at_ddp.specs.declared.address.Address.{Address}
use Rattle.at_nbp.specs.Lookups.{find_of, joins, all_joined}
use Rattle.at_nbp.specs.NameTables.{Table}
use Rattle.at_nbp.specs.Names.{is_match}
use Rattle.at_nbp.specs.Network.{Setting, Happening, Stood, FindStood, after}
use Rattle.at_nbp.specs.Replies.{AreReplies, entry_in, matching, name_in}
use Rattle.at_nbp.specs.Tuples.{Entry}
use Rattle.at_nbp.specs.declared.find.Find.{Find}
use Rattle.at_nbp.specs.declared.name.Name.{Name}
use Rattle.at_nbp.specs.declared.names.Registered.{Registered}
use Rattle.at_ddp.proofs.Alls.{all_implied, all_both, all_mapped, all_taken, all_dropped}

-- ---- parts of a list

all_filtered : {X : Type 0} (P : X → Type 0) (p : X → Bool) (xs : List X) → AllByRecursion P xs
    → AllByRecursion P (filter p xs)
all_filtered P p [] h = tt
all_filtered P p (x ∷ xs) h = go (all_filtered P p xs h.1) (p x)
  where
    go : AllByRecursion P (filter p xs) → (b : Bool) → AllByRecursion P (cond b (x ∷ filter p xs) (filter p xs))
    go ih true = (h.0, ih)
    go ih false = ih

each_there : {X : Type 0} (xs : List X) → AllByRecursion (Contains xs) xs
each_there [] = tt
each_there (x ∷ xs) = (
  (0, omega arith, refl),
  all_implied (Contains xs) (Contains (x ∷ xs)) xs
      (λ y c. let within = c.1 in (suc c.0, omega (arith, within), c.2)) (each_there xs),
)

-- what holds of each name that matches holds of each tuple of the replies
all_replies : (P : Entry → Type 0) (entries : List Entry) (replies : List (List Entry)) → AreReplies entries replies
    → AllByRecursion P entries → AllByRecursion (AllByRecursion P) replies
all_replies P entries [] full h = tt
all_replies P entries (reply ∷ replies) full h = (
  subst (AllByRecursion P) (sym full.1) (all_taken P (length reply) entries h),
  all_replies P
      (drop (length reply) entries) replies full.2 (all_dropped P (length reply) entries h),
)

-- ---- one happening later, and since an earlier event

module _ (setting : Setting) (history : List Happening) where
  pub stood_later : (h : Happening) (event : ℕ) (t : Entry) → Stood setting history event t
      → Stood setting (h ∷ history) event t
  stood_later h event t s =
      record {
        ago = suc s.ago;
        since = let since = s.since in omega (arith, since);
        at = s.at;
        owns = s.owns;
        name = s.name;
        there = s.there;
        is = s.is;
      }

  pub stood_before : (event earlier : ℕ) (t : Entry) → earlier ≤ event → Stood setting history event t
      → Stood setting history earlier t
  stood_before event earlier t le s =
      record {
        ago = s.ago;
        since = let since = s.since in omega (arith, since, le);
        at = s.at;
        owns = s.owns;
        name = s.name;
        there = s.there;
        is = s.is;
      }

  pub find_later : (h : Happening) (event : ℕ) (pattern : Name) (f : Find) → FindStood setting history event pattern f
      → FindStood setting (h ∷ history) event pattern f
  find_later h event pattern f s = record { tuple = s.tuple; stood = stood_later h event s.tuple s.stood; is = s.is }

  -- ---- finds that join

  pub joined_stood : (event : ℕ) (pattern : Name) (finds : List Find) (tuples : List Entry)
      → AllByRecursion (FindStood setting history event pattern) finds →
      AllByRecursion (Stood setting history event) tuples
      → AllByRecursion (FindStood setting history event pattern) (all_joined pattern finds tuples)
  joined_stood event pattern finds [] old new = old
  joined_stood event pattern finds (t ∷ ts) old new =
      joined_stood event pattern
      (cond (joins pattern finds (find_of pattern t)) (finds ++ find_of pattern t ∷ []) finds) ts
      (go (joins pattern finds (find_of pattern t))) new.1
    where
      go : (b : Bool) → AllByRecursion (FindStood setting history event pattern)
          (cond b (finds ++ find_of pattern t ∷ []) finds)
      go true = all_both (FindStood setting history event pattern) finds (find_of pattern t ∷ []) old
          (record { tuple = t; stood = new.0; is = refl }, tt)
      go false = old

  -- ---- what is answered stands at that moment

  pub replies_stand : (tables : Address → Table) (event : ℕ) (at : Address) (pattern : Name)
      (replies : List (List Entry)) → (after setting history).tables ≡ tables →
      event < length history → (tables at).own ≡ at → AreReplies (matching (tables at) pattern) replies
      → AllByRecursion (AllByRecursion (Stood setting history event)) replies
  replies_stand tables event at pattern replies now since owns full =
      all_replies (Stood setting history event) (matching (tables at) pattern) replies full
      (all_mapped (entry_in (tables at)) (Stood setting history event)
      (filter (λ r. is_match pattern (name_in (tables at) r)) (tables at).names)
      (all_filtered (λ r. Stood setting history event (entry_in (tables at) r))
      (λ r. is_match pattern (name_in (tables at) r)) (tables at).names
      (all_implied (Contains (tables at).names) (λ r. Stood setting history event (entry_in (tables at) r))
      (tables at).names stands (each_there (tables at).names))))
    where
      stands : (r : Registered) → Contains (tables at).names r → Stood setting history event (entry_in (tables at) r)
      stands r there = record {
        ago = 0;
        since = omega (arith, since);
        at = at;
        owns = ap (λ (f : Address → Table). (f at).own) now ∙ owns;
        name = r;
        there = subst (λ (f : Address → Table). Contains (f at).names r) (sym now) there;
        is = ap (λ (f : Address → Table). entry_in (f at) r) (sym now);
      }
