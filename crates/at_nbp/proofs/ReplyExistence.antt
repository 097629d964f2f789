-- Replies to a lookup can always be made, and which names match is known without them.
use Rattle.std.proofs.Common.{◌≡◌, inl, inr, ℕ, zero, suc, ◌+◌, ◌<◌, ◌≤◌, Bool, true, false, List, [], ◌∷◌, ◌++◌}
use Rattle.std.proofs.Common.{length, get_or, take, drop, map, refl, sym, ap, subst, ◌∙◌, append-nil, arith}
use Rattle.std.specs.Prelude.{All, nat_lt}
use Rattle.std.specs.List.{filter}
use Rattle.std.proofs.lemmas.Bool.{ltb-false, ltb-true}
use Rattle.std.proofs.lemmas.List.{length-append, length-drop, length-take-le, map-append, take_all, take_more}
use Rattle.std.proofs.lemmas.List.Elements.{All-drop, All-head, All-push, filter-append}
use Rattle.at_nbp.specs.NameTables.{Table}
use Rattle.at_nbp.specs.Names.{is_match}
use Rattle.at_nbp.specs.Replies.{AreReplies, IsFull, entry_in, matching, name_in, size_of}
use Rattle.at_nbp.specs.Tuples.{Entry, FitsStrings, tuple_spelling}
use Rattle.at_nbp.specs.declared.name.Name.{Name}
use Rattle.at_nbp.specs.declared.names.Registered.{Registered}
use Rattle.at_nbp.proofs.ListLemmas.{short_tuple}

one_fits : (e : Entry) (es : List Entry) → FitsStrings e → size_of (take 1 (e ∷ es)) ≤ 586
one_fits e es short = omega (arith, short_tuple e short, ap (length {A = ℕ}) (append-nil (tuple_spelling e)))

-- if the first tuples fit, some number of them fills the reply
filled : (left : ℕ) (entries : List Entry) (k : ℕ) → k + left ≡ 15 → 0 < k → k ≤ length entries
    → size_of (take k entries) ≤ 586 → (n : ℕ) × IsFull entries n
filled zero entries k sum some within fits = (
  k,
  record {
    some = some;
    few = omega (arith, sum);
    within = within;
    fits = fits;
    full = inr (inl (omega (arith, sum)));
  },
)
filled (suc left) entries k sum some within fits =
    go (λ more size. filled left entries (k + 1) (omega (arith, sum)) (omega arith) more size)
    (nat_lt k (length entries)) refl (nat_lt 586 (size_of (take (k + 1) entries))) refl
  where
    go : (k + 1 ≤ length entries → size_of (take (k + 1) entries) ≤ 586 → (n : ℕ) × IsFull entries n) → (b : Bool)
        → nat_lt k (length entries) ≡ b → (c : Bool) → nat_lt 586 (size_of (take (k + 1) entries)) ≡ c → (n : ℕ)
        × IsFull entries n
    go ih false e c f = (
      k,
      record {
        some = some;
        few = omega (arith, sum);
        within = within;
        fits = fits;
        full = inl (omega (arith, within, ltb-false k (length entries) e));
      },
    )
    go ih true e true f = (
      k,
      record {
        some = some;
        few = omega (arith, sum);
        within = within;
        fits = fits;
        full = inr (inr (ltb-true 586 (size_of (take (k + 1) entries)) f));
      },
    )
    go ih true e false f = ih (omega (arith, ltb-true k (length entries) e))
        (ltb-false 586 (size_of (take (k + 1) entries)) f)

some_replies : (most : ℕ) (entries : List Entry) → length entries ≤ most → All FitsStrings entries
    → (replies : List (List Entry)) × AreReplies entries replies
some_replies most [] few short = ([], refl)
some_replies zero (e ∷ es) few short = absurd (omega (arith, few))
some_replies (suc most) (e ∷ es) few short =
    let entries = e ∷ es in
    let first = filled 14 entries 1 refl (omega arith) (omega arith)
    (one_fits e es (All-head FitsStrings e es short)) in
    let n = first.0 in
    let full = first.1 in
    let rest = some_replies most (drop n entries) (omega (arith, few, full.some, length-drop n entries))
    (All-drop FitsStrings n entries short) in
    let len : length (take n entries) ≡ n = length-take-le n entries full.within in (
      take n entries ∷ rest.0,
      (
        subst (IsFull entries) (sym len) full,
        ap (λ k. take k entries) (sym len),
        subst
            (λ k. AreReplies (drop k entries) rest.0) (sym len) rest.1,
      ),
    )

pub replies_exist : (entries : List Entry) → All FitsStrings entries → (replies : List (List Entry))
    × AreReplies entries replies
replies_exist entries short = some_replies (length entries) entries (omega arith) short

-- ---- how many match

abbrev pub among : Table → Name → ℕ → List Registered
among table pattern i = filter (λ r. is_match pattern (name_in table r)) (take i table.names)

-- so many of the first names match, and their strings are short
pub record AreCounted (table : Table) (pattern : Name) (i count : ℕ) : Type 0 where
  pub is : count ≡ length (among table pattern i)
  pub short : All FitsStrings (map (entry_in table) (among table pattern i))
  pub few : count ≤ i

among_next : (table : Table) (pattern : Name) (i : ℕ) (d : Registered) → i < length table.names
    → among table pattern (i + 1)
    ≡ among table pattern i ++ filter (λ r. is_match pattern (name_in table r)) (get_or table.names i d ∷ [])
among_next table pattern i d lt =
    let p : Registered → Bool = λ r. is_match pattern (name_in table r) in
    ap (filter p) (take_more table.names i d lt) ∙ filter-append p (take i table.names) (get_or table.names i d ∷ [])

pub counted_more : (table : Table) (pattern : Name) (i count : ℕ) (d : Registered) → AreCounted table pattern i count
    → i < length table.names → is_match pattern (name_in table (get_or table.names i d)) ≡ true
    → FitsStrings (entry_in table (get_or table.names i d)) →
    AreCounted table pattern (i + 1) (count + 1)
counted_more table pattern i count d c lt hit short =
    let name = get_or table.names i d in
    let next : among table pattern (i + 1) ≡ among table pattern i ++ name ∷ [] =
    among_next table pattern i d lt ∙ ap (λ l. among table pattern i ++ l) (rw hit refl) in
    let entries : map (entry_in table) (among table pattern (i + 1))
    ≡ map (entry_in table) (among table pattern i) ++ entry_in table name ∷ [] =
    ap (map (entry_in table)) next ∙ map-append (entry_in table) (among table pattern i) (name ∷ []) in
    record {
      is = omega (arith, c.is, ap (length {A = Registered}) next, length-append (among table pattern i) (name ∷ []));
      short = subst (All FitsStrings) (sym entries)
          (All-push FitsStrings (map (entry_in table) (among table pattern i)) (entry_in table name) c.short short);
      few = omega (arith, c.few);
    }

pub counted_same : (table : Table) (pattern : Name) (i count : ℕ) (d : Registered) → AreCounted table pattern i count
    → i < length table.names → is_match pattern (name_in table (get_or table.names i d)) ≡ false
    → AreCounted table pattern (i + 1) count
counted_same table pattern i count d c lt misses =
    let next : among table pattern (i + 1) ≡ among table pattern i =
    among_next table pattern i d lt ∙ ap (λ l. among table pattern i ++ l) (rw misses refl)
    ∙ append-nil (among table pattern i) in
    record {
      is = c.is ∙ ap (length {A = Registered}) (sym next);
      short = subst (λ l. All FitsStrings (map (entry_in table) l)) (sym next) c.short;
      few = omega (arith, c.few);
    }

-- once all names were seen, that is all that match
pub counted_all : (table : Table) (pattern : Name) (i count : ℕ) → AreCounted table pattern i count
    → length table.names ≤ i → All FitsStrings (matching table pattern)
counted_all table pattern i count c all =
    subst (λ l. All FitsStrings (map (entry_in table) (filter (λ r. is_match pattern (name_in table r)) l)))
    (take_all i table.names all) c.short
