-- Which nodes lawful nodes begin with.
use Rattle.std.proofs.Common.{◌≡◌, ◌⊎◌, inl, inr, ℕ, ◌+◌, ◌<◌, ◌≤◌, ◌==◌, Bool, true, false, cond, ◌&&◌, ◌||◌, List, []}
use Rattle.std.proofs.Common.{◌∷◌, ◌++◌, length, nat_le, refl, sym, ap, subst, ◌∙◌, append_assoc, length-append, arith}
use Rattle.std.specs.Prelude.{count_by, is_none}
use Rattle.std.specs.List.{list_all, list_any}
use Rattle.std.proofs.lemmas.Bool.{and_from, and_parts, cases_lt, eq-eqb, eqb-true, false≢true, le-leb, leb-true}
use Rattle.std.proofs.lemmas.Bool.{or_parts}
use Rattle.std.proofs.lemmas.List.Folds.{list_all-append, list_any-append}
use Rattle.std.proofs.lemmas.List.Sums.{sum_by-append}
use Rattle.at_setup.specs.Setups.{are_in_zones, are_lawful_nodes, has_router, is_lawful_node, is_zone, stands_once}
use Rattle.at_setup.specs.declared.setup.NodeSetup.{NodeSetup}
use Rattle.at_setup_lines.specs.NodeLists.{has_number}

abbrev pub all_zoned : List NodeSetup → Bool
all_zoned ns = list_all (λ n. is_zone n.zone) ns

abbrev pub none_zoned : List NodeSetup → Bool
none_zoned ns = list_all (λ n. is_none n.zone) ns

abbrev pub count_routers : List NodeSetup → ℕ
count_routers ns = count_by (λ n. n.router) ns

-- no number stands twice
abbrev pub Differ : List NodeSetup → Type 0
Differ ns = (k : ℕ) → count_by (has_number k) ns ≤ 1

-- all are in zones, or none is; in zones they have a router, or a place for it is left
abbrev pub Placed : List NodeSetup → Type 0
Placed ns =
    ((has_router ns ≡ true) × (all_zoned ns ≡ true))
    ⊎ (((has_router ns ≡ false) × (none_zoned ns ≡ true))
    ⊎ ((has_router ns ≡ false) × (all_zoned ns ≡ true) × (length ns < 16)))

-- what nodes are with which lawful nodes begin
pub record Fit (ns : List NodeSetup) : Type 0 where
  pub few : length ns ≤ 16
  pub each : list_all is_lawful_node ns ≡ true
  pub differ : Differ ns
  pub one : count_routers ns ≤ 1
  pub placed : Placed ns

-- ---- the parts of lawful nodes

pub record Lawful (ns : List NodeSetup) : Type 0 where
  pub few : length ns ≤ 16
  pub each : list_all is_lawful_node ns ≡ true
  pub once : list_all (stands_once ns) ns ≡ true
  pub one : count_routers ns ≤ 1
  pub placed : are_in_zones ns ≡ true

pub lawful_parts : (ns : List NodeSetup) → are_lawful_nodes ns ≡ true → Lawful ns
lawful_parts ns h =
    let d = and_parts (nat_le (length ns) 16 && list_all is_lawful_node ns && list_all (stands_once ns) ns
    && nat_le (count_routers ns) 1) (are_in_zones ns) h in
    let e = and_parts (nat_le (length ns) 16 && list_all is_lawful_node ns && list_all (stands_once ns) ns)
    (nat_le (count_routers ns) 1) d.0 in
    let f = and_parts (nat_le (length ns) 16 && list_all is_lawful_node ns) (list_all (stands_once ns) ns) e.0 in
    let g = and_parts (nat_le (length ns) 16) (list_all is_lawful_node ns) f.0 in
    record {
      few = leb-true (length ns) 16 g.0;
      each = g.1;
      once = f.1;
      one = leb-true (count_routers ns) 1 e.1;
      placed = d.1;
    }

pub lawful_from : (ns : List NodeSetup) → Lawful ns → are_lawful_nodes ns ≡ true
lawful_from ns l =
    let g = and_from (nat_le (length ns) 16) (list_all is_lawful_node ns) (le-leb (length ns) 16 l.few) l.each in
    let f = and_from (nat_le (length ns) 16 && list_all is_lawful_node ns) (list_all (stands_once ns) ns) g l.once in
    let e = and_from (nat_le (length ns) 16 && list_all is_lawful_node ns && list_all (stands_once ns) ns)
    (nat_le (count_routers ns) 1) f (le-leb (count_routers ns) 1 l.one) in
    and_from (nat_le (length ns) 16 && list_all is_lawful_node ns && list_all (stands_once ns) ns
    && nat_le (count_routers ns) 1) (are_in_zones ns) e l.placed

-- ---- counts

pub count_both : (p : NodeSetup → Bool) (xs ys : List NodeSetup) → count_by p (xs ++ ys) ≡ count_by p xs + count_by p ys
count_both p xs ys = sum_by-append (λ x. cond (p x) 1 0) xs ys

pub count_cons : (p : NodeSetup → Bool) (x : NodeSetup) (xs : List NodeSetup) → count_by p (x ∷ xs)
    ≡ cond (p x) 1 0 + count_by p xs
count_cons p x xs = let both = count_both p (x ∷ []) xs in omega (arith, both)

counted_by : (b : Bool) (c n m : ℕ) → c ≡ cond b 1 0 + n → (b ≡ false → 0 < n) → 0 < c
counted_by true c n m is some = omega (arith, is)
counted_by false c n m is some = let more = some refl in omega (arith, is, more)

pub counted : (p : NodeSetup → Bool) (xs : List NodeSetup) → list_any p xs ≡ true → 0 < count_by p xs
counted p [] h = absurd (false≢true h)
counted p (x ∷ xs) h =
    counted_by (p x) (count_by p (x ∷ xs)) (count_by p xs) 0 (count_cons p x xs)
    (λ fails. counted p xs (sym (ap (λ b. b || list_any p xs) fails) ∙ h))

pub not_counted : (p : NodeSetup → Bool) (xs : List NodeSetup) → list_any p xs ≡ false → count_by p xs ≡ 0
not_counted p [] h = refl
not_counted p (x ∷ xs) h =
    let parts = or_parts (p x) (list_any p xs) h in
    count_cons p x xs ∙ ap (λ b. cond b 1 0 + count_by p xs) parts.0 ∙ ap (λ n. 0 + n) (not_counted p xs parts.1)

once_by : (ms ns : List NodeSetup) (n : NodeSetup) (k : ℕ) (b : Bool) → (n.node == k) ≡ b → stands_once ms n ≡ true
    → 0 < cond b 1 0 + count_by (has_number k) ns
    → (0 < count_by (has_number k) ns → count_by (has_number k) ms ≡ 1) → count_by (has_number k) ms ≡ 1
once_by ms ns n k true is once some more = subst (λ j. count_by (has_number j) ms ≡ 1) (eqb-true n.node k is)
    (eqb-true (count_by (has_number n.node) ms) 1 once)
once_by ms ns n k false is once some more = more (omega (arith, some))

once_at : (ms ns : List NodeSetup) (k : ℕ) → list_all (stands_once ms) ns ≡ true → 0 < count_by (has_number k) ns
    → count_by (has_number k) ms ≡ 1
once_at ms [] k h some = absurd (omega (arith, some))
once_at ms (n ∷ ns) k h some =
    let parts = and_parts (stands_once ms n) (list_all (stands_once ms) ns) h in
    once_by ms ns n k (n.node == k) refl parts.0 (subst (λ c. 0 < c) (count_cons (has_number k) n ns) some)
    (once_at ms ns k parts.1)

differ_from : (ns : List NodeSetup) → list_all (stands_once ns) ns ≡ true → Differ ns
differ_from ns h k = elim (cases_lt 0 (count_by (has_number k) ns)) [
  | inl some ↦ let e = once_at ns ns k h some in omega (arith, e)
  | inr none ↦ omega (arith, none)
]

all_once : (before ns ms : List NodeSetup) → ms ≡ before ++ ns → Differ ms → list_all (stands_once ms) ns ≡ true
all_once before [] ms is d = refl
all_once before (n ∷ ns) ms is d =
    let k = n.node in
    let both = ap (count_by (has_number k)) is ∙ count_both (has_number k) before (n ∷ ns) in
    let here = count_cons (has_number k) n ns ∙ ap (λ b. cond b 1 0 + count_by (has_number k) ns) (eq-eqb k k refl) in
    let most = d k in
    let e : count_by (has_number k) ms ≡ 1 = omega (arith, both, here, most) in
    and_from (stands_once ms n) (list_all (stands_once ms) ns) (eq-eqb (count_by (has_number k) ms) 1 e)
    (all_once (before ++ n ∷ []) ns ms (is ∙ sym (append_assoc before (n ∷ []) ns)) d)

-- ---- nodes with which lawful ones begin

some_node : (ns : List NodeSetup) → has_router ns ≡ true → 0 < length ns
some_node [] h = absurd (false≢true h)
some_node (n ∷ ns) h = omega arith

placed_by : (ns more : List NodeSetup) (b c : Bool) → has_router ns ≡ b → has_router more ≡ c → length (ns ++ more) ≤ 16
    → cond (b || c) (all_zoned (ns ++ more)) (none_zoned (ns ++ more)) ≡ true → Placed ns
placed_by ns more true c r s few h = inl
    (r, (and_parts (all_zoned ns) (all_zoned more) (sym (list_all-append (λ n. is_zone n.zone) ns more) ∙ h)).0)
placed_by ns more false true r s few h =
    let some = some_node more s in
    inr (inr (
      r,
      (and_parts (all_zoned ns) (all_zoned more)
          (sym (list_all-append (λ n. is_zone n.zone) ns more) ∙ h)).0,
      omega (arith, length-append ns more, few, some),
    ))
placed_by ns more false false r s few h = inr
    (inl (r, (and_parts (none_zoned ns) (none_zoned more) (sym (list_all-append (λ n. is_none n.zone) ns more) ∙ h)).0))

pub fit_from : (ns more : List NodeSetup) → are_lawful_nodes (ns ++ more) ≡ true → Fit ns
fit_from ns more h =
    let l = lawful_parts (ns ++ more) h in
    let router = list_any-append (λ n. n.router) ns more in
    record {
      few = let few = l.few in omega (arith, length-append ns more, few);
      each = (and_parts (list_all is_lawful_node ns) (list_all is_lawful_node more)
          (sym (list_all-append is_lawful_node ns more) ∙ l.each)).0;
      differ = λ k. let most = differ_from (ns ++ more) l.once k in
          omega (arith, count_both (has_number k) ns more, most);
      one = let one = l.one in omega (arith, count_both (λ n. n.router) ns more, one);
      placed = placed_by ns more (has_router ns) (has_router more) refl refl l.few
          (ap (λ b. cond b (all_zoned (ns ++ more)) (none_zoned (ns ++ more))) (sym router) ∙ l.placed);
    }

pub lawful_if : (ns : List NodeSetup) → Fit ns → are_in_zones ns ≡ true → are_lawful_nodes ns ≡ true
lawful_if ns f placed = lawful_from ns
    (record { few = f.few; each = f.each; once = all_once [] ns ns refl f.differ; one = f.one; placed = placed })

-- one node more
pub fit_more : (ns : List NodeSetup) (n : NodeSetup) → Fit ns → length ns < 16 → is_lawful_node n ≡ true
    → list_any (has_number n.node) ns ≡ false
    → (n.router ≡ true → has_router ns ≡ false) → Placed (ns ++ n ∷ []) → Fit (ns ++ n ∷ [])
fit_more ns n f few lawful differs only placed = record {
  few = omega (arith, length-append ns (n ∷ []));
  each = list_all-append is_lawful_node ns (n ∷ [])
      ∙ and_from (list_all is_lawful_node ns) (is_lawful_node n && true) f.each
      (and_from (is_lawful_node n) true lawful refl);
  differ = λ k. number k (n.node == k) refl;
  one = router n.router refl;
  placed = placed;
}
  where
    number : (k : ℕ) (b : Bool) → (n.node == k) ≡ b → count_by (has_number k) (ns ++ n ∷ []) ≤ 1
    number k true is =
        let same = eqb-true n.node k is in
        let none : count_by (has_number k) ns
        ≡ 0 = subst (λ j. count_by (has_number j) ns ≡ 0) same (not_counted (has_number n.node) ns differs) in
        let last : count_by (has_number k) (n ∷ []) ≡ 1 = rw is refl in
        omega (arith, count_both (has_number k) ns (n ∷ []), none, last)
    number k false is =
        let most = f.differ k in
        let last : count_by (has_number k) (n ∷ []) ≡ 0 = rw is refl in
        omega (arith, count_both (has_number k) ns (n ∷ []), most, last)

    router : (b : Bool) → n.router ≡ b → count_routers (ns ++ n ∷ []) ≤ 1
    router true is =
        let none = not_counted (λ m. m.router) ns (only is) in
        let last : count_routers (n ∷ []) ≡ 1 = rw is refl in
        omega (arith, count_both (λ m. m.router) ns (n ∷ []), none, last)
    router false is =
        let most = f.one in
        let last : count_routers (n ∷ []) ≡ 0 = rw is refl in
        omega (arith, count_both (λ m. m.router) ns (n ∷ []), most, last)
