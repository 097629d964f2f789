-- Which node may follow others.
use Rattle.std.proofs.Common.{◌≡◌, inl, inr, ℕ, ◌+◌, ◌<◌, ◌≤◌, ◌==◌, Bool, true, false, cond, not, ◌&&◌, ◌||◌, List, []}
use Rattle.std.proofs.Common.{◌∷◌, ◌++◌, length, nat_lt, Option, Some, None, refl, sym, ap, ◌∙◌, length-append, arith}
use Rattle.std.specs.Prelude.{count_by, is_none, is_some, IsNone, IsSome}
use Rattle.std.specs.List.{list_any}
use Rattle.std.proofs.lemmas.Bool.{and_from, and_parts, and_right, cond-true, cond-false, eq-eqb, eqb-true, false≢true}
use Rattle.std.proofs.lemmas.Bool.{lt-ltb, ltb-true, not-true, not_from_false, or_cases, or_left, or_right, true≢false}
use Rattle.std.proofs.lemmas.List.Folds.{list_all-append, list_any-append}
use Rattle.at_setup.specs.Setups.{are_in_zones, are_lawful_nodes, has_router, is_lawful_node, is_zone}
use Rattle.at_setup.specs.declared.setup.NodeSetup.{NodeSetup}
use Rattle.at_setup_lines.specs.NodeLists.{BeginNodes, fits_zones, has_number, have_zones, is_node, router_fits}
use Rattle.at_setup_lines.proofs.FitLemmas.{Fit, Placed, all_zoned, count_both, count_routers, counted, fit_from}
use Rattle.at_setup_lines.proofs.FitLemmas.{fit_more, lawful_if, lawful_parts, none_zoned}
use Rattle.at_setup_lines.proofs.RouterLemmas.{begin_from}

zoned_some : (z : Option (List ℕ)) → is_zone z ≡ true → is_some z ≡ true
zoned_some None h = absurd (false≢true h)
zoned_some (Some name) h = refl

none_not_some : (z : Option (List ℕ)) → is_none z ≡ true → is_some z ≡ false
none_not_some None h = refl
none_not_some (Some name) h = absurd (false≢true h)

some_not_none : (z : Option (List ℕ)) → is_some z ≡ true → is_none z ≡ false
some_not_none None h = absurd (false≢true h)
some_not_none (Some name) h = refl

all_have : (m : NodeSetup) (ns : List NodeSetup) → all_zoned (m ∷ ns) ≡ true → have_zones (m ∷ ns) ≡ true
all_have m ns h = or_left (is_some m.zone) (have_zones ns)
    (zoned_some m.zone (and_parts (is_zone m.zone) (all_zoned ns) h).0)

none_have : (ns : List NodeSetup) → none_zoned ns ≡ true → have_zones ns ≡ false
none_have [] h = refl
none_have (m ∷ ns) h =
    let parts = and_parts (is_none m.zone) (none_zoned ns) h in
    rw (none_not_some m.zone parts.0) (none_have ns parts.1)

-- ---- what holds of a node that may follow

module _ (ns : List NodeSetup) (n : NodeSetup) where
  has_last : has_router (ns ++ n ∷ []) ≡ (has_router ns || (n.router || false))
  has_last = list_any-append (λ m. m.router) ns (n ∷ [])

  all_last : all_zoned (ns ++ n ∷ []) ≡ true → (all_zoned ns ≡ true) × (is_zone n.zone ≡ true)
  all_last h =
      let parts = and_parts (all_zoned ns) (is_zone n.zone && true)
      (sym (list_all-append (λ m. is_zone m.zone) ns (n ∷ [])) ∙ h) in
      (parts.0, (and_parts (is_zone n.zone) true parts.1).0)

  none_last : none_zoned (ns ++ n ∷ []) ≡ true → (none_zoned ns ≡ true) × (is_none n.zone ≡ true)
  none_last h =
      let parts = and_parts (none_zoned ns) (is_none n.zone && true)
      (sym (list_all-append (λ m. is_none m.zone) ns (n ∷ [])) ∙ h) in
      (parts.0, (and_parts (is_none n.zone) true parts.1).0)

  all_with : all_zoned ns ≡ true → is_zone n.zone ≡ true → all_zoned (ns ++ n ∷ []) ≡ true
  all_with h z = list_all-append (λ m. is_zone m.zone) ns (n ∷ [])
      ∙ and_from (all_zoned ns) (is_zone n.zone && true) h (and_from (is_zone n.zone) true z refl)

  none_with : none_zoned ns ≡ true → is_none n.zone ≡ true → none_zoned (ns ++ n ∷ []) ≡ true
  none_with h z = list_all-append (λ m. is_none m.zone) ns (n ∷ [])
      ∙ and_from (none_zoned ns) (is_none n.zone && true) h (and_from (is_none n.zone) true z refl)

  pub test_number : Fit (ns ++ n ∷ []) → list_any (has_number n.node) ns ≡ false
  test_number f = go (list_any (has_number n.node) ns) refl
    where
      go : (b : Bool) → list_any (has_number n.node) ns ≡ b → list_any (has_number n.node) ns ≡ false
      go false is = is
      go true is =
          let some = counted (has_number n.node) ns is in
          let last : count_by (has_number n.node) (n ∷ []) ≡ 1 = rw (eq-eqb n.node n.node refl) refl in
          let most = f.differ n.node in
          absurd (omega (arith, count_both (has_number n.node) ns (n ∷ []), some, last, most))

fits_all : (ns : List NodeSetup) (n : NodeSetup) → all_zoned ns ≡ true → is_zone n.zone ≡ true → fits_zones ns n ≡ true
fits_all [] n h z = refl
fits_all (m ∷ ns) n h z =
    or_right (length (m ∷ ns) == 0) (cond (is_some n.zone) (have_zones (m ∷ ns)) (not (have_zones (m ∷ ns))))
    (cond-true (is_some n.zone) (have_zones (m ∷ ns)) (not (have_zones (m ∷ ns))) (zoned_some n.zone z)
    ∙ all_have m ns h)

fits_none : (ns : List NodeSetup) (n : NodeSetup) → none_zoned ns ≡ true → is_none n.zone ≡ true → fits_zones ns n
    ≡ true
fits_none ns n h z =
    or_right (length ns == 0) (cond (is_some n.zone) (have_zones ns) (not (have_zones ns)))
    (cond-false (is_some n.zone) (have_zones ns) (not (have_zones ns)) (none_not_some n.zone z)
    ∙ not_from_false (have_zones ns) (none_have ns h))

pub test_zones : (ns : List NodeSetup) (n : NodeSetup) → Fit (ns ++ n ∷ []) → fits_zones ns n ≡ true
test_zones ns n f = go f.placed
  where
    go : Placed (ns ++ n ∷ []) → fits_zones ns n ≡ true
    go (inl (has, all)) = let (h, z) = all_last ns n all in fits_all ns n h z
    go (inr (inl (lone, none))) = let (h, z) = none_last ns n none in fits_none ns n h z
    go (inr (inr (lone, all, few))) = let (h, z) = all_last ns n all in fits_all ns n h z

one_router : (ns : List NodeSetup) (n : NodeSetup) → n.router ≡ true → count_routers (ns ++ n ∷ []) ≤ 1 → has_router ns
    ≡ false
one_router ns n is one = go (has_router ns) refl
  where
    go : (b : Bool) → has_router ns ≡ b → has_router ns ≡ false
    go false lone = lone
    go true has =
        let some = counted (λ m. m.router) ns has in
        let last : count_routers (n ∷ []) ≡ 1 = rw is refl in
        absurd (omega (arith, count_both (λ m. m.router) ns (n ∷ []), some, last, one))

no_second : (ns : List NodeSetup) (n : NodeSetup) → n.router ≡ false → has_router (ns ++ n ∷ []) ≡ has_router ns
no_second ns n is = has_last ns n ∙ ap (λ b. has_router ns || (b || false)) is ∙ go (has_router ns)
  where
    go : (b : Bool) → (b || false) ≡ b
    go true = refl
    go false = refl

pub test_router : (ns : List NodeSetup) (n : NodeSetup) → Fit (ns ++ n ∷ []) → router_fits ns n ≡ true
test_router ns n f = go n.router refl f.placed
  where
    go : (b : Bool) → n.router ≡ b → Placed (ns ++ n ∷ [])
        → cond b (is_some n.zone && not (has_router ns))
        (is_none n.zone || (has_router ns || nat_lt (length ns + 1) 16)) ≡ true
    go true is (inl (has, all)) =
        and_from (is_some n.zone) (not (has_router ns)) (zoned_some n.zone (all_last ns n all).1)
        (not_from_false (has_router ns) (one_router ns n is f.one))
    go true is (inr (inl (lone, none))) =
        absurd (false≢true (sym lone ∙ has_last ns n ∙ ap (λ b. has_router ns || (b || false)) is
        ∙ or_right (has_router ns) true refl))
    go true is (inr (inr (lone, all, few))) =
        absurd (false≢true (sym lone ∙ has_last ns n ∙ ap (λ b. has_router ns || (b || false)) is
        ∙ or_right (has_router ns) true refl))
    go false is (inl (has, all)) =
        or_right (is_none n.zone) (has_router ns || nat_lt (length ns + 1) 16)
        (or_left (has_router ns) (nat_lt (length ns + 1) 16) (sym (no_second ns n is) ∙ has))
    go false is (inr (inl (lone, none))) = or_left (is_none n.zone) (has_router ns || nat_lt (length ns + 1) 16)
        (none_last ns n none).1
    go false is (inr (inr (lone, all, few))) =
        or_right (is_none n.zone) (has_router ns || nat_lt (length ns + 1) 16)
        (or_right (has_router ns) (nat_lt (length ns + 1) 16)
        (lt-ltb (length ns + 1) 16 (omega (arith, length-append ns (n ∷ []), few))))

-- ---- a node that passes may follow

nil_if : (ns : List NodeSetup) (n : NodeSetup) → fits_zones ns n ≡ true
    → cond (is_some n.zone) (have_zones ns) (not (have_zones ns)) ≡ false → ns ≡ []
nil_if [] n h c = refl
nil_if (m ∷ ns) n h c = elim
    (or_cases (length (m ∷ ns) == 0) (cond (is_some n.zone) (have_zones (m ∷ ns)) (not (have_zones (m ∷ ns)))) h) [
      | inl none ↦ let e = eqb-true (length (m ∷ ns)) 0 none in absurd (omega (arith, e))
      | inr passes ↦ absurd (false≢true (sym c ∙ passes))
    ]

-- where a node without a zone fits, nodes that are all in zones are none; and the other way round
nil_all : (ns : List NodeSetup) (n : NodeSetup) → fits_zones ns n ≡ true → is_none n.zone ≡ true → all_zoned ns ≡ true
    → ns ≡ []
nil_all [] n h z all = refl
nil_all (m ∷ ns) n h z all = nil_if (m ∷ ns) n h (rw (none_not_some n.zone z, all_have m ns all) refl)

nil_none : (ns : List NodeSetup) (n : NodeSetup) → fits_zones ns n ≡ true → is_some n.zone ≡ true → none_zoned ns
    ≡ true → ns ≡ []
nil_none ns n h z none = nil_if ns n h (rw (z, none_have ns none) refl)

all_if : (ns : List NodeSetup) → ns ≡ [] → all_zoned ns ≡ true
all_if ns e = ap all_zoned e

none_if : (ns : List NodeSetup) → ns ≡ [] → none_zoned ns ≡ true
none_if ns e = ap none_zoned e

no_router_if : (ns : List NodeSetup) → ns ≡ [] → has_router ns ≡ false
no_router_if ns e = ap has_router e

module _ (ns : List NodeSetup) (n : NodeSetup) (few : length ns < 16) (zones : fits_zones ns n ≡ true) where
  last_few : (ns ≡ []) → length (ns ++ n ∷ []) < 16
  last_few e = let none = ap length e in omega (arith, length-append ns (n ∷ []), none)

  -- all nodes before a node in a zone are in zones
  before_zoned : is_some n.zone ≡ true → Placed ns → all_zoned ns ≡ true
  before_zoned z (inl (has, all)) = all
  before_zoned z (inr (inl (lone, none))) = all_if ns (nil_none ns n zones z none)
  before_zoned z (inr (inr (lone, all, room))) = all

  router_placed : n.router ≡ true → is_zone n.zone ≡ true → Placed ns → Placed (ns ++ n ∷ [])
  router_placed is z placed = inl (
    has_last ns n ∙ ap (λ b. has_router ns || (b || false)) is ∙ or_right (has_router ns) true refl,
    all_with ns n (before_zoned (zoned_some n.zone z) placed) z,
  )

  none_placed : n.router ≡ false → is_none n.zone ≡ true → Placed ns → Placed (ns ++ n ∷ [])
  none_placed is z (inl (has, all)) = absurd (false≢true (sym (no_router_if ns (nil_all ns n zones z all)) ∙ has))
  none_placed is z (inr (inl (lone, none))) = inr (inl (no_second ns n is ∙ lone, none_with ns n none z))
  none_placed is z (inr (inr (lone, all, room))) = inr
      (inl (no_second ns n is ∙ lone, none_with ns n (none_if ns (nil_all ns n zones z all)) z))

  zoned_placed : n.router ≡ false → is_zone n.zone ≡ true → (has_router ns || nat_lt (length ns + 1) 16) ≡ true
      → Placed ns → Placed (ns ++ n ∷ [])
  zoned_placed is z fits placed = go (has_router ns) refl fits
    where
      all : all_zoned (ns ++ n ∷ []) ≡ true
      all = all_with ns n (before_zoned (zoned_some n.zone z) placed) z

      go : (b : Bool) → has_router ns ≡ b → (b || nat_lt (length ns + 1) 16) ≡ true → Placed (ns ++ n ∷ [])
      go true has g = inl (no_second ns n is ∙ has, all)
      go false lone g = inr (inr (
        no_second ns n is ∙ lone,
        all,
        let room = ltb-true (length ns + 1) 16 g in
            omega (arith, length-append ns (n ∷ []), room),
      ))

  placed_with : (b : Bool) → n.router ≡ b → (is_none n.zone || is_zone n.zone) ≡ true
      → cond b (is_some n.zone && not (has_router ns)) (is_none n.zone || (has_router ns || nat_lt (length ns + 1) 16))
      ≡ true → Placed ns → Placed (ns ++ n ∷ [])
  placed_with true is zone fits placed = elim (or_cases (is_none n.zone) (is_zone n.zone) zone) [
    | inl none ↦ absurd (false≢true
        (sym (none_not_some n.zone none) ∙ (and_parts (is_some n.zone) (not (has_router ns)) fits).0))
    | inr zoned ↦ router_placed is zoned placed
  ]
  placed_with false is zone fits placed = elim (or_cases (is_none n.zone) (is_zone n.zone) zone) [
    | inl none ↦ none_placed is none placed
    | inr zoned ↦
        zoned_placed is zoned (sym
        (ap (λ b. b || (has_router ns || nat_lt (length ns + 1) 16))
        (some_not_none n.zone (zoned_some n.zone zoned))) ∙ fits) placed
  ]

only_router : (ns : List NodeSetup) (n : NodeSetup) → router_fits ns n ≡ true → n.router ≡ true → has_router ns ≡ false
only_router ns n fits is =
    let both = sym (cond-true n.router (is_some n.zone && not (has_router ns))
    (is_none n.zone || (has_router ns || nat_lt (length ns + 1) 16)) is) ∙ fits in
    not-true (has_router ns) (and_parts (is_some n.zone) (not (has_router ns)) both).1

fit_with : (ns : List NodeSetup) (n : NodeSetup) → Fit ns → is_node n ≡ true → length ns < 16
    → list_any (has_number n.node) ns ≡ false → fits_zones ns n ≡ true → router_fits ns n ≡ true → Fit (ns ++ n ∷ [])
fit_with ns n f node few differs zones router =
    let parts = and_parts (is_lawful_node n) (is_none n.zone || is_zone n.zone) node in
    fit_more ns n f few parts.0 differs (only_router ns n router)
    (placed_with ns n few zones n.router refl parts.1 router f.placed)

-- ---- of nodes that may go on

fit_of : (ns : List NodeSetup) → BeginNodes ns → Fit ns
fit_of ns (more, h) = fit_from ns more h

pub number_if : (ns : List NodeSetup) (n : NodeSetup) → BeginNodes (ns ++ n ∷ []) → list_any (has_number n.node) ns
    ≡ false
number_if ns n b = test_number ns n (fit_of (ns ++ n ∷ []) b)

pub zones_if : (ns : List NodeSetup) (n : NodeSetup) → BeginNodes (ns ++ n ∷ []) → fits_zones ns n ≡ true
zones_if ns n b = test_zones ns n (fit_of (ns ++ n ∷ []) b)

pub router_if : (ns : List NodeSetup) (n : NodeSetup) → BeginNodes (ns ++ n ∷ []) → router_fits ns n ≡ true
router_if ns n b = test_router ns n (fit_of (ns ++ n ∷ []) b)

pub begin_with : (ns : List NodeSetup) (n : NodeSetup) → BeginNodes ns → is_node n ≡ true → length ns < 16
    → list_any (has_number n.node) ns ≡ false → fits_zones ns n ≡ true → router_fits ns n ≡ true
    → BeginNodes (ns ++ n ∷ [])
begin_with ns n b node few differs zones router =
    begin_from (ns ++ n ∷ []) (fit_with ns n (fit_of ns b) node few differs zones router)

pub none_is : {X : Type 0} (o : Option X) → IsNone o → is_none o ≡ true
none_is None h = refl
none_is (Some x) h = absurd (true≢false h)

pub some_is : {X : Type 0} (o : Option X) → IsSome o → is_none o ≡ false
some_is None h = absurd (false≢true h)
some_is (Some x) h = refl

-- ---- nodes that may stand alone

pub no_lack : (ns : List NodeSetup) → has_router ns ≡ true → (have_zones ns && not (has_router ns)) ≡ false
no_lack ns has = ap (λ b. have_zones ns && not b) has ∙ and_right (have_zones ns) false refl

placed_in : (ns : List NodeSetup) → (have_zones ns && not (has_router ns)) ≡ false → Placed ns → are_in_zones ns ≡ true
placed_in ns fits (inl (has, all)) = cond-true (has_router ns) (all_zoned ns) (none_zoned ns) has ∙ all
placed_in ns fits (inr (inl (lone, none))) = cond-false (has_router ns) (all_zoned ns) (none_zoned ns) lone ∙ none
placed_in [] fits (inr (inr (lone, all, few))) = refl
placed_in (m ∷ ns) fits (inr (inr (lone, all, few))) =
    absurd (false≢true (sym fits
    ∙ and_from (have_zones (m ∷ ns)) (not (has_router (m ∷ ns))) (all_have m ns all)
    (not_from_false (has_router (m ∷ ns)) lone)))

pub lawful_since : (ns : List NodeSetup) → BeginNodes ns → (have_zones ns && not (has_router ns)) ≡ false
    → are_lawful_nodes ns ≡ true
lawful_since ns b fits = let f = fit_of ns b in lawful_if ns f (placed_in ns fits f.placed)

pub lacks_no : (ns : List NodeSetup) → (have_zones ns && not (has_router ns)) ≡ true → ¬ (are_lawful_nodes ns ≡ true)
lacks_no ns lacks lawful =
    let parts = and_parts (have_zones ns) (not (has_router ns)) lacks in
    let placed = (lawful_parts ns lawful).placed in
    let none = sym (cond-false (has_router ns) (all_zoned ns) (none_zoned ns) (not-true (has_router ns) parts.1))
    ∙ placed in
    false≢true (sym (none_have ns none) ∙ parts.0)
