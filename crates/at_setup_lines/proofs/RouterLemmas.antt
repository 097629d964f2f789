-- A router can follow nodes that need one.
use Rattle.std.proofs.Common.{◌≡◌, ◌≢◌, inl, inr, ℕ, zero, suc, ◌+◌, ◌<◌, ◌≤◌, ◌==◌, Bool, true, false, cond, not, ◌&&◌}
use Rattle.std.proofs.Common.{List, [], ◌∷◌, ◌++◌, length, filter, nat_lt, Some, refl, sym, ap, subst, ◌∙◌, append-nil}
use Rattle.std.proofs.Common.{arith}
use Rattle.std.specs.Prelude.{count_by}
use Rattle.std.specs.List.{list_any}
use Rattle.std.proofs.lemmas.Bool.{and_from, cases_lt, cond-true, cond-false, eqb-true, lt-ltb, ne_eqb, or_right}
use Rattle.std.proofs.lemmas.List.Folds.{list_all-append, list_any-append}
use Rattle.at_setup.specs.Setups.{are_lawful_nodes, has_router, is_lawful_node, is_room, is_zone}
use Rattle.at_setup.specs.declared.setup.NodeSetup.{NodeSetup}
use Rattle.at_setup_lines.specs.NodeLists.{BeginNodes, has_number}
use Rattle.at_setup_lines.proofs.FitLemmas.{Fit, Placed, all_zoned, count_cons, counted, fit_more, lawful_if}
use Rattle.at_setup_lines.proofs.FitLemmas.{none_zoned}

abbrev pub others : ℕ → List NodeSetup → List NodeSetup
others j ns = filter (λ n. not (has_number j n)) ns

fewer_by : (j : ℕ) (n : NodeSetup) (ns : List NodeSetup) (b : Bool) → (n.node == j) ≡ b
    → length (others j ns) + count_by (has_number j) ns ≡ length ns
    → length (cond (not b) (n ∷ others j ns) (others j ns)) + count_by (has_number j) (n ∷ ns) ≡ length (n ∷ ns)
fewer_by j n ns true is rest = let here = count_cons (has_number j) n ns
    ∙ ap (λ b. cond b 1 0 + count_by (has_number j) ns) is in omega (arith, rest, here)
fewer_by j n ns false is rest = let here = count_cons (has_number j) n ns
    ∙ ap (λ b. cond b 1 0 + count_by (has_number j) ns) is in omega (arith, rest, here)

pub others_fewer : (j : ℕ) (ns : List NodeSetup) → length (others j ns) + count_by (has_number j) ns ≡ length ns
others_fewer j [] = refl
others_fewer j (n ∷ ns) = fewer_by j n ns (n.node == j) refl (others_fewer j ns)

count_by_other : (j k : ℕ) → k ≢ j → (n : NodeSetup) (ns : List NodeSetup) (b : Bool) → (n.node == j) ≡ b
    → count_by (has_number k) (others j ns) ≡ count_by (has_number k) ns
    → count_by (has_number k) (cond (not b) (n ∷ others j ns) (others j ns)) ≡ count_by (has_number k) (n ∷ ns)
count_by_other j k differ n ns true is rest =
    let other : (n.node == k) ≡ false = ne_eqb n.node k (λ same. differ (sym same ∙ eqb-true n.node j is)) in
    let here = count_cons (has_number k) n ns ∙ ap (λ b. cond b 1 0 + count_by (has_number k) ns) other in
    omega (arith, rest, here)
count_by_other j k differ n ns false is rest = count_cons (has_number k) n (others j ns)
    ∙ ap (λ m. cond (n.node == k) 1 0 + m) rest ∙ sym (count_cons (has_number k) n ns)

pub others_count : (j k : ℕ) → k ≢ j → (ns : List NodeSetup) → count_by (has_number k) (others j ns)
    ≡ count_by (has_number k) ns
others_count j k differ [] = refl
others_count j k differ (n ∷ ns) = count_by_other j k differ n ns (n.node == j) refl (others_count j k differ ns)

abbrev Free : ℕ → List NodeSetup → Type 0
Free most ns = (k : ℕ) × (0 < k) × (k ≤ most) × (count_by (has_number k) ns ≡ 0)

-- fewer nodes than numbers leave a number free
free : (most : ℕ) (ns : List NodeSetup) → length ns < most → Free most ns
free zero ns few = absurd (omega (arith, few))
free (suc most) ns few = elim (cases_lt 0 (count_by (has_number (suc most)) ns)) [
  | inl some ↦
      let fewer = others_fewer (suc most) ns in
      let (k, positive, small, none) = free most (others (suc most) ns) (omega (arith, few, some, fewer)) in
      let differ : k ≢ suc most = λ same. omega (arith, same, small) in
      (k, positive, omega (arith, small), sym (others_count (suc most) k differ ns) ∙ none)
  | inr none ↦ (suc most, omega arith, omega arith, omega (arith, none))
]

-- a router of this number, in zone A
abbrev pub router_at : ℕ → NodeSetup
router_at k = record { node = k; router = true; zone = Some (65 ∷ []); receive_room = 64; send_room = 64 }

not_any : (p : NodeSetup → Bool) (ns : List NodeSetup) → count_by p ns ≡ 0 → list_any p ns ≡ false
not_any p ns none = go (list_any p ns) refl
  where
    go : (b : Bool) → list_any p ns ≡ b → list_any p ns ≡ false
    go false is = is
    go true is = let some = counted p ns is in absurd (omega (arith, some, none))

-- such a router can follow nodes that need one
pub router_follows : (most : ℕ) (ns : List NodeSetup) → most < 255 → length ns < most → Fit ns
    → has_router ns ≡ false → all_zoned ns ≡ true → length ns < 16
    → (k : ℕ) × (0 < k) × (k ≤ most) × (are_lawful_nodes (ns ++ router_at k ∷ []) ≡ true)
router_follows most ns byte place f lone zoned few =
    let (k, positive, small, none) = free most ns place in
    let r = router_at k in
    let lawful : is_lawful_node r ≡ true =
    and_from (nat_lt 0 k && nat_lt k 255 && is_room 64) (is_room 64)
    (and_from (nat_lt 0 k && nat_lt k 255) (is_room 64)
    (and_from (nat_lt 0 k) (nat_lt k 255) (lt-ltb 0 k positive)
    (lt-ltb k 255 (omega (arith, small, byte)))) refl) refl in
    let has : has_router (ns ++ r ∷ []) ≡ true = list_any-append (λ n. n.router) ns (r ∷ [])
    ∙ or_right (has_router ns) true refl in
    let all : all_zoned (ns ++ r ∷ []) ≡ true = list_all-append (λ n. is_zone n.zone) ns (r ∷ [])
    ∙ and_from (all_zoned ns) true zoned refl in
    let fit = fit_more ns r f few lawful (not_any (has_number k) ns none) (λ _. lone) (inl (has, all)) in (
      k,
      positive,
      small,
      lawful_if (ns ++ r ∷ []) fit
          (cond-true (has_router (ns ++ r ∷ [])) (all_zoned (ns ++ r ∷ [])) (none_zoned (ns ++ r ∷ [])) has ∙ all),
    )

with_router : (ns : List NodeSetup) → Fit ns → has_router ns ≡ false → all_zoned ns ≡ true → length ns < 16
    → BeginNodes ns
with_router ns f lone zoned few =
    let (k, some, small, lawful) = router_follows 254 ns (omega arith) (omega (arith, few)) f lone zoned few in
    (router_at k ∷ [], lawful)

alone : (ns : List NodeSetup) → are_lawful_nodes ns ≡ true → BeginNodes ns
alone ns h = ([], subst (λ ms. are_lawful_nodes ms ≡ true) (sym (append-nil ns)) h)

pub begin_from : (ns : List NodeSetup) → Fit ns → BeginNodes ns
begin_from ns f = go f.placed
  where
    go : Placed ns → BeginNodes ns
    go (inl (has, all)) = alone ns (lawful_if ns f (cond-true (has_router ns) (all_zoned ns) (none_zoned ns) has ∙ all))
    go (inr (inl (lone, none))) =
        alone ns (lawful_if ns f (cond-false (has_router ns) (all_zoned ns) (none_zoned ns) lone ∙ none))
    go (inr (inr (lone, all, few))) = with_router ns f lone all few
