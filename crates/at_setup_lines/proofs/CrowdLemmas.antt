-- Nodes of different numbers are no more than there are numbers.
use Rattle.std.proofs.Common.{◌≡◌, ◌≢◌, ℕ, zero, suc, ◌+◌, ◌-◌, ◌<◌, ◌≤◌, ◌==◌, ◌&&◌, not, Bool, true, false, cond}
use Rattle.std.proofs.Common.{List, [], ◌∷◌, ◌++◌, length, nat_le, nat_lt, refl, sym, ap, subst, ◌∙◌, append-nil, arith}
use Rattle.std.specs.Prelude.{count_by}
use Rattle.std.specs.List.{list_all}
use Rattle.std.proofs.lemmas.Bool.{and_parts, eq-eqb, false≢true, leb-true, ltb-true}
use Rattle.std.proofs.lemmas.List.{length-append}
use Rattle.at_setup.specs.Setups.{are_lawful_nodes, is_lawful_node, is_room}
use Rattle.at_setup.specs.declared.setup.NodeSetup.{NodeSetup}
use Rattle.at_setup.specs.declared.setup.Setup.{Setup}
use Rattle.at_setup_lines.specs.Drafts.{Draft, IsDraft, has_events}
use Rattle.at_setup_lines.specs.NodeLists.{has_number, lacks_router}
use Rattle.at_setup_lines.specs.SetupLines.{IsSetup}
use Rattle.at_setup_lines.proofs.LawfulLemmas.{lawful_nodes}
use Rattle.at_setup_lines.proofs.FitLemmas.{fit_from}
use Rattle.at_setup_lines.proofs.OneSetupLemmas.{first_nodes}
use Rattle.at_setup_lines.proofs.RouterLemmas.{others, others_count, others_fewer}
use Rattle.at_setup_lines.proofs.RuleLemmas.{lacks_no}

-- each number is 1 at least, and this one at most
abbrev Within : ℕ → List NodeSetup → Type 0
Within most [] = Unit {0}
Within most (n ∷ ns) = (0 < n.node) × (n.node ≤ most) × Within most ns

positive : (n : NodeSetup) → is_lawful_node n ≡ true → 0 < n.node
positive n h =
    let a = and_parts (nat_lt 0 n.node && nat_lt n.node 255 && is_room n.receive_room) (is_room n.send_room) h in
    let b = and_parts (nat_lt 0 n.node && nat_lt n.node 255) (is_room n.receive_room) a.0 in
    ltb-true 0 n.node (and_parts (nat_lt 0 n.node) (nat_lt n.node 255) b.0).0

within_from : (first most : ℕ) (ns : List NodeSetup) → list_all is_lawful_node ns ≡ true
    → list_all (λ n. nat_le (first + n.node) most) ns ≡ true → Within (most - first) ns
within_from first most [] each fits = tt
within_from first most (n ∷ ns) each fits =
    let a = and_parts (is_lawful_node n) (list_all is_lawful_node ns) each in
    let b = and_parts (nat_le (first + n.node) most) (list_all (λ n. nat_le (first + n.node) most) ns) fits in
    let some = positive n a.0 in
    let small = leb-true (first + n.node) most b.0 in
    (some, omega (arith, small), within_from first most ns a.1 b.1)

other_by : (most : ℕ) (n : NodeSetup) (ns : List NodeSetup) (b : Bool) → (n.node == suc most) ≡ b
    → (0 < n.node) × (n.node ≤ suc most) × Within most ns → Within most (cond (not b) (n ∷ ns) ns)
other_by most n ns true is (some, small, rest) = rest
other_by most n ns false is (some, small, rest) =
    let differ : n.node ≢ suc most = λ same. false≢true (sym is ∙ eq-eqb n.node (suc most) same) in
    (some, omega (arith, small, differ), rest)

others_within : (most : ℕ) (ns : List NodeSetup) → Within (suc most) ns → Within most (others (suc most) ns)
others_within most [] h = tt
others_within most (n ∷ ns) (some, small, rest) =
    other_by most n (others (suc most) ns) (n.node == suc most) refl (some, small, others_within most ns rest)

few_numbers : (most : ℕ) (ns : List NodeSetup) → Within most ns
    → ((k : ℕ) → k ≤ most → count_by (has_number k) ns ≤ 1) → length ns ≤ most
few_numbers zero [] h differ = omega arith
few_numbers zero (n ∷ ns) (some, small, rest) differ = absurd (omega (arith, some, small))
few_numbers (suc most) ns h differ =
    let fewer = others_fewer (suc most) ns in
    let here = differ (suc most) (omega arith) in
    let rest = few_numbers most (others (suc most) ns) (others_within most ns h) (λ k small.
    let other : k ≢ suc most = λ same. omega (arith, same, small) in
    let same = others_count (suc most) k other ns in
    let one = differ k (omega (arith, small)) in
    omega (arith, same, one)) in
    omega (arith, fewer, here, rest)

more_by : (ns rest all : List NodeSetup) → all ≡ ns ++ rest → lacks_router ns ≡ true → are_lawful_nodes all ≡ true
    → length ns < length all
more_by ns [] all is lacks lawful =
    absurd (lacks_no ns lacks (subst (λ l. are_lawful_nodes l ≡ true) (is ∙ append-nil ns) lawful))
more_by ns (n ∷ rest) all is lacks lawful =
    let long = ap length is ∙ length-append ns (n ∷ rest) in omega (arith, long)

pub no_number : (A : Type 0) (first most : ℕ) (d : Draft) (lines more : List (List (List ℕ))) (s : Setup A)
    → lacks_router d.nodes ≡ true → has_events d ≡ false → most ≤ first + length d.nodes → IsDraft lines d
    → IsSetup (lines ++ more) s → ¬ (list_all (λ n. nat_le (first + n.node) most) s.nodes ≡ true)
no_number A first most d lines more s lacks early full h is fits =
    let (rest, all) = first_nodes d lines more s early h is in
    let lawful = lawful_nodes A s is.1 in
    let fit = fit_from s.nodes [] (subst (λ l. are_lawful_nodes l ≡ true) (sym (append-nil s.nodes)) lawful) in
    let few = few_numbers (most - first) s.nodes (within_from first most s.nodes fit.each fits)
    (λ k small. fit.differ k) in
    let long = more_by d.nodes rest s.nodes all lacks lawful in
    omega (arith, few, long, full)
