-- Numbers in use: there are at least as many entries as numbers that they have.
use Rattle.std.proofs.Common.{◌≡◌, ℕ, zero, suc, ◌+◌, ◌<◌, ◌≤◌, Bool, true, false, List, [], ◌∷◌, length, refl, arith}
use Rattle.std.proofs.Common.{cond, ◌++◌, sym, ap, subst, ◌∙◌}
use Rattle.std.specs.Prelude.{nat_lt, ◌==◌}
use Rattle.std.specs.List.{list_any}
use Rattle.std.proofs.lemmas.Bool.{and_parts, eqb-true, ne_eqb, true≢false}
use Rattle.std.proofs.lemmas.Bool.Decides.{nat_tests}
use Rattle.at_ddp.proofs.CountLemmas.{tests_in_use}
use Rattle.at_nbp.specs.NameTables.{IsLeastFree, IsRegistered, Table, has_number, number_from, registered}
use Rattle.at_nbp.specs.declared.names.Registered.{Registered}

apart : (socket m n : ℕ) (name : Registered) → m < n → has_number socket n name ≡ true → has_number socket m name
    ≡ false
apart socket m n name lt h =
    let parts = and_parts (name.socket == socket) (name.enumerator == n) h in
    let is : name.enumerator ≡ n = eqb-true name.enumerator n parts.1 in
    rw (parts.0, ne_eqb name.enumerator m (λ e. absurd (omega (arith, e, is, lt)))) refl

pub numbers_in_use : (socket count : ℕ) (names : List Registered)
    → ((n : ℕ) → n < count → list_any (has_number socket n) names ≡ true) → count ≤ length names
numbers_in_use socket count names used =
    tests_in_use (has_number socket) count (λ m n name lt within. apart socket m n name lt) count names
    (omega arith) used

-- ---- the least free number, computed

least_from : (names : List Registered) (socket least : ℕ) → IsLeastFree names socket least → (tries number : ℕ)
    → number ≤ least → least ≤ number + tries → number_from tries number names socket ≡ least
least_from names socket least is zero number low high = omega (arith, low, high)
least_from names socket least is (suc tries) number low high =
    go (λ l h. least_from names socket least is tries (number + 1) l h) (list_any (has_number socket number) names) refl
  where
    go : (number + 1 ≤ least → least ≤ number + 1 + tries → number_from tries (number + 1) names socket ≡ least)
        → (b : Bool) → list_any (has_number socket number) names ≡ b →
        cond b (number_from tries (number + 1) names socket) number ≡ least
    go ih true used =
        let apart : number ≡ least
        → ⊥ = λ same. true≢false (sym used ∙ ap (λ n. list_any (has_number socket n) names) same ∙ is.free) in
        ih (omega (arith, low, apart)) (omega (arith, high))
    go ih false free = at_least (nat_lt number least) refl
      where
        at_least : (b : Bool) → nat_lt number least ≡ b → number ≡ least
        at_least true below = absurd (true≢false (sym (is.least number (grind (arith, nat_tests, below))) ∙ free))
        at_least false above = grind (arith, nat_tests, above, low)

pub registered_is : (object kind : List ℕ) (socket : ℕ) (old new : Table) → IsRegistered object kind socket old new
    → new ≡ registered old object kind socket
registered_is object kind socket old new r =
    let few = numbers_in_use socket r.enumerator old.names (r.least).least in
    let number = least_from old.names socket r.enumerator r.least (length old.names) 0 (omega arith)
    (omega (arith, few)) in
    r.joins ∙ ap (λ n. record
    old { names = old.names ++ record { object = object; kind = kind; socket = socket; enumerator = n } ∷ [] })
    (sym number)

-- ---- the computed number is the least that is free

used_more : (socket number : ℕ) (names : List Registered)
    → ((n : ℕ) → n < number → list_any (has_number socket n) names ≡ true) → list_any (has_number socket number) names
    ≡ true →
    (n : ℕ) → n < number + 1 → list_any (has_number socket n) names ≡ true
used_more socket number names below used n lt = go (nat_lt n number) refl
  where
    go : (b : Bool) → nat_lt n number ≡ b → list_any (has_number socket n) names ≡ true
    go true less = below n (grind (arith, nat_tests, less))
    go false above = let same : number ≡ n = grind (arith, nat_tests, above, lt) in
        subst (λ m. list_any (has_number socket m) names ≡ true) same used

least_is : (tries number : ℕ) (names : List Registered) (socket : ℕ) → number + tries ≡ length names
    → ((n : ℕ) → n < number → list_any (has_number socket n) names ≡ true) →
    IsLeastFree names socket (number_from tries number names socket)
least_is zero number names socket all below = go (list_any (has_number socket number) names) refl
  where
    go : (b : Bool) → list_any (has_number socket number) names ≡ b → IsLeastFree names socket number
    go true used = absurd (omega
        (arith, all, numbers_in_use socket (number + 1) names (used_more socket number names below used)))
    go false free = record { free = free; least = below }
least_is (suc tries) number names socket all below =
    go (λ more. least_is tries (number + 1) names socket (omega (arith, all)) more)
    (list_any (has_number socket number) names) refl
  where
    go : (((n : ℕ) → n < number + 1 → list_any (has_number socket n) names ≡ true)
        → IsLeastFree names socket (number_from tries (number + 1) names socket)) → (b : Bool) →
        list_any (has_number socket number) names ≡ b
        → IsLeastFree names socket (cond b (number_from tries (number + 1) names socket) number)
    go ih true used = ih (used_more socket number names below used)
    go ih false free = record { free = free; least = below }

pub is_registered : (object kind : List ℕ) (socket : ℕ) (old : Table)
    → IsRegistered object kind socket old (registered old object kind socket)
is_registered object kind socket old = record {
  enumerator = number_from (length old.names) 0 old.names socket;
  least = least_is (length old.names) 0 old.names socket (omega arith) (λ n lt. absurd (omega (arith, lt)));
  joins = refl;
}
