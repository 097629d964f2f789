-- Ends of a table whose identifiers differ, and the identifiers that are drawn.
use Rattle.std.proofs.Common.{◌≡◌, ℕ, ◌+◌, ◌≤◌, Bool, true, false, cond, List, [], ◌∷◌, ◌++◌, length, Some}
use Rattle.std.proofs.Common.{None, refl, sym, ap, subst, ◌∙◌, arith}
use Rattle.std.specs.Prelude.{nat_lt, ◌==◌}
use Rattle.std.specs.List.{AllByRecursion, list_any}
use Rattle.std.proofs.lemmas.Bool.{eqb-true}
use Rattle.at_ddp.specs.Tables.{replaced, without_first}
use Rattle.at_ddp.proofs.Alls.{all_both, all_replaced, all_without, none_any}
use Rattle.at_ddp.proofs.NumberLemmas.{is_free}
use Rattle.at_adsp_end.specs.Ends.{EndState}
use Rattle.at_adsp_ends.specs.Tables.{EndTable, has_id, following, free_id, next_id}
use Rattle.at_ddp.proofs.EqualLemmas.{apart}

-- ---- numbers that differ

-- ---- tables

-- the identifier of an end is another than this
abbrev pub Others : ℕ → EndState → Type 0
Others i x = (x.id == i) ≡ false

-- no two ends have one identifier
abbrev pub IdsApart : List EndState → Type 0
IdsApart [] = Unit {0}
IdsApart (x ∷ xs) = AllByRecursion (Others x.id) xs × IdsApart xs

others_of : (i j : ℕ) (xs : List EndState) → i ≡ j → AllByRecursion (Others i) xs → AllByRecursion (Others j) xs
others_of i j xs same h = subst (λ k. AllByRecursion (Others k) xs) same h

pub differ_replaced : (i : ℕ) (y : EndState) (xs : List EndState) → y.id ≡ i → IdsApart xs
    → IdsApart (replaced (has_id i) y xs)
differ_replaced i y [] same h = tt
differ_replaced i y (x ∷ xs) same h = go (differ_replaced i y xs same h.1) (x.id == i) refl
  where
    go : IdsApart (replaced (has_id i) y xs) → (b : Bool) → (x.id == i) ≡ b
        → IdsApart (cond b (y ∷ xs) (x ∷ replaced (has_id i) y xs))
    go ih true e = (others_of x.id y.id xs (eqb-true x.id i e ∙ sym same) h.0, h.1)
    go ih false e = (
      all_replaced (Others x.id) (has_id i) y xs h.0
          (apart x.id y.id (ap (λ k. x.id == k) same ∙ e)),
      ih,
    )

pub differ_without : (i : ℕ) (xs : List EndState) → IdsApart xs → IdsApart (without_first (has_id i) xs)
differ_without i [] h = tt
differ_without i (x ∷ xs) h = go (differ_without i xs h.1) (x.id == i)
  where
    go : IdsApart (without_first (has_id i) xs) → (b : Bool) → IdsApart (cond b xs (x ∷ without_first (has_id i) xs))
    go ih true = h.1
    go ih false = (all_without (Others x.id) (has_id i) xs h.0, ih)

differ_after : (y : EndState) (xs : List EndState) → IdsApart xs → AllByRecursion (Others y.id) xs
    → IdsApart (xs ++ y ∷ [])
differ_after y [] h others = (tt, tt)
differ_after y (x ∷ xs) h others =
    (all_both (Others x.id) xs (y ∷ []) h.0 (apart x.id y.id others.0, tt), differ_after y xs h.1 others.1)

-- one end more
pub differ_more : (y : EndState) (xs : List EndState) → IdsApart xs → list_any (has_id y.id) xs ≡ false
    → IdsApart (xs ++ y ∷ [])
differ_more y xs h none = differ_after y xs h (none_any (has_id y.id) xs none)

-- what holds of the end that takes another's place, and stays of the ends with other identifiers
pub all_moved : (P Q : EndState → Type 0) (i : ℕ) (y : EndState) (xs : List EndState) → IdsApart xs
    → ((x : EndState) → Others i x → P x → Q x) → Q y → AllByRecursion P xs →
    AllByRecursion Q (replaced (has_id i) y xs)
all_moved P Q i y [] differ stays is h = tt
all_moved P Q i y (x ∷ xs) differ stays is h = go (all_moved P Q i y xs differ.1 stays is h.1) (x.id == i) refl
  where
    rest : (zs : List EndState) → AllByRecursion (Others i) zs → AllByRecursion P zs → AllByRecursion Q zs
    rest [] o p = tt
    rest (z ∷ zs) o p = (stays z o.0 p.0, rest zs o.1 p.1)

    go : AllByRecursion Q (replaced (has_id i) y xs) → (b : Bool) → (x.id == i) ≡ b
        → AllByRecursion Q (cond b (y ∷ xs) (x ∷ replaced (has_id i) y xs))
    go ih true e = (is, rest xs (others_of x.id i xs (eqb-true x.id i e) differ.0) h.1)
    go ih false e = (stays x e h.0, ih)

-- ---- identifiers that are drawn

pub record IsDrawn (t : EndTable) (id : ℕ) : Type 0 where
  pub free : list_any (has_id id) t.ends ≡ false
  pub some : 1 ≤ id

pub drawn : (t : EndTable) (id : ℕ) → 1 ≤ t.next → next_id t ≡ Some id → IsDrawn t id
drawn t id some is = go (nat_lt (length t.ends) 16) is
  where
    go : (b : Bool) → cond b (free_id (length t.ends + 1) t.next t.ends) None ≡ Some id → IsDrawn t id
    go true e =
        let d = is_free following (λ n. list_any (has_id n) t.ends) (λ n. 1 ≤ n) (λ n is. omega arith)
        (length t.ends + 1) t.next id some e in
        record { free = d.1; some = d.0 }
    go false e = absurd (cc)
