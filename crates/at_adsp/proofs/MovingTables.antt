-- How far the numbers of the ends of a table go on.
use Rattle.std.proofs.Common.{◌≡◌, ℕ, Bool, true, false, cond, List, [], ◌∷◌, ◌++◌, Some, refl, sym, ap, subst, ◌∙◌}
use Rattle.std.specs.Prelude.{find, ◌==◌}
use Rattle.std.specs.List.{IsDistinct}
use Rattle.std.proofs.lemmas.Bool.{true≢false, eqb-true, eq-eqb}
use Rattle.at_ddp.specs.Tables.{without_first}
use Rattle.at_ddp.proofs.Alls.{all_found, found_passes}
use Rattle.at_adsp_end.specs.Ends.{EndState}
use Rattle.at_adsp_end.specs.Positions.{Numbers}
use Rattle.at_adsp_ends.specs.Tables.{EndTable, IdsDiffer, has_id, with_changed, with_end, without_end}
use Rattle.at_adsp.specs.Moving.{AllMoveOn, MovesOn}
use Rattle.at_adsp.proofs.Finds.{kept_in}
use Rattle.at_adsp.proofs.Moving.{Adds, moves_same}
use Rattle.at_ddp.proofs.EqualLemmas.{apart}
use Rattle.std.proofs.lemmas.Option.{same_Some}

-- what has passed one test is the first of its identifier
first_found : (q : EndState → Bool) (xs : List EndState) (e : EndState) → IdsDiffer xs → find q xs ≡ Some e
    → find (has_id e.id) xs ≡ Some e
unfolding IsDistinct
first_found q [] e differ is = absurd (cc)
first_found q (x ∷ xs) e differ is = go (λ g. first_found q xs e differ.1 g) (q x) is
  where
    go : (find q xs ≡ Some e → find (has_id e.id) xs ≡ Some e) → (b : Bool) → cond b (Some x) (find q xs) ≡ Some e
        → find (has_id e.id) (x ∷ xs) ≡ Some e
    go ih true g = let same = same_Some x e g in
        ap (λ (z : EndState). cond (z.id == e.id) (Some x) (find (has_id e.id) xs)) same
        ∙ ap (λ b. cond b (Some x) (find (has_id e.id) xs)) (eq-eqb e.id e.id refl) ∙ g
    go ih false g =
        let other = (all_found (λ z. has_id x.id z ≡ false) q xs e differ.0 g).0 in
        ap (λ b. cond b (Some x) (find (has_id e.id) xs)) (apart e.id x.id other) ∙ ih g

-- what is found once one is gone was found before
found_before : (q : EndState → Bool) (id : ℕ) (xs : List EndState) (e : EndState) → IdsDiffer xs
    → find (has_id id) (without_first q xs) ≡ Some e → find (has_id id) xs ≡ Some e
unfolding IsDistinct
found_before q id [] e differ is = is
found_before q id (x ∷ xs) e differ is = go (λ g. found_before q id xs e differ.1 g) (q x) is
  where
    gone : find (has_id id) xs ≡ Some e → (b : Bool) → (x.id == id) ≡ b → cond b (Some x) (find (has_id id) xs) ≡ Some e
    gone g true same = absurd
        (true≢false (sym (found_passes (has_id id) xs e g) ∙ ap (λ n. e.id == n) (sym (eqb-true x.id id same))
        ∙ (all_found (λ z. has_id x.id z ≡ false) (has_id id) xs e differ.0 g).0))
    gone g false other = g

    stays : (find (has_id id) (without_first q xs) ≡ Some e → find (has_id id) xs ≡ Some e) → (b : Bool)
        → cond b (Some x) (find (has_id id) (without_first q xs)) ≡ Some e → cond b (Some x) (find (has_id id) xs)
        ≡ Some e
    stays ih true g = g
    stays ih false g = ih g

    go : (find (has_id id) (without_first q xs) ≡ Some e → find (has_id id) xs ≡ Some e) → (b : Bool)
        → find (has_id id) (cond b xs (x ∷ without_first q xs)) ≡ Some e → find (has_id id) (x ∷ xs) ≡ Some e
    go ih true g = gone g (x.id == id) refl
    go ih false g = stays ih (x.id == id) g

-- what was found is found once one is added behind
found_more : {X : Type 0} (p : X → Bool) (xs : List X) (x y : X) → find p xs ≡ Some x → find p (xs ++ y ∷ []) ≡ Some x
found_more p [] x y is = absurd (cc)
found_more {X} p (z ∷ zs) x y is = go (λ g. found_more p zs x y g) (p z) is
  where
    go : (find p zs ≡ Some x → find p (zs ++ y ∷ []) ≡ Some x) → (b : Bool) → cond b (Some z) (find p zs) ≡ Some x
        → cond b (Some z) (find p (zs ++ y ∷ [])) ≡ Some x
    go ih true g = g
    go ih false g = ih g

module _ (N : Numbers) (adds : Adds N) (window : ℕ) (t : EndTable) where
  one_moves : (e f : EndState) → Some e ≡ Some f → MovesOn N window e f
  one_moves e f same = subst (MovesOn N window e) (same_Some e f same) (moves_same N adds window e)

  pub all_same : AllMoveOn N window t t
  all_same id e f old new = one_moves e f (sym old ∙ new)

  pub all_made : (y : EndState) → AllMoveOn N window t (with_end t y)
  all_made y id e f old new = one_moves e f (sym (found_more (has_id id) t.ends e y old) ∙ new)

  pub all_freed : (gone : ℕ) → IdsDiffer t.ends → AllMoveOn N window t (without_end t gone)
  all_freed gone differ id e f old new = one_moves e f (sym old ∙ found_before (has_id gone) id t.ends f differ new)

  pub all_changed : (q : EndState → Bool) (x y : EndState) → IdsDiffer t.ends → find q t.ends ≡ Some x → y.id ≡ x.id
      → MovesOn N window x y → AllMoveOn N window t (with_changed t y)
  all_changed q x y differ is same moves id e f old new =
      let first = ap (λ n. find (has_id n) t.ends) same ∙ first_found q t.ends x differ is in
      let more = kept_in (MovesOn N window) (moves_same N adds window) (has_id y.id) (has_id id) x y t.ends moves
      (ap (λ n. n == id) same) first e old in
      subst (MovesOn N window e) (same_Some more.0 f (sym more.1 ∙ new)) more.2
