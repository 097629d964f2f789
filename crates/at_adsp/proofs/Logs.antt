-- How a reader goes on through all that a writer did.
use Rattle.std.proofs.Common.{◌≡◌, ◌+◌, List, [], ◌∷◌, ◌++◌, length, map, ◌⊎◌, inl, inr, refl, sym, ap, subst, ◌∙◌}
use Rattle.std.proofs.Common.{append_assoc, arith}
use Rattle.at_adsp_end.specs.declared.item.Item.{Item}
use Rattle.at_adsp.specs.Reading.{Written, Put, Reset, NoReset, ReadsFrom, nothing, same, passes}

-- What a writer did: an item got the next number, or a reset dropped these, which got none.
pub data Log : Type 0 where
  Went : (item : Item) → Log
  Cut : (dropped : List Item) → Log

abbrev pub flat : List Log → List Written
flat [] = []
flat (Went x ∷ l) = Put x ∷ flat l
flat (Cut ds ∷ l) = map Put ds ++ (Reset ∷ flat l)

abbrev pub went_of : List Log → List Item
went_of [] = []
went_of (Went x ∷ l) = x ∷ went_of l
went_of (Cut ds ∷ l) = went_of l

-- what is read so far is through all of this: each was read, or was passed
pub data Through : List Item → List Written → Type 0 where
  done : Through [] []
  next : {x : Item} {r : List Item} {p : List Written} → Through r p → Through (x ∷ r) (Put x ∷ p)
  past : {r : List Item} {v : List Written} (s p : List Written) → v ≡ s ++ Reset ∷ p → NoReset s → Through r p
      → Through r v

pub reads_from : {r : List Item} {p : List Written} (q : List Written) → Through r p → ReadsFrom r (p ++ q)
reads_from q done = nothing
reads_from q (next h) = same (reads_from q h)
reads_from q (past s p e none h) = passes s (p ++ q) (ap (λ l. l ++ q) e ∙ append_assoc s (Reset ∷ p) q) none
    (reads_from q h)

pub read_more : {r : List Item} {p : List Written} (x : Item) → Through r p → Through (r ++ x ∷ []) (p ++ Put x ∷ [])
read_more x done = next done
read_more x (next h) = next (read_more x h)
read_more x (past s p e none h) =
    past s (p ++ Put x ∷ []) (ap (λ l. l ++ Put x ∷ []) e ∙ append_assoc s (Reset ∷ p) (Put x ∷ [])) none
    (read_more x h)

pub pass_reset : {r : List Item} {p : List Written} (s : List Written) → NoReset s → Through r p
    → Through r (p ++ (s ++ Reset ∷ []))
pass_reset s none done = past s [] refl none done
pass_reset s none (next h) = next (pass_reset s none h)
pass_reset s none (past t p e free h) =
    past t (p ++ (s ++ Reset ∷ [])) (ap (λ l. l ++ (s ++ Reset ∷ [])) e ∙ append_assoc t (Reset ∷ p) (s ++ Reset ∷ []))
    free (pass_reset s none h)

pub nothing_more : {X : Type 0} (l : List X) → l ++ [] ≡ l
nothing_more [] = refl
nothing_more (x ∷ l) = ap (λ k. x ∷ k) (nothing_more l)

pub puts_free : (ds : List Item) → NoReset (map Put ds)
puts_free [] = tt
puts_free (d ∷ ds) = (refl, puts_free ds)

pub flat_both : (l k : List Log) → flat (l ++ k) ≡ flat l ++ flat k
flat_both [] k = refl
flat_both (Went x ∷ l) k = ap (λ w. Put x ∷ w) (flat_both l k)
flat_both (Cut ds ∷ l) k = ap (λ w. map Put ds ++ (Reset ∷ w)) (flat_both l k)
    ∙ sym (append_assoc (map Put ds) (Reset ∷ flat l) (flat k))

-- one block more
read_went : (r : List Item) (l : List Log) (x : Item) → Through r (flat l)
    → Through (r ++ x ∷ []) (flat (l ++ Went x ∷ []))
read_went r l x h = subst (Through (r ++ x ∷ [])) (sym (flat_both l (Went x ∷ []))) (read_more x h)

pass_cut : (r ds : List Item) (l : List Log) → Through r (flat l) → Through r (flat (l ++ Cut ds ∷ []))
pass_cut r ds l h = subst (Through r) (sym (flat_both l (Cut ds ∷ []))) (pass_reset (map Put ds) (puts_free ds) h)

pub reads_on : (r : List Item) (l k : List Log) → Through r (flat l) → Through (r ++ went_of k) (flat (l ++ k))
reads_on r l [] h = subst (λ w. Through w (flat (l ++ []))) (sym (nothing_more r))
    (subst (λ m. Through r (flat m)) (sym (nothing_more l)) h)
reads_on r l (Went x ∷ k) h =
    let rest = reads_on (r ++ x ∷ []) (l ++ Went x ∷ []) k (read_went r l x h) in
    subst (λ w. Through w (flat (l ++ Went x ∷ k))) (append_assoc r (x ∷ []) (went_of k))
    (subst (λ m. Through ((r ++ x ∷ []) ++ went_of k) (flat m)) (append_assoc l (Went x ∷ []) k) rest)
reads_on r l (Cut ds ∷ k) h = subst (λ m. Through (r ++ went_of k) (flat m)) (append_assoc l (Cut ds ∷ []) k)
    (reads_on r (l ++ Cut ds ∷ []) k (pass_cut r ds l h))

-- what stands before a reset is dropped, whatever it is
pass_any : {r : List Item} {p : List Written} (s t : List Written) → NoReset s → Through r p
    → Through r (p ++ (s ++ (t ++ Reset ∷ [])))
pass_any s [] none h = pass_reset s none h
pass_any {r} {p} s (Put x ∷ t) none h = subst (λ w. Through r (p ++ w)) (append_assoc s (Put x ∷ []) (t ++ Reset ∷ []))
    (pass_any (s ++ Put x ∷ []) t (more s none) h)
  where
    more : (s : List Written) → NoReset s → NoReset (s ++ Put x ∷ [])
    more [] n = (refl, tt)
    more (y ∷ s) n = (n.0, more s n.1)
pass_any {r} {p} s (Reset ∷ t) none h =
    subst (Through r) (append_assoc p (s ++ Reset ∷ []) (t ++ Reset ∷ [])
    ∙ ap (λ w. p ++ w) (append_assoc s (Reset ∷ []) (t ++ Reset ∷ [])))
    (pass_any [] t tt (pass_reset s none h))

pub pass_to : (r ds : List Item) (l d : List Log) → Through r (flat l) → Through r (flat (l ++ (d ++ Cut ds ∷ [])))
pass_to r ds l d h =
    subst (Through r) (sym (flat_both l (d ++ Cut ds ∷ [])
    ∙ ap (λ w. flat l ++ w) (flat_both d (Cut ds ∷ []) ∙ sym (append_assoc (flat d) (map Put ds) (Reset ∷ [])))))
    (pass_any [] (flat d ++ map Put ds) tt h)

-- what went is cut where one likes
pub record Split (l : List Log) (xs ys : List Item) : Type 0 where
  pub left : List Log
  pub right : List Log
  pub both : l ≡ left ++ right
  pub first : went_of left ≡ xs
  pub rest : went_of right ≡ ys

pub split_went : (l : List Log) (xs ys : List Item) → went_of l ≡ xs ++ ys → Split l xs ys
split_went l [] ys e = record { left = []; right = l; both = refl; first = refl; rest = e }
split_went [] (x ∷ xs) ys e = absurd (cc)
split_went (Went y ∷ l) (x ∷ xs) ys e =
    let tail : went_of l ≡ xs ++ ys = cc in
    let head : y ≡ x = cc in
    let s = split_went l xs ys tail in
    record {
      left = Went y ∷ s.left;
      right = s.right;
      both = ap (λ k. Went y ∷ k) s.both;
      first = (λ i. head i ∷ s.first i);
      rest = s.rest;
    }
split_went (Cut ds ∷ l) (x ∷ xs) ys e =
    let s = split_went l (x ∷ xs) ys e in
    record {
      left = Cut ds ∷ s.left;
      right = s.right;
      both = ap (λ k. Cut ds ∷ k) s.both;
      first = s.first;
      rest = s.rest;
    }

-- two beginnings of one list
pub comparable : {X : Type 0} (a b c d : List X) → a ++ c ≡ b ++ d → ((k : List X) × (b ≡ a ++ k))
    ⊎ ((k : List X) × (a ≡ b ++ k))
comparable [] b c d e = inl (b, refl)
comparable (x ∷ a) [] c d e = inr (x ∷ a, refl)
comparable (x ∷ a) (y ∷ b) c d e = go (comparable a b c d (cc))
  where
    head : x ≡ y
    head = cc

    go : ((k : List _) × (b ≡ a ++ k)) ⊎ ((k : List _) × (a ≡ b ++ k)) → ((k : List _) × (y ∷ b ≡ (x ∷ a) ++ k))
        ⊎ ((k : List _) × (x ∷ a ≡ (y ∷ b) ++ k))
    go (inl h) = inl (h.0, λ i. sym head i ∷ h.1 i)
    go (inr h) = inr (h.0, λ i. head i ∷ h.1 i)

pub length_both : {X : Type 0} (a b : List X) → length (a ++ b) ≡ length a + length b
length_both [] b = omega arith
length_both (x ∷ a) b = let rest = length_both a b in omega (arith, rest)

pub went_both : (l k : List Log) → went_of (l ++ k) ≡ went_of l ++ went_of k
went_both [] k = refl
went_both (Went x ∷ l) k = ap (λ w. x ∷ w) (went_both l k)
went_both (Cut ds ∷ l) k = went_both l k
