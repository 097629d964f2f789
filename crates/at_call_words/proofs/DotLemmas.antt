-- A dot parts a network from a node, and no number has one.
use Rattle.std.proofs.Common.{◌≡◌, ℕ, suc, ◌+◌, ◌-◌, ◌<◌, Bool, true, false, cond, List, [], ◌∷◌, ◌++◌}
use Rattle.std.proofs.Common.{length, take, drop, Option, Some, None, inl, inr, refl, sym, ap, subst, ◌∙◌, arith}
use Rattle.std.proofs.Common.{rules}
use Rattle.std.proofs.lemmas.List.{length-drop, take_all}
use Rattle.std.proofs.lemmas.Str.Parse.{digit_from_value}
use Rattle.std.proofs.Math.Seq.{drop-append_seam, take-append_seam}
use Rattle.std.specs.Int.{IsInRange}
use Rattle.std.specs.List.{position_from}
use Rattle.std.specs.Str.Parse.{AllDigits}
use Rattle.at_ddp.specs.declared.address.Address.{Address}
use Rattle.at_call_words.specs.Requesters.{IsAnyNode, NameAny, is_dot}
use Rattle.at_words.specs.Numbers.{IsByte, IsTwoBytes}
use Rattle.at_words.specs.Readings.{IsFound}

-- ---- where the first dot is

-- the text has its first dot at this place
abbrev IsParted : List ℕ → ℕ → Type 0
IsParted word i = (i < length word) × (word ≡ take i word ++ (46 ∷ drop (suc i) word))

parted_from : (word : List ℕ) (from i : ℕ) → position_from is_dot from word ≡ Some i
    → (j : ℕ) × (i ≡ from + j) × IsParted word j
parted_from [] from i h = absurd (cc)
parted_from (c ∷ word) from i h = go (λ g. parted_from word (from + 1) i g) (is_dot c) refl h
  where
    go : (position_from is_dot (from + 1) word ≡ Some i → (j : ℕ) × (i ≡ from + 1 + j) × IsParted word j) → (b : Bool)
        → is_dot c ≡ b → cond b (Some from) (position_from is_dot (from + 1) word) ≡ Some i
        → (j : ℕ) × (i ≡ from + j) × IsParted (c ∷ word) j
    go ih true is g =
        let same : from ≡ i = cc in
        let dot : c ≡ 46 = search rules in
        (0, omega arith, (omega arith, ap (λ d. d ∷ word) dot))
    go ih false is g = let rest = ih g in
        (suc rest.0, omega (arith, rest.1), (omega (arith, rest.2.0), ap (λ l. c ∷ l) rest.2.1))

pub parted_at : (word : List ℕ) (i : ℕ) → position_from is_dot 0 word ≡ Some i
    → (i < length word) × (word ≡ take i word ++ (46 ∷ drop (i + 1) word))
parted_at word i h =
    let f = parted_from word 0 i h in
    let same : f.0 ≡ i = omega (arith, f.1) in
    let next : suc i ≡ i + 1 = omega arith in
    subst (λ n. (i < length word) × (word ≡ take i word ++ (46 ∷ drop n word))) next
    (subst (IsParted word) same f.2)

-- ---- a number has no dot

no_dot_digit : (c : ℕ) → IsInRange 48 57 c → is_dot c ≡ false
no_dot_digit c is = search rules

undotted : (digits : List ℕ) (from : ℕ) → AllDigits 10 digits → position_from is_dot from digits ≡ None
undotted [] from all = refl
undotted (c ∷ digits) from all =
    ap (λ b. cond b (Some from) (position_from is_dot (from + 1) digits)) (no_dot_digit c (digit_from_value c all.0))
    ∙ undotted digits (from + 1) all.1

dotted : (digits back : List ℕ) (from : ℕ) → AllDigits 10 digits
    → position_from is_dot from (digits ++ (46 ∷ back)) ≡ Some (from + length digits)
dotted [] back from all = ap Some (omega arith)
dotted (c ∷ digits) back from all =
    let next : from + 1 + length digits ≡ from + length (c ∷ digits) = omega arith in
    ap (λ b. cond b (Some from) (position_from is_dot (from + 1) (digits ++ (46 ∷ back))))
    (no_dot_digit c (digit_from_value c all.0))
    ∙ dotted digits back (from + 1) all.1 ∙ ap Some next

-- ---- what a word of a node says

-- a word without a dot that is no number of a node
pub no_node : (here : ℕ) (word : List ℕ) (o : Option (ℕ × ℕ)) → o ≡ None → position_from is_dot 0 word ≡ None
    → ((n : ℕ) → ¬ IsByte word n) → IsFound o (λ r. IsAnyNode here word r.0 r.1)
no_node here word o none undot never = rw none (λ r. go r)
  where
    go : (r : ℕ × ℕ) → ¬ IsAnyNode here word r.0 r.1
    go r (inl (same, said)) = never r.1 said
    go r (inr (front, back, is, net, node)) =
        let dot : None ≡ Some (0 + length front) = sym undot ∙ ap (position_from is_dot 0) is
        ∙ dotted front back 0 net.0.0.1 in
        cc dot

parted : (here : ℕ) (word front back : List ℕ) (i : ℕ) → position_from is_dot 0 word ≡ Some i → front ≡ take i word
    → back ≡ drop (i + 1) word → (r : ℕ × ℕ) → IsAnyNode here word r.0 r.1 → IsTwoBytes front r.0 × IsByte back r.1
parted here word front back i at before after r (inl (same, said)) =
    let none : Some i ≡ None = sym at ∙ undotted word 0 said.0.0.1 in absurd (cc none)
parted here word front back i at before after r (inr (f, b, is, net, node)) =
    let dot : Some i ≡ Some (0 + length f) = sym at ∙ ap (position_from is_dot 0) is ∙ dotted f b 0 net.0.0.1 in
    let place : i ≡ 0 + length f = cc dot in
    let long : i ≡ length f = omega (arith, place) in
    let next : i + 1 ≡ suc (length f) = omega (arith, long) in
    let same : front ≡ f = before ∙ (λ j. take (long j) (is j)) ∙ take-append_seam f (46 ∷ b) in
    let seam : drop (length f) (f ++ (46 ∷ b)) ≡ 46 ∷ b = drop-append_seam f (46 ∷ b) in
    let too : back ≡ b = after ∙ (λ j. drop (next j) (is j)) ∙ after_seam f b in
    (subst (λ l. IsTwoBytes l r.0) (sym same) net, subst (λ l. IsByte l r.1) (sym too) node)
  where
    after_seam : (f b : List ℕ) → drop (suc (length f)) (f ++ (46 ∷ b)) ≡ b
    after_seam [] b = refl
    after_seam (c ∷ f) b = after_seam f b

-- what a slice to the end is
pub to_end : (word : List ℕ) (i : ℕ) → take (length word - i) (drop i word) ≡ drop i word
to_end word i = take_all (length word - i) (drop i word) (omega (arith, length-drop i word))

-- a network and a node, or none, at the first dot
pub node_at : (here : ℕ) (word front back : List ℕ) (i : ℕ) (o : Option (ℕ × ℕ)) → position_from is_dot 0 word ≡ Some i
    → front ≡ take i word → back ≡ drop (i + 1) word → IsFound o (λ r. IsTwoBytes front r.0 × IsByte back r.1)
    → IsFound o (λ r. IsAnyNode here word r.0 r.1)
node_at here word front back i None at before after never =
    λ r is. never r (parted here word front back i at before after r is)
node_at here word front back i (Some r) at before after said =
    let is = (parted_at word i at).1 in
    inr (front, back, is ∙ (λ j. sym before j ++ (46 ∷ sym after j)), said.0, said.1)

-- a word that names no node names no requester
pub no_requester : (net : ℕ) (node socket : List ℕ) (o : Option Address) → o ≡ None
    → ((r : ℕ × ℕ) → ¬ IsAnyNode net node r.0 r.1) → IsFound o (NameAny net node socket)
no_requester net node socket o none never = rw none (λ from named. never (from.net, from.node) named.0)
