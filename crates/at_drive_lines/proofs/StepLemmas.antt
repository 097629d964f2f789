-- Where the lines of steps begin.
use Rattle.std.proofs.Common.{◌≡◌, ℕ, ◌<◌, Bool, true, false, List, [], ◌∷◌, ◌++◌, length, inl, inr, refl, sym, ap}
use Rattle.std.proofs.Common.{subst, ◌∙◌, arith}
use Rattle.std.proofs.lemmas.Bool.{and_from, and_parts, false≢true}
use Rattle.std.proofs.lemmas.List.Folds.{list_all-append}
use Rattle.std.specs.Prelude.{◌==◌, ◌||◌, ◌&&◌, map}
use Rattle.std.specs.List.{AllZip, list_all, list_any}
use Rattle.at_words.specs.Numbers.{IsNode}
use Rattle.at_setup.specs.declared.setup.NodeSetup.{NodeSetup}
use Rattle.at_setup_lines.specs.FirstWords.{HasHead, HaveHeads}
use Rattle.at_drive.specs.Steps.{node_of, number_in, stands_in}
use Rattle.at_drive.specs.declared.step.Step.{Step}
use Rattle.at_drive.specs.declared.step.Step.TheVariants as step
use Rattle.at_drive_lines.specs.Says.{AreStep, begins_step, is_step_word}

-- ---- lines that begin with a step's word, and those that do not

step_begins : {A : Type 0} (line : List (List ℕ)) (x : Step A) → AreStep line x → begins_step line ≡ true
step_begins [] x h = absurd h
step_begins (word ∷ ws) (step.Call node c) (is, said) = ap is_step_word is
step_begins (word ∷ ws) (step.Timer node t) (is, said) = ap is_step_word is
step_begins (word ∷ ws) (step.Poll node) (is, said) = ap is_step_word is

head_plain : (line : List (List ℕ)) → HasHead line → begins_step line ≡ false
head_plain [] h = absurd h
head_plain (word ∷ ws) (inl is) = ap is_step_word is
head_plain (word ∷ ws) (inr (inl is)) = ap is_step_word is
head_plain (word ∷ ws) (inr (inr (inl is))) = ap is_step_word is
head_plain (word ∷ ws) (inr (inr (inr is))) = ap is_step_word is

abbrev pub NoSteps : List (List (List ℕ)) → Type 0
NoSteps [] = Unit {0}
NoSteps (line ∷ lines) = (begins_step line ≡ false) × NoSteps lines

abbrev pub AllSteps : List (List (List ℕ)) → Type 0
AllSteps [] = Unit {0}
AllSteps (line ∷ lines) = (begins_step line ≡ true) × AllSteps lines

-- the first of them does, if there is one
abbrev pub Starts : List (List (List ℕ)) → Type 0
Starts [] = Unit {0}
Starts (line ∷ lines) = begins_step line ≡ true

pub heads_plain : (lines : List (List (List ℕ))) → HaveHeads lines → NoSteps lines
heads_plain [] h = tt
heads_plain (line ∷ lines) h = (head_plain line h.0, heads_plain lines h.1)

pub zip_steps : {A : Type 0} (lines : List (List (List ℕ))) (xs : List (Step A)) → AllZip AreStep lines xs
    → AllSteps lines
zip_steps [] xs h = tt
zip_steps (line ∷ lines) [] h = absurd h
zip_steps (line ∷ lines) (x ∷ xs) h = (step_begins line x h.0, zip_steps lines xs h.1)

pub starts_all : (lines : List (List (List ℕ))) → AllSteps lines → Starts lines
starts_all [] h = tt
starts_all (line ∷ lines) h = h.0

pub starts_step : (last more : List (List (List ℕ))) (line : List (List ℕ)) → AllSteps last → begins_step line ≡ true
    → Starts (last ++ line ∷ more)
starts_step [] more line h is = is
starts_step (l ∷ last) more line h is = h.0

pub starts_late : (last more : List (List (List ℕ))) (line : List (List ℕ)) → AllSteps last → 0 < length last
    → Starts (last ++ line ∷ more)
starts_late [] more line h some = absurd (omega (arith, some))
starts_late (l ∷ last) more line h some = h.0

pub all_at : (xs ys : List (List (List ℕ))) (line : List (List ℕ)) → AllSteps (xs ++ line ∷ ys)
    → begins_step line ≡ true
all_at [] ys line h = h.0
all_at (x ∷ xs) ys line h = all_at xs ys line h.1

-- lines have one place where the steps begin
pub split : (xs rest hs ls : List (List (List ℕ))) → xs ++ rest ≡ hs ++ ls → NoSteps xs → Starts rest → NoSteps hs
    → AllSteps ls → (hs ≡ xs) × (ls ≡ rest)
split [] rest [] ls same a b c d = (refl, sym same)
split [] [] (h ∷ hs) ls same a b c d = absurd (cc)
split [] (r ∷ rest) (h ∷ hs) ls same a b c d =
    let e : r ≡ h = cc in absurd (false≢true (sym c.0 ∙ ap begins_step (sym e) ∙ b))
split (x ∷ xs) rest [] ls same a b c d =
    let steps : AllSteps (x ∷ (xs ++ rest)) = subst AllSteps (sym same) d in absurd (false≢true (sym a.0 ∙ steps.0))
split (x ∷ xs) rest (h ∷ hs) ls same a b c d =
    let e : x ≡ h = cc in
    let t : xs ++ rest ≡ hs ++ ls = cc in
    let r = split xs rest hs ls t a.1 b c.1 d in
    ((λ i. sym e i ∷ r.0 i), r.1)

-- a line before the steps
pub split_head : (xs ys hs ls : List (List (List ℕ))) (line : List (List ℕ)) → xs ++ line ∷ ys ≡ hs ++ ls
    → begins_step line ≡ false → AllSteps ls → (m : List (List (List ℕ))) × (hs ≡ xs ++ line ∷ m)
split_head [] ys [] ls line same plain d =
    let steps : AllSteps (line ∷ ys) = subst AllSteps (sym same) d in absurd (false≢true (sym plain ∙ steps.0))
split_head [] ys (h ∷ hs) ls line same plain d = let e : line ≡ h = cc in (hs, λ i. sym e i ∷ hs)
split_head (x ∷ xs) ys [] ls line same plain d =
    let steps : AllSteps (x ∷ (xs ++ line ∷ ys)) = subst AllSteps (sym same) d in
    absurd (false≢true (sym plain ∙ all_at xs ys line steps.1))
split_head (x ∷ xs) ys (h ∷ hs) ls line same plain d =
    let e : x ≡ h = cc in
    let t : xs ++ line ∷ ys ≡ hs ++ ls = cc in
    let r = split_head xs ys hs ls line t plain d in
    (r.0, λ i. sym e i ∷ r.1 i)

-- ---- what lines say

pub zip_at : {A : Type 0} (xs ys : List (List (List ℕ))) (line : List (List ℕ)) (zs : List (Step A))
    → AllZip AreStep (xs ++ line ∷ ys) zs
    → (before after : List (Step A)) × (z : Step A) × (zs ≡ before ++ z ∷ after) × AreStep line z
zip_at [] ys line [] h = absurd h
zip_at [] ys line (z ∷ zs) h = ([], zs, z, refl, h.0)
zip_at (x ∷ xs) ys line [] h = absurd h
zip_at (x ∷ xs) ys line (z ∷ zs) h =
    let (before, after, y, is, said) = zip_at xs ys line zs h.1 in
    (z ∷ before, after, y, ap (λ t. z ∷ t) is, said)

pub zip_more : {A : Type 0} (lines : List (List (List ℕ))) (xs : List (Step A)) (line : List (List ℕ)) (x : Step A)
    → AllZip AreStep lines xs → AreStep line x → AllZip AreStep (lines ++ line ∷ []) (xs ++ x ∷ [])
zip_more [] [] line x h said = (said, tt)
zip_more [] (y ∷ xs) line x h said = absurd h
zip_more (l ∷ lines) [] line x h said = absurd h
zip_more (l ∷ lines) (y ∷ xs) line x h said = (h.0, zip_more lines xs line x h.1 said)

pub zip_none : {A : Type 0} (xs : List (Step A)) → AllZip AreStep [] xs → xs ≡ []
zip_none [] h = refl
zip_none (x ∷ xs) h = absurd h

abbrev first_of : List (List ℕ) → List ℕ
first_of [] = []
first_of (w ∷ ws) = w

node_said : {A : Type 0} (word : List ℕ) (ws : List (List ℕ)) (x : Step A) → AreStep (word ∷ ws) x
    → IsNode (first_of ws) (node_of x)
node_said word ws (step.Call node c) (is, (n, rest, are, named, call)) =
    subst (λ v. IsNode (first_of v) node) (sym are) named
node_said word ws (step.Timer node t) (is, (n, rest, are, named, timer)) =
    subst (λ v. IsNode (first_of v) node) (sym are) named
node_said word ws (step.Poll node) (is, (n, are, named)) = subst (λ v. IsNode (first_of v) node) (sym are) named

-- a line says the step of one node
pub same_step_node : {A : Type 0} (line : List (List ℕ)) (x y : Step A) → AreStep line x → AreStep line y
    → node_of x ≡ node_of y
same_step_node [] x y h g = absurd h
same_step_node (word ∷ ws) x y h g =
    let a = node_said word ws x h in
    let b = node_said word ws y g in
    a.0.1 ∙ sym b.0.1

-- ---- tests of all

pub stands_by : (k : ℕ) (ns : List NodeSetup) → list_any (λ n. n.node == k) ns ≡ stands_in (map number_in ns) k
stands_by k [] = refl
stands_by k (n ∷ ns) = ap (λ b. (n.node == k) || b) (stands_by k ns)

pub stand_by : {A : Type 0} (ns : List NodeSetup) (xs : List (Step A))
    → list_all (λ x. list_any (λ n. n.node == node_of x) ns) xs
    ≡ list_all (λ x. stands_in (map number_in ns) (node_of x)) xs
stand_by ns [] = refl
stand_by ns (x ∷ xs) = λ i. stands_by (node_of x) ns i && stand_by ns xs i

pub all_more : {T : Type 0} (p : T → Bool) (xs : List T) (x : T) → list_all p xs ≡ true → p x ≡ true
    → list_all p (xs ++ x ∷ []) ≡ true
all_more p xs x h is = list_all-append p xs (x ∷ [])
    ∙ and_from (list_all p xs) (p x && true) h (and_from (p x) true is refl)

pub all_one : {T : Type 0} (p : T → Bool) (before after : List T) (x : T) → list_all p (before ++ x ∷ after) ≡ true
    → p x ≡ true
all_one p before after x h =
    let parts = and_parts (list_all p before) (p x && list_all p after)
    (sym (list_all-append p before (x ∷ after)) ∙ h) in
    (and_parts (p x) (list_all p after) parts.1).0

pub all_first : {T : Type 0} (p : T → Bool) (xs ys : List T) → list_all p (xs ++ ys) ≡ true → list_all p xs ≡ true
all_first p xs ys h = (and_parts (list_all p xs) (list_all p ys) (sym (list_all-append p xs ys) ∙ h)).0
