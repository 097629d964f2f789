-- The names that words say, one after the other.
use Rattle.std.proofs.Common.{◌≡◌, ◌≤◌, ◌<◌, ℕ, List, [], ◌∷◌, ◌++◌, length, refl, sym, ap, subst, ◌∙◌, append-nil}
use Rattle.std.proofs.Common.{append_assoc, length-append, arith}
use Rattle.std.specs.List.{AllZip}
use Rattle.at_words.specs.Texts.{IsZoneName}

-- the words before these say the names so far
abbrev pub SaidSoFar : List (List ℕ) → List (List ℕ) → List (List ℕ) → Type 0
SaidSoFar words left names = (said : List (List ℕ)) × (words ≡ said ++ left) × AllZip IsZoneName said names

one_more : (ws names : List (List ℕ)) (w name : List ℕ) → AllZip IsZoneName ws names → IsZoneName w name
    → AllZip IsZoneName (ws ++ w ∷ []) (names ++ name ∷ [])
one_more [] [] w name h is = (is, tt)
one_more [] (x ∷ names) w name h is = absurd h
one_more (v ∷ ws) [] w name h is = absurd h
one_more (v ∷ ws) (x ∷ names) w name h is = (h.0, one_more ws names w name h.1 is)

pub next_said : (words old left names more : List (List ℕ)) (w name : List ℕ) → SaidSoFar words old names → old
    ≡ w ∷ left → IsZoneName w name → more ≡ names ++ name ∷ [] → SaidSoFar words left more
next_said words old left names more w name (said, is, are) next named new = (
  said ++ w ∷ [],
  is ∙ ap (λ l. said ++ l) next ∙ sym (append_assoc said (w ∷ []) left),
  subst (AllZip IsZoneName (said ++ w ∷ [])) (sym new) (one_more said names w name are named),
)

pub all_said : (words left names : List (List ℕ)) → SaidSoFar words left names → left ≡ []
    → AllZip IsZoneName words names
all_said words left names (said, is, are) none =
    subst (λ l. AllZip IsZoneName l names) (sym (is ∙ ap (λ l. said ++ l) none ∙ append-nil said)) are

pub more_fit : (names more : List (List ℕ)) (name : List ℕ) → more ≡ names ++ name ∷ [] → length names < 1024
    → length more ≤ 1024
more_fit names more name new few = let long = ap length new in omega (arith, long, length-append names (name ∷ []), few)

-- ---- words that say no table

-- no names that fit a table are those of the words
abbrev pub IsNoTable : List (List ℕ) → Type 0
IsNoTable words = (names : List (List ℕ)) → AllZip IsZoneName words names → ¬ (length names ≤ 1024)

not_next : (said left all : List (List ℕ)) (w : List ℕ) → ((name : List ℕ) → ¬ IsZoneName w name)
    → ¬ AllZip IsZoneName (said ++ w ∷ left) all
not_next [] left [] w none h = h
not_next [] left (x ∷ all) w none h = none x h.0
not_next (v ∷ said) left [] w none h = h
not_next (v ∷ said) left (x ∷ all) w none h = not_next said left all w none h.1

pub no_name : (words old left names : List (List ℕ)) (w : List ℕ) → SaidSoFar words old names → old ≡ w ∷ left
    → ((name : List ℕ) → ¬ IsZoneName w name) → (all : List (List ℕ)) → ¬ AllZip IsZoneName words all
no_name words old left names w (said, is, are) next none all h =
    not_next said left all w none (subst (λ l. AllZip IsZoneName l all) (is ∙ ap (λ l. said ++ l) next) h)

as_long : (ws names : List (List ℕ)) → AllZip IsZoneName ws names → length ws ≡ length names
as_long [] [] h = refl
as_long [] (x ∷ names) h = absurd h
as_long (w ∷ ws) [] h = absurd h
as_long (w ∷ ws) (x ∷ names) h = let rest = as_long ws names h.1 in omega (arith, rest)

pub too_many : (words old left names : List (List ℕ)) (w : List ℕ) → SaidSoFar words old names → old ≡ w ∷ left
    → 1024 ≤ length names → (all : List (List ℕ)) → AllZip IsZoneName words all → ¬ (length all ≤ 1024)
too_many words old left names w (said, is, are) next full all h few =
    let line = ap length (is ∙ ap (λ l. said ++ l) next) in
    omega (arith, line, length-append said (w ∷ left), as_long said names are, as_long words all h, full, few)
