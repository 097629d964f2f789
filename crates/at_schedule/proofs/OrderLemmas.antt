-- Which lines are events, and which are for the setup, where a line is added.
use Rattle.std.proofs.Common.{◌≡◌, ◌<◌, ℕ, not, Bool, true, false, cond, List, [], ◌∷◌, ◌++◌, filter, map, length, refl}
use Rattle.std.proofs.Common.{sym, ap, ◌∙◌, append-nil, arith}
use Rattle.std.specs.Prelude.{if◌then◌else◌}
use Rattle.std.proofs.lemmas.List.{length-append, map-append}
use Rattle.std.proofs.lemmas.List.Elements.{filter-append}
use Rattle.at_schedule.specs.Schedules.{AreInOrder, are_event_words, is_event_line, is_passed_over, is_setup_line}
use Rattle.at_schedule.specs.Schedules.{setup_words}
use Rattle.at_words.specs.Words.{words_of}

-- ---- a line

pub event_by : (line : List ℕ) (b : Bool) → is_passed_over line ≡ false → are_event_words (words_of line) ≡ b
    → (is_event_line line ≡ b) × (is_setup_line line ≡ not b)
event_by line b heard is = (
  ap (λ p. if p then false else are_event_words (words_of line)) heard ∙ is,
  ap (λ p. if p then false else not (are_event_words (words_of line))) heard ∙ ap not is,
)

pub passed_by : (line : List ℕ) → is_passed_over line ≡ true → (is_event_line line ≡ false)
    × (is_setup_line line ≡ false)
passed_by line over = (
  ap (λ p. if p then false else are_event_words (words_of line)) over,
  ap (λ p. if p then false else not (are_event_words (words_of line))) over,
)

-- ---- a line among others

pub add_yes : (p : List ℕ → Bool) (xs ys : List (List ℕ)) (x : List ℕ) → p x ≡ true → filter p (xs ++ x ∷ ys)
    ≡ filter p xs ++ x ∷ filter p ys
add_yes p xs ys x is = filter-append p xs (x ∷ ys) ∙ ap (λ b. filter p xs ++ cond b (x ∷ filter p ys) (filter p ys)) is

pub add_no : (p : List ℕ → Bool) (xs ys : List (List ℕ)) (x : List ℕ) → p x ≡ false → filter p (xs ++ x ∷ ys)
    ≡ filter p xs ++ filter p ys
add_no p xs ys x is = filter-append p xs (x ∷ ys) ∙ ap (λ b. filter p xs ++ cond b (x ∷ filter p ys) (filter p ys)) is

pub words_yes : (xs ys : List (List ℕ)) (x : List ℕ) → is_setup_line x ≡ true → setup_words (xs ++ x ∷ ys)
    ≡ setup_words xs ++ words_of x ∷ setup_words ys
words_yes xs ys x is = ap (map words_of) (add_yes is_setup_line xs ys x is)
    ∙ map-append words_of (filter is_setup_line xs) (x ∷ filter is_setup_line ys)

pub words_no : (xs ys : List (List ℕ)) (x : List ℕ) → is_setup_line x ≡ false → filter is_setup_line ys ≡ []
    → setup_words (xs ++ x ∷ ys) ≡ setup_words xs
words_no xs ys x is none =
    ap (map words_of) (add_no is_setup_line xs ys x is ∙ ap (λ l. filter is_setup_line xs ++ l) none
    ∙ append-nil (filter is_setup_line xs))

-- ---- the order of lines

pub order_after : (xs ys : List (List ℕ)) (x : List ℕ) → AreInOrder (xs ++ x ∷ ys) → is_event_line x ≡ true
    → filter is_setup_line ys ≡ []
order_after [] ys x h is = h.0 is
order_after (l ∷ xs) ys x h is = order_after xs ys x h.1 is

some_left : (p : List ℕ → Bool) (xs ys : List (List ℕ)) (x : List ℕ) → p x ≡ true → ¬ (filter p (xs ++ x ∷ ys) ≡ [])
some_left p xs ys x is none =
    let long = ap length (sym (add_yes p xs ys x is) ∙ none) in
    omega (arith, long, length-append (filter p xs) (x ∷ filter p ys))

setup_after_by : (b : Bool) (l : List ℕ) (xs ys : List (List ℕ)) (x : List ℕ) → is_event_line l ≡ b
    → (is_event_line l ≡ true → filter is_setup_line (xs ++ x ∷ ys) ≡ [])
    → (0 < length (filter is_event_line xs) → ¬ (is_setup_line x ≡ true))
    → 0 < length (cond b (l ∷ filter is_event_line xs) (filter is_event_line xs)) → ¬ (is_setup_line x ≡ true)
setup_after_by true l xs ys x is none later some setup = some_left is_setup_line xs ys x setup (none is)
setup_after_by false l xs ys x is none later some setup = later some setup

-- after an event no line is for the setup
pub setup_after : (xs ys : List (List ℕ)) (x : List ℕ) → AreInOrder (xs ++ x ∷ ys)
    → 0 < length (filter is_event_line xs) → ¬ (is_setup_line x ≡ true)
setup_after [] ys x h some setup = omega (arith, some)
setup_after (l ∷ xs) ys x h some setup = setup_after_by (is_event_line l) l xs ys x refl h.0
    (setup_after xs ys x h.1) some setup

-- before a line for the setup there is no event
pub events_after : (xs ys : List (List ℕ)) (x : List ℕ) → AreInOrder (xs ++ x ∷ ys) → is_setup_line x ≡ true
    → filter is_event_line xs ≡ []
events_after xs ys x h setup = go (filter is_event_line xs) refl
  where
    go : (found : List (List ℕ)) → filter is_event_line xs ≡ found → filter is_event_line xs ≡ []
    go [] none = none
    go (l ∷ found) some =
        let long : 0 < length (filter is_event_line xs) = rw some (omega arith) in
        absurd (setup_after xs ys x h long setup)

-- a line that is not for the setup may follow
pub order_more : (xs : List (List ℕ)) (x : List ℕ) → AreInOrder xs → is_setup_line x ≡ false → AreInOrder (xs ++ x ∷ [])
order_more [] x h is = (λ e. refl, tt)
order_more (l ∷ xs) x h is =
    (λ e. add_no is_setup_line xs [] x is ∙ append-nil (filter is_setup_line xs) ∙ h.0 e, order_more xs x h.1 is)

order_first_by : (b : Bool) (l : List ℕ) (xs : List (List ℕ)) (x : List ℕ) → is_event_line l ≡ b
    → (filter is_event_line xs ≡ [] → AreInOrder (xs ++ x ∷ []))
    → cond b (l ∷ filter is_event_line xs) (filter is_event_line xs) ≡ []
    → AreInOrder (l ∷ (xs ++ x ∷ []))
order_first_by true l xs x is later none = absurd (cc none)
order_first_by false l xs x is later none = (λ e. absurd (cc (sym is ∙ e)), later none)

-- any line may follow where there are no events
pub order_first : (xs : List (List ℕ)) (x : List ℕ) → filter is_event_line xs ≡ [] → AreInOrder (xs ++ x ∷ [])
order_first [] x none = (λ e. refl, tt)
order_first (l ∷ xs) x none = order_first_by (is_event_line l) l xs x refl (order_first xs x) none
