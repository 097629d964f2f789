-- Which frame a frame answers: the last before it that asks what it answers.
use Rattle.std.specs.Prelude.{◌≡◌, ℕ, ◌+◌, List, ◌∷◌, ◌++◌, length, Option, Some, None}
use Rattle.std.specs.BTreeMap.{BTreeMap, get}
use Rattle.std.specs.List.{AllByRecursion}
use Rattle.std.specs.declared.cmp.Ordering.{Ordering}
use Rattle.at_capture.specs.Frames.{Content}
use Rattle.at_capture.specs.Roles.{PlaysRole}
use Rattle.at_capture.specs.Tallies.{counted}
use Rattle.at_capture.specs.contracts.question.QuestionOrd.TheImpl as question_ord
use Rattle.at_capture.specs.declared.question.Question.{Question}
use Rattle.at_capture.specs.declared.question.Role.TheVariants.{Answers, Asks}

-- the frame of this number is the last of these that asks this
pub record IsLastToAsk (frames : List Content) (q : Question) (number : ℕ) : Type 0 where
  pub before : List Content
  pub asker : Content
  pub after : List Content
  pub parts : frames ≡ before ++ asker ∷ after
  pub here : number ≡ counted (length before + 1)
  pub asks : PlaysRole asker (Asks q)
  pub last : AllByRecursion (λ f. ¬ PlaysRole f (Asks q)) after

-- the number of that frame; none if none of them asks it
abbrev pub LastAsks : List Content → Question → Option ℕ → Type 0
LastAsks frames q (Some number) = IsLastToAsk frames q number
LastAsks frames q None = AllByRecursion (λ f. ¬ PlaysRole f (Asks q)) frames

-- the number of the frame that a frame answers, behind these; none if it answers nothing, or if none of them asks that
pub data IsAnswered (before : List Content) (f : Content) : Option ℕ → Type 0 where
  Answered : (q : Question) (asker : Option ℕ) → PlaysRole f (Answers q) → LastAsks before q asker
      → IsAnswered before f asker
  Silent : ((q : Question) → ¬ PlaysRole f (Answers q)) → IsAnswered before f None

-- ---- what is kept of it

-- the order of questions in a map
abbrev pub question_cmp : Question → Question → Ordering
question_cmp = (question_ord.ghosts).cmp

-- the map has of each question the last of these frames that asks it
abbrev pub Recalls : List Content → BTreeMap Question ℕ → Type 0
Recalls frames asked = (q : Question) → LastAsks frames q (get question_cmp asked q)
