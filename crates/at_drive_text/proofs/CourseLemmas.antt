-- What the lines of a drive so far say, and what is known of a drive so far.
use Rattle.std.proofs.Common.{◌≡◌, ◌⊎◌, ℕ, ◌<◌, Bool, true, false, List, [], ◌∷◌, ◌++◌, length, inl}
use Rattle.std.proofs.Common.{inr}
use Rattle.std.proofs.Common.{sym, ap, subst, ◌∙◌, arith, IfSome, None, Option, Some}
use Rattle.std.specs.Prelude.{Result}
use Rattle.std.specs.List.{All, AllZip}
use Rattle.at_words.specs.Words.{words_of}
use Rattle.at_cable.specs.declared.fault.CableFault.{CableFault}
use Rattle.at_setup.specs.declared.setup.Setup.{Setup}
use Rattle.at_drive.specs.Drives.{Driven as Nodes}
use Rattle.at_drive.specs.Steps.{has_all}
use Rattle.at_drive.specs.declared.step.Step.{Step}
use Rattle.at_drive_lines.specs.Drafts.{BeginsSo}
use Rattle.at_drive_lines.specs.Lines.{HasNext, HaveCome, IsLast}
use Rattle.at_drive_lines.specs.Says.{AreStep, IsStepHere}
use Rattle.at_drive_lines.specs.StepLines.{BeginSteps, IsUnfit, LineLeft, MoreSteps, NextSays, SaySteps}
use Rattle.at_drive_lines.specs.StepLines.{is_step_line, step_words}
use Rattle.at_drive_lines.proofs.LineLemmas.{all_come, next_comes, words_at, words_of_both}
use Rattle.at_drive_lines.proofs.LineLemmas.{words_over}
use Rattle.at_drive_lines.proofs.StepLemmas.{zip_more, zip_none}
use Rattle.at_print.specs.Papers.{Page}
use Rattle.at_print.specs.Printers.{Prints}
use Rattle.at_print.specs.declared.printer.Printer.{Printer}
use Rattle.at_drive_text.specs.Courses.{IsGoing}
use Rattle.at_diagnostics.specs.declared.diagnostics.Diagnostics.{Diagnostics}
use Rattle.at_drive_text.specs.Driven.{Progress, Tells}
use Rattle.at_drive_text.specs.declared.course.Course.{Course}

-- ---- the steps that the lines so far say

module _ {A : Type 0} (first : Option (List (List ℕ))) (read : List (List ℕ)) (now : Option (List (List ℕ)))
    (steps : List (Step A)) where
  pub begin_said : HaveCome first read now → SaySteps read steps → IfSome first (λ lines. BeginSteps lines steps)
  begin_said come said = go first come
    where
      go : (f : Option (List (List ℕ))) → HaveCome f read now → IfSome f (λ lines. BeginSteps lines steps)
      go None come = tt
      go (Some lines) (later, is, left) =
          (step_words read, step_words later, ap step_words is ∙ words_of_both read later, said)

  pub more_said : (may_fail : Bool) (line : List ℕ) (after : Option (List (List ℕ))) → HaveCome first read now
      → HasNext now line after → is_step_line line ≡ true → SaySteps read steps
      → IfSome first (λ lines. MoreSteps lines steps ⊎ ((may_fail ≡ true) × LineLeft lines steps))
  more_said may_fail line after come next is said = go first come
    where
      go : (f : Option (List (List ℕ))) → HaveCome f read now
          → IfSome f (λ lines. MoreSteps lines steps ⊎ ((may_fail ≡ true) × LineLeft lines steps))
      go None come = tt
      go (Some lines) come =
          let (later, parts) = next_comes lines read now line after come next in
          inl
          (step_words read, step_words later, words_of line, ap step_words parts ∙ words_at read later line is, said)

  some_left : (lines later : List (List ℕ)) → lines ≡ read ++ later → 0 < length later → SaySteps read steps
      → LineLeft lines steps
  some_left lines [] is some said = absurd (omega (arith, some))
  some_left lines (line ∷ later) is some said = (read, later, line, is, said)

  pub line_left : (may_fail : Bool) → may_fail ≡ true → HaveCome first read now
      → IfSome now (λ lines. 0 < length lines) → SaySteps read steps
      → IfSome first (λ lines. MoreSteps lines steps ⊎ ((may_fail ≡ true) × LineLeft lines steps))
  line_left may_fail may come some said = go first come
    where
      go : (f : Option (List (List ℕ))) → HaveCome f read now
          → IfSome f (λ lines. MoreSteps lines steps ⊎ ((may_fail ≡ true) × LineLeft lines steps))
      go None come = tt
      go (Some lines) (later, is, left) =
          let more : 0 < length later = subst (λ k. IfSome k (λ ls. 0 < length ls)) left some in
          inr (may, some_left lines later is more said)

  pub next_said : (line : List ℕ) (after : Option (List (List ℕ))) (next : Option (Step A)) → HaveCome first read now
      → HasNext now line after → is_step_line line ≡ true → SaySteps read steps
      → IfSome next (λ s. AreStep (words_of line) s) → IfSome next (λ s. IfSome first (λ lines. NextSays lines steps s))
  next_said line after None come follows is said says = tt
  next_said line after (Some s) come follows is said says = go first come
    where
      go : (f : Option (List (List ℕ))) → HaveCome f read now → IfSome f (λ lines. NextSays lines steps s)
      go None come = tt
      go (Some lines) come =
          let (later, parts) = next_comes lines read now line after come follows in (
            step_words read,
            step_words later,
            words_of line,
            ap step_words parts ∙ words_at read later line is,
            said,
            says,
          )

  pub all_said : HaveCome first read now → IsLast now → SaySteps read steps → IfSome first (λ lines. SaySteps lines steps)
  all_said come last said = go first come
    where
      go : (f : Option (List (List ℕ))) → HaveCome f read now → IfSome f (λ lines. SaySteps lines steps)
      go None come = tt
      go (Some lines) come =
          subst (λ l. SaySteps l steps) (sym (all_come (Some lines) read now come last)) said

pub said_more : {A : Type 0} (read : List (List ℕ)) (steps : List (Step A)) (line : List ℕ) (s : Step A)
    → SaySteps read steps → is_step_line line ≡ true → AreStep (words_of line) s
    → SaySteps (read ++ line ∷ []) (steps ++ s ∷ [])
said_more read steps line s said is says =
    subst (λ l. AllZip AreStep l (steps ++ s ∷ [])) (sym (words_at read [] line is))
    (zip_more (step_words read) steps (words_of line) s said says)

pub said_over : {A : Type 0} (read : List (List ℕ)) (steps : List (Step A)) (line : List ℕ) → SaySteps read steps
    → is_step_line line ≡ false → SaySteps (read ++ line ∷ []) steps
said_over read steps line said is = subst (λ l. AllZip AreStep l steps) (sym (words_over read line is)) said

pub none_driven : {A : Type 0} (read : List (List ℕ)) (steps : List (Step A)) → SaySteps read steps
    → step_words read ≡ [] → steps ≡ []
none_driven read steps said none = zip_none steps (subst (λ l. AllZip AreStep l steps) none said)

-- each line of a drive of the setup has its place
abbrev pub EachFits : {A : Type 0} → Setup A → Type 0
EachFits setup =
    (port : ℕ) (lines read later : List (List ℕ)) (line : List ℕ) (after_step : Bool) → BeginsSo setup port lines
    → lines ≡ read ++ line ∷ later → (after_step ≡ true → ¬ (step_words read ≡ [])) → ¬ IsUnfit setup after_step line

-- ---- a drive so far

-- These steps were driven, which the lines so far say, and this is printed of them. The drive counted them, what they
-- sent, and whether a call of the cable failed.
pub record Sofar {A C W E : Type 0} (S : C → ℕ → ℕ → List ℕ → Result (Unit {0}) CableFault → C → Type 0)
    (R : C → ℕ → ℕ → Result (Option (List ℕ)) CableFault → C → Type 0) (page : W → Page) (heard : E → Page)
    (setup : Setup A) (first : Option (List (List ℕ))) (start : Progress C E) (old : Printer W)
    (now : Option (List (List ℕ))) (o : Course A) (d : Nodes) (c' : C) (p : Printer W) (x : Diagnostics E)
    : Type 0 where
  pub steps : List (Step A)
  pub text : List ℕ
  pub progress : Progress C E
  pub tells : Tells S R heard 0 steps start progress text
  pub nodes : progress.nodes ≡ d
  pub cable : progress.cable ≡ c'
  pub told : progress.told ≡ x
  pub read : List (List ℕ)
  pub come : HaveCome first read now
  pub said : SaySteps read steps
  pub stand : has_all setup steps ≡ true
  pub here : All (IsStepHere setup.net) steps
  pub printed : Prints page old p text
  pub going : IsGoing setup (length steps) progress.sent progress.has_failed o
