-- The lines of a drive that say its steps.
use Rattle.std.proofs.Common.{◌≡◌, ℕ, Bool, true, false, List, [], ◌∷◌, ◌++◌, refl, sym, ap, subst, ◌∙◌}
use Rattle.std.proofs.Common.{cond, filter, if◌then◌else◌, inl, inr, map, not}
use Rattle.std.specs.List.{AllZip}
use Rattle.at_words.specs.Words.{words_of}
use Rattle.at_setup.specs.declared.setup.Setup.{Setup}
use Rattle.at_setup_lines.specs.FirstWords.{HaveHeads}
use Rattle.at_setup_lines.specs.SetupLines.{IsSetup}
use Rattle.at_schedule.specs.Schedules.{is_passed_over}
use Rattle.at_drive.specs.Steps.{has_all, node_of, numbers_of, stands_in}
use Rattle.at_drive.specs.declared.step.Step.{Step}
use Rattle.at_drive_lines.specs.Drafts.{BeginsSo, is_heard, words_in}
use Rattle.at_drive_lines.specs.Says.{AreDrive, AreStep, SaysPort, begins_step}
use Rattle.at_drive_lines.specs.StepLines.{IsUnfit, SaySteps, SaysNoStepOf, is_step_line, step_words}
use Rattle.at_drive_lines.proofs.BeginLemmas.{words_append}
use Rattle.at_drive_lines.proofs.LineLemmas.{words_at}
use Rattle.at_drive_lines.proofs.StepLemmas.{AllSteps, NoSteps, all_one, heads_plain, split_head, zip_at}
use Rattle.at_drive_lines.proofs.StepLemmas.{zip_steps}

-- ---- among the lines that are heard

step_words_by : (passed begins : Bool) (line : List ℕ) (lines : List (List ℕ)) → is_passed_over line ≡ passed
    → begins_step (words_of line) ≡ begins → step_words lines ≡ filter begins_step (words_in lines)
    → step_words (line ∷ lines) ≡ filter begins_step (words_in (line ∷ lines))
step_words_by true begins line lines passed is so = rw passed so
step_words_by false true line lines passed is so = rw (passed, is) (ap (λ l. words_of line ∷ l) so)
step_words_by false false line lines passed is so = rw (passed, is) so

step_words_in : (lines : List (List ℕ)) → step_words lines ≡ filter begins_step (words_in lines)
step_words_in [] = refl
step_words_in (line ∷ lines) =
    step_words_by (is_passed_over line) (begins_step (words_of line)) line lines refl refl (step_words_in lines)

all_kept : (ys : List (List (List ℕ))) → AllSteps ys → filter begins_step ys ≡ ys
all_kept [] h = refl
all_kept (y ∷ ys) h = rw h.0 (ap (λ l. y ∷ l) (all_kept ys h.1))

steps_kept : (xs ys : List (List (List ℕ))) → NoSteps xs → AllSteps ys → filter begins_step (xs ++ ys) ≡ ys
steps_kept [] ys h g = all_kept ys g
steps_kept (x ∷ xs) ys h g = rw h.0 (steps_kept xs ys h.1 g)

none_kept : (xs ys : List (List (List ℕ))) → NoSteps (xs ++ ys) → filter begins_step xs ≡ []
none_kept [] ys h = refl
none_kept (x ∷ xs) ys h = rw h.0 (none_kept xs ys h.1)

plain_words : (line : List ℕ) → is_passed_over line ≡ false → is_step_line line ≡ false
    → begins_step (words_of line) ≡ false
plain_words line heard plain =
    sym (ap (λ b. if b then false else begins_step (words_of line)) heard) ∙ plain

port_plain : (ws : List (List ℕ)) (port : ℕ) → SaysPort ws port → begins_step ws ≡ false
port_plain ws port (word, is, says) = ap begins_step is

-- ---- of a whole drive

module _ (A : Type 0) (setups : (lines : List (List (List ℕ))) (s : Setup A) → IsSetup lines s → HaveHeads lines)
    (s : Setup A) (port : ℕ) (lines : List (List ℕ)) where
  -- the last lines of a drive are those of its steps
  last_lines : (steps : List (Step A)) (t : AreDrive (words_in lines) s port steps) → step_words lines ≡ t.last
  last_lines steps t =
      let heads = heads_plain (t.net ∷ t.head) (setups (t.net ∷ t.head) s t.setup) in
      let plain : NoSteps (t.net ∷ t.port ∷ t.head) = (heads.0, (port_plain t.port port t.placed, heads.1)) in
      step_words_in lines ∙ ap (filter begins_step) t.parts
      ∙ steps_kept (t.net ∷ t.port ∷ t.head) t.last plain (zip_steps t.last steps t.said)

  pub are_drive : (steps : List (Step A)) → BeginsSo s port lines → SaySteps lines steps → has_all s steps ≡ true
      → AreDrive (words_in lines) s port steps
  are_drive steps (others, t) said stand = record {
    net = t.net;
    port = t.port;
    head = t.head;
    last = t.last;
    parts = t.parts;
    setup = t.setup;
    placed = t.placed;
    ports = t.ports;
    said = subst (λ l. AllZip AreStep l steps) (last_lines others t) said;
    stand = stand;
  }

  says_step : (read later : List (List ℕ)) (line : List ℕ) → BeginsSo s port lines
      → lines ≡ read ++ line ∷ later → is_step_line line ≡ true → ¬ SaysNoStepOf s line
  says_step read later line (steps, t) parts is never =
      let parted = ap step_words parts ∙ words_at read later line is in
      let (before, after, z, same, said) = zip_at (step_words read) (step_words later) (words_of line) steps
      (subst (λ l. AllZip AreStep l steps) (sym (last_lines steps t) ∙ parted) t.said) in
      never z said (all_one (λ y. stands_in (numbers_of s) (node_of y)) before after z
      (subst (λ l. has_all s l ≡ true) same t.stand))

  -- no other line comes after a step
  ends_head : (read later : List (List ℕ)) (line : List ℕ) → BeginsSo s port lines → lines ≡ read ++ line ∷ later
      → is_step_line line ≡ false → is_passed_over line ≡ false → step_words read ≡ []
  ends_head read later line (steps, t) parts plain heard =
      let heads = heads_plain (t.net ∷ t.head) (setups (t.net ∷ t.head) s t.setup) in
      let first : NoSteps (t.net ∷ t.port ∷ t.head) = (heads.0, (port_plain t.port port t.placed, heads.1)) in
      let words : words_in lines ≡ words_in read ++ words_of line ∷ words_in later =
      ap words_in parts ∙ words_append read (line ∷ later)
      ∙ ap (λ b. words_in read ++ map words_of (cond b (line ∷ filter is_heard later) (filter is_heard later)))
      (ap not heard) in
      let (m, are) = split_head (words_in read) (words_in later) (t.net ∷ t.port ∷ t.head) t.last (words_of line)
      (sym words ∙ t.parts) (plain_words line heard plain) (zip_steps t.last steps t.said) in
      step_words_in read ∙ none_kept (words_in read) (words_of line ∷ m) (subst NoSteps are first)

  pub can_be_read : (read later : List (List ℕ)) (line : List ℕ) (after_step : Bool) → BeginsSo s port lines
      → lines ≡ read ++ line ∷ later → (after_step ≡ true → ¬ (step_words read ≡ [])) → ¬ IsUnfit s after_step line
  can_be_read read later line after_step begins parts some (inl (is, never)) =
      says_step read later line begins parts is never
  can_be_read read later line after_step begins parts some (inr (after, plain, heard)) =
      some after (ends_head read later line begins parts plain heard)
