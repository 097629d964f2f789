-- A line more of the text of a drive.
use Rattle.std.proofs.Common.{◌≡◌, ℕ, ◌+◌, ◌-◌, ◌^◌, true, false, not, List, [], ◌∷◌, ◌++◌, inl}
use Rattle.std.proofs.Common.{inr, refl, sym, ap, subst, ◌∙◌, append-nil, append_assoc, arith, cond, map, min}
use Rattle.std.proofs.Common.{Bool, IfSome, None, Option, Some}
use Rattle.std.proofs.lemmas.List.{length-append}
use Rattle.std.specs.List.{AllZip}
use Rattle.at_faults.specs.Reads.{IsOfRead}
use Rattle.at_faults.specs.declared.fault.Fault.{Fault}
use Rattle.at_faults.specs.declared.fault.Fault.TheVariants as fault
use Rattle.at_faults.specs.declared.fault.LineFault.{LineFault}
use Rattle.at_faults.specs.declared.fault.LineFault.TheVariants.{NoMemory, Unlawful}
use Rattle.at_faults.specs.declared.rule.Rule.{Rule}
use Rattle.at_words.specs.Words.{words_of}
use Rattle.at_setup.specs.declared.setup.Setup.{Setup}
use Rattle.at_setup_lines.specs.FirstWords.{HasHead, HaveHeads}
use Rattle.at_setup_lines.specs.SetupLines.{IsSetup}
use Rattle.at_schedule.specs.Drafts.{number_after}
use Rattle.at_schedule.specs.Schedules.{is_passed_over}
use Rattle.at_schedule.proofs.LineLemmas.{IfBroken, IsToldAs}
use Rattle.at_drive.specs.declared.step.Step.{Step}
use Rattle.at_drive_lines.specs.Drafts.{Adds, Bars, BeginDrive, BeginsSo, HasRead, IsDriveFault, words_in}
use Rattle.at_drive_lines.specs.Lines.{HasNext, HaveCome, IsLast}
use Rattle.at_drive_lines.specs.Says.{AreDrive, AreStep}
use Rattle.at_drive_lines.specs.declared.draft.DriveDraft.{DriveDraft}
use Rattle.at_drive_lines.proofs.BeginLemmas.{words_append}
use Rattle.at_drive_lines.proofs.LineLemmas.{all_come, come_on}

-- ---- one line more

words_heard : (lines : List (List ℕ)) (line : List ℕ) → is_passed_over line ≡ false
    → words_in (lines ++ line ∷ []) ≡ words_in lines ++ words_of line ∷ []
words_heard lines line heard = words_append lines (line ∷ [])
    ∙ ap (λ b. words_in lines ++ map words_of (cond b (line ∷ []) [])) (ap not heard)

words_over : (lines : List (List ℕ)) (line : List ℕ) → is_passed_over line ≡ true
    → words_in (lines ++ line ∷ []) ≡ words_in lines
words_over lines line over = words_append lines (line ∷ [])
    ∙ ap (λ b. words_in lines ++ map words_of (cond b (line ∷ []) [])) (ap not over) ∙ append-nil (words_in lines)

module _ (A : Type 0) (lines : List (List ℕ)) (line : List ℕ) (old new : DriveDraft A) where
  pub read_over : is_passed_over line ≡ true → HasRead A (words_in lines) old
      → HasRead A (words_in (lines ++ line ∷ [])) old
  read_over over read = subst (λ l. HasRead A l old) (sym (words_over lines line over)) read

  pub read_more : is_passed_over line ≡ false → Adds A old (words_of line) new → HasRead A (words_in lines) old
      → HasRead A (words_in (lines ++ line ∷ [])) new
  read_more heard adds read =
      subst (λ l. HasRead A l new) (sym (words_heard lines line heard)) (adds (words_in lines) read)

  pub barred : is_passed_over line ≡ false → Bars A old (words_of line) → HasRead A (words_in lines) old
      → ¬ BeginDrive A (lines ++ line ∷ [])
  barred heard bars read (more, s, port, steps, t) =
      let words = words_append (lines ++ line ∷ []) more ∙ ap (λ l. l ++ words_in more) (words_heard lines line heard)
      ∙ append_assoc (words_in lines) (words_of line ∷ []) (words_in more) in
      bars (words_in lines) read (words_in more) s port steps (subst (λ l. AreDrive l s port steps) words t)

-- ---- each line of a drive has a word

abbrev HasWord : List (List ℕ) → Type 0
HasWord [] = ⊥
HasWord (word ∷ words) = Unit {0}

abbrev HaveWords : List (List (List ℕ)) → Type 0
HaveWords [] = Unit {0}
HaveWords (line ∷ lines) = HasWord line × HaveWords lines

head_word : (line : List (List ℕ)) → HasHead line → HasWord line
head_word [] h = h
head_word (word ∷ words) h = tt

step_word : {A : Type 0} (line : List (List ℕ)) (x : Step A) → AreStep line x → HasWord line
step_word [] x h = h
step_word (word ∷ words) x h = tt

head_words : (lines : List (List (List ℕ))) → HaveHeads lines → HaveWords lines
head_words [] h = tt
head_words (line ∷ lines) h = (head_word line h.0, head_words lines h.1)

step_words : {A : Type 0} (lines : List (List (List ℕ))) (xs : List (Step A)) → AllZip AreStep lines xs
    → HaveWords lines
step_words [] xs h = tt
step_words (line ∷ lines) [] h = absurd h
step_words (line ∷ lines) (x ∷ xs) h = (step_word line x h.0, step_words lines xs h.1)

both_words : (xs ys : List (List (List ℕ))) → HaveWords xs → HaveWords ys → HaveWords (xs ++ ys)
both_words [] ys h g = g
both_words (x ∷ xs) ys h g = (h.0, both_words xs ys h.1 g)

word_at : (xs ys : List (List (List ℕ))) (line : List (List ℕ)) → HaveWords (xs ++ line ∷ ys) → HasWord line
word_at [] ys line h = h.0
word_at (x ∷ xs) ys line h = word_at xs ys line h.1

pub no_blank : (A : Type 0) → ((lines : List (List (List ℕ))) (s : Setup A) → IsSetup lines s → HaveHeads lines)
    → (d : DriveDraft A) → Bars A d []
no_blank A setups d lines read more s port steps t =
    let heads = setups (t.net ∷ t.head) s t.setup in
    let all : HaveWords (t.net ∷ t.port ∷ (t.head ++ t.last)) = (
      head_word t.net heads.0,
      (
        subst HasWord (sym (t.placed).1) tt,
        both_words t.head t.last (head_words t.head heads.1) (step_words t.last steps t.said),
      ),
    ) in
    word_at lines more [] (subst HaveWords (sym t.parts) all)

-- ---- the lines that are left

-- These lines were read, of which the draft was read, the others are left, and the number is that of the next line.
abbrev pub SoFar : (A : Type 0) → Option (List (List ℕ)) → Option (List (List ℕ)) → ℕ → DriveDraft A → Type 0
SoFar A first now number d =
    (read : List (List ℕ)) × HaveCome first read now × HasRead A (words_in read) d × (number ≡ number_after read)

pub numbered_next : (read : List (List ℕ)) (line : List ℕ) (number next : ℕ) → number ≡ number_after read
    → next ≡ min (number + 1) (2 ^ 64 - 1) → next ≡ number_after (read ++ line ∷ [])
numbered_next read line number next numbered one =
    omega (arith, one, numbered, length-append read (line ∷ []))

pub read_next : (A : Type 0) (first now after : Option (List (List ℕ))) (line : List ℕ) (number next : ℕ)
    (old new : DriveDraft A) → SoFar A first now number old → HasNext now line after
    → next ≡ min (number + 1) (2 ^ 64 - 1)
    → ((lines : List (List ℕ)) → HasRead A (words_in lines) old → HasRead A (words_in (lines ++ line ∷ [])) new)
    → SoFar A first after next new
read_next A first now after line number next old new (read, come, has, numbered) more one taken = (
  read ++ line ∷ [],
  come_on first read now line after come more,
  taken read has,
  numbered_next read line number next numbered one,
)

pub told_as : (why mid : LineFault) (number : ℕ) (told : Fault)
    → ((rule : Rule) → why ≡ Unlawful rule → (r : Rule) × (mid ≡ Unlawful r)) → (why ≡ NoMemory → mid ≡ NoMemory)
    → ((rule : Rule) → mid ≡ Unlawful rule → (r : Rule) × (told ≡ fault.Line number r))
    → (mid ≡ NoMemory → told ≡ fault.NoMemory) → IsToldAs why number told
told_as (Unlawful rule) mid number told one two three four = let (r, is) = one rule refl in three r is
told_as NoMemory mid number told one two three four = four (two refl)

pub at_fault : (A : Type 0) (first now after : Option (List (List ℕ))) (may_fail : Bool) (line : List ℕ) (number : ℕ)
    (d : DriveDraft A) (why : LineFault) (told : Fault) (so : SoFar A first now number d) → HasNext now line after
    → BeginDrive A so.0 → IfBroken why (¬ BeginDrive A (so.0 ++ line ∷ [])) → IsToldAs why number told
    → IsDriveFault A first may_fail told
at_fault A None now after may_fail line number d (Unlawful rule) told so next begins never (r, is) =
    subst (IsDriveFault A None may_fail) (sym is) tt
at_fault A (Some lines) now after may_fail line number d (Unlawful rule) told (read, come, has, numbered) next begins
    never (r, is) =
    let (later, parts, left) = come in
    let (rest, more, same) : HasNext (Some later) line after = subst (λ k. HasNext k line after) left next in
    subst (IsDriveFault A (Some lines) may_fail) (sym is) (inl (record {
      before = read;
      line = line;
      after = rest;
      parts = parts ∙ ap (λ l. read ++ l) more;
      numbered = numbered;
      begins = begins;
      never = never;
    }))
at_fault A first now after may_fail line number d NoMemory told so next begins never is =
    subst (IsDriveFault A first may_fail) (sym is) tt

pub cut_short : (A : Type 0) (first now : Option (List (List ℕ))) (may_fail : Bool) (number : ℕ) (d : DriveDraft A)
    (rule : Rule) (so : SoFar A first now number d) → IsLast now → BeginDrive A so.0
    → ((lines : List (List (List ℕ))) → HasRead A lines d → (s : Setup A) (port : ℕ) (steps : List (Step A))
    → ¬ AreDrive lines s port steps) → IsDriveFault A first may_fail (fault.Line number rule)
cut_short A None now may_fail number d rule so last begins never = tt
cut_short A (Some lines) now may_fail number d rule (read, come, has, numbered) last begins never =
    let whole : lines ≡ read = all_come (Some lines) read now come last in
    inr (record {
      numbered = numbered ∙ ap number_after (sym whole);
      begins = subst (BeginDrive A) (sym whole) begins;
      never = λ s port steps t. never (words_in read) has s port steps
          (subst (λ l. AreDrive (words_in l) s port steps) whole t);
    })

-- a reading that failed is no fault of a line
pub unread : (A : Type 0) (known : Option (List (List ℕ))) (may_fail : Bool) (why : Fault) → IsOfRead why
    → may_fail ≡ true → IsDriveFault A known may_fail why
unread A known may_fail (fault.Unreadable u) h may = (h, may)
unread A known may_fail (fault.Line number rule) h may = absurd h
unread A known may_fail fault.NoMemory h may = tt

-- the lines that were read are all that were left
pub said_of : (A : Type 0) (first now : Option (List (List ℕ))) (s : Setup A) (port : ℕ) (read : List (List ℕ))
    → HaveCome first read now → IsLast now → ((steps : List (Step A)) × AreDrive (words_in read) s port steps)
    → IfSome first (BeginsSo s port)
said_of A None now s port read come last said = tt
said_of A (Some lines) now s port read come last said =
    subst (BeginsSo s port) (sym (all_come (Some lines) read now come last)) said
