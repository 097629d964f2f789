-- The lines that are left to read.
use Rattle.std.proofs.Common.{◌≡◌, ℕ, ◌-◌, ◌<◌, ◌==◌, ◌&&◌, nat_lt, Bool, true, false, if◌then◌else◌, List, [], ◌∷◌}
use Rattle.std.proofs.Common.{◌++◌, length, take, get_or, Some, None, Ok, Err, Result, IfErr, IfOk, IfSome, rules, refl}
use Rattle.std.proofs.Common.{sym, ap, inl, inr, subst, ◌∙◌, append-nil, append_assoc, arith}
use Rattle.std.proofs.Common.{◌+◌, ◌^◌, min}
use Rattle.std.proofs.lemmas.List.{length-append}
use Rattle.std.specs.Prelude.{Option}
use Rattle.std.specs.Io.BufRead.{DropsThrough, drop_through, first_piece, take_through, strip_last}
use Rattle.std.specs.Io.KnownBytes.{Consumes, IsAtEnd}
use Rattle.at_faults.specs.declared.fault.Fault.{Fault}
use Rattle.at_faults.specs.declared.fault.Fault.TheVariants as fault
use Rattle.at_faults.specs.declared.fault.LineFault.{LineFault}
use Rattle.at_faults.specs.declared.fault.LineFault.TheVariants.{NoMemory, Unlawful}
use Rattle.at_faults.specs.declared.rule.Rule.{Rule}
use Rattle.at_call_words.specs.Readings.{IfUnlawful}
use Rattle.at_setup_lines.specs.Drafts.{Draft, IsDraft, IsNoSetup}
use Rattle.at_setup_lines.specs.SetupLines.{IsSetup}
use Rattle.at_setup.specs.Setups.{is_lawful}
use Rattle.at_setup.specs.declared.setup.Setup.{Setup}
use Rattle.at_schedule.specs.Drafts.{BeginSchedule, HoldsSetup, IsLineFault, IsRead, IsSchedule}
use Rattle.at_schedule.specs.Drafts.{number_after}
use Rattle.at_schedule.specs.Schedules.{add_first, lines_in, setup_words}

chosen : (b : Bool) (c : ℕ) (xs ys : List ℕ) → (if b then c ∷ xs else c ∷ ys) ≡ c ∷ (if b then xs else ys)
chosen true c xs ys = refl
chosen false c xs ys = refl

-- the last byte of some goes if it is a line feed
strip_some : (x : ℕ) (xs : List ℕ) → strip_last 10 (x ∷ xs)
    ≡ (if get_or (x ∷ xs) (length xs) 0 == 10 then take (length xs) (x ∷ xs) else x ∷ xs)
strip_some x xs =
    let last : length (x ∷ xs) - 1 ≡ length xs = omega arith in
    let some : nat_lt 0 (length (x ∷ xs)) ≡ true = search rules in
    ap (λ b. if b && (get_or (x ∷ xs) (length (x ∷ xs) - 1) 0 == 10) then take (length (x ∷ xs) - 1)
    (x ∷ xs) else x ∷ xs) some
    ∙ ap (λ k. if get_or (x ∷ xs) k 0 == 10 then take k (x ∷ xs) else x ∷ xs) last

strip_cons : (c y : ℕ) (l : List ℕ) → strip_last 10 (c ∷ y ∷ l) ≡ c ∷ strip_last 10 (y ∷ l)
strip_cons c y l =
    strip_some c (y ∷ l) ∙ chosen (get_or (y ∷ l) (length l) 0 == 10) c (take (length l) (y ∷ l)) (y ∷ l)
    ∙ ap (λ r. c ∷ r) (sym (strip_some y l))

strip_end : (c : ℕ) → (c == 10) ≡ true → strip_last 10 (c ∷ []) ≡ []
strip_end c is = strip_some c [] ∙ ap (λ b. if b then [] else c ∷ []) is

strip_one : (c : ℕ) → (c == 10) ≡ false → strip_last 10 (c ∷ []) ≡ c ∷ []
strip_one c is = strip_some c [] ∙ ap (λ b. if b then [] else c ∷ []) is

through_by : (b : Bool) (c d : ℕ) (text : List ℕ) → (d == 10) ≡ b → strip_last 10 (c ∷ take_through 10 (d ∷ text))
    ≡ c ∷ first_piece 10 (d ∷ text)
through_by true c d text is = rw is (strip_cons c d [])
through_by false c d text is = rw is (strip_cons c d (take_through 10 text))

first_by : (b : Bool) (c : ℕ) (text : List ℕ) → (c == 10) ≡ b → lines_in (c ∷ text)
    ≡ first_piece 10 (c ∷ text) ∷ lines_in (drop_through 10 (c ∷ text))
first_by true c text is = rw is (ap (λ l. l ∷ lines_in text) (sym (strip_end c is)))
first_by false c [] is = rw is (ap (λ l. l ∷ []) (sym (strip_one c is)))
first_by false c (d ∷ text) is =
    rw is
    (ap (add_first c) (first_by (d == 10) d text refl)
    ∙ ap (λ l. l ∷ lines_in (drop_through 10 (d ∷ text))) (sym (through_by (d == 10) c d text refl)))

-- the first line, and those after it
pub line_first : (rest : List ℕ) → 0 < length rest → lines_in rest
    ≡ first_piece 10 rest ∷ lines_in (drop_through 10 rest)
line_first [] some = absurd (omega arith)
line_first (c ∷ text) some = first_by (c == 10) c text refl

-- where bytes are left after some, bytes were left before them
pub left_before : (old new : Option (List ℕ)) (bytes : List ℕ) → Consumes old new bytes
    → IfSome new (λ text. 0 < length text) → IfSome old (λ text. 0 < length text)
left_before None new bytes consumed some = tt
left_before (Some xs) None bytes consumed some = absurd consumed
left_before (Some xs) (Some ys) bytes consumed some =
    let long = ap length consumed in omega (arith, long, some, length-append bytes ys)

-- ---- the lines that were read

-- these were read of a text that is known, and the others are in what is left of it
abbrev pub Left : Option (List ℕ) → Option (List ℕ) → List (List ℕ) → Type 0
Left None now read = Unit {0}
Left (Some all) None read = ⊥
Left (Some all) (Some rest) read = lines_in all ≡ read ++ lines_in rest

pub left_more : (first known new : Option (List ℕ)) (read : List (List ℕ)) (piece : List ℕ) → Left first known read
    → IfSome known (λ xs. (0 < length xs) × (piece ≡ first_piece 10 xs)) → DropsThrough known new 10
    → Left first new (read ++ piece ∷ [])
left_more None known new read piece h is drops = tt
left_more (Some all) None new read piece h is drops = absurd h
left_more (Some all) (Some rest) new read piece h is drops =
    let next : lines_in rest ≡ piece ∷ lines_in (drop_through 10 rest) = line_first rest is.0
    ∙ ap (λ l. l ∷ lines_in (drop_through 10 rest)) (sym is.1) in
    rw drops (h ∙ ap (λ l. read ++ l) next ∙ sym (append_assoc read (piece ∷ []) (lines_in (drop_through 10 rest))))

some_through : (text : List ℕ) → 0 < length (take_through 10 text) → 0 < length text
some_through [] some = some
some_through (c ∷ text) some = omega arith

-- what was read through the first line feed, without that, is the first line of a text that is known
pub line_read : (known : Option (List ℕ)) (before read line : List ℕ) → before ≡ []
    → IfSome known (λ text. read ≡ before ++ take_through 10 text) → 0 < length read → line ≡ strip_last 10 read
    → IfSome known (λ text. (0 < length text) × (line ≡ first_piece 10 text))
line_read None before read line none is some last = tt
line_read (Some text) before read line none is some last =
    let whole : read ≡ take_through 10 text = is ∙ ap (λ l. l ++ take_through 10 text) none in
    (some_through text (subst (λ l. 0 < length l) whole some), last ∙ ap (strip_last 10) whole)

-- one line more has the next number
pub numbered_more : (read : List (List ℕ)) (line : List ℕ) (number : ℕ) → number ≡ number_after read
    → min (number + 1) (2 ^ 64 - 1) ≡ number_after (read ++ line ∷ [])
numbered_more read line number is = omega (arith, is, length-append read (line ∷ []))

-- ---- what there is of a text that was read to its end

pub all_held : (A : Type 0) (first now : Option (List ℕ)) (read : List (List ℕ)) (d : Draft) (s : Setup A)
    → Left first now read → IsAtEnd now → IsRead A read d → ((ls : List (List (List ℕ))) → IsDraft ls d → IsSetup ls s)
    → HoldsSetup first s
all_held A None now read d s left end (draft, (es, said), order, late, early) setup = tt
all_held A (Some all) None read d s left end (draft, (es, said), order, late, early) setup = absurd left
all_held A (Some all) (Some rest) read d s left end (draft, (es, said), order, late, early) setup =
    let whole : lines_in all ≡ read = left ∙ ap (λ l. read ++ lines_in l) end ∙ append-nil read in
    (es, subst (λ l. IsSchedule l s es) (sym whole) (setup (setup_words read) draft, said, order))

pub none_held : (A : Type 0) (first now : Option (List ℕ)) (read : List (List ℕ)) (d : Draft) (number : ℕ)
    (rule : Rule) → number ≡ number_after read → Left first now read → IsAtEnd now → IsRead A read d
    → BeginSchedule A read → IsNoSetup A d → IsLineFault A first (fault.Line number rule)
none_held A None now read d number rule is left end so_far begins never = tt
none_held A (Some all) None read d number rule is left end so_far begins never = absurd left
none_held A (Some all) (Some rest) read d number rule is left end so_far begins never =
    let whole : lines_in all ≡ read = left ∙ ap (λ l. read ++ lines_in l) end ∙ append-nil read in
    inr (record {
      numbered = is ∙ ap number_after (sym whole);
      begins = subst (BeginSchedule A) (sym whole) begins;
      never = λ s es (setup, said, order).
          never (setup_words read) so_far.0 s (subst (λ l. IsSetup (setup_words l) s) whole setup);
    })

pub none_begins : (A : Type 0) (first now : Option (List ℕ)) (read : List (List ℕ)) (line : List ℕ) (number : ℕ)
    (rule : Rule) → number ≡ number_after read → Left first now (read ++ line ∷ []) → BeginSchedule A read
    → ¬ BeginSchedule A (read ++ line ∷ []) → IsLineFault A first (fault.Line number rule)
none_begins A None now read line number rule is left begins never = tt
none_begins A (Some all) None read line number rule is left begins never = absurd left
none_begins A (Some all) (Some rest) read line number rule is left begins never = inl (record {
  before = read;
  line = line;
  after = lines_in rest;
  parts = left ∙ append_assoc read (line ∷ []) (lines_in rest);
  numbered = is;
  begins = begins;
  never = never;
})

no_memory : (A : Type 0) (first : Option (List ℕ)) → IsLineFault A first fault.NoMemory
no_memory A None = tt
no_memory A (Some text) = tt

-- what there is of a text after whose last line the draft was ended
pub setup_held : (A : Type 0) (first now : Option (List ℕ)) (read : List (List ℕ)) (d : Draft)
    (r : Result (Setup A) Fault) → Left first now read → IsAtEnd now → IsRead A read d
    → IfOk r (λ s. (ls : List (List (List ℕ))) → IsDraft ls d → IsSetup ls s) → IfOk r (HoldsSetup first)
setup_held A first now read d (Ok s) left end so_far said = all_held A first now read d s left end so_far said
setup_held A first now read d (Err fault) left end so_far said = tt

pub setup_lawful : (A : Type 0) (read : List (List ℕ)) (d : Draft) (r : Result (Setup A) Fault) → IsRead A read d
    → IfOk r (λ s. (ls : List (List (List ℕ))) → IsDraft ls d → IsSetup ls s) → IfOk r (λ s. is_lawful s ≡ true)
setup_lawful A read d (Ok s) so_far said = (said (setup_words read) so_far.0).1
setup_lawful A read d (Err fault) so_far said = tt

pub setup_missed : (A : Type 0) (first now : Option (List ℕ)) (read : List (List ℕ)) (d : Draft) (number : ℕ)
    (r : Result (Setup A) Fault) → number ≡ number_after read → Left first now read → IsAtEnd now → IsRead A read d
    → BeginSchedule A read
    → IfErr r (λ told. IsNoSetup A d × ((rule : Rule) × (told ≡ fault.Line number rule)))
    → IfErr r (IsLineFault A first)
setup_missed A first now read d number (Ok s) is left end so_far begins only = tt
setup_missed A first now read d number (Err told) is left end so_far begins (never, (rule, line)) =
    subst (IsLineFault A first) (sym line)
    (none_held A first now read d number rule is left end so_far begins never)

-- what is told of a line that was refused
abbrev pub IsToldAs : LineFault → ℕ → Fault → Type 0
IsToldAs (Unlawful rule) number told = (r : Rule) × (told ≡ fault.Line number r)
IsToldAs NoMemory number told = told ≡ fault.NoMemory

-- this is so if a rule was broken
abbrev pub IfBroken : LineFault → Type 0 → Type 0
IfBroken (Unlawful rule) P = P
IfBroken NoMemory P = Unit {0}

pub line_refused : (A : Type 0) (first now : Option (List ℕ)) (read : List (List ℕ)) (line : List ℕ) (why : LineFault)
    (number : ℕ) (told : Fault) → number ≡ number_after read → Left first now (read ++ line ∷ [])
    → BeginSchedule A read → IfBroken why (¬ BeginSchedule A (read ++ line ∷ [])) → IsToldAs why number told
    → IsLineFault A first told
line_refused A first now read line (Unlawful rule) number told numbered left begins never (r, is) =
    subst (IsLineFault A first) (sym is) (none_begins A first now read line number r numbered left begins never)
line_refused A first now read line NoMemory number told numbered left begins never is =
    subst (IsLineFault A first) (sym is) (no_memory A first)

pub told_of : (why : LineFault) (number : ℕ) (told : Fault)
    → ((rule : Rule) → why ≡ Unlawful rule → (r : Rule) × (told ≡ fault.Line number r))
    → (why ≡ NoMemory → told ≡ fault.NoMemory) → IsToldAs why number told
told_of (Unlawful rule) number told unlawful memory = unlawful rule refl
told_of NoMemory number told unlawful memory = memory refl

pub broken_of : {T : Type 0} (P Q : Type 0) (r : Result T LineFault) (why : LineFault) → r ≡ Err why → IfUnlawful r P
    → (P → Q) → IfBroken why Q
broken_of P Q r (Unlawful rule) was h so = so (rw was at h)
broken_of P Q r NoMemory was h so = tt
