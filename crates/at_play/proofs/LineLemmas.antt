-- The lines that were read of a text, the events that they say, and those that are left.
use Rattle.std.proofs.Common.{◌≡◌, ℕ, ◌<◌, Bool, true, false, cond, List, [], ◌∷◌, ◌++◌, filter, length, Some, None}
use Rattle.std.proofs.Common.{IfSome, refl, sym, ap, subst, ◌∙◌, append-nil, append_assoc}
use Rattle.std.proofs.lemmas.List.Elements.{filter-append}
use Rattle.std.specs.Prelude.{Option}
use Rattle.std.specs.Io.BufRead.{DropsThrough, drop_through, first_piece}
use Rattle.std.specs.Io.KnownBytes.{IsAtEnd}
use Rattle.at_setup.specs.declared.event.Event.{Event}
use Rattle.at_setup_lines.specs.Drafts.{Draft}
use Rattle.at_schedule.specs.Drafts.{BeginSchedule, IsRead}
use Rattle.at_schedule.specs.Says.{SayAll, Says}
use Rattle.at_schedule.specs.Schedules.{event_lines, is_event_line, lines_in}
use Rattle.at_schedule.proofs.ReadLemmas.{say_more}
use Rattle.at_schedule.proofs.WholeLemmas.{filter_more}
use Rattle.at_play.specs.Told.{BeginsWith, BreaksOff, LineLeft, NextSays}

-- these lines were read of a text that is known, and the others are in what is left of it
abbrev pub Come : Option (List ℕ) → List (List ℕ) → Option (List ℕ) → Type 0
Come None lines now = Unit {0}
Come (Some all) lines None = ⊥
Come (Some all) lines (Some rest) = lines_in all ≡ lines ++ lines_in rest

-- this is the first of the lines that are left, and those after it are left then
abbrev pub Cuts : Option (List ℕ) → List ℕ → Option (List ℕ) → Type 0
Cuts None line after = Unit {0}
Cuts (Some rest) line None = ⊥
Cuts (Some rest) line (Some later) = lines_in rest ≡ line ∷ lines_in later

-- one line more adds the event that it says, if it is an event line
abbrev pub Adds : {A : Type 0} → Bool → List ℕ → List (Event A) → List (Event A) → Type 0
Adds {A = A} true line es more = (e : Event A) × Says line e × (more ≡ es ++ e ∷ [])
Adds false line es more = more ≡ es

-- what was read of a text: the draft was read of these lines, which say these events
pub record HasRead (A : Type 0) (first now : Option (List ℕ)) (es : List (Event A)) (d : Draft) : Type 0 where
  pub lines : List (List ℕ)
  pub read : IsRead A lines d
  pub come : Come first lines now
  pub said : SayAll (filter is_event_line lines) es

-- the first line, and those after it
abbrev pub FirstLine : Type 0
FirstLine = (rest : List ℕ) → 0 < length rest → lines_in rest ≡ first_piece 10 rest ∷ lines_in (drop_through 10 rest)

-- ---- no line was read

none_come : (first now : Option (List ℕ)) → now ≡ first → Come first [] now
none_come None now is = tt
none_come (Some all) now is = rw is refl

pub none_read : (A : Type 0) (first now : Option (List ℕ)) (d : Draft) → now ≡ first → IsRead A [] d
    → HasRead A first now [] d
none_read A first now d is read = record { lines = []; read = read; come = none_come first now is; said = tt }

pub none_said : (A : Type 0) (known : Option (List ℕ)) → IfSome known (λ text. BeginsWith {A = A} text [])
none_said A None = tt
none_said A (Some text) = ([], event_lines text, refl, tt)

-- ---- what was read so far

parts_so_far : (all rest : List ℕ) (lines : List (List ℕ)) → lines_in all ≡ lines ++ lines_in rest
    → event_lines all ≡ filter is_event_line lines ++ event_lines rest
parts_so_far all rest lines is = ap (filter is_event_line) is ∙ filter-append is_event_line lines (lines_in rest)

-- nothing is left
pub reads_all : (A : Type 0) (first now : Option (List ℕ)) (es : List (Event A)) (d : Draft) → HasRead A first now es d
    → IsAtEnd now → IfSome first (λ text. SayAll (event_lines text) es)
reads_all A None now es d h end = tt
reads_all A (Some all) None es d h end = absurd h.come
reads_all A (Some all) (Some rest) es d h end =
    let said = filter is_event_line h.lines in
    let none : event_lines rest ≡ [] = ap event_lines end in
    let same : event_lines all ≡ said = parts_so_far all rest h.lines h.come ∙ ap (λ l. said ++ l) none
    ∙ append-nil said in
    subst (λ l. SayAll l es) (sym same) h.said

pub reads_so_far : (A : Type 0) (first now : Option (List ℕ)) (es : List (Event A)) (d : Draft)
    → HasRead A first now es d → IfSome first (λ text. BeginsWith text es)
reads_so_far A None now es d h = tt
reads_so_far A (Some all) None es d h = absurd h.come
reads_so_far A (Some all) (Some rest) es d h =
    (filter is_event_line h.lines, event_lines rest, parts_so_far all rest h.lines h.come, h.said)

-- something is left
pub left_some : FirstLine → (A : Type 0) (first now : Option (List ℕ)) (es : List (Event A)) (d : Draft)
    → HasRead A first now es d → IfSome now (λ text. 0 < length text) → IfSome first (λ text. LineLeft text es)
left_some law A None now es d h some = tt
left_some law A (Some all) None es d h some = absurd h.come
left_some law A (Some all) (Some rest) es d h some = (
  h.lines,
  lines_in (drop_through 10 rest),
  first_piece 10 rest,
  h.come ∙ ap (λ l. h.lines ++ l) (law rest some),
  h.said,
)

-- ---- one line more

pub cuts_read : FirstLine → (known new : Option (List ℕ)) (line : List ℕ)
    → IfSome known (λ xs. (0 < length xs) × (line ≡ first_piece 10 xs)) → DropsThrough known new 10
    → Cuts known line new
cuts_read law None new line is drops = tt
cuts_read law (Some text) new line is drops =
    let later = lines_in (drop_through 10 text) in
    rw drops (law text is.0 ∙ ap (λ l. l ∷ later) (sym is.1))

come_on : (first : Option (List ℕ)) (lines : List (List ℕ)) (known : Option (List ℕ)) (line : List ℕ)
    (after : Option (List ℕ)) → Come first lines known → Cuts known line after → Come first (lines ++ line ∷ []) after
come_on None lines known line after come cuts = tt
come_on (Some all) lines None line after come cuts = absurd come
come_on (Some all) lines (Some rest) line None come cuts = absurd cuts
come_on (Some all) lines (Some rest) line (Some later) come cuts =
    come ∙ ap (λ l. lines ++ l) cuts ∙ sym (append_assoc lines (line ∷ []) (lines_in later))

said_on : (A : Type 0) (b : Bool) (lines : List (List ℕ)) (line : List ℕ) (es more : List (Event A))
    → is_event_line line ≡ b → SayAll (filter is_event_line lines) es → Adds b line es more
    → SayAll (filter is_event_line (lines ++ line ∷ [])) more
said_on A true lines line es more is said (e, says, added) =
    let all = filter is_event_line lines in
    subst (λ l. SayAll l more) (sym (filter_more true lines line is))
    (subst (SayAll (all ++ line ∷ [])) (sym added) (say_more all es line e said says))
said_on A false lines line es more is said added =
    let all = filter is_event_line lines in
    subst (λ l. SayAll l more) (sym (filter_more false lines line is ∙ append-nil all))
    (subst (SayAll all) (sym added) said)

module _ (A : Type 0) (first known after : Option (List ℕ)) (es : List (Event A)) (d : Draft) (line : List ℕ)
    (h : HasRead A first known es d) (cuts : Cuts known line after) where
  pub read_more : (more : List (Event A)) (d' : Draft)
      → ((lines : List (List ℕ)) → IsRead A lines d → IsRead A (lines ++ line ∷ []) d')
      → Adds (is_event_line line) line es more → HasRead A first after more d'
  read_more more d' taken added = record {
    lines = h.lines ++ line ∷ [];
    read = taken h.lines h.read;
    come = come_on first h.lines known line after h.come cuts;
    said = said_on A (is_event_line line) h.lines line es more refl h.said added;
  }

  -- ---- the line itself

  -- what holds of a text that has this line after those that were read
  pub at_line : (P : List ℕ → Type 0)
      → ((all : List ℕ) (later : List (List ℕ)) → lines_in all ≡ h.lines ++ line ∷ later → P all) → IfSome first P
  at_line P f = go first known after h.come cuts
    where
      go : (first known after : Option (List ℕ)) → Come first h.lines known → Cuts known line after → IfSome first P
      go None known after come cut = tt
      go (Some all) None after come cut = absurd come
      go (Some all) (Some rest) None come cut = absurd cut
      go (Some all) (Some rest) (Some later) come cut = f all (lines_in later) (come ∙ ap (λ l. h.lines ++ l) cut)

  -- it is the next event line
  pub event_at : (all : List ℕ) (later : List (List ℕ)) → lines_in all ≡ h.lines ++ line ∷ later
      → is_event_line line ≡ true
      → event_lines all ≡ filter is_event_line h.lines ++ line ∷ filter is_event_line later
  event_at all later is event =
      let rest = filter is_event_line later in
      ap (filter is_event_line) is ∙ filter-append is_event_line h.lines (line ∷ later)
      ∙ ap (λ v. filter is_event_line h.lines ++ cond v (line ∷ rest) rest) event

  pub next_said : (e : Event A) → is_event_line line ≡ true → Says line e → IfSome first (λ text. NextSays text es e)
  next_said e event says = at_line (λ text. NextSays text es e)
      (λ all later is. (
        filter is_event_line h.lines,
        filter is_event_line later,
        line,
        event_at all later is event,
        h.said,
        says,
      ))

  pub line_left : IfSome first (λ text. LineLeft text es)
  line_left = at_line (λ text. LineLeft text es) (λ all later is. (h.lines, later, line, is, h.said))

  pub breaks_off : ((lines : List (List ℕ)) → IsRead A lines d → ¬ BeginSchedule A (lines ++ line ∷ []))
      → IfSome first (λ text. BreaksOff A text es)
  breaks_off never = at_line (λ text. BreaksOff A text es)
      (λ all later is. (h.lines, later, line, is, h.said, never h.lines h.read))
