-- A drive goes on by a line, stays, or ends.
use Rattle.std.proofs.Common.{◌≡◌, ℕ, ◌+◌, Bool, true, false, List, [], ◌∷◌, ◌++◌, length, inl}
use Rattle.std.proofs.Common.{inr, Ok, Err}
use Rattle.std.proofs.Common.{refl, sym, ap, subst, ◌∙◌, arith, None, Option, Some}
use Rattle.std.proofs.lemmas.List.{length-append}
use Rattle.std.proofs.lemmas.List.Elements.{All-nil, All-push}
use Rattle.std.specs.Prelude.{◌||◌, nat_le, Result, slice_get}
use Rattle.at_cable.specs.declared.fault.CableFault.{CableFault}
use Rattle.at_setup.specs.declared.setup.Setup.{Setup}
use Rattle.at_drive.specs.Drives.{Driven as Nodes, Drives, IsLeft, no_log, with_log}
use Rattle.at_drive.specs.Steps.{node_of, numbers_of, stands_in}
use Rattle.at_drive_lines.specs.Lines.{HasNext, HaveCome, IsLast}
use Rattle.at_drive_lines.specs.Says.{IsStepHere}
use Rattle.at_drive_lines.specs.StepLines.{IsStepOf, IsUnfit}
use Rattle.at_drive_lines.specs.StepLines.{is_step_line}
use Rattle.at_drive_lines.proofs.LineLemmas.{come_on, next_comes, none_come}
use Rattle.at_drive_lines.proofs.StepLemmas.{all_more}
use Rattle.at_print.specs.Papers.{Page}
use Rattle.at_print.specs.Printers.{Prints}
use Rattle.at_print.specs.declared.printer.Printer.{Printer}
use Rattle.at_print.proofs.PrintLemmas.{Prints-nothing, Prints-trans}
use Rattle.at_drive_text.specs.Courses.{EndsLine, IsGoing, TellsLine}
use Rattle.at_diagnostics.specs.declared.diagnostics.Diagnostics.{Diagnostics}
use Rattle.at_drive_text.specs.Driven.{Goes, IsUnread, Progress, Tells, WasRead, first_progress, news_text}
use Rattle.at_drive_text.specs.Driven.{next_progress}
use Rattle.at_drive_text.specs.Driven.{number_of, sent_count}
use Rattle.at_drive_text.specs.Told.{TellsStep}
use Rattle.at_drive_text.specs.declared.course.Course.{Course}
use Rattle.at_drive_text.specs.declared.ending.Ending.{Ending}
use Rattle.at_drive_text.specs.declared.ending.Ending.TheVariants as ending
use Rattle.at_drive_text.proofs.NewsLemmas.{news_from}
use Rattle.at_drive_text.proofs.TellsLemmas.{and_one}
use Rattle.at_drive_text.proofs.CourseLemmas.{begin_said, more_said, line_left, next_said, all_said, said_more}
use Rattle.at_drive_text.proofs.CourseLemmas.{said_over, none_driven, EachFits, Sofar}

module _ {A C W E : Type 0} (S : C → ℕ → ℕ → List ℕ → Result (Unit {0}) CableFault → C → Type 0)
    (R : C → ℕ → ℕ → Result (Option (List ℕ)) CableFault → C → Type 0) (page : W → Page) (heard : E → Page)
    (setup : Setup A) (first : Option (List (List ℕ))) where
  pub nothing_driven : (d : Nodes) (c : C) (x : Diagnostics E) (old : Printer W) (o : Course A)
      → IsGoing setup 0 0 false o
      → Sofar S R page heard setup first (first_progress d c x) old first o d c old x
  nothing_driven d c x old o going = record {
    steps = [];
    text = [];
    progress = first_progress d c x;
    tells = (refl, refl);
    nodes = refl;
    cable = refl;
    told = refl;
    read = [];
    come = none_come first;
    said = tt;
    stand = refl;
    here = All-nil (IsStepHere setup.net);
    printed = Prints-nothing page old;
    going = going;
  }

  -- there was no memory for the opening
  pub not_opened : (may_fail : Bool) (d : Nodes) (c : C) (x : Diagnostics E) (old : Printer W)
      → Goes S R page heard setup first may_fail (first_progress d c x) old c old x (Err (ending.NoMemory 0))
  not_opened may_fail d c x old = record {
    steps = [];
    text = [];
    progress = first_progress d c x;
    tells = (
      (refl, refl),
      record {
        counted = refl;
        begin = begin_said first [] first [] (none_come first) tt;
        there = inl refl;
        next = None;
        says = tt;
        left = refl;
      },
    );
    told = refl;
    stand = refl;
    here = All-nil (IsStepHere setup.net);
    printed = Prints-nothing page old;
  }

  module _ (start : Progress C E) (old : Printer W) where
    module _ (now after : Option (List (List ℕ))) (line : List ℕ) (o : Course A) (d : Nodes) (b : C) (p : Printer W)
        (x : Diagnostics E) (o' : Course A) (d' : Nodes) (b' : C) (p' : Printer W) (x' : Diagnostics E)
        (so : Sofar S R page heard setup first start old now o d b p x) (next : HasNext now line after) where
      step_more : is_step_line line ≡ true → TellsLine S R page heard true line o d b p x o' d' b' p' x'
          → (more : Sofar S R page heard setup first start old after o' d' b' p' x') × (o'.at ≡ o.at + 1)
      step_more is (s, says, here, stands, t) =
          let (same, at, number, failed) = so.going in
          let came = t.came in
          let q = so.progress in
          let k = sent_count (slice_get came.sent 0) in
          let text = news_text (length so.steps) q.sent came in
          let news : news_text o.at o.number came ≡ text =
          (λ i. news_text (at i) (number i) came) ∙ news_from (length so.steps) q.sent came in
          let spot : o.at ≡ 0 + length so.steps = omega (arith, at) in
          let zero : 0 + length so.steps ≡ length so.steps = omega arith in
          let from_place = subst (λ (e : Nodes). Drives S R o.at s (with_log e no_log) q.cable (with_log d' came) b')
          (sym so.nodes) (subst (λ (e : C). Drives S R o.at s (with_log d no_log) e (with_log d' came) b')
          (sym so.cable) t.drives) in
          let told_on = subst (λ (e : Bool). TellsStep heard o.at e came q.told x') failed
          (subst (λ (e : Diagnostics E). TellsStep heard o.at o.has_failed came e x') (sym so.told) t.told) in (
            record {
              steps = so.steps ++ s ∷ [];
              text = so.text ++ text;
              progress = next_progress q d' b' came x';
              tells = subst (λ i. Tells S R heard 0 (so.steps ++ s ∷ []) start (next_progress q d' b' came x')
                  (so.text ++ news_text i q.sent came)) zero
                  (and_one S R heard 0 so.steps s start q d' came b' x' so.text so.tells
                  (subst (λ (i : ℕ). Drives S R i s (with_log q.nodes no_log) q.cable (with_log d' came) b') spot
                  from_place)
                  (subst (λ (i : ℕ). TellsStep heard i q.has_failed came q.told x') spot told_on));
              nodes = refl;
              cable = refl;
              told = refl;
              read = so.read ++ line ∷ [];
              come = come_on first so.read now line after so.come next;
              said = said_more so.read so.steps line s so.said is says;
              stand = all_more (λ y. stands_in (numbers_of setup) (node_of y)) so.steps s so.stand
                  (subst (λ e. IsStepOf e s) same stands);
              here = All-push (IsStepHere setup.net) so.steps s so.here (subst (λ e. IsStepHere e.net s) same here);
              printed = Prints-trans page old p p' so.text text so.printed
                  (subst (Prints page p p') news t.printed);
              going = (
                ap (λ e. e.now) t.setup ∙ same,
                omega (arith, t.at, at, length-append so.steps (s ∷ [])),
                counted o.number q.sent k o'.number number t.number,
                t.failed ∙ ap (λ e. e || nat_le 1 (length came.faults)) failed,
              );
            },
            t.at,
          )
        where
          counted : (m n k next : ℕ) → m ≡ number_of n → next ≡ number_of (m + k) → next ≡ number_of (n + k)
          counted m n k next is more = omega (arith, is, more)

      line_more : (e : Bool) → is_step_line line ≡ e → TellsLine S R page heard e line o d b p x o' d' b' p' x'
          → Sofar S R page heard setup first start old after o' d' b' p' x'
      line_more true is told = (step_more is told).0
      line_more false is (same, alike, lies, prints, silent) = record {
        steps = so.steps;
        text = so.text;
        progress = so.progress;
        tells = so.tells;
        nodes = so.nodes ∙ sym alike;
        cable = so.cable ∙ sym lies;
        told = so.told ∙ sym silent;
        read = so.read ++ line ∷ [];
        come = come_on first so.read now line after so.come next;
        said = said_over so.read so.steps line so.said is;
        stand = so.stand;
        here = so.here;
        printed = subst (λ e. Prints page old e so.text) (sym prints) so.printed;
        going = subst (IsGoing setup (length so.steps) (so.progress).sent (so.progress).has_failed) (sym same) so.going;
      }

      pub sofar_line : TellsLine S R page heard (is_step_line line) line o d b p x o' d' b' p' x'
          → Sofar S R page heard setup first start old after o' d' b' p' x'
      sofar_line told = line_more (is_step_line line) refl told

      -- ---- the drive ends at the line

      no_longer : (may_fail : Bool) → WasRead setup first may_fail
          → EachFits setup → (after_step : Bool) → (after_step ≡ true → ¬ (o.at ≡ 0)) → IsUnfit setup after_step line
          → may_fail ≡ true
      no_longer true was law after_step some unfit = refl
      no_longer false was law after_step some unfit =
          let (lines, port, known, begins) = was refl in
          let come : HaveCome (Some lines) so.read now = subst (λ f. HaveCome f so.read now) known so.come in
          let (later, parts) = next_comes lines so.read now line after come next in
          absurd (law port lines so.read later line after_step begins parts
          (λ is none. some is (so.going.1 ∙ ap length (none_driven so.read so.steps so.said none))) unfit)

      pub sofar_ended : (may_fail : Bool) (e : Ending) → WasRead setup first may_fail
          → EachFits setup → EndsLine S R page heard line o d b p x o' d' b' p' x' e
          → Goes S R page heard setup first may_fail start old b' p' x' (Err e)
      sofar_ended may_fail (ending.NoMemory at) was law (is, spot, printer, silent, (step, says, left)) = record {
        steps = so.steps;
        text = so.text;
        progress = so.progress;
        tells = (
          so.tells,
          record {
            counted = spot ∙ so.going.1;
            begin = begin_said first so.read now so.steps so.come so.said;
            there = inr (more_said first so.read now so.steps may_fail line after so.come next is so.said);
            next = step;
            says = next_said first so.read now so.steps line after step so.come next is so.said says;
            left = subst (λ e. IsLeft R step e b') (sym so.cable) left;
          },
        );
        told = silent ∙ sym so.told;
        stand = so.stand;
        here = so.here;
        printed = subst (λ e. Prints page old e so.text) (sym printer) so.printed;
      }
      sofar_ended may_fail (ending.Unwritten at) was law (is, spot, line_told, failed) =
          let (more, one) = step_more is line_told in record {
            steps = more.steps;
            text = more.text;
            progress = more.progress;
            tells = (
              more.tells,
              sym more.cable,
              ap (λ k. k + 1) spot ∙ sym one ∙ more.going.1,
              begin_said first more.read after more.steps more.come more.said,
            );
            told = sym more.told;
            stand = more.stand;
            here = more.here;
            printed = more.printed;
          }
      sofar_ended may_fail (ending.Unread fault) was law (reading, (after_step, some, unfit), cable, printer, silent) =
          record {
            steps = so.steps;
            text = so.text;
            progress = so.progress;
            tells = (
              so.tells,
              cable ∙ sym so.cable,
              reading,
              no_longer may_fail was law after_step some (subst (λ e. IsUnfit e after_step line) so.going.0 unfit),
              begin_said first so.read now so.steps so.come so.said,
            );
            told = silent ∙ sym so.told;
            stand = so.stand;
            here = so.here;
            printed = subst (λ e. Prints page old e so.text) (sym printer) so.printed;
          }

    -- ---- no line is left, or none can be read

    module _ (now : Option (List (List ℕ))) (o : Course A) (d : Nodes) (b : C) (p : Printer W) (x : Diagnostics E)
        (so : Sofar S R page heard setup first start old now o d b p x) (may_fail : Bool) where
      pub sofar_done : IsLast now → Goes S R page heard setup first may_fail start old b p x (Ok tt)
      sofar_done last = record {
        steps = so.steps;
        text = so.text;
        progress = so.progress;
        tells = (so.tells, sym so.cable, all_said first so.read now so.steps so.come last so.said);
        told = sym so.told;
        stand = so.stand;
        here = so.here;
        printed = so.printed;
      }

      pub sofar_unread : (e : Ending) → IsUnread now o.at e → may_fail ≡ true
          → Goes S R page heard setup first may_fail start old b p x (Err e)
      sofar_unread (ending.NoMemory at) (spot, some) may = record {
        steps = so.steps;
        text = so.text;
        progress = so.progress;
        tells = (
          so.tells,
          record {
            counted = spot ∙ so.going.1;
            begin = begin_said first so.read now so.steps so.come so.said;
            there = inr (line_left first so.read now so.steps may_fail may so.come some so.said);
            next = None;
            says = tt;
            left = sym so.cable;
          },
        );
        told = sym so.told;
        stand = so.stand;
        here = so.here;
        printed = so.printed;
      }
      sofar_unread (ending.Unwritten at) none may = absurd none
      sofar_unread (ending.Unread fault) reading may = record {
        steps = so.steps;
        text = so.text;
        progress = so.progress;
        tells = (
          so.tells,
          sym so.cable,
          reading,
          may,
          begin_said first so.read now so.steps so.come so.said,
        );
        told = sym so.told;
        stand = so.stand;
        here = so.here;
        printed = so.printed;
      }
