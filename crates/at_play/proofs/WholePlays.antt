-- What is told of a play as a whole, by how much of its text was known.
use Rattle.std.proofs.Common.{◌≡◌, ℕ, List, length, Err, Result, false, ◌<◌, None}
use Rattle.std.proofs.Common.{Some, Ok, IfSome, inr, refl, sym, ap, subst, ◌∙◌}
use Rattle.std.proofs.lemmas.Bool.{true≢false}
use Rattle.at_setup.specs.declared.event.Event.{Event}
use Rattle.at_setup.specs.declared.refusal.EventFault.TheVariants as fault
use Rattle.at_world.specs.Worlds.{WorldState}
use Rattle.at_print.specs.Papers.{Page}
use Rattle.at_print.specs.Printers.{Prints}
use Rattle.std.specs.Result.{IsErrAnd}
use Rattle.std.proofs.lemmas.Result.{err_from_is_err_and}
use Rattle.at_diagnostics.specs.Stops.{stop_line, stop_of}
use Rattle.at_play.specs.Told.{BeginsWith, IsWhole, Played, StopsIn}
use Rattle.at_play.specs.Ends.{IsTooLong, IsUnplayed, IsUnreadable, end_text}
use Rattle.at_faults.specs.declared.fault.Unreadable.TheVariants as unreadable
use Rattle.at_faults.specs.declared.fault.Fault.{Fault as Why}
use Rattle.at_faults.specs.declared.fault.Fault.TheVariants as why
use Rattle.at_print.specs.declared.printer.Printer.{Printer}
use Rattle.at_setup.specs.declared.setup.Setup.{Setup}
use Rattle.at_schedule.specs.Drafts.{HoldsSetup, IsLineFault}
use Rattle.at_schedule.specs.Says.{SayAll}
use Rattle.at_schedule.specs.Schedules.{event_lines}
use Rattle.std.specs.Prelude.{◌↔◌, codes, IsErr, IsOk, Option}
use Rattle.at_print.specs.declared.status.Status.{Status}
use Rattle.at_print.specs.declared.status.Status.TheVariants.{Done, Failed}
use Rattle.at_play.specs.declared.ending.Ending.{Ending}
use Rattle.at_play.specs.declared.ending.Ending.TheVariants as ending
use Rattle.at_diagnostics.specs.declared.stop.Stop.{Stop}
use Rattle.at_diagnostics.specs.declared.stop.Stop.TheVariants as stop

-- what is known less says less
pub stops_unknown : (A : Type 0) (text : List ℕ) (es : List (Event A)) (w : WorldState) (s : Stop)
    → StopsIn A (Some text) false es w s → StopsIn A None false es w s
stops_unknown A text es w (stop.Text f) h = absurd (true≢false (sym h.0))
stops_unknown A text es w (stop.Event fault.NoMemory n number datagram) h = (h.0, inr tt)
stops_unknown A text es w (stop.Event (fault.Refused r) n number datagram) h = (h.0, (h.1.0, h.1.1, tt))

-- a line of what was read is at fault in the text that is known
pub fault_of : (A : Type 0) (known : Option (List ℕ)) (bytes all : List ℕ) (f : Why)
    → IfSome known (λ text. all ≡ text) → bytes ≡ all → IsLineFault A (Some bytes) f → IsLineFault A known f
fault_of A None bytes all (why.Unreadable unreadable.TooLong) read same h = h
fault_of A None bytes all (why.Unreadable unreadable.Changed) read same h = h
fault_of A None bytes all (why.Unreadable (unreadable.System code)) read same h = tt
fault_of A None bytes all (why.Unreadable unreadable.Failed) read same h = tt
fault_of A None bytes all (why.Line number rule) read same h = tt
fault_of A None bytes all why.NoMemory read same h = tt
fault_of A (Some text) bytes all f read same h = subst (λ t. IsLineFault A (Some t) f) (same ∙ read) h

-- what was read is the text that is known, and so is its setup
pub held_of : (A : Type 0) (setup : Setup A) (known : Option (List ℕ)) (bytes all : List ℕ)
    → IfSome known (λ text. all ≡ text) → bytes ≡ all → HoldsSetup (Some bytes) setup → HoldsSetup known setup
held_of A setup None bytes all read same h = tt
held_of A setup (Some text) bytes all read same h = subst (λ t. HoldsSetup (Some t) setup) (same ∙ read) h

pub whole_read : (A : Type 0) (setup : Setup A) (known : Option (List ℕ)) (bytes all : List ℕ)
    (r : Result (Unit {0}) Ending) (p : Played setup) → IfSome known (λ text. all ≡ text) → bytes ≡ all
    → IsWhole A (Some bytes) false r p → IsWhole A known false r p
whole_read A setup None bytes all (Ok u) p read same h = tt
whole_read A setup (Some text) bytes all (Ok u) p read same h =
    subst (λ t. SayAll (event_lines t) p.events) (same ∙ read) h
whole_read A setup None bytes all (Err (ending.Stopped s)) p read same h =
    (stops_unknown A bytes p.events p.world s h.0, tt)
whole_read A setup (Some text) bytes all (Err (ending.Stopped s)) p read same h =
    subst (λ t. StopsIn A (Some t) false p.events p.world s × BeginsWith t p.events) (same ∙ read) h
whole_read A setup None bytes all (Err ending.Unwritten) p read same h = tt
whole_read A setup (Some text) bytes all (Err ending.Unwritten) p read same h =
    subst (λ t. BeginsWith t p.events) (same ∙ read) h

-- a play that is not done has failed
failed_of : (status : Status) (r : Result (Unit {0}) Ending) (P : Type 0) → ((status ≡ Done) ↔ (IsOk r × P)) → IsErr r
    → status ≡ Failed
failed_of Done (Ok u) P h err = absurd (cc err)
failed_of Done (Err s) P h err = absurd (cc (h.0 refl).0)
failed_of Failed r P h err = refl

-- a schedule that was too long is not played, and nothing else is printed
pub too_long_prints : {W : Type 0} (page : W → Page) (known : Option (List ℕ)) (most : ℕ) (status : Status)
    (r : Result (Unit {0}) Ending) (P : Type 0) (old mid new : Printer W)
    → IfSome known (λ all. most < length all → IsErrAnd r IsUnreadable × (mid ≡ old))
    → ((status ≡ Done) ↔ (IsOk r × P)) → Prints page mid new (end_text r)
    → IfSome known (λ all. most < length all → IsUnplayed page status old new)
too_long_prints page None most status r P old mid new h done printed = tt
too_long_prints page (Some all) most status r P old mid new h done printed = λ long.
    let (is, same) = h long in
    let (e, was, (f, of, stopped)) = err_from_is_err_and r is in
    let failed = was ∙ ap Err stopped in (
      failed_of status r P done (subst IsErr (sym failed) refl),
      (
        f,
        of,
        subst (λ p. Prints page p new (stop_line (stop_of f))) same
            (subst (Prints page mid new) (ap end_text failed) printed),
      ),
    )

-- what holds in any case
pub whatever_is_known : {P : Type 0} (known : Option (List ℕ)) (most : ℕ) → P
    → IfSome known (λ all. most < length all → P)
whatever_is_known None most h = tt
whatever_is_known (Some all) most h = λ long. h

-- a file that was too long is not played, and nothing but `fault 0` is printed
pub file_too_long : {W : Type 0} (page : W → Page) (known : Option (List ℕ)) (most : ℕ) (status : Status)
    (r : Result (Unit {0}) Ending) (P : Type 0) (old mid new : Printer W)
    → IfSome known (λ all. most < length all → IsErrAnd r IsTooLong × (mid ≡ old))
    → ((status ≡ Done) ↔ (IsOk r × P)) → Prints page mid new (end_text r)
    → IfSome known (λ all. most < length all → (status ≡ Failed) × Prints page old new (codes "fault 0\n"))
file_too_long page None most status r P old mid new h done printed = tt
file_too_long page (Some all) most status r P old mid new h done printed = λ long.
    let (is, same) = h long in
    let (e, was, (u, stopped)) = err_from_is_err_and r is in
    let failed = was ∙ ap Err stopped in (
      failed_of status r P done (subst IsErr (sym failed) refl),
      subst (λ p. Prints page p new (codes "fault 0\n")) same
          (subst (Prints page mid new) (ap end_text failed) printed),
    )
