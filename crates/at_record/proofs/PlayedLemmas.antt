-- What was played of a schedule, without printing it.
use Rattle.std.proofs.Common.{◌≡◌, ℕ, ◌<◌, List, [], length, Err, Ok, Some, None, false, inl, inr, refl, sym, ap, subst}
use Rattle.std.proofs.Common.{◌∙◌, append-nil}
use Rattle.std.specs.Prelude.{◌↔◌, IfSome, IsErr, IsOk, Option, Result}
use Rattle.at_diagnostics.specs.declared.diagnostics.Diagnostics.{Diagnostics}
use Rattle.at_diagnostics.specs.declared.stop.Stop.{Stop}
use Rattle.at_diagnostics.specs.declared.stop.Stop.TheVariants as stop
use Rattle.at_diagnostics.specs.Stops.{stop_of}
use Rattle.at_faults.specs.declared.fault.Fault.{Fault as Why}
use Rattle.at_play.specs.Ends.{IsTextFault}
use Rattle.at_play.specs.Told.{BeginsWith, Played, StopsIn, TellsReports}
use Rattle.at_play.proofs.LineLemmas.{none_said}
use Rattle.at_play.proofs.ToldLemmas.{Sofar, sofar_opened}
use Rattle.at_play.proofs.WholePlays.{stops_unknown}
use Rattle.at_print.specs.Papers.{Page}
use Rattle.at_print.specs.Printers.{Prints}
use Rattle.at_print.specs.declared.printer.Printer.{Printer}
use Rattle.at_print.specs.declared.status.Status.{Status}
use Rattle.at_print.specs.declared.status.Status.TheVariants.{Done, Failed}
use Rattle.at_print.proofs.PrintLemmas.{Prints-trans}
use Rattle.at_record.specs.Ends.{IsUnread, PlaysEvents, SaysEvents}
use Rattle.at_record.specs.Unseen.{unseen, unseen_page}
use Rattle.at_schedule.specs.Says.{SayAll}
use Rattle.at_schedule.specs.Schedules.{event_lines}
use Rattle.at_setup.specs.declared.event.Event.{Event}
use Rattle.at_setup.specs.declared.refusal.EventFault.{EventFault}
use Rattle.at_setup.specs.declared.refusal.EventFault.TheVariants as fault
use Rattle.at_setup.specs.declared.setup.Setup.{Setup}
use Rattle.at_world.specs.Plays.{opening_world}
use Rattle.at_world.specs.Sents.{SentDatagram}
use Rattle.at_world.specs.Worlds.{IsFault, WorldState}

-- whatever is printed there, nothing is seen of it
pub unseen_prints : (text : List ℕ) → Prints unseen_page unseen unseen text
unseen_prints text = record { stopped = λ failed. refl; written = inr tt; tied = λ tied. tied }

-- an event that is not played sends nothing
pub sent_kept : {A : Type 0} (w : WorldState) (e : Event A) (f : EventFault) (w' : WorldState) → IsFault w e f w'
    → w'.sent ≡ w.sent
sent_kept w e (fault.Refused r) w' h = ap (λ (x : WorldState). x.sent) h.1
sent_kept w e fault.NoMemory w' h = h.1

-- a play so far, at a world, and what was told of its reports
abbrev pub Unseen : (A : Type 0) {E : Type 0} → (E → Page) → Setup A → WorldState → Diagnostics E → Diagnostics E
    → Type 0
Unseen A heard setup w before after = Sofar A unseen_page heard setup w unseen unseen before after

module _ (A : Type 0) {E : Type 0} (heard : E → Page) (setup : Setup A) where
  abbrev pub opened : (w : WorldState) (x : Diagnostics E) → w ≡ opening_world setup → Unseen A heard setup w x x
  opened w x is = (
    (sofar_opened A unseen_page heard setup w unseen x is).0,
    sym is,
    unseen_prints [],
    refl,
  )

  -- all events were played
  pub played_all : (known : Option (List ℕ)) (w : WorldState) (x y : Diagnostics E) (so : Unseen A heard setup w x y)
      → IfSome known (λ text. SayAll (event_lines text) (so.0).events)
      → PlaysEvents A heard known setup (Ok tt) w.sent x y
  played_all known w x y so said = record {
    played = so.0;
    sends = sym (ap (λ (v : WorldState). v.sent) so.1);
    whole = said;
    tells = so.3;
  }

  -- the play stopped, and sent and told nothing more
  pub played_some : (known : Option (List ℕ)) (w : WorldState) (sent : List SentDatagram) (x y z : Diagnostics E)
      (s : Stop) → sent ≡ w.sent → z ≡ y → (so : Unseen A heard setup w x y)
      → StopsIn A known false (so.0).events w s → IfSome known (λ text. BeginsWith text (so.0).events)
      → PlaysEvents A heard known setup (Err s) sent x z
  played_some known w sent x y z s same also so stops begins = record {
    played = so.0;
    sends = same ∙ sym (ap (λ (v : WorldState). v.sent) so.1);
    whole = (subst (λ v. StopsIn A known false (so.0).events v s) (sym so.1) stops, begins);
    tells = subst (λ v. TellsReports heard 0 (so.0).reports x v) (sym also) so.3;
  }

  -- it stopped before its first event
  pub played_none : (known : Option (List ℕ)) (x : Diagnostics E) (s : Stop) (number : ℕ) (datagram : Option ℕ)
      → s ≡ stop.Event fault.NoMemory 0 number datagram → PlaysEvents A heard known setup (Err s) [] x x
  played_none known x s number datagram is =
      played_some known (opening_world setup) [] x x x s refl refl (opened (opening_world setup) x refl)
      (subst (StopsIn A known false [] (opening_world setup)) (sym is) (refl, inl refl)) (none_said A known)

-- what was read is the text that is known, so its lines say the events
pub said_of_read : (A : Type 0) (setup : Setup A) (known : Option (List ℕ)) (bytes all : List ℕ)
    (r : Result (Unit {0}) Stop) (p : Played setup) → IfSome known (λ text. all ≡ text) → bytes ≡ all
    → SaysEvents A (Some bytes) r p → SaysEvents A known r p
said_of_read A setup None bytes all (Ok u) p read same h = tt
said_of_read A setup None bytes all (Err s) p read same h = (stops_unknown A bytes p.events p.world s h.0, tt)
said_of_read A setup (Some text) bytes all r p read same h =
    subst (λ t. SaysEvents A (Some t) r p) (same ∙ read) h

-- why there is no schedule
pub unread : (A : Type 0) (known : Option (List ℕ)) (r : Result (Unit {0}) Stop) (f : Why) (s : Stop) → r ≡ Err s
    → s ≡ stop_of f → IsTextFault A known f → IsUnread A known r
unread A known r f s was is h = rw was (f, h, is)

-- ---- schedules that are too long

failed_of : (status : Status) (r : Result (Unit {0}) Stop) (P : Type 0) → ((status ≡ Done) ↔ (IsOk r × P)) → IsErr r
    → status ≡ Failed
failed_of Done (Ok u) P h err = absurd (cc err)
failed_of Done (Err s) P h err = absurd (cc (h.0 refl).0)
failed_of Failed r P h err = refl

-- nothing but the front was written
pub too_long_writes : {W : Type 0} (page : W → Page) (known : Option (List ℕ)) (most : ℕ) (status : Status)
    (r : Result (Unit {0}) Stop) (P : Type 0) (old mid late new : Printer W) (text : List ℕ)
    → IfSome known (λ all. most < length all → IsErr r × (late ≡ mid)) → ((status ≡ Done) ↔ (IsOk r × P))
    → Prints page old mid text → Prints page late new []
    → IfSome known (λ all. most < length all → (status ≡ Failed) × Prints page old new text)
too_long_writes page None most status r P old mid late new text h done front rest = tt
too_long_writes page (Some all) most status r P old mid late new text h done front rest = λ long.
    let (err, same) = h long in (
      failed_of status r P done err,
      subst (Prints page old new) (append-nil text)
          (Prints-trans page old mid new text [] front (subst (λ p. Prints page p new []) same rest)),
    )
