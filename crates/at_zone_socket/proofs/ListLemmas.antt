-- Only the socket that asks reports a zone list.
use Rattle.std.proofs.Common.{◌≡◌, ℕ, false, List, Option, Some, None, refl, sym, ap, subst, ◌∙◌}
use Rattle.std.specs.Prelude.{◌==◌}
use Rattle.std.proofs.lemmas.Bool.{false≢true}
use Rattle.at_ddp.specs.Datagram.{Content as Datagram}
use Rattle.at_ddp.specs.Outbox.{Posted}
use Rattle.at_zip.specs.declared.request.TableChoice.{TableChoice}
use Rattle.at_event.specs.Outcomes.{Comes}
use Rattle.at_event.specs.declared.Report.{Report}
use Rattle.at_event.specs.declared.Report.TheVariants as report
use Rattle.at_event.specs.declared.zones.ZoneReport.TheVariants as zip_report
use Rattle.at_event.specs.declared.seat.Seat.{Seat}
use Rattle.at_event.specs.declared.service.Reply.{Reply}
use Rattle.at_zone_socket.specs.AtpHearing.{HearsAtp}
use Rattle.at_zone_socket.specs.AtpParts.{AtpState}
use Rattle.at_zone_socket.proofs.AnsweringLemmas.{TellsNothing, by_asker}

-- the list that a report tells of
abbrev pub listed_by : {A : Type 0} → Report A → Option (List (List ℕ))
listed_by (report.Zones (zip_report.List which names)) = Some names
listed_by other = None

lists_nothing : (A : Type 0) → TellsNothing A (List (List ℕ)) listed_by
lists_nothing A = record {
  ignored = refl;
  again = refl;
  released = refl;
  asked = λ key user bytes. refl;
  served = λ count. refl;
  refused = λ number. refl;
}

-- a datagram for another socket ends no reading
pub lists_at_asker : (A : Type 0) (said : Reply A) (s : Seat) (a : AtpState) (d : Datagram) (before after : List Posted)
    (r : Report A) (new : AtpState) → Comes (HearsAtp said s a d) a before r new after → (d.to.socket == 128) ≡ false
    → (which : TableChoice) (names : List (List ℕ)) → r ≡ report.Zones (zip_report.List which names) → {P : Type 0} → P
lists_at_asker A said s a d before after r new comes other which names tells =
    let c = subst (λ (r : Report A). Comes (HearsAtp said s a d) a before r new after) tells comes in
    let b = by_asker A (List (List ℕ)) listed_by (lists_nothing A) said s a d c.0 c.1 names
    (ap listed_by (sym (c.2).0)) in
    absurd (false≢true (sym other ∙ b.socket))
