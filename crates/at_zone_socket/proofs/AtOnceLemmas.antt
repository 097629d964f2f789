-- The answer to a zone request at once, without a record, is the answer to a request that waited.
use Rattle.std.proofs.Common.{◌≡◌, ℕ, false, List, [], ◌∷◌, ◌++◌, map, refl, sym, ap, subst, ◌∙◌}
use Rattle.std.specs.Prelude.{find, length}
use Rattle.at_ddp.specs.Outbox.{Posted}
use Rattle.at_ddp.specs.Protocols.{atp_kind}
use Rattle.at_ddp.specs.declared.address.Address.{Address}
use Rattle.at_atp_frame.specs.Frames.{Content, spelled_all}
use Rattle.at_atp_frame.specs.Packets.{Packet}
use Rattle.at_atp_responder.specs.AtOnce.{taken_new, with_request}
use Rattle.at_atp_responder.specs.Records.{Record, after_answer, asked_for, finds_no_place, is_key, responses, received}
use Rattle.at_atp_responder.specs.declared.reception.NewRequest.{NewRequest}
use Rattle.at_event.specs.Kinds.{takes_memory}
use Rattle.at_event.specs.Outcomes.{IsStep, Outcome, posted, sent_by}
use Rattle.at_event.specs.declared.Report.TheVariants as report
use Rattle.at_event.specs.declared.seat.Seat.{Seat}
use Rattle.at_event.specs.declared.zones.ZoneReport.TheVariants as zip_report
use Rattle.at_zone_socket.specs.ZoneSockets.{ZoneState, zones_at}
use Rattle.at_zone_socket.specs.ZoneSocket.{page_packet, zone_asked}

module _ (A : Type 0) (s : Seat) (a : ZoneState) (from : Address) (f : Content) (table : List (List ℕ)) (start : ℕ)
    (q : NewRequest) where
  abbrev packets : List Packet
  packets = page_packet table start ∷ []

  -- what is sent at once
  abbrev answer : List (Address × Content)
  answer = responses q.key 0 q.bitmap packets

  abbrev served : Outcome A ZoneState
  served = record {
    report = report.Zones (zip_report.Served (length answer));
    state = a;
    out = sent_by (zones_at s.net s.number) atp_kind (spelled_all answer);
  }

  -- a request that is new among these records, and what becomes of it as if it had waited
  pub record IsAtOnce (rs : List Record) : Type 0 where
    pub place : finds_no_place rs from f ≡ false
    pub new : received rs from f ≡ taken_new rs q
    pub asked : asked_for (find (is_key q.key) (with_request rs q)) q.key packets ≡ answer
    pub gone : after_answer (with_request rs q) q.key packets ≡ rs

  outcome : IsAtOnce a.zone_responder → zone_asked {A = A} s a from f table start ≡ served
  outcome h = rw (h.place, h.new, h.asked, h.gone) refl

  module _ (rs : List Record) (same : a.zone_responder ≡ rs) (h : IsAtOnce rs) (before after : List Posted) where
    is : zone_asked {A = A} s a from f table start ≡ served
    is = outcome (subst IsAtOnce (sym same) h)

    unchanged : record a { zone_responder = rs } ≡ a
    unchanged i = record a { zone_responder = sym same i }

    pub steps_at_once : (own : Address) → zones_at s.net s.number ≡ own → (count : ℕ) → count ≡ length answer
        → after ≡ before ++ map posted (sent_by own atp_kind (spelled_all answer))
        → IsStep {A = A} (zone_asked s a from f table start) a before (report.Zones (zip_report.Served count))
        (record a { zone_responder = rs }) after
    steps_at_once own at count counts sent =
        subst (λ (o : Outcome A ZoneState). IsStep o a before (report.Zones (zip_report.Served count))
        (record a { zone_responder = rs }) after) (sym is) (
          ap (λ n. report.Zones (zip_report.Served n)) counts,
          unchanged,
          sent ∙ ap (λ to. before ++ map posted (sent_by to atp_kind (spelled_all answer))) (sym at),
        )

    pub lacks_memory_at_once : after ≡ before
        → IsStep {A = A} (zone_asked s a from f table start) a before report.NoMemory
        (record a { zone_responder = rs }) after
    lacks_memory_at_once quiet = (unchanged, quiet, ap (λ (o : Outcome A ZoneState). takes_memory o.report) is)
