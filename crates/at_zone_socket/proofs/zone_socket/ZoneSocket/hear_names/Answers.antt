use Rattle.std.proofs.Common.{◌≡◌, ℕ, List, None, Some, Err, inl, inr, refl, sym, ap, subst, ◌∙◌}
use Rattle.at_atp_frame.specs.Frames.{content}
use Rattle.at_atp_requester.specs.Requests.{heard}
use Rattle.at_zip.specs.Fault as zip
use Rattle.at_event.specs.Outcomes.{IsStep}
use Rattle.at_event.specs.Services.{is_asked}
use Rattle.at_event.specs.declared.Report.{Report}
use Rattle.at_event.specs.declared.Report.TheVariants as report
use Rattle.at_event.specs.declared.zones.ZoneReport.TheVariants as zip_report
use Rattle.at_event.proofs.OutcomeLemmas.{when_some}
use Rattle.at_transaction_socket.specs.TransactionSockets.{TransactionState}
use Rattle.at_zone_socket.specs.AtpParts.{AtpState, both}
use Rattle.at_zone_socket.specs.Readings.{reading_of}
use Rattle.at_zone_socket.specs.ZoneReading.{reading_ends}
use Rattle.at_zone_socket.specs.ZoneSockets.{ZoneState}
use Rattle.at_zone_socket.specs.declared.zone_reading.ZoneReading.{ZoneReading}
use Rattle.at_zone_socket.proofs.ReadingLemmas.{ends_with_all, is_too_long, page_wanted}
use Rattle.at_zone_socket.proofs.zone_socket.ZoneSocket.hear_names.Goals as goal

-- a state with a reading of these names
abbrev with_names : {A : Type 0} → TransactionState → ZoneState → ZoneReading A → List (List ℕ) → AtpState
with_names t z r names = both t (record z { reading = Some (record { which = r.which; tid = r.tid; names = names }) })

pub returns-in-Ok-clause-comes : goal.returns-in-Ok-clause-comes
returns-in-Ok-clause-comes g c =
    let t : TransactionState = c.args.transactions.now in
    let now : ZoneState = c.args.self.now in
    let was : AtpState = with_names t now c.args.reading c.args.reading.reader.names in
    let same : ◌≡◌ {A = AtpState} (with_names t now c.args.reading c.room.new.self.names) was =
    ap (with_names t now c.args.reading) c.room.ensures.same in
    ends_with_all c.args.last.now.packet.seat c.args.last.now.packet.from
    (content c.args.last.now.packet.frame) c.args.page.now c.args.out.now.items c.args.out.now.items c.finish.result
    (both c.finish.new.transactions c.finish.new.self) _ was same c.in-Ok.ensures.ok.few
    (sym c.is_last.ensures ∙ c.if-is_last.true) (c.finish.ensures.step c.args.out.now.items)

pub returns-in-NoMemory-clause-comes : goal.returns-in-NoMemory-clause-comes
returns-in-NoMemory-clause-comes g c =
    let t : TransactionState = c.args.transactions.now in
    let now : ZoneState = c.args.self.now in
    let same : ◌≡◌ {A = AtpState} (with_names t (record {
      tables = c.self.inside.tables;
      reading = None;
      zone_responder = c.self.inside.zone_responder;
    }) c.args.reading c.room.new.self.names)
    (with_names t now c.args.reading c.args.reading.reader.names) =
    (λ i. with_names t (c.self.view_is i) c.args.reading (c.room.ensures.same i)) in (
      same,
      refl,
      page_wanted c.args.last.now.packet.seat (both t (record now { reading = Some (reading_of c.args.reading) }))
          (heard {A = g.row.A.Denot} t.requester c.args.last.now.packet.from (content c.args.last.now.packet.frame))
          c.args.last.now.packet.from c.args.reading.reader.names c.args.page.now c.requires.free,
    )

pub returns-in_default : goal.returns-in_default
returns-in_default g c =
    let A = g.row.A.Denot in
    let f = content c.args.last.now.packet.frame in
    let t : TransactionState = c.args.transactions.now in
    let now : AtpState = with_names t c.args.self.now c.args.reading c.args.reading.reader.names in
    let new : AtpState = both c.end_reading.new.transactions c.end_reading.new.self in
    let items = c.args.out.now.items in
    elim c.in-Err.ensures.no_other [
      | inl too ↦
          let told = when_some (zip.number_of c.in-Err.fault) 34
          (λ n. c.zone_fault.result ≡ report.Zones (zip_report.Fault n))
          (ap zip.number_of too) c.zone_fault.ensures.fault in record {
            comes = is_too_long c.args.last.now.packet.seat c.args.last.now.packet.from f c.args.page.now items
                items c.end_reading.result new now now refl
                ((c.in-Err.ensures.too_many).0 (ap Err too))
                (subst (λ (t : Report A). IsStep
                (reading_ends c.args.last.now.packet.seat now
                (heard {A = A} c.args.transactions.now.requester c.args.last.now.packet.from f) t) now items
                c.end_reading.result new items) told
                (c.end_reading.ensures.step now.zones.reading items));
            not_asked = ap is_asked c.end_reading.ensures.told ∙ c.zone_fault.ensures.not_asked;
            listed = λ which names is.
                absurd (c.zone_fault.ensures.no_list which names (sym c.end_reading.ensures.told ∙ is));
          }
      | inr none ↦ absurd (c.in_default.not-NoMemory none)
    ]
