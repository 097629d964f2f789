use Rattle.std.proofs.Common.{◌≡◌, Some, sym, subst}
use Rattle.at_atp_frame.specs.Frames.{content}
use Rattle.at_atp_frame.specs.Packets.{Packet}
use Rattle.at_atp_requester.specs.Requests.{heard}
use Rattle.at_zip.specs.Fault as zip
use Rattle.at_zip.specs.Page as pages
use Rattle.at_event.specs.Outcomes.{IsStep}
use Rattle.at_event.specs.declared.Report.{Report}
use Rattle.at_event.specs.declared.Report.TheVariants as report
use Rattle.at_event.specs.declared.zones.ZoneReport.TheVariants as zip_report
use Rattle.at_event.proofs.OutcomeLemmas.{when_some}
use Rattle.at_zone_socket.specs.AtpParts.{AtpState, both}
use Rattle.at_zone_socket.specs.Readings.{reading_of}
use Rattle.at_zone_socket.specs.ZoneReading.{reading_ends}
use Rattle.at_zone_socket.proofs.FaultLemmas.{zip_number}
use Rattle.at_zone_socket.proofs.RequesterLemmas.{comes_fault, comes_page}
use Rattle.at_zone_socket.proofs.zone_socket.ZoneSocket.hear_page.Goals as goal

pub returns-in-Ok-clause-comes : goal.returns-in-Ok-clause-comes
returns-in-Ok-clause-comes g c =
    let now : AtpState =
    both c.args.transactions.now (record c.args.self.now { reading = Some (reading_of c.args.reading) }) in
    let p = c.args.last.now.packet in
    comes_page p.seat now p.from (content p.frame) c.requires.page c.args.out.now.items c.hear_names.new.out.items
    c.hear_names.result (both c.hear_names.new.transactions c.hear_names.new.self) c.in-Ok.page
    (subst (λ (x : Packet). pages.Spells x.user x.data_ c.in-Ok.page) (sym c.requires.packet) c.in-Ok.ensures.found)
    c.hear_names.ensures.comes

pub returns-in-Err-clause-comes : goal.returns-in-Err-clause-comes
returns-in-Err-clause-comes g c =
    let A = g.row.A.Denot in
    let now : AtpState =
    both c.args.transactions.now (record c.args.self.now { reading = Some (reading_of c.args.reading) }) in
    let new : AtpState = both c.end_reading.new.transactions c.end_reading.new.self in
    let p = c.args.last.now.packet in
    let f = content p.frame in
    let items = c.args.out.now.items in
    let number = zip_number c.in-Err.fault c.args.user c.args.bytes.now c.in-Err.ensures.fault in
    let told = when_some (zip.number_of c.in-Err.fault) number.0
    (λ n. c.zone_fault.result ≡ report.Zones (zip_report.Fault n)) number.1 c.zone_fault.ensures.fault in
    comes_fault p.seat now p.from f c.requires.page items items c.end_reading.result new c.in-Err.fault number.0
    (subst (λ (x : Packet). zip.IsFirstFault c.in-Err.fault x.user x.data_)
    (sym c.requires.packet) c.in-Err.ensures.fault) number.1
    (subst (λ (t : Report A). IsStep
    (reading_ends p.seat now (heard {A = A} c.args.transactions.now.requester p.from f) t) now items
    c.end_reading.result new items) told
    (c.end_reading.ensures.step (Some (reading_of c.args.reading)) items))
