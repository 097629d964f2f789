use Rattle.std.proofs.Common.{◌≡◌, ◌++◌, ◌∷◌, [], Some, map, ap, ◌∙◌}
use Rattle.std.specs.Prelude.{false}
use Rattle.at_ddp.specs.Protocols.{atp_kind}
use Rattle.at_atp_frame.specs.Frames.{content, spelled}
use Rattle.at_atp_requester.specs.Requests.{beginning, begun, heard, request_by}
use Rattle.at_zip.specs.Reading.{place_after}
use Rattle.at_zip.specs.Request.{request_user}
use Rattle.at_event.specs.Outcomes.{posted, sent_by}
use Rattle.at_transaction_socket.specs.TransactionSockets.{TransactionState, asking}
use Rattle.at_zone_socket.specs.AtpParts.{both}
use Rattle.at_zone_socket.specs.Readings.{reading_of}
use Rattle.at_zone_socket.specs.ZoneReading.{page_transaction}
use Rattle.at_zone_socket.proofs.ReadingLemmas.{asks_next, next_wanted}
use Rattle.at_zone_socket.proofs.zone_socket.ZoneSocket.ask_on.Goals as goal

pub returns-in-Ok-clause-comes : goal.returns-in-Ok-clause-comes
returns-in-Ok-clause-comes g c =
    let A = g.row.A.Denot in
    let t : TransactionState = c.args.transactions.now in
    let p = c.args.last.now.packet in
    let f = content p.frame in
    let tid = c.in-Ok.tid in
    let names = c.args.reading.reader.names ++ c.args.page.now.names in
    let which = c.args.reading.which in
    let user : c.request_user-user.result ≡ request_user which (place_after names) = c.request_user-user.ensures
    ∙ ap (request_user which) c.after.ensures in
    let transactions : c.turn.new.self
    ≡ record t {
      requester = begun (heard {A = A} t.requester p.from f).after (page_transaction p.from which names tid);
    }
    = c.in-Ok.ensures.state ∙ (λ i. record t {
      requester = begun (heard {A = A} t.requester p.from f).after (beginning tid p.from (user i) [] 1 false 3);
    }) in
    let all : c.take.new.self.names ≡ names = c.take.ensures in
    let sent : c.turn.new.out.items
    ≡ c.args.out.now.items ++ map posted
    (sent_by (asking p.seat.net p.seat.number) atp_kind
    ((p.from, spelled (request_by (page_transaction p.from which names tid))) ∷ [])) =
    c.in-Ok.ensures.sent ∙ (λ i. c.args.out.now.items ++ map posted
    (sent_by (asking p.seat.net p.seat.number) atp_kind
    ((p.from, spelled (request_by (beginning tid p.from (user i) [] 1 false 3))) ∷ []))) in
    asks_next p.seat (both t (record c.args.self.now { reading = Some (reading_of c.args.reading) }))
    (heard {A = A} t.requester p.from f) p.from names tid c.args.out.now.items c.turn.new.out.items _
    c.in-Ok.ensures.drawn
    (λ i. both (transactions i) (record {
      tables = (c.self.view_is i).tables;
      reading = Some (record { which = which; tid = tid; names = all i });
      zone_responder = (c.self.view_is i).zone_responder;
    }))
    sent

pub returns-in-Err-clause-comes : goal.returns-in-Err-clause-comes
returns-in-Err-clause-comes g c =
    let A = g.row.A.Denot in
    let t : TransactionState = c.args.transactions.now in
    let p = c.args.last.now.packet in (
      (λ i. both (c.in-Err.ensures.unchanged i) (record {
        tables = (c.self.view_is i).tables;
        reading = Some (reading_of c.args.reading);
        zone_responder = (c.self.view_is i).zone_responder;
      })),
      c.in-Err.ensures.nothing_sent,
      next_wanted p.seat (both t (record c.args.self.now { reading = Some (reading_of c.args.reading) }))
          (heard {A = A} t.requester p.from (content p.frame)) p.from
          (c.args.reading.reader.names ++ c.args.page.now.names) c.requires.free,
    )
