use Rattle.std.proofs.Common.{[], ◌∷◌, refl}
use Rattle.at_atp_frame.specs.Frames.{content}
use Rattle.at_zone_socket.specs.ZoneSocket.{page_packet}
use Rattle.at_zone_socket.proofs.AtOnceLemmas.{lacks_memory_at_once, steps_at_once}
use Rattle.at_zone_socket.proofs.zone_socket.serve_request.Goals as goal

pub returns-in-Ok-clause-step : goal.returns-in-Ok-clause-step
returns-in-Ok-clause-step g c = λ s a same at.
    steps_at_once g.row.A.Denot s a c.args.packet.now.from (content c.args.packet.now.frame) c.args.zones.now
    c.args.start c.in-Some.request c.args.records.now same (record {
      place = c.in-Some.ensures.place refl;
      new = c.in-Some.ensures.new;
      asked = c.an_answer_at_once_leaves_no_record.ensures.asked c.args.records.now c.in-Some.request
          (page_packet c.args.zones.now c.args.start ∷ []) c.in-Some.ensures.apart;
      gone = c.an_answer_at_once_leaves_no_record.ensures.gone c.args.records.now c.in-Some.request
          (page_packet c.args.zones.now c.args.start ∷ []) c.in-Some.ensures.apart;
    }) c.args.out.now.items c.serve_at_once.new.out.items c.args.own at c.in-Ok.count c.in-Ok.ensures.count
    c.in-Ok.ensures.sent

pub returns-in-Err-clause-step : goal.returns-in-Err-clause-step
returns-in-Err-clause-step g c = λ s a same at.
    lacks_memory_at_once g.row.A.Denot s a c.args.packet.now.from (content c.args.packet.now.frame) c.args.zones.now
    c.args.start c.in-Some.request c.args.records.now same (record {
      place = c.in-Some.ensures.place refl;
      new = c.in-Some.ensures.new;
      asked = c.an_answer_at_once_leaves_no_record.ensures.asked c.args.records.now c.in-Some.request
          (page_packet c.args.zones.now c.args.start ∷ []) c.in-Some.ensures.apart;
      gone = c.an_answer_at_once_leaves_no_record.ensures.gone c.args.records.now c.in-Some.request
          (page_packet c.args.zones.now c.args.start ∷ []) c.in-Some.ensures.apart;
    }) c.args.out.now.items c.serve_at_once.new.out.items c.in-Err.ensures.nothing_sent
