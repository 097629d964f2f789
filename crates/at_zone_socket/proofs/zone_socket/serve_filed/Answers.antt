use Rattle.std.proofs.Common.{◌≡◌, ◌++◌, map, ap, sym, ◌∙◌, List}
use Rattle.std.proofs.lemmas.List.{append-nil}
use Rattle.at_event.specs.Outcomes.{posted, sent_by}
use Rattle.std.specs.Prelude.{find}
use Rattle.at_atp_frame.specs.Frames.{content, spelled_all}
use Rattle.at_atp_responder.specs.Records.{finds_no_place, received, is_key, record_fault, Record}
use Rattle.at_atp_responder.specs.declared.reception.Reception.TheVariants.{Ignored, New}
use Rattle.at_ddp.specs.Tables.{without_first}
use Rattle.at_ddp.specs.Protocols.{atp_kind}
use Rattle.at_zone_socket.proofs.ResponderLemmas.{zone_takes}
use Rattle.at_transaction_socket.proofs.ServingLemmas.{is_new, waits, undone}
use Rattle.at_zone_socket.proofs.zone_socket.serve_filed.Goals as goal

pub serve-requires-clause-waits : goal.serve-requires-clause-waits
serve-requires-clause-waits g c =
    let new = is_new c.args.records.now c.args.packet.now.from (content c.args.packet.now.frame) c.in-Ok-New.key
    (sym c.in-Ok-New.ensures.reception ∙ c.in-Ok-New.field-0-is) in
    ap (λ (rs : List Record). record_fault (find (is_key c.in-Ok-New.key) rs)) c.in-Ok-New.ensures.state
    ∙ waits c.args.records.now (received c.args.records.now c.args.packet.now.from (content c.args.packet.now.frame))
    c.in-Ok-New.key new

pub returns-in-Err-serve-clause-step : goal.returns-in-Err-serve-clause-step
returns-in-Err-serve-clause-step g c = λ s a same at.
    let taken_new = sym c.in-Ok-New.ensures.reception ∙ c.in-Ok-New.field-0-is in
    let new = is_new c.args.records.now c.args.packet.now.from (content c.args.packet.now.frame) c.in-Ok-New.key
    taken_new in
    let back : c.serve.new.records ≡ a.zone_responder =
    c.in-Err-serve.ensures.undone ∙ ap (without_first (is_key c.in-Ok-New.key)) c.in-Ok-New.ensures.state
    ∙ undone c.args.records.now (received c.args.records.now c.args.packet.now.from (content c.args.packet.now.frame))
    c.in-Ok-New.key new ∙ sym same in
    let quiet : c.hear.new.out.items ≡ c.args.out.now.items =
    c.in-Ok-New.ensures.sent
    ∙ ap (λ pushes. c.args.out.now.items ++ map posted (sent_by c.args.own atp_kind (spelled_all pushes)))
    new.nothing ∙ append-nil c.args.out.now.items in
    let some = zone_takes g.row.A.Denot s a c.args.packet.now.from (content c.args.packet.now.frame) c.args.zones.now
    c.args.start (λ full. absurd
    (cc (c.in-Ok-New.ensures.full.1
    (ap (λ (rs : List Record). finds_no_place rs c.args.packet.now.from (content c.args.packet.now.frame))
    (sym same) ∙ full))))
    (λ is. let both : New c.in-Ok-New.key ≡ Ignored = sym taken_new
    ∙ ap (λ (rs : List Record). (received rs c.args.packet.now.from (content c.args.packet.now.frame)).reception)
    (sym same) ∙ is in absurd (cc)) in
    ((λ i. record a { zone_responder = back i }), c.in-Err-serve.ensures.nothing_sent ∙ quiet, some)
