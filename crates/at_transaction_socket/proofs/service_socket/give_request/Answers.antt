use Rattle.std.proofs.Common.{◌≡◌, ◌++◌, map, None, List, sym, ap, ◌∙◌}
use Rattle.std.specs.Prelude.{find}
use Rattle.std.proofs.lemmas.List.{append-nil}
use Rattle.at_atp_frame.specs.Frames.{content, spelled_all}
use Rattle.at_atp_responder.specs.Records.{Record, is_key, finds_no_place, record_fault, received}
use Rattle.at_atp_responder.specs.declared.reception.Reception.TheVariants.{Ignored, New}
use Rattle.at_ddp.specs.Tables.{without_first}
use Rattle.at_ddp.specs.Protocols.{atp_kind}
use Rattle.at_event.specs.Outcomes.{posted, sent_by}
use Rattle.at_event.specs.declared.service.Reply.TheVariants.{Later}
use Rattle.at_event.proofs.OutcomeLemmas.{when_ok}
use Rattle.at_transaction_socket.proofs.ResponderLemmas.{service_takes}
use Rattle.at_transaction_socket.proofs.ServingLemmas.{is_new, waits, undone}
use Rattle.at_transaction_socket.proofs.service_socket.give_request.Goals as goal

pub hand_up-requires : goal.hand_up-requires
hand_up-requires g c =
    let new = is_new c.args.records.now c.args.packet.now.from (content c.args.packet.now.frame) c.in-Ok-New.key
    (sym c.in-Ok-New.ensures.reception ∙ c.in-Ok-New.field-0-is) in
    record {
      waits = ap (λ (rs : List Record). record_fault (find (is_key c.in-Ok-New.key) rs))
          c.in-Ok-New.ensures.state
          ∙ waits c.args.records.now (received c.args.records.now c.args.packet.now.from
          (content c.args.packet.now.frame))
          c.in-Ok-New.key new;
    }

pub returns-in-Err-hand_up : goal.returns-in-Err-hand_up
returns-in-Err-hand_up g c =
    let taken_new = sym c.in-Ok-New.ensures.reception ∙ c.in-Ok-New.field-0-is in
    let new = is_new c.args.records.now c.args.packet.now.from (content c.args.packet.now.frame) c.in-Ok-New.key
    taken_new in
    let still : record_fault (find (is_key c.in-Ok-New.key) c.hand_up.new.records)
    ≡ None = ap (λ (rs : List Record). record_fault (find (is_key c.in-Ok-New.key) rs))
    (c.in-Err-hand_up.ensures.unchanged ∙ c.in-Ok-New.ensures.state)
    ∙ waits c.args.records.now (received c.args.records.now c.args.packet.now.from (content c.args.packet.now.frame))
    c.in-Ok-New.key new in
    let gone = when_ok c.undo.result _ c.undo.ensures.ok (c.undo.ensures.succeeds still) in
    let quiet : c.hear.new.out.items ≡ c.args.out.now.items =
    c.in-Ok-New.ensures.sent
    ∙ ap (λ pushes. c.args.out.now.items ++ map posted (sent_by c.args.own atp_kind (spelled_all pushes)))
    new.nothing ∙ append-nil c.args.out.now.items in (
      Later,
      (λ s a same at.
          let back : c.undo.new.self ≡ a.service_responder =
          gone ∙ ap (without_first (is_key c.in-Ok-New.key))
          (c.in-Err-hand_up.ensures.unchanged ∙ c.in-Ok-New.ensures.state)
          ∙ undone c.args.records.now
          (received c.args.records.now c.args.packet.now.from (content c.args.packet.now.frame)) c.in-Ok-New.key new
          ∙ sym same in (
            (λ i. record a { service_responder = back i }),
            c.in-Err-hand_up.ensures.nothing_sent
                ∙ quiet,
            service_takes g.row.A.Denot Later s a c.args.packet.now.from
                (content c.args.packet.now.frame) c.args.user c.args.bytes.now
                (λ full. absurd (cc (c.in-Ok-New.ensures.full.1
                (ap (λ (rs : List Record). finds_no_place rs c.args.packet.now.from (content c.args.packet.now.frame))
                (sym same) ∙ full))))
                (λ is. let both : New c.in-Ok-New.key ≡ Ignored = sym taken_new
                ∙ ap (λ (rs : List Record). (received rs c.args.packet.now.from
                (content c.args.packet.now.frame)).reception) (sym same) ∙ is in absurd (cc)),
          )),
      c.in-Err-hand_up.ensures.not_asked,
    )
