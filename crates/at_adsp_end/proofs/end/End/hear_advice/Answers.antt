use Rattle.std.proofs.Common.{length, refl, sym, ap, subst, ◌∙◌}
use Rattle.at_ddp.specs.declared.address.Address.{Address}
use Rattle.at_adsp_end.specs.Ends.{EndState}
use Rattle.at_adsp_end.specs.Loads.{HasRoomTo}
use Rattle.at_adsp_end.specs.Positions.{wire}
use Rattle.at_adsp_end.specs.Sending.{hearing, repeated}
use Rattle.at_adsp_end.proofs.HearingLemmas.{advice_load, hearing_asked}
use Rattle.at_adsp_end.proofs.LoadLemmas.{failed, room_less}
use Rattle.at_adsp_end.proofs.end.End.hear_advice.Goals as goal

pub returns-in_err-make_room-clause-memory : goal.returns-in_err-make_room-clause-memory
returns-in_err-make_room-clause-memory g c h =
    let e = c.args.self.now in
    let n = c.sent.ensures ∙ ap (λ (e : EndState). length e.sender.unacknowledged) c.self.view_is in
    let is = advice_load _ e.asked e _ c.args.advance.window c.args.advance.acks _ _ _ refl c.requires.within
    c.unwrap_or-k.ensures n c.count_going_after.ensures.count (c.count_segments-segments.ensures.load e.asked) in
    failed (c.in_err-make_room.ensures.succeeds _ is h)

pub note_acknowledgement-requires-clause-room : goal.note_acknowledgement-requires-clause-room
note_acknowledgement-requires-clause-room g c =
    let e = c.args.self.now in
    let n = c.sent.ensures ∙ ap (λ (e : EndState). length e.sender.unacknowledged) c.self.view_is in
    let is = advice_load _ e.asked e _ c.args.advance.window c.args.advance.acks _ _ _ refl c.requires.within
    c.unwrap_or-k.ensures n c.count_going_after.ensures.count (c.count_segments-segments.ensures.load e.asked) in
    room_less c.make_room.new.out e.asked _ _ (c.in_ok-make_room.ensures.ok _ is)

pub send_again-requires : goal.send_again-requires
send_again-requires g c =
    let e = c.args.self.now in
    let n = c.sent.ensures ∙ ap (λ (e : EndState). length e.sender.unacknowledged) c.self.view_is in
    let is = advice_load _ e.asked e _ c.args.advance.window c.args.advance.acks _ _ _ refl c.requires.within
    c.unwrap_or-k.ensures n c.count_going_after.ensures.count (c.count_segments-segments.ensures.load e.asked) in
    let w = c.args.advance.window in
    let a = c.args.advance.acks in
    rw c.note_acknowledgement.ensures.change.state
    (subst (λ (to : Address). HasRoomTo c.note_acknowledgement.new.out to (repeated wire (hearing wire e w a).after))
    (sym (hearing_asked e w a)) (c.note_acknowledgement.ensures.room _ (c.in_ok-make_room.ensures.ok _ is)))
