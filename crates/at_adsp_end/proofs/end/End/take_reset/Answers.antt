use Rattle.std.proofs.Common.{◌≡◌, [], ◌∷◌, refl, sym, ap, subst, ◌∙◌, false}
use Rattle.at_ddp.specs.declared.address.Address.{Address}
use Rattle.at_adsp_frame.specs.Segments.{ResetAck}
use Rattle.at_adsp_end.specs.Ends.{EndState, control}
use Rattle.at_adsp_end.specs.Loads.{HasRoomTo}
use Rattle.at_adsp_end.specs.Positions.{wire}
use Rattle.at_adsp_end.specs.Sending.{hearing}
use Rattle.at_adsp_end.proofs.HearingLemmas.{hearing_asked, reset_asked, reset_later, reset_sent}
use Rattle.at_adsp_end.proofs.LoadLemmas.{failed, room_less}
use Rattle.at_adsp_end.proofs.end.End.take_reset.Goals as goal

pub returns-in_err-make_room-clause-memory : goal.returns-in_err-make_room-clause-memory
returns-in_err-make_room-clause-memory g c h =
    let e = c.args.self.now in
    let heard = hearing wire e c.args.advance.window c.args.advance.acks in
    let answer = control wire (reset_later heard c.args.forward) false ResetAck in
    failed (c.in_err-make_room.ensures.succeeds (answer ∷ []) (c.of_one.ensures.is e.asked answer refl)
    (subst (HasRoomTo c.args.out.now e.asked) (reset_sent heard c.args.forward c.requires.answered) h))

pub note_acknowledgement-requires-clause-room : goal.note_acknowledgement-requires-clause-room
note_acknowledgement-requires-clause-room g c =
    let e = c.args.self.now in
    let answer = control wire e false ResetAck in
    room_less c.make_room.new.out e.asked _ (answer ∷ [])
    (c.in_ok-make_room.ensures.ok (answer ∷ []) (c.of_one.ensures.is e.asked answer refl))

pub unwrap-requires : goal.unwrap-requires
unwrap-requires g c =
    let e = c.args.self.now in
    let answer = control wire c.jump-step.new.self false ResetAck in
    let asked : c.jump-step.new.self.asked ≡ e.asked = ap (λ (x : EndState). x.asked) c.jump-step.ensures.state
    ∙ reset_asked (record { after = c.note_acknowledgement.new.self; sent = [] }) c.args.forward
    ∙ ap (λ (x : EndState). x.asked) c.note_acknowledgement.ensures.change.state
    ∙ hearing_asked e c.args.advance.window c.args.advance.acks in
    (c.send_control.ensures.room []
    (subst (λ (to : Address). HasRoomTo c.note_acknowledgement.new.out to (answer ∷ [])) (sym asked)
    (c.note_acknowledgement.ensures.room (answer ∷ [])
    (c.in_ok-make_room.ensures.ok (answer ∷ []) (c.of_one.ensures.is e.asked answer refl))))).0
