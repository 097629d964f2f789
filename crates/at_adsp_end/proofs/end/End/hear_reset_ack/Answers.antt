use Rattle.std.proofs.Common.{false, length, refl, sym, ap, subst, ◌∙◌}
use Rattle.std.specs.Prelude.{◌==◌}
use Rattle.std.proofs.lemmas.Bool.{and_parts}
use Rattle.std.proofs.lemmas.List.{append-nil}
use Rattle.at_ddp.specs.declared.address.Address.{Address}
use Rattle.at_adsp_end.specs.Ends.{EndState, next_unsent}
use Rattle.at_adsp_end.specs.Loads.{HasRoomTo}
use Rattle.at_adsp_end.specs.Positions.{wire}
use Rattle.at_adsp_end.specs.Sending.{hearing, sending}
use Rattle.at_adsp_end.proofs.HearingLemmas.{hearing_asked, unreset_load}
use Rattle.at_adsp_end.proofs.LoadLemmas.{failed}
use Rattle.at_adsp_end.proofs.end.End.hear_reset_ack.Goals as goal

pub returns-in_err-make_room-clause-memory : goal.returns-in_err-make_room-clause-memory
returns-in_err-make_room-clause-memory g c =
    let e = c.args.self.now in
    let answered = sym c.is_answered_by.ensures ∙ c.if-not-is_answered_by.false in
    let is = and_parts e.sender.resetting (c.args.next == next_unsent wire e.sender) answered in
    let n = c.sent.ensures ∙ ap (λ (e : EndState). length e.sender.unacknowledged) c.self.view_is in
    let load = unreset_load _ e.asked e _ _ c.args.advance.window c.args.advance.acks _ _ is.0 refl refl n
    c.count_unreset-waiting.ensures (c.count_segments-segments.ensures.load e.asked) in
    rw answered (λ h. failed (c.in_err-make_room.ensures.succeeds _ load
    (subst (HasRoomTo c.args.out.now e.asked) (append-nil _) h)))

pub send_on-requires : goal.send_on-requires
send_on-requires g c =
    let e = c.args.self.now in
    let answered = sym c.is_answered_by.ensures ∙ c.if-not-is_answered_by.false in
    let is = and_parts e.sender.resetting (c.args.next == next_unsent wire e.sender) answered in
    let n = c.sent.ensures ∙ ap (λ (e : EndState). length e.sender.unacknowledged) c.self.view_is in
    let load = unreset_load _ e.asked e _ _ c.args.advance.window c.args.advance.acks _ _ is.0 refl refl n
    c.count_unreset-waiting.ensures (c.count_segments-segments.ensures.load e.asked) in
    let w = c.args.advance.window in
    let a = c.args.advance.acks in
    let after = (hearing wire e w a).after in
    let now = record after { sender = record after.sender { resetting = false } } in
    rw (c.unreset.ensures, c.note_acknowledgement.ensures.change.state)
    (subst (λ (to : Address). HasRoomTo c.note_acknowledgement.new.out to (sending wire now).sent)
    (sym (hearing_asked e w a)) (c.note_acknowledgement.ensures.room _ (c.in_ok-make_room.ensures.ok _ load)))
