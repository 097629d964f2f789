-- A segment that is ignored does nothing: no other step is told as ignored.
use Rattle.std.proofs.Common.{◌≡◌, ℕ, Bool, true, false, cond, List, [], ◌∷◌, Option, Some, None, refl}
use Rattle.std.specs.Prelude.{◌==◌, ◌&&◌}
use Rattle.at_ddp.specs.Address.{same_address}
use Rattle.at_ddp.specs.declared.address.Address.{Address}
use Rattle.at_adsp_frame.specs.Segments.{Content, Part, Open}
use Rattle.at_adsp_frame.specs.declared.segment.OpenKind.{OpenKind}
use Rattle.at_adsp_frame.specs.declared.segment.OpenKind.TheVariants as kind
use Rattle.at_adsp_end.specs.Ends.{Change, EndState, answering, confirming, has_remote, is_half, is_open, is_opening}
use Rattle.at_adsp_end.specs.Hearing.{Brings, Asks, Closes, Resets, Answers, Advises, Saying, Told}
use Rattle.at_adsp_end.specs.Hearing.{after_hearing, heard, is_empty, told}
use Rattle.at_adsp_end.specs.Positions.{wire}
use Rattle.at_adsp_end.specs.Sending.{hearing}
use Rattle.at_adsp_end.specs.declared.forward.Forward.TheVariants.{Jump, Older, Beyond}
use Rattle.at_adsp_end.specs.declared.phase.Phase.TheVariants as phase
use Rattle.at_adsp_end.specs.declared.remote.Remote.{Remote}
use Rattle.at_adsp_end.specs.declared.change.EndChange.{EndChange}
use Rattle.at_adsp_end.specs.declared.change.EndChange.TheVariants.{Again, Denied, Heard, Ignored}
use Rattle.at_adsp_ends.specs.Openings.{ack_came, answer_came, answers_again, confirms_again, connected_to, denial_came}
use Rattle.at_adsp_ends.specs.Openings.{ignored, is_answered, opened, request_came, room_for, sender_of}
use Rattle.at_adsp_ends.specs.Receiving.{any_request_came, opening_came, part_came, received, segment_came, settled}
use Rattle.at_adsp_ends.specs.Tables.{Done, EndTable, by_id, by_remote, freed, next_id, stayed}

-- ---- what an open end hears is not ignored

advice_heeds : (b : Bool) (id : ℕ) → (cond b (Heard id 0) Again ≡ Ignored) → ⊥
advice_heeds true id e = cc
advice_heeds false id e = cc

saying_heeds : (c : Change) (ack : Bool) (s : Saying) → (after_hearing wire c ack s).step ≡ Ignored → ⊥
saying_heeds c ack (Brings items) e = cc
saying_heeds c ack Asks e = cc
saying_heeds c ack Closes e = cc
saying_heeds c ack (Resets (Jump d)) e = cc
saying_heeds c ack (Resets Older) e = cc
saying_heeds c ack (Resets Beyond) e = cc
saying_heeds c ack (Answers true) e = cc
saying_heeds c ack (Answers false) e = cc
saying_heeds c ack Advises e = advice_heeds (is_empty c.after.sender.unacknowledged) c.after.id e

heard_heeds : (e : EndState) (t : Told) → (heard wire e t).step ≡ Ignored → ⊥
heard_heeds e t h = saying_heeds (hearing wire e t.window t.acks) t.ack t.saying h

-- ---- what is told as ignored does nothing

abbrev Idle : EndTable → Done EndChange → Type 0
Idle t d = d.answer ≡ Ignored → d ≡ ignored t

either : (t : EndTable) (b : Bool) (x y : Done EndChange) → Idle t x → Idle t y → Idle t (cond b x y)
either t true x y ix iy = ix
either t false x y ix iy = iy

module _ (t : EndTable) where
  itself : Idle t (ignored t)
  itself h = refl

  again : (e : EndState) (first : Content) → Idle t (stayed t Again e (first ∷ []))
  again e first h = absurd (cc)

  module _ (r : Remote) (s : Content) where
    room_idle : (id : Option ℕ) → Idle t (room_for wire t r id)
    room_idle None h = absurd (cc)
    room_idle (Some id) h = absurd (cc)

    request_idle : (there : Option EndState) → Idle t (request_came wire t r there)
    request_idle None = room_idle (cond t.listening (next_id t) None)
    request_idle (Some e) = either t (answers_again e) (stayed t Again e (answering wire e ∷ [])) (ignored t)
        (again e (answering wire e)) itself

    any_request_idle : (none : Bool) → Idle t (any_request_came wire t r none)
    any_request_idle true = itself
    any_request_idle false = request_idle (by_remote t r)

    opened_idle : (e : EndState) (first : List Content) → Idle t (opened wire t e s first)
    opened_idle e first h = absurd (cc)

    answer_idle : (there named : Option EndState) → Idle t (answer_came wire t r s there named)
    answer_idle there None = itself
    answer_idle there (Some e) =
        let now = connected_to e r in
        let stays = cond (confirms_again e r) (stayed t Again e (confirming wire e ∷ [])) (ignored t) in
        either t (is_answered e r there) (opened wire t now s (confirming wire now ∷ [])) stays
        (opened_idle now (confirming wire now ∷ []))
        (either t (confirms_again e r) (stayed t Again e (confirming wire e ∷ [])) (ignored t)
        (again e (confirming wire e)) itself)

    ack_idle : (named : Option EndState) → Idle t (ack_came wire t r s named)
    ack_idle None = itself
    ack_idle (Some e) =
        let now : EndState = record e { phase = phase.Open } in
        either t (is_half e.phase && has_remote r e) (opened wire t now s []) (ignored t) (opened_idle now []) itself

    denial_idle : (from : Address) (named : Option EndState) → Idle t (denial_came t from named)
    denial_idle from None = itself
    denial_idle from (Some e) =
        either t (is_opening e.phase && same_address e.asked from) (freed t (Denied e.id) e) (ignored t)
        (λ h. absurd (cc)) itself

    segment_idle : (there : Option EndState) → Idle t (segment_came wire t s there)
    segment_idle None = itself
    segment_idle (Some e) =
        let o = heard wire e (told wire e s) in
        either t (is_open e.phase) (settled t o) (ignored t) (λ h. absurd (heard_heeds e (told wire e s) h)) itself

    opening_idle : (k : OpenKind) (dest : ℕ) → Idle t (opening_came wire t r s k dest)
    opening_idle kind.Request dest = any_request_idle (r.id == 0)
    opening_idle kind.Acknowledgement dest = ack_idle (by_id t dest)
    opening_idle kind.RequestAndAcknowledgement dest = answer_idle (by_remote t r) (by_id t dest)
    opening_idle kind.Denial dest = denial_idle r.address (by_id t dest)

    part_idle : (p : Part) → Idle t (part_came wire t r s p)
    part_idle (Open k dest) = opening_idle k dest
    part_idle other = segment_idle (by_remote t r)

pub received_idle : (t : EndTable) (from : Address) (s : Content) → (received wire t from s).answer ≡ Ignored
    → received wire t from s ≡ ignored t
received_idle t from s = part_idle t (sender_of from s) s s.body
