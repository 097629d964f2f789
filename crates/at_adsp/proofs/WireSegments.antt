-- What a segment does at a table of ends is the same on the cable, where its numbers lie near those of the end that
-- hears it.
use Rattle.std.proofs.Common.{◌≡◌, ℕ, Bool, true, false, cond, List, [], ◌∷◌, ◌++◌, length, map, ◌+◌, ◌<◌, ◌^◌, Option}
use Rattle.std.proofs.Common.{Some, None, refl, sym, ap, subst, ◌∙◌}
use Rattle.std.specs.Prelude.{is_none, ◌==◌, ◌&&◌, ◌||◌}
use Rattle.std.proofs.lemmas.Bool.{and_parts, or_left, or_right}
use Rattle.at_ddp.specs.Address.{same_address}
use Rattle.at_ddp.specs.declared.address.Address.{Address}
use Rattle.at_adsp_frame.specs.Segments.{Content, Open, Part}
use Rattle.at_adsp_frame.specs.declared.segment.OpenKind.{OpenKind}
use Rattle.at_adsp_frame.specs.declared.segment.OpenKind.TheVariants.{Request, Acknowledgement}
use Rattle.at_adsp_frame.specs.declared.segment.OpenKind.TheVariants.{RequestAndAcknowledgement, Denial}
use Rattle.at_adsp_end.specs.Ends.{Change, EndState, Sender, answering, confirming, half_end, has_opened, has_remote}
use Rattle.at_adsp_end.specs.Ends.{id_of, is_half, is_open, is_opening}
use Rattle.at_adsp_end.specs.Hearing.{heard, told}
use Rattle.at_adsp_end.specs.Positions.{whole, wire}
use Rattle.at_adsp_end.specs.Sending.{acks, hearing}
use Rattle.at_adsp_end.specs.declared.phase.Phase.TheVariants as phase
use Rattle.at_adsp_end.specs.declared.remote.Remote.{Remote}
use Rattle.at_adsp_end.specs.declared.change.EndChange.{EndChange}
use Rattle.at_adsp_end.specs.declared.change.EndChange.TheVariants as step
use Rattle.at_adsp_ends.specs.Openings.{ack_came, answer_came, answers_again, confirms_again, connected_to, denial_came}
use Rattle.at_adsp_ends.specs.Openings.{heard_opening, ignored, is_answered, opened, request_came, room_for}
use Rattle.at_adsp_ends.specs.Receiving.{any_request_came, opening_came, part_came, received, segment_came, settled}
use Rattle.at_adsp_ends.specs.Tables.{Done, EndTable, by_id, by_remote, freed, moved, next_id, stayed, made}
use Rattle.at_adsp.specs.Wires.{wired, wired_segment}
use Rattle.at_adsp.proofs.EndMoves.{IsPlainPart, half_is, opening_is}
use Rattle.at_adsp.proofs.Mapped.{mapped}
use Rattle.at_adsp.proofs.Nears.{IsNear, NearAcks, acks_near, told_near}
use Rattle.at_adsp.proofs.WireCalls.{freed_wired, id_wired, made_wired, moved_wired, next_wired, remote_wired}
use Rattle.at_adsp.proofs.WireCalls.{settled_wired, stayed_wired, wired_done, wired_table}
use Rattle.at_adsp.proofs.Wires.{control_wired, heard_wired, hearing_wired, wired_change}
use Rattle.std.proofs.lemmas.List.{map-append}

-- an end that opens is near what opens it, which comes from the address that it asked
abbrev pub OpensNear : EndTable → Address → Content → ℕ → Type 0
OpensNear t from s dest =
    (e : EndState) → by_id t dest ≡ Some e → has_opened e.phase ≡ false
    → (has_remote (record { address = from; id = s.source }) e || same_address e.asked from) ≡ true
    → NearAcks e s.next

abbrev pub OpensNearPart : EndTable → Address → Content → Part → Type 0
OpensNearPart t from s (Open Acknowledgement dest) = OpensNear t from s dest
OpensNearPart t from s (Open RequestAndAcknowledgement dest) = OpensNear t from s dest
OpensNearPart t from s (Open Request dest) = Unit {0}
OpensNearPart t from s (Open Denial dest) = Unit {0}
OpensNearPart t from s other = Unit {0}

-- the end that hears a segment with this body, if there is one, has numbers near those of the segment
pub record HearsNear (t : EndTable) (from : Address) (s : Content) (part : Part) : Type 0 where
  pub hears : IsPlainPart part → (e : EndState) → by_remote t (record { address = from; id = s.source }) ≡ Some e
      → is_open e.phase ≡ true
      → IsNear e s
  pub opens : OpensNearPart t from s part

pub none_wired : (o : Option EndState) → is_none (mapped wired o) ≡ is_none o
none_wired None = refl
none_wired (Some e) = refl

-- it is near with the same numbers
like_near : (e f : EndState) (next : ℕ) → f.sender ≡ e.sender → NearAcks e next → NearAcks f next
like_near e f next same h = record {
  on = subst (λ (x : Sender). next < x.front + 2 ^ 31) (sym same) h.on;
  back = subst (λ (x : Sender). x.front + length x.unacknowledged < next + 2 ^ 32) (sym same) h.back;
}

module _ (t : EndTable) (from : Address) (s : Content) where
  abbrev T : EndTable
  T = wired_table t

  abbrev r : Remote
  r = record { address = from; id = s.source }

  abbrev w : Content
  w = wired_segment s

  -- ---- requests

  room_wired : (o : Option ℕ) → room_for wire T r o ≡ wired_done (room_for whole t r o)
  room_wired None = refl
  room_wired (Some id) =
      let h : EndState = half_end t.rooms id r in
      (λ i. made T (step.Made id) (wired h)
      (control_wired h false (Open RequestAndAcknowledgement (id_of h.remote)) i ∷ []))
      ∙ made_wired t (step.Made id) h (answering whole h ∷ [])

  request_wired : (o : Option EndState) → request_came wire T r (mapped wired o) ≡ wired_done (request_came whole t r o)
  request_wired None = ap (λ o. room_for wire T r (cond t.listening o None)) (next_wired t)
      ∙ room_wired (cond t.listening (next_id t) None)
  request_wired (Some e) = go (answers_again e)
    where
      go : (b : Bool) → cond b (stayed T step.Again (wired e) (answering wire (wired e) ∷ [])) (ignored T)
          ≡ wired_done (cond b (stayed t step.Again e (answering whole e ∷ [])) (ignored t))
      go true =
          (λ i. stayed T step.Again (wired e)
          (control_wired e false (Open RequestAndAcknowledgement (id_of e.remote)) i ∷ []))
          ∙ stayed_wired t step.Again e (answering whole e ∷ [])
      go false = refl

  pub any_wired : (b : Bool) → any_request_came wire T r b ≡ wired_done (any_request_came whole t r b)
  any_wired true = refl
  any_wired false = ap (request_came wire T r) (remote_wired t r) ∙ request_wired (by_remote t r)

  -- ---- an end opens

  opened_wired : (f : EndState) (first : List Content) → NearAcks f s.next
      → opened wire T (wired f) w (map wired_segment first) ≡ wired_done (opened whole t f s first)
  opened_wired f first near =
      let d : Change = heard_opening whole f s in
      let same : heard_opening wire (wired f) w ≡ wired_change d =
      ap (λ o. hearing wire (wired f) s.window o) (acks_near f s.next near)
      ∙ hearing_wired f s.window (acks whole f.sender s.next) in
      (λ i. moved T (step.Opened f.id) (same i).after (map wired_segment first ++ (same i).sent))
      ∙ (λ i. moved T (step.Opened f.id) (wired d.after) (sym (map-append wired_segment first d.sent) i))
      ∙ moved_wired t (step.Opened f.id) d.after (first ++ d.sent)

  ack_wired : (o : Option EndState)
      → ((e : EndState) → o ≡ Some e → has_opened e.phase ≡ false → (has_remote r e || same_address e.asked from)
      ≡ true → NearAcks e s.next) → ack_came wire T r w (mapped wired o) ≡ wired_done (ack_came whole t r s o)
  ack_wired None near = refl
  ack_wired (Some e) near = go (is_half e.phase && has_remote r e) refl
    where
      go : (b : Bool) → (is_half e.phase && has_remote r e) ≡ b →
          cond b (opened wire T (wired (record e { phase = phase.Open })) w []) (ignored T)
          ≡ wired_done (cond b (opened whole t (record e { phase = phase.Open }) s []) (ignored t))
      go true h = opened_wired (record e { phase = phase.Open }) []
          (like_near e (record e { phase = phase.Open }) s.next refl
          (near e refl (ap has_opened (half_is e.phase (and_parts (is_half e.phase) (has_remote r e) h).0))
          (or_left (has_remote r e) (same_address e.asked from) (and_parts (is_half e.phase) (has_remote r e) h).1)))
      go false h = refl

  answer_wired : (there o : Option EndState)
      → ((e : EndState) → o ≡ Some e → has_opened e.phase ≡ false → (has_remote r e || same_address e.asked from)
      ≡ true → NearAcks e s.next) →
      answer_came wire T r w (mapped wired there) (mapped wired o) ≡ wired_done (answer_came whole t r s there o)
  answer_wired there None near = refl
  answer_wired there (Some e) near =
      ap (λ b. cond (is_opening e.phase && same_address e.asked from && b)
      (opened wire T (wired f) w (confirming wire (wired f) ∷ [])) (again (confirms_again e r))) (none_wired there)
      ∙ go (is_answered e r there) refl (confirms_again e r)
    where
      f : EndState
      f = connected_to e r

      again : Bool → Done EndChange
      again c = cond c (stayed T step.Again (wired e) (confirming wire (wired e) ∷ [])) (ignored T)

      go : (b : Bool) → is_answered e r there ≡ b → (c : Bool) →
          cond b (opened wire T (wired (connected_to e r)) w (confirming wire (wired (connected_to e r)) ∷ []))
          (again c)
          ≡ wired_done (cond b (opened whole t (connected_to e r) s (confirming whole (connected_to e r) ∷ []))
          (cond c (stayed t step.Again e (confirming whole e ∷ [])) (ignored t)))
      go true h c =
          let asks = and_parts (is_opening e.phase) (same_address e.asked from)
          (and_parts (is_opening e.phase && same_address e.asked from) (is_none there) h).0 in
          let opens = opening_is e.phase asks.0 in
          (λ i. opened wire T (wired (connected_to e r)) w
          (control_wired (connected_to e r) false (Open Acknowledgement (id_of (connected_to e r).remote)) i ∷ []))
          ∙ opened_wired (connected_to e r) (confirming whole (connected_to e r) ∷ [])
          (like_near e (connected_to e r) s.next refl
          (near e refl (ap has_opened opens) (or_right (has_remote r e) (same_address e.asked from) asks.1)))
      go false h true =
          (λ i. stayed T step.Again (wired e) (control_wired e false (Open Acknowledgement (id_of e.remote)) i ∷ []))
          ∙ stayed_wired t step.Again e (confirming whole e ∷ [])
      go false h false = refl

  pub denial_wired : (o : Option EndState) → denial_came T from (mapped wired o) ≡ wired_done (denial_came t from o)
  denial_wired None = refl
  denial_wired (Some e) = go (is_opening e.phase && same_address e.asked from)
    where
      go : (b : Bool) → cond b (freed T (step.Denied e.id) (wired e)) (ignored T)
          ≡ wired_done (cond b (freed t (step.Denied e.id) e) (ignored t))
      go true = freed_wired t (step.Denied e.id) e []
      go false = refl

  -- ---- other segments

  segment_wired : (o : Option EndState) → ((e : EndState) → o ≡ Some e → is_open e.phase ≡ true → IsNear e s)
      → segment_came wire T w (mapped wired o) ≡ wired_done (segment_came whole t s o)
  segment_wired None near = refl
  segment_wired (Some e) near = go (is_open e.phase) refl
    where
      go : (b : Bool) → is_open e.phase ≡ b →
          cond b (settled T (heard wire (wired e) (told wire (wired e) w))) (ignored T)
          ≡ wired_done (cond b (settled t (heard whole e (told whole e s))) (ignored t))
      go true h =
          settled_wired t (heard wire (wired e) (told wire (wired e) w)) (heard whole e (told whole e s))
          (ap (λ x. heard wire (wired e) x) (told_near e s (near e refl h)) ∙ heard_wired e (told whole e s))
      go false h = refl

  -- ---- every segment

  opening_wired : (kind : OpenKind) (dest : ℕ) → OpensNearPart t from s (Open kind dest)
      → opening_came wire T r w kind dest ≡ wired_done (opening_came whole t r s kind dest)
  opening_wired Request dest near = any_wired (s.source == 0)
  opening_wired Acknowledgement dest near = ap (ack_came wire T r w) (id_wired t dest) ∙ ack_wired (by_id t dest) near
  opening_wired RequestAndAcknowledgement dest near =
      (λ i. answer_came wire T r w (remote_wired t r i) (id_wired t dest i))
      ∙ answer_wired (by_remote t r) (by_id t dest) near
  opening_wired Denial dest near = ap (denial_came T from) (id_wired t dest) ∙ denial_wired (by_id t dest)

  part_wired : (part : Part) → HearsNear t from s part → part_came wire T r w part
      ≡ wired_done (part_came whole t r s part)
  part_wired (Open kind dest) near = opening_wired kind dest near.opens
  part_wired other near = ap (segment_came wire T w) (remote_wired t r) ∙ segment_wired (by_remote t r) (near.hears tt)

  pub received_wired : HearsNear t from s s.body → received wire T from w ≡ wired_done (received whole t from s)
  received_wired near = part_wired s.body near
