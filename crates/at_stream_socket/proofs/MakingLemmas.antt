-- Which segments make an end.
use Rattle.std.proofs.Common.{◌≡◌, ℕ, Bool, true, false, cond, Option, Some, None, refl, sym, ap, ◌∙◌}
use Rattle.std.specs.Prelude.{◌==◌, ◌&&◌, [], ◌∷◌, IfSome}
use Rattle.at_ddp.specs.Address.{same_address}
use Rattle.at_ddp.specs.Datagram.{Content as Datagram}
use Rattle.at_ddp.specs.declared.address.Address.{Address}
use Rattle.at_adsp_frame.specs.Segments.{Advice, Close, Content, Data, Open, Part, Probe, Reset, ResetAck, Spells}
use Rattle.at_adsp_frame.specs.declared.segment.OpenKind.TheVariants.{Acknowledgement, Denial, Request}
use Rattle.at_adsp_frame.specs.declared.segment.OpenKind.TheVariants.{RequestAndAcknowledgement}
use Rattle.at_adsp_end.specs.Ends.{Change, EndState, answering, confirming, has_remote, is_half, is_open, is_opening}
use Rattle.at_adsp_end.specs.Hearing.{Answers, Advises, Asks, Brings, Closes, Resets, Saying}
use Rattle.at_adsp_end.specs.Hearing.{after_hearing, heard, is_empty, told}
use Rattle.at_adsp_end.specs.Positions.{wire}
use Rattle.at_adsp_end.specs.Sending.{hearing}
use Rattle.at_adsp_end.specs.declared.forward.Forward.TheVariants.{Beyond, Jump, Older}
use Rattle.at_adsp_end.specs.declared.phase.Phase.TheVariants as phase
use Rattle.at_adsp_end.specs.declared.change.EndChange.{EndChange}
use Rattle.at_adsp_end.specs.declared.change.EndChange.TheVariants.{Again, Denied, Heard}
use Rattle.at_adsp_ends.specs.Openings.{ack_came, answer_came, answers_again, confirms_again, connected_to, denial_came}
use Rattle.at_adsp_ends.specs.Openings.{ignored, is_answered, opened, request_came, room_for, sender_of}
use Rattle.at_adsp_ends.specs.Receiving.{any_request_came, made_id, part_came, received, segment_came}
use Rattle.at_adsp_ends.specs.Receiving.{settled}
use Rattle.at_adsp_ends.specs.Tables.{Done, EndTable, by_id, by_remote, freed, next_id, stayed}
use Rattle.at_stream_socket.specs.Hearing.{Makes, Requests}

abbrev MakesNone : Done EndChange → Type 0
MakesNone d = made_id d.answer ≡ None

either : (b : Bool) (x y : Done EndChange) → MakesNone x → MakesNone y → MakesNone (cond b x y)
either true x y h g = h
either false x y h g = g

-- ---- segments that request nothing

heard_none : (c : Change) (ack : Bool) (x : Saying) → made_id (after_hearing wire c ack x).step ≡ None
heard_none c ack (Brings items) = refl
heard_none c ack Asks = refl
heard_none c ack Closes = refl
heard_none c ack (Resets (Jump d)) = refl
heard_none c ack (Resets Older) = refl
heard_none c ack (Resets Beyond) = refl
heard_none c ack (Answers true) = refl
heard_none c ack (Answers false) = refl
heard_none c ack Advises = go (is_empty c.after.sender.unacknowledged)
  where
    go : (b : Bool) → made_id (cond b (Heard c.after.id 0) Again) ≡ None
    go true = refl
    go false = refl

module _ (t : EndTable) (from : Address) (s : Content) where
  segment_none : (o : Option EndState) → MakesNone (segment_came wire t s o)
  segment_none None = refl
  segment_none (Some e) = either (is_open e.phase) (settled t (heard wire e (told wire e s))) (ignored t)
      (heard_none (hearing wire e (told wire e s).window (told wire e s).acks) s.ack (told wire e s).saying) refl

  ack_none : (o : Option EndState) → MakesNone (ack_came wire t (sender_of from s) s o)
  ack_none None = refl
  ack_none (Some e) = either (is_half e.phase && has_remote (sender_of from s) e)
      (opened wire t (record e { phase = phase.Open }) s []) (ignored t) refl refl

  denial_none : (o : Option EndState) → MakesNone (denial_came t from o)
  denial_none None = refl
  denial_none (Some e) = either (is_opening e.phase && same_address e.asked from) (freed t (Denied e.id) e) (ignored t)
      refl refl

  answer_none : (there o : Option EndState) → MakesNone (answer_came wire t (sender_of from s) s there o)
  answer_none there None = refl
  answer_none there (Some e) =
      let r = sender_of from s in
      let again = cond (confirms_again e r) (stayed t Again e (confirming wire e ∷ [])) (ignored t) in
      either (is_answered e r there) (opened wire t (connected_to e r) s (confirming wire (connected_to e r) ∷ []))
      again refl (either (confirms_again e r) (stayed t Again e (confirming wire e ∷ [])) (ignored t) refl refl)

  -- ---- requests

  module _ (id : ℕ) where
    abbrev MakesIt : Done EndChange → Type 0
    MakesIt d = made_id d.answer ≡ Some id

    never : (o : Option ℕ) → o ≡ None → o ≡ Some id → Requests t from s id
    never o none makes = let both : None ≡ Some id = sym none ∙ makes in absurd (cc)

    in_room : (o : Option ℕ) → MakesIt (room_for wire t (sender_of from s) o) → o ≡ Some id
    in_room None h = absurd (cc)
    in_room (Some k) h = h

    requested : (dest : ℕ) → s.body ≡ Open Request dest → (s.source == 0) ≡ false → (o : Option EndState)
        → by_remote t (sender_of from s) ≡ o → MakesIt (request_came wire t (sender_of from s) o)
        → Requests t from s id
    requested dest asks named (Some e) there h =
        never _ (either (answers_again e) (stayed t Again e (answering wire e ∷ [])) (ignored t) refl refl) h
    requested dest asks named None apart h = go t.listening refl h
      where
        go : (b : Bool) → t.listening ≡ b → MakesIt (room_for wire t (sender_of from s) (cond b (next_id t) None))
            → Requests t from s id
        go true listens h = record {
          dest = dest;
          asks = asks;
          named = named;
          apart = apart;
          listens = listens;
          next = in_room (next_id t) h;
        }
        go false listens h = let none : None ≡ Some id = in_room None h in absurd (cc)

    any_requested : (dest : ℕ) → s.body ≡ Open Request dest → (b : Bool) → (s.source == 0) ≡ b
        → MakesIt (any_request_came wire t (sender_of from s) b) → Requests t from s id
    any_requested dest asks true named h = never None refl h
    any_requested dest asks false named h = requested dest asks named (by_remote t (sender_of from s)) refl h

    by_part : (p : Part) → s.body ≡ p → MakesIt (part_came wire t (sender_of from s) s p) → Requests t from s id
    by_part (Open Request dest) is h = any_requested dest is (s.source == 0) refl h
    by_part (Open Acknowledgement dest) is h = never _ (ack_none (by_id t dest)) h
    by_part (Open RequestAndAcknowledgement dest) is h =
        never _ (answer_none (by_remote t (sender_of from s)) (by_id t dest)) h
    by_part (Open Denial dest) is h = never _ (denial_none (by_id t dest)) h
    by_part (Data end bytes) is h = never _ (segment_none (by_remote t (sender_of from s))) h
    by_part Probe is h = never _ (segment_none (by_remote t (sender_of from s))) h
    by_part Close is h = never _ (segment_none (by_remote t (sender_of from s))) h
    by_part Reset is h = never _ (segment_none (by_remote t (sender_of from s))) h
    by_part ResetAck is h = never _ (segment_none (by_remote t (sender_of from s))) h
    by_part Advice is h = never _ (segment_none (by_remote t (sender_of from s))) h

    pub who_makes : MakesIt (received wire t from s) → Requests t from s id
    who_makes h = by_part s.body refl h

    pub request_makes : Requests t from s id → MakesIt (received wire t from s)
    request_makes r =
        ap (λ (p : Part). made_id (part_came wire t (sender_of from s) s p).answer) r.asks
        ∙ ap (λ b. made_id (any_request_came wire t (sender_of from s) b).answer) r.named
        ∙ ap (λ o. made_id (request_came wire t (sender_of from s) o).answer) r.apart
        ∙ ap (λ b. made_id (room_for wire t (sender_of from s) (cond b (next_id t) None)).answer) r.listens
        ∙ ap (λ o. made_id (room_for wire t (sender_of from s) o).answer) r.next

-- what was found of the segment of a datagram
pub found_by : (t : EndTable) (d : Datagram) (s : Content) (r : Option ℕ) → (d.to.socket == 130) ≡ true
    → Spells d.data_ s → r ≡ made_id (received wire t d.from s).answer → IfSome r (λ id. Makes t d id)
found_by t d s None socket spelled is = tt
found_by t d s (Some id) socket spelled is = record {
  socket = socket;
  segment = s;
  spelled = spelled;
  makes = who_makes t d.from s id (sym is);
}
