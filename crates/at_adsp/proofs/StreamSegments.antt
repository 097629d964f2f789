-- Which streams change, and how, as a segment comes; and so through a history.
use Rattle.std.proofs.Common.{◌≡◌, ℕ, ◌+◌, Bool, true, false, cond, List, [], ◌∷◌, ◌++◌, Option}
use Rattle.std.proofs.Common.{Some, None, refl, ap, ◌∙◌}
use Rattle.std.specs.Prelude.{◌==◌, ◌&&◌}
use Rattle.at_ddp.specs.Address.{same_address}
use Rattle.at_ddp.specs.declared.address.Address.{Address}
use Rattle.at_adsp_frame.specs.Segments.{Content, Open, Part}
use Rattle.at_adsp_frame.specs.declared.segment.OpenKind.{OpenKind}
use Rattle.at_adsp_frame.specs.declared.segment.OpenKind.TheVariants.{Request, Acknowledgement}
use Rattle.at_adsp_frame.specs.declared.segment.OpenKind.TheVariants.{RequestAndAcknowledgement, Denial}
use Rattle.at_adsp_end.specs.Ends.{EndState, answering, confirming, half_end}
use Rattle.at_adsp_end.specs.Ends.{has_remote, is_half, is_open, is_opening}
use Rattle.at_adsp_end.specs.Hearing.{heard}
use Rattle.at_adsp_end.specs.Hearing.{told}
use Rattle.at_adsp_end.specs.Positions.{Numbers}
use Rattle.at_adsp_end.specs.Sending.{acks, hearing}
use Rattle.at_adsp_end.specs.declared.phase.Phase.TheVariants as phase
use Rattle.at_adsp_end.specs.declared.remote.Remote.{Remote}
use Rattle.at_adsp_end.specs.declared.change.EndChange.{EndChange}
use Rattle.at_adsp_end.specs.declared.change.EndChange.TheVariants as step
use Rattle.at_adsp_ends.specs.Openings.{ack_came, answer_came, answers_again, confirms_again, connected_to, denial_came}
use Rattle.at_adsp_ends.specs.Openings.{heard_opening, ignored, is_answered, opened, request_came, room_for}
use Rattle.at_adsp_ends.specs.Receiving.{any_request_came, opening_came, part_came, segment_came, settled}
use Rattle.at_adsp_ends.specs.Tables.{Done, EndTable, by_id, by_remote, freed, has_id, next_id, stayed}
use Rattle.at_adsp.specs.Connections.{AfterSegment, AfterStep, ChangesStreams, streams}
use Rattle.at_ddp.specs.Posts.{packet_at}
use Rattle.at_adsp.specs.Network.{AllTimely, Closes as closes, Connects, Happening, Listens, Network, Other, Reads}
use Rattle.at_adsp.specs.Network.{Resets as resets, Sent, Setting, Strange, Takes, Ticks, Writes, after}
use Rattle.at_adsp.specs.Network.{does, noted, takes}
use Rattle.at_adsp.specs.Streams.{with_peer}
use Rattle.at_adsp.proofs.Beginnings.{made_streams}
use Rattle.at_adsp.proofs.Changes.{Moves}
use Rattle.at_adsp.proofs.Distinct.{drawn}
use Rattle.at_adsp.proofs.EndMoves.{heard_quiet, hearing_same, open_is}
use Rattle.at_adsp.proofs.Histories.{history_sound}
use Rattle.at_adsp.proofs.Openings.{opened_streams}
use Rattle.at_adsp.proofs.Receptions.{ack_moves, answer_moves}
use Rattle.at_adsp.proofs.Sound.{Sound}
use Rattle.at_adsp.proofs.Steps.{found_id, found_stands, later, quiet_streams}
use Rattle.at_adsp.proofs.StreamHistories.{after_quiet, heard_step, connects_streams, closes_streams}
use Rattle.at_adsp.proofs.StreamHistories.{writes_streams, reads_streams, resets_streams, ticks_streams}

module _ (setting : Setting) (n : Network) (at from : Address) (s : Content) (sound : Sound setting n.event n) where
  abbrev M : Numbers
  M = setting.numbers

  abbrev u : EndTable
  u = n.tables at

  abbrev r : Remote
  r = record { address = from; id = s.source }

  abbrev After : Done EndChange → Type 0
  After d = AfterStep n (does setting n at d) at from d.answer

  now : Sound setting (n.event + 1) n
  now = later setting n sound

  room_after : (o : Option ℕ) → ((id : ℕ) → o ≡ Some id → next_id u ≡ Some id) → After (room_for M u r o)
  room_after None draws = refl
  room_after (Some id) draws =
      let d = drawn u id (sound.next at) (draws id refl) in
      made_streams setting n at (half_end u.rooms id r) (step.Made id) (answering M (half_end u.rooms id r) ∷ []) d.free

  request_after : (o : Option EndState) → After (request_came M u r o)
  request_after None = room_after (cond u.listening (next_id u) None) (draws u.listening)
    where
      draws : (b : Bool) → (id : ℕ) → cond b (next_id u) None ≡ Some id → next_id u ≡ Some id
      draws true id h = h
      draws false id h = absurd (cc)
  request_after (Some e) = go (answers_again e)
    where
      go : (b : Bool) → After (cond b (stayed u step.Again e (answering M e ∷ [])) (ignored u))
      go true = refl
      go false = refl

  any_after : (b : Bool) → After (any_request_came M u r b)
  any_after true = refl
  any_after false = request_after (by_remote u r)

  -- an end that stands under this identifier opens as this one, and hears the segment
  opened_after : (dest : ℕ) (e f : EndState) (first : List Content) → by_id u dest ≡ Some e → f.id ≡ e.id
      → Moves e (heard_opening M f s).after → After (opened M u f s first)
  opened_after dest e f first is own moves =
      let same = hearing_same M f s.window (acks M f.sender s.next) in
      let old = found_id n at (has_id dest) e (heard_opening M f s).after.id (same.id ∙ own) is in
      let stands = found_stands setting (n.event + 1) n at (has_id dest) e now is in (
        (noted setting n.made (heard_opening M f s).after stands.it).stream.peer,
        opened_streams setting n at e (heard_opening M f s).after now stands moves (step.Opened f.id)
            (first ++ (heard_opening M f s).sent) old.0 old.1
            ∙ ap (λ k. with_peer at k (noted setting n.made (heard_opening M f s).after stands.it).stream.peer
            (streams n)) same.id,
      )

  ack_after : (dest : ℕ) (o : Option EndState) → by_id u dest ≡ o → After (ack_came M u r s o)
  ack_after dest None is = refl
  ack_after dest (Some e) is = go (is_half e.phase && has_remote r e) refl
    where
      go : (b : Bool) → (is_half e.phase && has_remote r e) ≡ b
          → After (cond b (opened M u (record e { phase = phase.Open }) s []) (ignored u))
      go true h = opened_after dest e (record e { phase = phase.Open }) [] is refl
          (ack_moves setting n at from s sound dest e is h)
      go false h = refl

  answer_after : (dest : ℕ) (there o : Option EndState) → by_id u dest ≡ o → After (answer_came M u r s there o)
  answer_after dest there None is = refl
  answer_after dest there (Some e) is = go (is_answered e r there) refl (confirms_again e r)
    where
      go : (b : Bool) → is_answered e r there ≡ b → (c : Bool) →
          After (cond b (opened M u (connected_to e r) s (confirming M (connected_to e r) ∷ []))
          (cond c (stayed u step.Again e (confirming M e ∷ [])) (ignored u)))
      go true h c = opened_after dest e (connected_to e r) (confirming M (connected_to e r) ∷ []) is refl
          (answer_moves setting n at from s sound dest e there is h)
      go false h true = refl
      go false h false = refl

  denial_after : (o : Option EndState) → After (denial_came u from o)
  denial_after None = refl
  denial_after (Some e) = go (is_opening e.phase && same_address e.asked from)
    where
      go : (b : Bool) → After (cond b (freed u (step.Denied e.id) e) (ignored u))
      go true = refl
      go false = refl

  segment_after : (o : Option EndState) → by_remote u r ≡ o → After (segment_came M u s o)
  segment_after None is = refl
  segment_after (Some e) is = go (is_open e.phase) refl
    where
      go : (b : Bool) → is_open e.phase ≡ b → After (cond b (settled u (heard M e (told M e s))) (ignored u))
      go true h =
          after_quiet n (does setting n at (settled u (heard M e (told M e s)))) at from (heard M e (told M e s)).step
          (heard_step M (hearing M e s.window (acks M e.sender s.next)) s.ack (told M e s).saying)
          (quiet_streams setting n at (has_remote r) e (heard M e (told M e s)).after now is
          (heard_quiet M e (told M e s) (open_is e.phase h)) (heard M e (told M e s)).step
          (heard M e (told M e s)).sent)
      go false h = refl

  opening_after : (kind : OpenKind) (dest : ℕ) → After (opening_came M u r s kind dest)
  opening_after Request dest = any_after (s.source == 0)
  opening_after Acknowledgement dest = ack_after dest (by_id u dest) refl
  opening_after RequestAndAcknowledgement dest = answer_after dest (by_remote u r) (by_id u dest) refl
  opening_after Denial dest = denial_after (by_id u dest)

  part_after : (part : Part) → After (part_came M u r s part)
  part_after (Open kind dest) = opening_after kind dest
  part_after other = segment_after (by_remote u r) refl

-- ---- histories

takes_streams : (setting : Setting) (n : Network) → Sound setting n.event n → (o : Option Sent)
    → AfterSegment setting n (takes setting n o) o
takes_streams setting n sound None = refl
takes_streams setting n sound (Some s) = part_after setting n s.to s.from s.packet sound s.packet.body

done_streams : (setting : Setting) (n : Network) (h : Happening) → Sound setting n.event n → ChangesStreams setting n h
done_streams setting n (Connects at to) sound =
    connects_streams setting n at to (sound.next at) (next_id (n.tables at)) refl
done_streams setting n (Listens at on) sound = refl
done_streams setting n (closes at id) sound = closes_streams setting n at id (later setting n sound)
    (by_id (n.tables at) id) refl
done_streams setting n (Writes at id items) sound = writes_streams setting n at id (later setting n sound) items
    (by_id (n.tables at) id) refl
done_streams setting n (Reads at id count) sound = reads_streams setting n at id (later setting n sound) count
    (by_id (n.tables at) id) refl
done_streams setting n (resets at id) sound = resets_streams setting n at id (later setting n sound)
    (by_id (n.tables at) id) refl
done_streams setting n (Ticks at id tick) sound = ticks_streams setting n at id (later setting n sound) tick
    (by_id (n.tables at) id) refl
done_streams setting n (Takes which) sound = takes_streams setting n sound (packet_at n.sent which)
done_streams setting n (Strange at from s) sound = part_after setting n at from s sound s.body
done_streams setting n (Other count) sound = refl

pub change_by_one : (setting : Setting) (history : List Happening) (h : Happening) → AllTimely setting history
    → ChangesStreams setting (after setting history) h
change_by_one setting history h timely =
    done_streams setting (after setting history) h (history_sound setting history timely)
