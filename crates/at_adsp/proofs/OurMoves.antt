-- What becomes of an end at one of our addresses stays at it, and asks and answers our addresses alone.
use Rattle.std.proofs.Common.{◌≡◌, ℕ, Bool, true, false, cond, List, [], ◌∷◌, ◌++◌, length, take, Option, Some, None}
use Rattle.std.proofs.Common.{inl, inr, refl, ap, ◌∙◌}
use Rattle.std.specs.Prelude.{find, is_none, not, Ok, Err, ◌==◌, ◌&&◌}
use Rattle.std.proofs.lemmas.Bool.{true≢false, and_parts}
use Rattle.at_ddp.specs.Address.{same_address}
use Rattle.at_ddp.specs.declared.address.Address.{Address}
use Rattle.at_ddp.proofs.Alls.{all_both, all_found, all_replaced, all_without}
use Rattle.at_ddp.proofs.Octets.{same_address-true}
use Rattle.at_adsp_frame.specs.Segments.{Content, Open, Part}
use Rattle.at_adsp_frame.specs.declared.segment.OpenKind.{OpenKind}
use Rattle.at_adsp_frame.specs.declared.segment.OpenKind.TheVariants.{Request, Acknowledgement}
use Rattle.at_adsp_frame.specs.declared.segment.OpenKind.TheVariants.{RequestAndAcknowledgement, Denial}
use Rattle.at_adsp_end.specs.Calls.{is_last, probed, reading, ticked, writing}
use Rattle.at_adsp_end.specs.Ends.{EndState, answering, asking, confirming, connector, half_end, has_opened}
use Rattle.at_adsp_end.specs.Ends.{has_remote, is_closed, is_half, is_open, is_opening, places}
use Rattle.at_adsp_end.specs.Hearing.{heard, told}
use Rattle.at_adsp_end.specs.Positions.{Numbers}
use Rattle.at_adsp_end.specs.Sending.{acks, closing, resetting_now}
use Rattle.at_adsp_end.specs.declared.fault.StreamFault.TheVariants.{NoRoom, NotOpen}
use Rattle.at_adsp_end.specs.declared.item.Item.{Item}
use Rattle.at_adsp_end.specs.declared.phase.Phase.TheVariants as phase
use Rattle.at_adsp_end.specs.declared.remote.Remote.{Remote}
use Rattle.at_adsp_end.specs.declared.change.EndChange.TheVariants as step
use Rattle.at_adsp_end.specs.declared.tick.Tick.{Tick}
use Rattle.at_adsp_end.specs.declared.tick.Tick.TheVariants.{Retransmit, Probe}
use Rattle.at_adsp_ends.specs.Calls.{closed_at, connected, finds_no_room, frees, read_at, reset_at, ticked_at, wrote}
use Rattle.at_adsp_ends.specs.Calls.{wrote_some}
use Rattle.at_adsp_ends.specs.Openings.{ack_came, answer_came, answers_again, confirms_again, connected_to, denial_came}
use Rattle.at_adsp_ends.specs.Openings.{heard_opening, ignored, is_answered, opened, request_came, room_for}
use Rattle.at_adsp_ends.specs.Receiving.{any_request_came, opening_came, part_came, received, segment_came, settled}
use Rattle.at_adsp_ends.specs.Tables.{EndTable, by_id, by_remote, freed, has_id, made, moved, next_id, stayed}
use Rattle.at_adsp.proofs.EndMoves.{Quiet, half_is, heard_quiet, hearing_same, open_is}
use Rattle.at_adsp.proofs.Ours.{IsOurs, AreOurs, SaysOurs, KeepsAny, KeepsOurs, quiet_ours, all_say}

module _ (ours : Address → Bool) (at : Address) (N : Numbers) (t : EndTable) (h : AreOurs ours at t) where
  moved_ours : {X : Type 0} (answer : X) (f : EndState) (out : List Content) → IsOurs ours at f
      → KeepsOurs ours at (moved t answer f out)
  moved_ours answer f out is =
      record {
        table = record {
          listens = h.listens;
          ends = all_replaced (IsOurs ours at) (has_id f.id) f t.ends h.ends is;
        };
        sent = all_say ours at f.asked out is.here;
      }

  made_ours : {X : Type 0} (answer : X) (f : EndState) (out : List Content) → IsOurs ours at f
      → KeepsOurs ours at (made t answer f out)
  made_ours answer f out is =
      record {
        table = record {
          listens = h.listens;
          ends = all_both (IsOurs ours at) t.ends (f ∷ []) h.ends (is, tt);
        };
        sent = all_say ours at f.asked out is.here;
      }

  stayed_ours : {X : Type 0} (answer : X) (f : EndState) (out : List Content) → ours at ≡ true
      → KeepsOurs ours at (stayed t answer f out)
  stayed_ours answer f out here = record { table = h; sent = all_say ours at f.asked out here }

  freed_ours : {X : Type 0} (answer : X) (f : EndState) → KeepsOurs ours at (freed t answer f)
  freed_ours answer f = record {
    table =
        record { listens = h.listens; ends = all_without (IsOurs ours at) (has_id f.id) t.ends h.ends };
    sent = tt;
  }

  ignored_ours : KeepsOurs ours at (ignored t)
  ignored_ours = record { table = h; sent = tt }

  found_ours : (q : EndState → Bool) (e : EndState) → find q t.ends ≡ Some e → IsOurs ours at e
  found_ours q e is = (all_found (IsOurs ours at) q t.ends e h.ends is).0

  -- an end that was found moves quietly
  quiet_here : {X : Type 0} (answer : X) (q : EndState → Bool) (e f : EndState) (out : List Content) → find q t.ends
      ≡ Some e → Quiet e f → KeepsOurs ours at (moved t answer f out)
  quiet_here answer q e f out is quiet = moved_ours answer f out (quiet_ours ours at e f quiet (found_ours q e is))

  -- ---- calls and timers

  pub connected_ours : ours at ≡ true → (to : Address) (o : Option ℕ) → KeepsAny ours at (connected t to o)
  connected_ours here to None = tt
  connected_ours here to (Some id) = made_ours id (connector t.rooms id to) (asking (connector t.rooms id to) ∷ [])
      (record { here = here; there = λ other. absurd (true≢false other) })

  pub closed_ours : (id : ℕ) (o : Option EndState) → by_id t id ≡ o → KeepsAny ours at (closed_at N t o)
  closed_ours id None is = tt
  closed_ours id (Some e) is = go (is_open e.phase) refl
    where
      go : (b : Bool) → is_open e.phase ≡ b
          → KeepsAny ours at (cond b (Ok (moved t (step.Closed e.id) (closing N e).after (closing N e).sent))
          (Ok (freed t (step.Freed e.id) e)))
      go true opened =
          quiet_here (step.Closed e.id) (has_id id) e (closing N e).after (closing N e).sent is
          (record {
            id = refl;
            listener = refl;
            asked = refl;
            remote = refl;
            phase = inr (open_is e.phase opened, refl);
          })
      go false opened = freed_ours (step.Freed e.id) e

  tick_ours : (id : ℕ) (e : EndState) (tick : Tick) → by_id t id ≡ Some e → frees e tick ≡ false
      → KeepsOurs ours at (settled t (ticked N e tick))
  tick_ours id e Retransmit is stays = moved_ours (ticked N e Retransmit).step e (ticked N e Retransmit).sent
      (found_ours (has_id id) e is)
  tick_ours id e Probe is stays = go (is_last e Probe) stays
    where
      opened_so : (b : Bool) → is_open e.phase ≡ b → not b ≡ false → e.phase ≡ phase.Open
      opened_so true g n = open_is e.phase g
      opened_so false g n = absurd (true≢false n)

      go : (b : Bool) → (b && not (is_open e.phase)) ≡ false → KeepsOurs ours at (settled t (probed N e b))
      go true g =
          quiet_here (probed N e true).step (has_id id) e (probed N e true).after [] is
          (record {
            id = refl;
            listener = refl;
            asked = refl;
            remote = refl;
            phase = inr (opened_so (is_open e.phase) refl g, refl);
          })
      go false g = quiet_here (probed N e false).step (has_id id) e (probed N e false).after (probed N e false).sent is
          (record { id = refl; listener = refl; asked = refl; remote = refl; phase = inl refl })

  pub ticks_ours : (tick : Tick) (id : ℕ) (o : Option EndState) → by_id t id ≡ o
      → KeepsAny ours at (ticked_at N t tick o)
  ticks_ours tick id None is = tt
  ticks_ours tick id (Some e) is = go (is_closed e.phase) (frees e tick) refl
    where
      go : (b c : Bool) → frees e tick ≡ c
          → KeepsAny ours at (cond b (Err NotOpen)
          (cond c (Ok (freed t (step.Freed e.id) e)) (Ok (settled t (ticked N e tick)))))
      go true c g = tt
      go false true g = freed_ours (step.Freed e.id) e
      go false false g = tick_ours id e tick is g

  pub reads_ours : (count id : ℕ) (o : Option EndState) → by_id t id ≡ o → KeepsAny ours at (read_at N t count o)
  reads_ours count id None is = tt
  reads_ours count id (Some e) is = go (has_opened e.phase)
    where
      go : (b : Bool) → KeepsAny ours at
          (cond b (Ok (moved t (take count e.receiver.unread) (reading N e count).after (reading N e count).sent))
          (Err NotOpen))
      go true =
          quiet_here (take count e.receiver.unread) (has_id id) e (reading N e count).after (reading N e count).sent is
          (record { id = refl; listener = refl; asked = refl; remote = refl; phase = inl refl })
      go false = tt

  pub resets_ours : (id : ℕ) (o : Option EndState) → by_id t id ≡ o → KeepsAny ours at (reset_at N t o)
  resets_ours id None is = tt
  resets_ours id (Some e) is = go (is_open e.phase)
    where
      go : (b : Bool) → KeepsAny ours at
          (cond b (Ok (moved {X = Unit {0}} t tt (resetting_now N e).after (resetting_now N e).sent)) (Err NotOpen))
      go true =
          quiet_here {X = Unit {0}} tt (has_id id) e (resetting_now N e).after (resetting_now N e).sent is
          (record { id = refl; listener = refl; asked = refl; remote = refl; phase = inl refl })
      go false = tt

  pub wrote_ours : (items : List Item) (id : ℕ) (o : Option EndState) → by_id t id ≡ o
      → KeepsAny ours at (wrote N t items o)
  wrote_ours items id None is = tt
  wrote_ours items id (Some e) is = go (is_open e.phase) (finds_no_room e items)
    where
      go : (b c : Bool) → KeepsAny ours at (cond b (cond c (Err NoRoom) (Ok (wrote_some N t items e))) (Err NotOpen))
      go true true = tt
      go true false =
          quiet_here (length (take (places e) items)) (has_id id) e (writing N e items).after
          (writing N e items).sent is
          (record { id = refl; listener = refl; asked = refl; remote = refl; phase = inl refl })
      go false c = tt

  -- ---- segments

  module _ (from : Address) (s : Content) where
    abbrev r : Remote
    r = record { address = from; id = s.source }

    request_ours : ours from ≡ true → (o : Option EndState) → by_remote t r ≡ o
        → KeepsOurs ours at (request_came N t r o)
    request_ours says None is = go t.listening refl
      where
        room : ours at ≡ true → (o : Option ℕ) → KeepsOurs ours at (room_for N t r o)
        room here None = record { table = h; sent = (tt, tt) }
        room here (Some id) = made_ours (step.Made id) (half_end t.rooms id r)
            (answering N (half_end t.rooms id r) ∷ []) (record { here = here; there = λ other. says })

        go : (b : Bool) → t.listening ≡ b → KeepsOurs ours at (room_for N t r (cond b (next_id t) None))
        go true on = room (h.listens on) (next_id t)
        go false on = record { table = h; sent = (tt, tt) }
    request_ours says (Some e) is = go (answers_again e)
      where
        go : (b : Bool) → KeepsOurs ours at (cond b (stayed t step.Again e (answering N e ∷ [])) (ignored t))
        go true = stayed_ours step.Again e (answering N e ∷ []) (found_ours (has_remote r) e is).here
        go false = ignored_ours

    any_ours : ours from ≡ true → (b : Bool) → KeepsOurs ours at (any_request_came N t r b)
    any_ours says true = ignored_ours
    any_ours says false = request_ours says (by_remote t r) refl

    opened_ours : (f : EndState) (first : List Content) → ours at ≡ true → ours f.asked ≡ true
        → KeepsOurs ours at (opened N t f s first)
    opened_ours f first here there =
        let same = hearing_same N f s.window (acks N f.sender s.next) in
        moved_ours (step.Opened f.id) (heard_opening N f s).after (first ++ (heard_opening N f s).sent)
        (record { here = here; there = λ other. ap ours same.asked ∙ there })

    -- an end that waits for an acknowledgement was asked from one of our addresses
    ack_ours : (dest : ℕ) (o : Option EndState) → by_id t dest ≡ o → KeepsOurs ours at (ack_came N t r s o)
    ack_ours dest None is = ignored_ours
    ack_ours dest (Some e) is = go (is_half e.phase && has_remote r e) refl
      where
        go : (b : Bool) → (is_half e.phase && has_remote r e) ≡ b
            → KeepsOurs ours at (cond b (opened N t (record e { phase = phase.Open }) s []) (ignored t))
        go true g =
            let k = found_ours (has_id dest) e is in
            opened_ours (record e { phase = phase.Open }) [] k.here
            (k.there (ap is_opening (half_is e.phase (and_parts (is_half e.phase) (has_remote r e) g).0)))
        go false g = ignored_ours

    -- an end that asked opens only by an answer from there
    answer_ours : ours from ≡ true → (dest : ℕ) (there o : Option EndState) → by_id t dest ≡ o
        → KeepsOurs ours at (answer_came N t r s there o)
    answer_ours says dest there None is = ignored_ours
    answer_ours says dest there (Some e) is = go (is_answered e r there) refl (confirms_again e r)
      where
        k : IsOurs ours at e
        k = found_ours (has_id dest) e is

        go : (b : Bool) → is_answered e r there ≡ b → (c : Bool) →
            KeepsOurs ours at (cond b (opened N t (connected_to e r) s (confirming N (connected_to e r) ∷ []))
            (cond c (stayed t step.Again e (confirming N e ∷ [])) (ignored t)))
        go true g c =
            let asked = (and_parts (is_opening e.phase) (same_address e.asked from)
            (and_parts (is_opening e.phase && same_address e.asked from) (is_none there) g).0).1 in
            opened_ours (connected_to e r) (confirming N (connected_to e r) ∷ []) k.here
            (ap ours (same_address-true e.asked from asked) ∙ says)
        go false g true = stayed_ours step.Again e (confirming N e ∷ []) k.here
        go false g false = ignored_ours

    denial_ours : (o : Option EndState) → KeepsOurs ours at (denial_came t from o)
    denial_ours None = ignored_ours
    denial_ours (Some e) = go (is_opening e.phase && same_address e.asked from)
      where
        go : (b : Bool) → KeepsOurs ours at (cond b (freed t (step.Denied e.id) e) (ignored t))
        go true = freed_ours (step.Denied e.id) e
        go false = ignored_ours

    segment_ours : (o : Option EndState) → by_remote t r ≡ o → KeepsOurs ours at (segment_came N t s o)
    segment_ours None is = ignored_ours
    segment_ours (Some e) is = go (is_open e.phase) refl
      where
        go : (b : Bool) → is_open e.phase ≡ b
            → KeepsOurs ours at (cond b (settled t (heard N e (told N e s))) (ignored t))
        go true opens = quiet_here (heard N e (told N e s)).step (has_remote r) e (heard N e (told N e s)).after
            (heard N e (told N e s)).sent is (heard_quiet N e (told N e s) (open_is e.phase opens))
        go false opens = ignored_ours

    opening_ours : (kind : OpenKind) (dest : ℕ) → SaysOurs ours from (Open kind dest)
        → KeepsOurs ours at (opening_came N t r s kind dest)
    opening_ours Request dest says = any_ours says (s.source == 0)
    opening_ours Acknowledgement dest says = ack_ours dest (by_id t dest) refl
    opening_ours RequestAndAcknowledgement dest says = answer_ours says dest (by_remote t r) (by_id t dest) refl
    opening_ours Denial dest says = denial_ours (by_id t dest)

    part_ours : (part : Part) → SaysOurs ours from part → KeepsOurs ours at (part_came N t r s part)
    part_ours (Open kind dest) says = opening_ours kind dest says
    part_ours other says = segment_ours (by_remote t r) refl

    pub received_ours : SaysOurs ours from s.body → KeepsOurs ours at (received N t from s)
    received_ours says = part_ours s.body says
