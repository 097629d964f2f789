-- All ends were asked, and all segments were sent, on one AppleTalk network.
use Rattle.std.proofs.Common.{◌≡◌, ℕ, Bool, true, false, cond, List, [], ◌∷◌, ◌++◌, length, take, Option, Some, None}
use Rattle.std.proofs.Common.{Result, Ok, Err, refl, ap, ◌∙◌}
use Rattle.std.specs.Prelude.{find, ◌==◌, ◌&&◌}
use Rattle.std.specs.List.{AllByRecursion}
use Rattle.at_ddp.specs.Address.{same_address}
use Rattle.at_ddp.specs.declared.address.Address.{Address}
use Rattle.at_ddp.proofs.Alls.{all_both, all_found, all_replaced, all_without}
use Rattle.at_adsp_frame.specs.Segments.{Content, Open, Part}
use Rattle.at_adsp_frame.specs.declared.segment.OpenKind.{OpenKind}
use Rattle.at_adsp_frame.specs.declared.segment.OpenKind.TheVariants.{Request, Acknowledgement}
use Rattle.at_adsp_frame.specs.declared.segment.OpenKind.TheVariants.{RequestAndAcknowledgement, Denial}
use Rattle.at_adsp_end.specs.Calls.{is_last, probed, reading, ticked, writing}
use Rattle.at_adsp_end.specs.Ends.{Change, EndState, addressed, answering, asking, confirming, connector, half_end}
use Rattle.at_adsp_end.specs.Ends.{has_opened, has_remote, is_closed, is_half, is_open, is_opening, places}
use Rattle.at_adsp_end.specs.Hearing.{Advises, Answers, Asks, Brings, Closes as SaysClose, Resets as SaysReset, Saying}
use Rattle.at_adsp_end.specs.Hearing.{Told, after_hearing, heard, told}
use Rattle.at_adsp_end.specs.Positions.{Numbers}
use Rattle.at_adsp_end.specs.Sending.{acks, closing, hearing, resetting_now}
use Rattle.at_adsp_end.specs.declared.fault.StreamFault.{StreamFault}
use Rattle.at_adsp_end.specs.declared.fault.StreamFault.TheVariants.{NoRoom, NotOpen}
use Rattle.at_adsp_end.specs.declared.forward.Forward.TheVariants.{Jump, Older, Beyond}
use Rattle.at_adsp_end.specs.declared.item.Item.{Item}
use Rattle.at_adsp_end.specs.declared.phase.Phase.TheVariants as phase
use Rattle.at_adsp_end.specs.declared.remote.Remote.{Remote}
use Rattle.at_adsp_end.specs.declared.change.EndChange.TheVariants as step
use Rattle.at_adsp_end.specs.declared.tick.Tick.{Tick}
use Rattle.at_adsp_end.specs.declared.tick.Tick.TheVariants.{Retransmit, Probe}
use Rattle.at_adsp_ends.specs.Calls.{closed_at, connected, finds_no_room, frees, read_at, reset_at, ticked_at, wrote}
use Rattle.at_adsp_ends.specs.Calls.{wrote_some}
use Rattle.at_adsp_ends.specs.Openings.{ack_came, answer_came, answers_again, confirms_again, connected_to, denial_came}
use Rattle.at_adsp_ends.specs.Openings.{heard_opening, ignored, is_answered, opened, request_came, room_for}
use Rattle.at_adsp_ends.specs.Receiving.{any_request_came, opening_came, part_came, segment_came, settled}
use Rattle.at_adsp_ends.specs.Tables.{Done, EndTable, by_id, by_remote, freed, has_id, made, moved, next_id, stayed}

-- ---- what an end hears leaves the address that it asked, or that asked it

hearing_asked : (N : Numbers) (e : EndState) (window : ℕ) (acks : Option ℕ) → (hearing N e window acks).after.asked
    ≡ e.asked
hearing_asked N e window None = refl
hearing_asked N e window (Some k) = refl

after_hearing_asked : (N : Numbers) (c : Change) (ack : Bool) (s : Saying) → (after_hearing N c ack s).after.asked
    ≡ c.after.asked
after_hearing_asked N c ack (Brings items) = refl
after_hearing_asked N c ack Asks = refl
after_hearing_asked N c ack SaysClose = refl
after_hearing_asked N c ack (SaysReset (Jump d)) = refl
after_hearing_asked N c ack (SaysReset Older) = refl
after_hearing_asked N c ack (SaysReset Beyond) = refl
after_hearing_asked N c ack (Answers false) = refl
after_hearing_asked N c ack (Answers true) = refl
after_hearing_asked N c ack Advises = refl

heard_asked : (N : Numbers) (e : EndState) (t : Told) → (heard N e t).after.asked ≡ e.asked
heard_asked N e t = after_hearing_asked N (hearing N e t.window t.acks) t.ack t.saying
    ∙ hearing_asked N e t.window t.acks

-- ---- what is done at a table

-- the ends were asked there, and what is sent goes there
pub record Kept {X : Type 0} (net : ℕ) (d : Done X) : Type 0 where
  pub ends : AllByRecursion (λ (e : EndState). e.asked.net ≡ net) d.after.ends
  pub sent : AllByRecursion (λ (x : Address × Content). x.0.net ≡ net) d.sent

abbrev pub KeptAny : {X : Type 0} → ℕ → Result (Done X) StreamFault → Type 0
KeptAny net (Err fault) = Unit {0}
KeptAny net (Ok d) = Kept net d

module _ (net : ℕ) (t : EndTable) (h : AllByRecursion (λ (e : EndState). e.asked.net ≡ net) t.ends) where
  goes : (to : Address) (out : List Content) → to.net ≡ net
      → AllByRecursion (λ (x : Address × Content). x.0.net ≡ net) (addressed to out)
  goes to [] is = tt
  goes to (x ∷ out) is = (is, goes to out is)

  moved_kept : {X : Type 0} (answer : X) (f : EndState) (out : List Content) → f.asked.net ≡ net
      → Kept net (moved t answer f out)
  moved_kept answer f out is =
      record {
        ends = all_replaced (λ (e : EndState). e.asked.net ≡ net) (has_id f.id) f t.ends h is;
        sent = goes f.asked out is;
      }

  made_kept : {X : Type 0} (answer : X) (f : EndState) (out : List Content) → f.asked.net ≡ net
      → Kept net (made t answer f out)
  made_kept answer f out is =
      record {
        ends = all_both (λ (e : EndState). e.asked.net ≡ net) t.ends (f ∷ []) h (is, tt);
        sent = goes f.asked out is;
      }

  stayed_kept : {X : Type 0} (answer : X) (f : EndState) (out : List Content) → f.asked.net ≡ net
      → Kept net (stayed t answer f out)
  stayed_kept answer f out is = record { ends = h; sent = goes f.asked out is }

  freed_kept : {X : Type 0} (answer : X) (f : EndState) → Kept net (freed t answer f)
  freed_kept answer f = record {
    ends = all_without (λ (e : EndState). e.asked.net ≡ net) (has_id f.id) t.ends h;
    sent = tt;
  }

  ignored_kept : Kept net (ignored t)
  ignored_kept = record { ends = h; sent = tt }

  found_on : (q : EndState → Bool) (e : EndState) → find q t.ends ≡ Some e → e.asked.net ≡ net
  found_on q e is = (all_found (λ (x : EndState). x.asked.net ≡ net) q t.ends e h is).0

  -- ---- calls and timers

  pub connected_kept : (to : Address) (o : Option ℕ) → to.net ≡ net → KeptAny net (connected t to o)
  connected_kept to None is = tt
  connected_kept to (Some id) is = made_kept id (connector t.rooms id to) (asking (connector t.rooms id to) ∷ []) is

  module _ (N : Numbers) where
    pub closed_kept : (id : ℕ) (o : Option EndState) → by_id t id ≡ o → KeptAny net (closed_at N t o)
    closed_kept id None is = tt
    closed_kept id (Some e) is = go (is_open e.phase)
      where
        go : (b : Bool) → KeptAny net
            (cond b (Ok (moved t (step.Closed e.id) (closing N e).after (closing N e).sent))
            (Ok (freed t (step.Freed e.id) e)))
        go true = moved_kept (step.Closed e.id) (closing N e).after (closing N e).sent (found_on (has_id id) e is)
        go false = freed_kept (step.Freed e.id) e

    pub wrote_kept : (items : List Item) (id : ℕ) (o : Option EndState) → by_id t id ≡ o
        → KeptAny net (wrote N t items o)
    wrote_kept items id None is = tt
    wrote_kept items id (Some e) is = go (is_open e.phase) (finds_no_room e items)
      where
        go : (b c : Bool) → KeptAny net (cond b (cond c (Err NoRoom) (Ok (wrote_some N t items e))) (Err NotOpen))
        go true true = tt
        go true false = moved_kept (length (take (places e) items)) (writing N e items).after (writing N e items).sent
            (found_on (has_id id) e is)
        go false c = tt

    pub read_kept : (count id : ℕ) (o : Option EndState) → by_id t id ≡ o → KeptAny net (read_at N t count o)
    read_kept count id None is = tt
    read_kept count id (Some e) is = go (has_opened e.phase)
      where
        go : (b : Bool) → KeptAny net
            (cond b (Ok (moved t (take count e.receiver.unread) (reading N e count).after (reading N e count).sent))
            (Err NotOpen))
        go true = moved_kept (take count e.receiver.unread) (reading N e count).after (reading N e count).sent
            (found_on (has_id id) e is)
        go false = tt

    pub reset_kept : (id : ℕ) (o : Option EndState) → by_id t id ≡ o → KeptAny net (reset_at N t o)
    reset_kept id None is = tt
    reset_kept id (Some e) is = go (is_open e.phase)
      where
        go : (b : Bool) → KeptAny net
            (cond b (Ok (moved {X = Unit {0}} t tt (resetting_now N e).after (resetting_now N e).sent)) (Err NotOpen))
        go true = moved_kept {X = Unit {0}} tt (resetting_now N e).after (resetting_now N e).sent
            (found_on (has_id id) e is)
        go false = tt

    tick_kept : (e : EndState) (tick : Tick) → e.asked.net ≡ net → Kept net (settled t (ticked N e tick))
    tick_kept e Retransmit is = moved_kept (ticked N e Retransmit).step e (ticked N e Retransmit).sent is
    tick_kept e Probe is = go (is_last e Probe)
      where
        go : (b : Bool) → Kept net (settled t (probed N e b))
        go true = moved_kept (probed N e true).step (probed N e true).after [] is
        go false = moved_kept (probed N e false).step (probed N e false).after (probed N e false).sent is

    pub ticked_kept : (tick : Tick) (id : ℕ) (o : Option EndState) → by_id t id ≡ o → KeptAny net (ticked_at N t tick o)
    ticked_kept tick id None is = tt
    ticked_kept tick id (Some e) is = go (is_closed e.phase) (frees e tick)
      where
        go : (b c : Bool) → KeptAny net
            (cond b (Err NotOpen) (cond c (Ok (freed t (step.Freed e.id) e)) (Ok (settled t (ticked N e tick)))))
        go true c = tt
        go false true = freed_kept (step.Freed e.id) e
        go false false = tick_kept e tick (found_on (has_id id) e is)

    -- ---- segments

    module _ (from : Address) (there : from.net ≡ net) (s : Content) where
      abbrev r : Remote
      r = record { address = from; id = s.source }

      room_kept : (o : Option ℕ) → Kept net (room_for N t r o)
      room_kept None = record { ends = h; sent = (there, tt) }
      room_kept (Some id) = made_kept (step.Made id) (half_end t.rooms id r)
          (answering N (half_end t.rooms id r) ∷ []) there

      request_kept : (o : Option EndState) → by_remote t r ≡ o → Kept net (request_came N t r o)
      request_kept None is = room_kept (cond t.listening (next_id t) None)
      request_kept (Some e) is = go (answers_again e)
        where
          go : (b : Bool) → Kept net (cond b (stayed t step.Again e (answering N e ∷ [])) (ignored t))
          go true = stayed_kept step.Again e (answering N e ∷ []) (found_on (has_remote r) e is)
          go false = ignored_kept

      any_kept : (b : Bool) → Kept net (any_request_came N t r b)
      any_kept true = ignored_kept
      any_kept false = request_kept (by_remote t r) refl

      opened_kept : (f : EndState) (first : List Content) → f.asked.net ≡ net → Kept net (opened N t f s first)
      opened_kept f first is =
          moved_kept (step.Opened f.id) (heard_opening N f s).after (first ++ (heard_opening N f s).sent)
          (ap (λ (a : Address). a.net) (hearing_asked N f s.window (acks N f.sender s.next)) ∙ is)

      ack_kept : (dest : ℕ) (o : Option EndState) → by_id t dest ≡ o → Kept net (ack_came N t r s o)
      ack_kept dest None is = ignored_kept
      ack_kept dest (Some e) is = go (is_half e.phase && has_remote r e)
        where
          go : (b : Bool) → Kept net (cond b (opened N t (record e { phase = phase.Open }) s []) (ignored t))
          go true = opened_kept (record e { phase = phase.Open }) [] (found_on (has_id dest) e is)
          go false = ignored_kept

      answer_kept : (dest : ℕ) (it o : Option EndState) → by_id t dest ≡ o → Kept net (answer_came N t r s it o)
      answer_kept dest it None is = ignored_kept
      answer_kept dest it (Some e) is = go (is_answered e r it) (confirms_again e r)
        where
          go : (b c : Bool) → Kept net
              (cond b (opened N t (connected_to e r) s (confirming N (connected_to e r) ∷ []))
              (cond c (stayed t step.Again e (confirming N e ∷ [])) (ignored t)))
          go true c = opened_kept (connected_to e r) (confirming N (connected_to e r) ∷ [])
              (found_on (has_id dest) e is)
          go false true = stayed_kept step.Again e (confirming N e ∷ []) (found_on (has_id dest) e is)
          go false false = ignored_kept

      denial_kept : (o : Option EndState) → Kept net (denial_came t from o)
      denial_kept None = ignored_kept
      denial_kept (Some e) = go (is_opening e.phase && same_address e.asked from)
        where
          go : (b : Bool) → Kept net (cond b (freed t (step.Denied e.id) e) (ignored t))
          go true = freed_kept (step.Denied e.id) e
          go false = ignored_kept

      segment_kept : (o : Option EndState) → by_remote t r ≡ o → Kept net (segment_came N t s o)
      segment_kept None is = ignored_kept
      segment_kept (Some e) is = go (is_open e.phase)
        where
          go : (b : Bool) → Kept net (cond b (settled t (heard N e (told N e s))) (ignored t))
          go true =
              moved_kept (heard N e (told N e s)).step (heard N e (told N e s)).after (heard N e (told N e s)).sent
              (ap (λ (a : Address). a.net) (heard_asked N e (told N e s)) ∙ found_on (has_remote r) e is)
          go false = ignored_kept

      opening_kept : (kind : OpenKind) (dest : ℕ) → Kept net (opening_came N t r s kind dest)
      opening_kept Request dest = any_kept (s.source == 0)
      opening_kept Acknowledgement dest = ack_kept dest (by_id t dest) refl
      opening_kept RequestAndAcknowledgement dest = answer_kept dest (by_remote t r) (by_id t dest) refl
      opening_kept Denial dest = denial_kept (by_id t dest)

      pub part_kept : (part : Part) → Kept net (part_came N t r s part)
      part_kept (Open kind dest) = opening_kept kind dest
      part_kept other = segment_kept (by_remote t r) refl
