-- Each segment that comes to a table of ends keeps a network in range.
use Rattle.std.proofs.Common.{◌≡◌, ℕ, ◌+◌, ◌^◌, ◌<◌, Bool, true, false, cond, List, [], ◌∷◌, ◌++◌}
use Rattle.std.proofs.Common.{Option, Some, None, refl, lit<}
use Rattle.std.specs.Prelude.{◌==◌, ◌&&◌}
use Rattle.at_ddp.specs.Address.{same_address}
use Rattle.at_ddp.specs.Datagram.{IsAddress}
use Rattle.at_ddp.specs.declared.address.Address.{Address}
use Rattle.at_ddp.proofs.Alls.{all_both}
use Rattle.at_adsp_frame.specs.Segments.{Content, IsLawful, Open, Part}
use Rattle.at_adsp_frame.specs.declared.segment.OpenKind.{OpenKind}
use Rattle.at_adsp_frame.specs.declared.segment.OpenKind.TheVariants.{Request, Acknowledgement}
use Rattle.at_adsp_frame.specs.declared.segment.OpenKind.TheVariants.{RequestAndAcknowledgement, Denial}
use Rattle.at_adsp_end.specs.Ends.{EndState, answering, confirming, half_end}
use Rattle.at_adsp_end.specs.Ends.{has_remote, is_half, is_open, is_opening}
use Rattle.at_adsp_end.specs.Hearing.{heard, told}
use Rattle.at_adsp_end.specs.Positions.{Numbers}
use Rattle.at_adsp_end.specs.Sending.{acks}
use Rattle.at_adsp_end.specs.declared.phase.Phase.TheVariants as phase
use Rattle.at_adsp_end.specs.declared.remote.Remote.{Remote}
use Rattle.at_adsp_end.specs.declared.change.EndChange.TheVariants as step
use Rattle.at_adsp_ends.specs.Openings.{ack_came, answer_came, answers_again, confirms_again, connected_to, denial_came}
use Rattle.at_adsp_ends.specs.Openings.{heard_opening, ignored, is_answered, opened, request_came, room_for}
use Rattle.at_adsp_ends.specs.Receiving.{any_request_came, opening_came, part_came, segment_came, settled}
use Rattle.at_adsp_ends.specs.Tables.{by_id, by_remote, freed, has_id}
use Rattle.at_adsp_ends.specs.Tables.{next_id, stayed}
use Rattle.at_adsp.specs.Network.{Network, Setting}
use Rattle.at_adsp.specs.Network.{does}
use Rattle.at_adsp.proofs.Ranges.{AllLawful, EndFits}
use Rattle.at_adsp.proofs.SentRanges.{answering_fits}
use Rattle.at_adsp.proofs.SentRanges.{confirming_fits, denying_fits, heard_fits, hearing_fits}
use Rattle.at_adsp.proofs.RangeHistories.{NetworkFits, next_below}
use Rattle.at_adsp.proofs.RangeMoves.{alone, does_fits, moved_fits, stayed_fits, freed_fits, made_fits, ignored_fits}
use Rattle.at_adsp.proofs.RangeMoves.{found_fits}

module _ (setting : Setting) (n : Network) (at : Address) (here : IsAddress at) (f : NetworkFits n) (N : Numbers)
    (fits : (p : ℕ) → N.at p < 2 ^ 32) (from : Address) (there : IsAddress from) (s : Content)
    (lawful : IsLawful s) where
  abbrev r : Remote
  r = record { address = from; id = s.source }

  source_fits : s.source < 2 ^ 16
  source_fits = let numbers = lawful.numbers in numbers.source

  room_fits : (o : Option ℕ) → ((id : ℕ) → o ≡ Some id → next_id (n.tables at) ≡ Some id)
      → NetworkFits (does setting n at (room_for N (n.tables at) r o))
  room_fits None draws = does_fits setting n at here f (room_for N (n.tables at) r None) (f.tables at)
      ((there, denying_fits s.source source_fits), tt)
  room_fits (Some id) draws =
      let t = f.tables at in
      let e : EndFits (half_end (n.tables at).rooms id r) =
      record {
        id = next_below (n.tables at) id (f.tables at) (draws id refl);
        asked = there;
        remote = source_fits;
        received = lit< tt;
        room = t.room;
        unacknowledged = tt;
        waiting = tt;
      } in
      made_fits setting n at here f (step.Made id) (half_end (n.tables at).rooms id r)
      (answering N (half_end (n.tables at).rooms id r) ∷ [])
      (alone (half_end (n.tables at).rooms id r) (answering N (half_end (n.tables at).rooms id r)) e
      (answering_fits N fits (half_end (n.tables at).rooms id r) e))

  request_fits : (o : Option EndState) → by_remote (n.tables at) r ≡ o
      → NetworkFits (does setting n at (request_came N (n.tables at) r o))
  request_fits None is = room_fits (cond (n.tables at).listening (next_id (n.tables at)) None)
      (draws (n.tables at).listening)
    where
      draws : (b : Bool) → (id : ℕ) → cond b (next_id (n.tables at)) None ≡ Some id → next_id (n.tables at)
          ≡ Some id
      draws true id h = h
      draws false id h = absurd (cc)
  request_fits (Some e) is = go (answers_again e)
    where
      go : (b : Bool) → NetworkFits
          (does setting n at (cond b (stayed (n.tables at) step.Again e (answering N e ∷ []))
          (ignored (n.tables at))))
      go true = let h = found_fits setting n at here f (has_remote r) e is in
          stayed_fits setting n at here f step.Again e (answering N e ∷ [])
          (alone e (answering N e) h (answering_fits N fits e h))
      go false = ignored_fits setting n at here f

  any_fits : (b : Bool) → NetworkFits (does setting n at (any_request_came N (n.tables at) r b))
  any_fits true = ignored_fits setting n at here f
  any_fits false = request_fits (by_remote (n.tables at) r) refl

  -- an end opens, and sends these packets first
  opened_fits : (e : EndState) (first : List Content) → EndFits e → AllLawful first
      → NetworkFits (does setting n at (opened N (n.tables at) e s first))
  opened_fits e first h each =
      let o = hearing_fits N fits e s.window (acks N e.sender s.next) h in
      moved_fits setting n at here f (step.Opened e.id) (heard_opening N e s).after
      (first ++ (heard_opening N e s).sent)
      (record { end = o.end; sent = all_both IsLawful first (heard_opening N e s).sent each o.sent })

  ack_fits : (dest : ℕ) (o : Option EndState) → by_id (n.tables at) dest ≡ o
      → NetworkFits (does setting n at (ack_came N (n.tables at) r s o))
  ack_fits dest None is = ignored_fits setting n at here f
  ack_fits dest (Some e) is = go (is_half e.phase && has_remote r e)
    where
      go : (b : Bool) → NetworkFits
          (does setting n at (cond b (opened N (n.tables at) (record e { phase = phase.Open }) s [])
          (ignored (n.tables at))))
      go true =
          let h = found_fits setting n at here f (has_id dest) e is in
          opened_fits (record e { phase = phase.Open }) []
          (record {
            id = h.id;
            asked = h.asked;
            remote = h.remote;
            received = h.received;
            room = h.room;
            unacknowledged = h.unacknowledged;
            waiting = h.waiting;
          }) tt
      go false = ignored_fits setting n at here f

  answer_fits : (dest : ℕ) (there_is o : Option EndState) → by_id (n.tables at) dest ≡ o
      → NetworkFits (does setting n at (answer_came N (n.tables at) r s there_is o))
  answer_fits dest there_is None is = ignored_fits setting n at here f
  answer_fits dest there_is (Some e) is = go (is_answered e r there_is) (confirms_again e r)
    where
      h : EndFits e
      h = found_fits setting n at here f (has_id dest) e is

      opens : EndFits (connected_to e r)
      opens = record {
        id = h.id;
        asked = h.asked;
        remote = source_fits;
        received = h.received;
        room = h.room;
        unacknowledged = h.unacknowledged;
        waiting = h.waiting;
      }

      go : (b c : Bool) →
          NetworkFits (does setting n at
          (cond b (opened N (n.tables at) (connected_to e r) s (confirming N (connected_to e r) ∷ []))
          (cond c (stayed (n.tables at) step.Again e (confirming N e ∷ [])) (ignored (n.tables at)))))
      go true c = opened_fits (connected_to e r) (confirming N (connected_to e r) ∷ []) opens
          (confirming_fits N fits (connected_to e r) opens, tt)
      go false true = stayed_fits setting n at here f step.Again e (confirming N e ∷ [])
          (alone e (confirming N e) h (confirming_fits N fits e h))
      go false false = ignored_fits setting n at here f

  denial_fits : (dest : ℕ) (o : Option EndState) → by_id (n.tables at) dest ≡ o
      → NetworkFits (does setting n at (denial_came (n.tables at) from o))
  denial_fits dest None is = ignored_fits setting n at here f
  denial_fits dest (Some e) is = go (is_opening e.phase && same_address e.asked from)
    where
      go : (b : Bool) → NetworkFits
          (does setting n at (cond b (freed (n.tables at) (step.Denied e.id) e) (ignored (n.tables at))))
      go true = freed_fits setting n at here f (step.Denied e.id) e
      go false = ignored_fits setting n at here f

  segment_fits : (o : Option EndState) → by_remote (n.tables at) r ≡ o
      → NetworkFits (does setting n at (segment_came N (n.tables at) s o))
  segment_fits None is = ignored_fits setting n at here f
  segment_fits (Some e) is = go (is_open e.phase)
    where
      go : (b : Bool) → NetworkFits
          (does setting n at (cond b (settled (n.tables at) (heard N e (told N e s))) (ignored (n.tables at))))
      go true =
          moved_fits setting n at here f (heard N e (told N e s)).step (heard N e (told N e s)).after
          (heard N e (told N e s)).sent
          (heard_fits N fits e (told N e s) (found_fits setting n at here f (has_remote r) e is))
      go false = ignored_fits setting n at here f

  opening_fits : (kind : OpenKind) (dest : ℕ)
      → NetworkFits (does setting n at (opening_came N (n.tables at) r s kind dest))
  opening_fits Request dest = any_fits (s.source == 0)
  opening_fits Acknowledgement dest = ack_fits dest (by_id (n.tables at) dest) refl
  opening_fits RequestAndAcknowledgement dest =
      answer_fits dest (by_remote (n.tables at) r) (by_id (n.tables at) dest) refl
  opening_fits Denial dest = denial_fits dest (by_id (n.tables at) dest) refl

  pub part_fits : (part : Part) → NetworkFits (does setting n at (part_came N (n.tables at) r s part))
  part_fits (Open kind dest) = opening_fits kind dest
  part_fits other = segment_fits (by_remote (n.tables at) r) refl
