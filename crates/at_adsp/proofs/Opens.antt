-- An end that opens by a segment had not opened before, and has opened then.
use Rattle.std.proofs.Common.{◌≡◌, ℕ, Bool, true, false, cond, List, [], ◌∷◌, Option, Some, None, refl, sym, ap, ◌∙◌}
use Rattle.std.specs.Prelude.{find, is_none, ◌==◌, ◌&&◌}
use Rattle.std.proofs.lemmas.Bool.{and_parts, eqb-true, eq-eqb}
use Rattle.at_ddp.specs.Address.{same_address}
use Rattle.at_ddp.specs.Tables.{replaced}
use Rattle.at_ddp.specs.declared.address.Address.{Address}
use Rattle.at_ddp.proofs.Alls.{found_passes}
use Rattle.at_adsp_frame.specs.Segments.{Content, Open, Part}
use Rattle.at_adsp_frame.specs.declared.segment.OpenKind.{OpenKind}
use Rattle.at_adsp_frame.specs.declared.segment.OpenKind.TheVariants.{Request, Acknowledgement}
use Rattle.at_adsp_frame.specs.declared.segment.OpenKind.TheVariants.{RequestAndAcknowledgement, Denial}
use Rattle.at_adsp_end.specs.Ends.{EndState, answering, confirming, has_opened, has_remote, is_half, is_open}
use Rattle.at_adsp_end.specs.Ends.{is_opening}
use Rattle.at_adsp_end.specs.Hearing.{heard, told}
use Rattle.at_adsp_end.specs.Positions.{Numbers}
use Rattle.at_adsp_end.specs.Sending.{acks, hearing}
use Rattle.at_adsp_end.specs.declared.phase.Phase.TheVariants as phase
use Rattle.at_adsp_end.specs.declared.remote.Remote.{Remote}
use Rattle.at_adsp_end.specs.declared.change.EndChange.{EndChange}
use Rattle.at_adsp_end.specs.declared.change.EndChange.TheVariants as step
use Rattle.at_adsp_ends.specs.Openings.{ack_came, answer_came, answers_again, confirms_again, connected_to, denial_came}
use Rattle.at_adsp_ends.specs.Openings.{heard_opening, ignored, is_answered, opened, request_came, room_for}
use Rattle.at_adsp_ends.specs.Receiving.{any_request_came, opening_came, part_came, received, segment_came, settled}
use Rattle.at_adsp_ends.specs.Tables.{Done, EndTable, by_id, by_remote, freed, has_id, next_id, stayed}
use Rattle.at_adsp.proofs.EndMoves.{half_is, hearing_same, opening_is}
use Rattle.at_adsp.proofs.Finds.{replaced_found}
use Rattle.at_adsp.proofs.StreamHistories.{IsQuiet, heard_step}

-- the end under this identifier opens
pub record Opens (old new : EndTable) (id : ℕ) : Type 0 where
  pub before : EndState
  pub was : by_id old id ≡ Some before
  pub unopened : has_opened before.phase ≡ false
  pub after : EndState
  pub is : by_id new id ≡ Some after
  pub opened : has_opened after.phase ≡ true

-- this holds of an end that opens by the step
abbrev pub OpensBy : EndTable → EndTable → EndChange → Type 0
OpensBy old new (step.Opened id) = Opens old new id
OpensBy old new other = Unit {0}

quiet_opens : (old new : EndTable) (s : EndChange) → IsQuiet s → OpensBy old new s
quiet_opens old new (step.Opened id) quiet = absurd quiet
quiet_opens old new other quiet = tt

module _ (N : Numbers) (t : EndTable) (from : Address) (s : Content) where
  abbrev r : Remote
  r = record { address = from; id = s.source }

  abbrev After : Done EndChange → Type 0
  After d = OpensBy t d.after d.answer

  -- the end that opens, after it heard what opened it
  abbrev heard_first : EndState → EndState
  heard_first f = (heard_opening N f s).after

  -- an end that stands under this identifier opens as this one, and hears the segment
  opened_so : (dest : ℕ) (e f : EndState) (first : List Content) → by_id t dest ≡ Some e → has_opened e.phase ≡ false
      → f.id ≡ e.id → has_opened f.phase ≡ true → After (opened N t f s first)
  opened_so dest e f first is closed own opens =
      let same = hearing_same N f s.window (acks N f.sender s.next) in
      let stood : by_id t f.id
      ≡ Some e = ap (by_id t) (own ∙ eqb-true e.id dest (found_passes (has_id dest) t.ends e is)) ∙ is in
      record {
        before = e;
        was = stood;
        unopened = closed;
        after = heard_first f;
        is =
            ap (λ k. find (has_id k) (replaced (has_id (heard_first f).id) (heard_first f) t.ends)) (sym same.id)
            ∙ replaced_found (has_id (heard_first f).id) e (heard_first f) t.ends (ap (by_id t) same.id ∙ stood)
            (eq-eqb (heard_first f).id (heard_first f).id refl);
        opened = ap has_opened same.phase ∙ opens;
      }

  ack_opens : (dest : ℕ) (o : Option EndState) → by_id t dest ≡ o → After (ack_came N t r s o)
  ack_opens dest None is = tt
  ack_opens dest (Some e) is = go (is_half e.phase && has_remote r e) refl
    where
      go : (b : Bool) → (is_half e.phase && has_remote r e) ≡ b
          → After (cond b (opened N t (record e { phase = phase.Open }) s []) (ignored t))
      go true h = opened_so dest e (record e { phase = phase.Open }) [] is
          (ap has_opened (half_is e.phase (and_parts (is_half e.phase) (has_remote r e) h).0)) refl refl
      go false h = tt

  answer_opens : (dest : ℕ) (there o : Option EndState) → by_id t dest ≡ o → After (answer_came N t r s there o)
  answer_opens dest there None is = tt
  answer_opens dest there (Some e) is = go (is_answered e r there) refl (confirms_again e r)
    where
      go : (b : Bool) → is_answered e r there ≡ b → (c : Bool) →
          After (cond b (opened N t (connected_to e r) s (confirming N (connected_to e r) ∷ []))
          (cond c (stayed t step.Again e (confirming N e ∷ [])) (ignored t)))
      go true h c =
          let opening = (and_parts (is_opening e.phase) (same_address e.asked from)
          (and_parts (is_opening e.phase && same_address e.asked from) (is_none there) h).0).0 in
          opened_so dest e (connected_to e r) (confirming N (connected_to e r) ∷ []) is
          (ap has_opened (opening_is e.phase opening)) refl refl
      go false h true = tt
      go false h false = tt

  room_opens : (o : Option ℕ) → After (room_for N t r o)
  room_opens None = tt
  room_opens (Some id) = tt

  request_opens : (o : Option EndState) → After (request_came N t r o)
  request_opens None = room_opens (cond t.listening (next_id t) None)
  request_opens (Some e) = go (answers_again e)
    where
      go : (b : Bool) → After (cond b (stayed t step.Again e (answering N e ∷ [])) (ignored t))
      go true = tt
      go false = tt

  any_opens : (b : Bool) → After (any_request_came N t r b)
  any_opens true = tt
  any_opens false = request_opens (by_remote t r)

  denial_opens : (o : Option EndState) → After (denial_came t from o)
  denial_opens None = tt
  denial_opens (Some e) = go (is_opening e.phase && same_address e.asked from)
    where
      go : (b : Bool) → After (cond b (freed t (step.Denied e.id) e) (ignored t))
      go true = tt
      go false = tt

  segment_opens : (o : Option EndState) → After (segment_came N t s o)
  segment_opens None = tt
  segment_opens (Some e) = go (is_open e.phase)
    where
      go : (b : Bool) → After (cond b (settled t (heard N e (told N e s))) (ignored t))
      go true = quiet_opens t (settled t (heard N e (told N e s))).after (heard N e (told N e s)).step
          (heard_step N (hearing N e s.window (acks N e.sender s.next)) s.ack (told N e s).saying)
      go false = tt

  opening_opens : (kind : OpenKind) (dest : ℕ) → After (opening_came N t r s kind dest)
  opening_opens Request dest = any_opens (s.source == 0)
  opening_opens Acknowledgement dest = ack_opens dest (by_id t dest) refl
  opening_opens RequestAndAcknowledgement dest = answer_opens dest (by_remote t r) (by_id t dest) refl
  opening_opens Denial dest = denial_opens (by_id t dest)

  part_opens : (part : Part) → After (part_came N t r s part)
  part_opens (Open kind dest) = opening_opens kind dest
  part_opens other = segment_opens (by_remote t r)

  pub received_opens : OpensBy t (received N t from s).after (received N t from s).answer
  received_opens = part_opens s.body
