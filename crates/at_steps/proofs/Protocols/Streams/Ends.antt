-- Ends that are found at a node, and ends that a segment's step names.
use Rattle.std.proofs.Common.{◌≡◌, ℕ, ◌≤◌, Bool, true, false, cond, List, [], ◌∷◌, length, map, take, Option, Some}
use Rattle.std.proofs.Common.{None, Result, Ok, Err, refl, sym, ap, subst, arith}
use Rattle.std.specs.Prelude.{find, ◌==◌, ◌&&◌}
use Rattle.std.specs.List.{AllByRecursion}
use Rattle.std.proofs.lemmas.Bool.{eq-eqb}
use Rattle.std.proofs.lemmas.List.{length-take}
use Rattle.at_ddp.specs.Address.{same_address}
use Rattle.at_ddp.specs.declared.address.Address.{Address}
use Rattle.at_ddp.proofs.Alls.{all_found}
use Rattle.at_adsp_frame.specs.Segments.{Content, Open, Part}
use Rattle.at_adsp_frame.specs.declared.segment.OpenKind.{OpenKind}
use Rattle.at_adsp_frame.specs.declared.segment.OpenKind.TheVariants.{Request, Acknowledgement}
use Rattle.at_adsp_frame.specs.declared.segment.OpenKind.TheVariants.{RequestAndAcknowledgement, Denial}
use Rattle.at_adsp_end.specs.Calls.{reading}
use Rattle.at_adsp_end.specs.Ends.{Change, EndState, answering, confirming, has_opened, has_remote, is_half, is_open}
use Rattle.at_adsp_end.specs.Ends.{is_opening, places}
use Rattle.at_adsp_end.specs.Hearing.{Advises, Answers, Asks, Brings, Closes, Resets, Saying, after_hearing, heard}
use Rattle.at_adsp_end.specs.Hearing.{is_empty, told}
use Rattle.at_adsp_end.specs.Positions.{wire}
use Rattle.at_adsp_end.specs.Sending.{acks, hearing}
use Rattle.at_adsp_end.specs.declared.fault.StreamFault.{StreamFault}
use Rattle.at_adsp_end.specs.declared.fault.StreamFault.TheVariants.{NoRoom, NotOpen}
use Rattle.at_adsp_end.specs.declared.forward.Forward.TheVariants.{Jump, Older, Beyond}
use Rattle.at_adsp_end.specs.declared.item.Item.{Item}
use Rattle.at_adsp_end.specs.declared.phase.Phase.TheVariants as phase
use Rattle.at_adsp_end.specs.declared.remote.Remote.{Remote}
use Rattle.at_adsp_end.specs.declared.change.EndChange.{EndChange}
use Rattle.at_adsp_end.specs.declared.change.EndChange.TheVariants as step
use Rattle.at_adsp_ends.specs.Calls.{finds_no_room, read_at, reset_at, wrote, wrote_some}
use Rattle.at_adsp_ends.specs.Openings.{ack_came, answer_came, answers_again, confirms_again, connected_to, denial_came}
use Rattle.at_adsp_ends.specs.Openings.{ignored, is_answered, opened, request_came, room_for}
use Rattle.at_adsp_ends.specs.Receiving.{any_request_came, opening_came, part_came, received, segment_came, settled}
use Rattle.at_adsp_ends.specs.Tables.{Done, EndTable, by_id, by_remote, freed, has_id, moved, next_id, stayed}
use Rattle.at_adsp.specs.Network.{Made, is_end}
use Rattle.at_adsp.specs.Streams.{has_number}
use Rattle.at_ddp.proofs.TableLemmas.{found_too}

pub ok_same : {X : Type 0} (x y : X) → ◌≡◌ {A = Result X StreamFault} (Ok x) (Ok y) → x ≡ y
ok_same x y h = cc

-- an end that is found under an identifier has it
pub found_id : (t : EndTable) (id : ℕ) (e : EndState) → by_id t id ≡ Some e → (e.id == id) ≡ true
found_id t id e is = (all_found (λ (x : EndState). Unit {0}) (has_id id) t.ends e (each t.ends) is).1
  where
    each : (es : List EndState) → AllByRecursion (λ (x : EndState). Unit {0}) es
    each [] = tt
    each (x ∷ es) = (tt, each es)

pub find_mapped : (at : Address) (id : ℕ) (made : List Made) (m : Made) → find (is_end at id) made ≡ Some m
    → find (has_number at id) (map (λ (x : Made). x.stream) made) ≡ Some m.stream
find_mapped at id [] m is = absurd (cc)
find_mapped at id (x ∷ made) m is = go (λ g. find_mapped at id made m g) (has_number at id x.stream) is
  where
    go : (find (is_end at id) made ≡ Some m → find (has_number at id) (map (λ (y : Made). y.stream) made)
        ≡ Some m.stream) → (b : Bool) → cond b (Some x) (find (is_end at id) made) ≡ Some m
        → cond b (Some x.stream) (find (has_number at id) (map (λ (y : Made). y.stream) made)) ≡ Some m.stream
    go ih true g = let same : x ≡ m = cc in ap (λ (y : Made). Some y.stream) same
    go ih false g = ih g

-- an end has this identifier
abbrev pub Finds : EndTable → ℕ → Type 0
Finds t id = (e : EndState) × (by_id t id ≡ Some e)

-- an end that is found by any test stands under its identifier
pub finds_it : (t : EndTable) (q : EndState → Bool) (e : EndState) → find q t.ends ≡ Some e → Finds t e.id
finds_it t q e is = found_too (has_id e.id) q e t.ends is (eq-eqb e.id e.id refl)

-- ---- what a call that is not refused says of its end

module _ (t : EndTable) (id : ℕ) where
  abbrev Has : Option EndState → Type 0
  Has o = (e : EndState) × (o ≡ Some e)

  wrote_some_ok : (items : List Item) (o : Option EndState) (d : Done ℕ) → wrote wire t items o ≡ Ok d → Has o
      × (d.answer ≤ length items)
  wrote_some_ok items None d is = absurd (cc)
  wrote_some_ok items (Some e) d is = ((e, refl), go (is_open e.phase) (finds_no_room e items) is)
    where
      go : (b c : Bool) → ◌≡◌ {A = Result (Done ℕ) StreamFault}
          (cond b (cond c (Err NoRoom) (Ok (wrote_some wire t items e))) (Err NotOpen)) (Ok d) → d.answer ≤ length items
      go true true h = absurd (cc)
      go true false h =
          let answer : length (take (places e) items)
          ≡ d.answer = ap (λ (x : Done ℕ). x.answer) (ok_same (wrote_some wire t items e) d h) in
          let few = length-take (places e) items in
          omega (arith, answer, few)
      go false c h = absurd (cc)

  pub wrote_ok : (items : List Item) (d : Done ℕ) → wrote wire t items (by_id t id) ≡ Ok d → Finds t id
      × (d.answer ≤ length items)
  wrote_ok items d is = wrote_some_ok items (by_id t id) d is

  read_some_ok : (count : ℕ) (o : Option EndState) (d : Done (List Item)) → read_at wire t count o ≡ Ok d → Has o
      × (length d.answer ≤ count)
  read_some_ok count None d is = absurd (cc)
  read_some_ok count (Some e) d is = ((e, refl), go (has_opened e.phase) is)
    where
      its : Done (List Item)
      its = moved t (take count e.receiver.unread) (reading wire e count).after (reading wire e count).sent

      go : (b : Bool) → ◌≡◌ {A = Result (Done (List Item)) StreamFault} (cond b (Ok its) (Err NotOpen)) (Ok d)
          → length d.answer ≤ count
      go true h =
          let answer : length (take count e.receiver.unread)
          ≡ length d.answer = ap (λ (x : Done (List Item)). length x.answer) (ok_same its d h) in
          let few = length-take count e.receiver.unread in
          omega (arith, answer, few)
      go false h = absurd (cc)

  pub read_ok : (count : ℕ) (d : Done (List Item)) → read_at wire t count (by_id t id) ≡ Ok d → Finds t id
      × (length d.answer ≤ count)
  read_ok count d is = read_some_ok count (by_id t id) d is

  reset_some_ok : (o : Option EndState) (d : Done (Unit {0})) → reset_at wire t o ≡ Ok d → Has o
  reset_some_ok None d is = absurd (cc)
  reset_some_ok (Some e) d is = (e, refl)

  pub reset_ok : (d : Done (Unit {0})) → reset_at wire t (by_id t id) ≡ Ok d → Finds t id
  reset_ok d is = reset_some_ok (by_id t id) d is

-- ---- which end the step of a segment names

abbrev pub IsCame : EndTable → EndChange → Type 0
IsCame t (step.Opened id) = Finds t id
IsCame t (step.Denied id) = Finds t id
IsCame t (step.Heard id items) = Finds t id
IsCame t (step.Dropped id) = Finds t id
IsCame t (step.Closed id) = Finds t id
IsCame t (step.Freed id) = ⊥
IsCame t step.Idle = ⊥
IsCame t other = Unit {0}

hearing_id : (e : EndState) (window : ℕ) (acks : Option ℕ) → (hearing wire e window acks).after.id ≡ e.id
hearing_id e window None = refl
hearing_id e window (Some k) = refl

module _ (t : EndTable) where
  after_hearing_came : (c : Change) (ack : Bool) (s : Saying) → Finds t c.after.id
      → IsCame t (after_hearing wire c ack s).step
  after_hearing_came c ack (Brings items) f = f
  after_hearing_came c ack Asks f = f
  after_hearing_came c ack Closes f = f
  after_hearing_came c ack (Resets (Jump d)) f = f
  after_hearing_came c ack (Resets Older) f = f
  after_hearing_came c ack (Resets Beyond) f = f
  after_hearing_came c ack (Answers false) f = f
  after_hearing_came c ack (Answers true) f = f
  after_hearing_came c ack Advises f = go (is_empty c.after.sender.unacknowledged)
    where
      go : (b : Bool) → IsCame t (cond b (step.Heard c.after.id 0) step.Again)
      go true = f
      go false = tt

  module _ (from : Address) (s : Content) where
    abbrev r : Remote
    r = record { address = from; id = s.source }

    room_came : (o : Option ℕ) → IsCame t (room_for wire t r o).answer
    room_came None = tt
    room_came (Some id) = tt

    asked_came : (o : Option EndState) → IsCame t (request_came wire t r o).answer
    asked_came None = room_came (cond t.listening (next_id t) None)
    asked_came (Some e) = go (answers_again e)
      where
        go : (b : Bool) → IsCame t (cond b (stayed t step.Again e (answering wire e ∷ [])) (ignored t)).answer
        go true = tt
        go false = tt

    any_came : (b : Bool) → IsCame t (any_request_came wire t r b).answer
    any_came true = tt
    any_came false = asked_came (by_remote t r)

    acked_came : (dest : ℕ) (o : Option EndState) → by_id t dest ≡ o → IsCame t (ack_came wire t r s o).answer
    acked_came dest None is = tt
    acked_came dest (Some e) is = go (is_half e.phase && has_remote r e)
      where
        go : (b : Bool) → IsCame t (cond b (opened wire t (record e { phase = phase.Open }) s []) (ignored t)).answer
        go true = finds_it t (has_id dest) e is
        go false = tt

    answered_came : (dest : ℕ) (it o : Option EndState) → by_id t dest ≡ o
        → IsCame t (answer_came wire t r s it o).answer
    answered_came dest it None is = tt
    answered_came dest it (Some e) is = go (is_answered e r it) (confirms_again e r)
      where
        go : (b c : Bool) → IsCame t
            (cond b (opened wire t (connected_to e r) s (confirming wire (connected_to e r) ∷ []))
            (cond c (stayed t step.Again e (confirming wire e ∷ [])) (ignored t))).answer
        go true c = finds_it t (has_id dest) e is
        go false true = tt
        go false false = tt

    denied_came : (dest : ℕ) (o : Option EndState) → by_id t dest ≡ o → IsCame t (denial_came t from o).answer
    denied_came dest None is = tt
    denied_came dest (Some e) is = go (is_opening e.phase && same_address e.asked from)
      where
        go : (b : Bool) → IsCame t (cond b (freed t (step.Denied e.id) e) (ignored t)).answer
        go true = finds_it t (has_id dest) e is
        go false = tt

    heard_came : (o : Option EndState) → by_remote t r ≡ o → IsCame t (segment_came wire t s o).answer
    heard_came None is = tt
    heard_came (Some e) is = go (is_open e.phase)
      where
        go : (b : Bool) → IsCame t (cond b (settled t (heard wire e (told wire e s))) (ignored t)).answer
        go true =
            let c = hearing wire e s.window (acks wire e.sender s.next) in
            after_hearing_came c s.ack (told wire e s).saying
            (subst (Finds t) (sym (hearing_id e s.window (acks wire e.sender s.next)))
            (finds_it t (has_remote r) e is))
        go false = tt

    opening_came_so : (kind : OpenKind) (dest : ℕ) → IsCame t (opening_came wire t r s kind dest).answer
    opening_came_so Request dest = any_came (s.source == 0)
    opening_came_so Acknowledgement dest = acked_came dest (by_id t dest) refl
    opening_came_so RequestAndAcknowledgement dest = answered_came dest (by_remote t r) (by_id t dest) refl
    opening_came_so Denial dest = denied_came dest (by_id t dest) refl

    part_came_so : (part : Part) → IsCame t (part_came wire t r s part).answer
    part_came_so (Open kind dest) = opening_came_so kind dest
    part_came_so other = heard_came (by_remote t r) refl

    pub received_came : IsCame t (received wire t from s).answer
    received_came = part_came_so s.body
