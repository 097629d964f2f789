-- How many segments a table of ends sends at one event: those of one end.
use Rattle.std.proofs.Common.{ℕ, ◌≤◌, Bool, true, false, cond, List, [], ◌∷◌, ◌++◌, length, take}
use Rattle.std.proofs.Common.{Option, Some, None, Result, Ok, Err, arith}
use Rattle.std.specs.Prelude.{IfOk, IfSome, find, ◌==◌, ◌&&◌}
use Rattle.std.specs.List.{AllByRecursion}
use Rattle.std.proofs.lemmas.List.{length-append, length-map}
use Rattle.at_ddp.specs.Address.{same_address}
use Rattle.at_ddp.specs.declared.address.Address.{Address}
use Rattle.at_adsp_frame.specs.Segments.{Content, Part, Open}
use Rattle.at_adsp_frame.specs.declared.segment.OpenKind.{OpenKind}
use Rattle.at_adsp_frame.specs.declared.segment.OpenKind.TheVariants as kind
use Rattle.at_adsp_end.specs.Calls.{after_read, read_opens, reading, ticked, writing}
use Rattle.at_adsp_end.specs.Ends.{EndState, FitsRooms, acknowledging, addressed, answering, confirming, has_opened}
use Rattle.at_adsp_end.specs.Ends.{has_remote, is_closed, is_half, is_open, is_opening}
use Rattle.at_adsp_end.specs.Hearing.{heard, told}
use Rattle.at_adsp_end.specs.Positions.{wire}
use Rattle.at_adsp_end.specs.Sending.{acks, closing, resetting_now}
use Rattle.at_adsp_end.specs.declared.fault.StreamFault.{StreamFault}
use Rattle.at_adsp_end.specs.declared.fault.StreamFault.TheVariants.{NoRoom, NotOpen}
use Rattle.at_adsp_end.specs.declared.item.Item.{Item}
use Rattle.at_adsp_end.specs.declared.phase.Phase.TheVariants as phase
use Rattle.at_adsp_end.specs.declared.remote.Remote.{Remote}
use Rattle.at_adsp_end.specs.declared.change.EndChange.TheVariants.{Again, Closed, Denied, Freed}
use Rattle.at_adsp_end.specs.declared.tick.Tick.{Tick}
use Rattle.at_adsp_ends.specs.Calls.{closed_at, connected, finds_no_room, frees, read_at, reset_at, ticked_at, wrote}
use Rattle.at_adsp_ends.specs.Calls.{wrote_some}
use Rattle.at_adsp_ends.specs.Openings.{ack_came, answer_came, answers_again, confirms_again, connected_to, denial_came}
use Rattle.at_adsp_ends.specs.Openings.{heard_opening, ignored, is_answered, opened, request_came, room_for, sender_of}
use Rattle.at_adsp_ends.specs.Receiving.{any_request_came, opening_came, part_came, received, segment_came, settled}
use Rattle.at_adsp_ends.proofs.SegmentCounts.{heard_few, opened_few as end_opened_few, tick_few as end_ticked_few}
use Rattle.at_adsp_ends.proofs.SegmentCounts.{write_few as written_few}
use Rattle.at_adsp_ends.specs.Tables.{Done, EndTable, SendsFew, by_id, by_remote, freed, has_id, moved, next_id, stayed}

-- the end that is found has queues that fit
found_fits : (p : EndState → Bool) (ends : List EndState) → AllByRecursion FitsRooms ends
    → IfSome (find p ends) FitsRooms
found_fits p [] all = tt
found_fits p (e ∷ ends) all = go (p e) (found_fits p ends all.1)
  where
    go : (b : Bool) → IfSome (find p ends) FitsRooms → IfSome (cond b (Some e) (find p ends)) FitsRooms
    go true later = all.0
    go false later = later

addressed_few : (to : Address) (sent : List Content) (n : ℕ) → length sent ≤ n
    → length (addressed to sent) ≤ n
addressed_few to sent n few = omega (arith, few, length-map {B = Address × Content} sent (λ s. (to, s)))

either : {X : Type 0} (b : Bool) (x y : Done X) → SendsFew x → SendsFew y → SendsFew (cond b x y)
either true x y fx fy = fx
either false x y fx fy = fy

abbrev FewOk : {X : Type 0} → Result (Done X) StreamFault → Type 0
FewOk r = IfOk r SendsFew

either_ok : {X : Type 0} (b : Bool) (x y : Result (Done X) StreamFault) → FewOk x → FewOk y → FewOk (cond b x y)
either_ok true x y fx fy = fx
either_ok false x y fx fy = fy

module _ (t : EndTable) where
  -- ---- segments

  module _ (r : Remote) (s : Content) where
    room_few : (id : Option ℕ) → SendsFew (room_for wire t r id)
    room_few None = omega arith
    room_few (Some id) = omega arith

    request_few : (there : Option EndState) → SendsFew (request_came wire t r there)
    request_few None = room_few (cond t.listening (next_id t) None)
    request_few (Some e) =
        either (answers_again e) (stayed t Again e (answering wire e ∷ [])) (ignored t) (omega arith) (omega arith)

    any_request_few : (none : Bool) → SendsFew (any_request_came wire t r none)
    any_request_few true = omega arith
    any_request_few false = request_few (by_remote t r)

    -- an end opens, and sends these packets and then what waits
    opened_few : (e : EndState) (first : List Content) → FitsRooms e → length first ≤ 1
        → SendsFew (opened wire t e s first)
    opened_few e first fits one =
        let sent = (heard_opening wire e s).sent in
        let few = end_opened_few e s.window (acks wire e.sender s.next) fits in
        addressed_few (heard_opening wire e s).after.asked (first ++ sent) 131070
        (omega (arith, one, few, length-append first sent))

    answer_few : (there named : Option EndState) → IfSome named FitsRooms
        → SendsFew (answer_came wire t r s there named)
    answer_few there None fits = omega arith
    answer_few there (Some e) fits =
        let now = connected_to e r in
        let again = cond (confirms_again e r) (stayed t Again e (confirming wire e ∷ [])) (ignored t) in
        either (is_answered e r there) (opened wire t now s (confirming wire now ∷ [])) again
        (opened_few now (confirming wire now ∷ []) (same_queues fits) (omega arith))
        (either (confirms_again e r) (stayed t Again e (confirming wire e ∷ [])) (ignored t)
        (omega arith) (omega arith))
      where
        same_queues : FitsRooms e → FitsRooms (connected_to e r)
        same_queues f = record {
          unread = f.unread;
          queued = f.queued;
          receive_room = f.receive_room;
          send_room = f.send_room;
        }

    ack_few : (named : Option EndState) → IfSome named FitsRooms → SendsFew (ack_came wire t r s named)
    ack_few None fits = omega arith
    ack_few (Some e) fits =
        let now : EndState = record e { phase = phase.Open } in
        either (is_half e.phase && has_remote r e) (opened wire t now s []) (ignored t)
        (opened_few now [] (same_queues fits) (omega arith)) (omega arith)
      where
        same_queues : FitsRooms e → FitsRooms (record e { phase = phase.Open })
        same_queues f = record {
          unread = f.unread;
          queued = f.queued;
          receive_room = f.receive_room;
          send_room = f.send_room;
        }

    denial_few : (from : Address) (named : Option EndState) → SendsFew (denial_came t from named)
    denial_few from None = omega arith
    denial_few from (Some e) =
        either (is_opening e.phase && same_address e.asked from) (freed t (Denied e.id) e) (ignored t)
        (omega arith) (omega arith)

    segment_few : (there : Option EndState) → IfSome there FitsRooms → SendsFew (segment_came wire t s there)
    segment_few None fits = omega arith
    segment_few (Some e) fits =
        let o = heard wire e (told wire e s) in
        either (is_open e.phase) (settled t o) (ignored t)
        (addressed_few o.after.asked o.sent 131070 (heard_few e (told wire e s) fits)) (omega arith)

    module _ (all : AllByRecursion FitsRooms t.ends) where
      opening_few : (k : OpenKind) (dest : ℕ) → SendsFew (opening_came wire t r s k dest)
      opening_few kind.Request dest = any_request_few (r.id == 0)
      opening_few kind.Acknowledgement dest = ack_few (by_id t dest) (found_fits (has_id dest) t.ends all)
      opening_few kind.RequestAndAcknowledgement dest =
          answer_few (by_remote t r) (by_id t dest) (found_fits (has_id dest) t.ends all)
      opening_few kind.Denial dest = denial_few r.address (by_id t dest)

      part_few : (p : Part) → SendsFew (part_came wire t r s p)
      part_few (Open k dest) = opening_few k dest
      part_few other = segment_few (by_remote t r) (found_fits (has_remote r) t.ends all)

  pub received_few : (from : Address) (s : Content) → AllByRecursion FitsRooms t.ends
      → SendsFew (received wire t from s)
  received_few from s all = part_few (sender_of from s) s all s.body

  -- ---- calls and timers, of the end that is found

  pub connect_few : (to : Address) (id : Option ℕ) → FewOk (connected t to id)
  connect_few to None = tt
  connect_few to (Some id) = omega arith

  close_few : (e : Option EndState) → FewOk (closed_at wire t e)
  close_few None = tt
  close_few (Some e) =
      either_ok (is_open e.phase) (Ok (moved t (Closed e.id) (closing wire e).after (closing wire e).sent))
      (Ok (freed t (Freed e.id) e)) (omega arith) (omega arith)

  tick_few : (tick : Tick) (e : Option EndState) → IfSome e FitsRooms → FewOk (ticked_at wire t tick e)
  tick_few tick None fits = tt
  tick_few tick (Some e) fits =
      let o = ticked wire e tick in
      let few = end_ticked_few e tick fits in
      let stays : FewOk (cond (frees e tick) (Ok (freed t (Freed e.id) e)) (Ok (settled t o))) =
      either_ok (frees e tick) (Ok (freed t (Freed e.id) e)) (Ok (settled t o)) (omega arith)
      (addressed_few o.after.asked o.sent 131070 (omega (arith, few))) in
      either_ok (is_closed e.phase) (Err NotOpen) (cond (frees e tick) (Ok (freed t (Freed e.id) e)) (Ok (settled t o)))
      tt stays

  read_few : (count : ℕ) (e : Option EndState) → FewOk (read_at wire t count e)
  read_few count None = tt
  read_few count (Some e) =
      let c = reading wire e count in
      either_ok (has_opened e.phase) (Ok (moved t (take count e.receiver.unread) c.after c.sent)) (Err NotOpen)
      (addressed_few c.after.asked c.sent 131070 (opens (read_opens e count))) tt
    where
      opens : (b : Bool) → length (cond b (acknowledging wire (after_read e count) ∷ []) []) ≤ 131070
      opens true = omega arith
      opens false = omega arith

  reset_few : (e : Option EndState) → FewOk (reset_at wire t e)
  reset_few None = tt
  reset_few (Some e) =
      let c = resetting_now wire e in
      either_ok (is_open e.phase) (Ok (moved t tt c.after c.sent)) (Err NotOpen) (omega arith) tt

  write_few : (items : List Item) (e : Option EndState) → IfSome e FitsRooms → FewOk (wrote wire t items e)
  write_few items None fits = tt
  write_few items (Some e) fits =
      let c = writing wire e items in
      let few = written_few e items fits in
      let some : FewOk (cond (finds_no_room e items) (Err NoRoom) (Ok (wrote_some wire t items e))) =
      either_ok (finds_no_room e items) (Err NoRoom) (Ok (wrote_some wire t items e)) tt
      (addressed_few c.after.asked c.sent 131070 (omega (arith, few))) in
      either_ok (is_open e.phase) (cond (finds_no_room e items) (Err NoRoom) (Ok (wrote_some wire t items e)))
      (Err NotOpen) some tt

  pub closed_few : (id : ℕ) → FewOk (closed_at wire t (by_id t id))
  closed_few id = close_few (by_id t id)

  pub was_read_few : (id count : ℕ) → FewOk (read_at wire t count (by_id t id))
  was_read_few id count = read_few count (by_id t id)

  pub was_reset_few : (id : ℕ) → FewOk (reset_at wire t (by_id t id))
  was_reset_few id = reset_few (by_id t id)

  module _ (all : AllByRecursion FitsRooms t.ends) where
    pub ticked_few : (id : ℕ) (tick : Tick) → FewOk (ticked_at wire t tick (by_id t id))
    ticked_few id tick = tick_few tick (by_id t id) (found_fits (has_id id) t.ends all)

    pub wrote_few : (id : ℕ) (items : List Item) → FewOk (wrote wire t items (by_id t id))
    wrote_few id items = write_few items (by_id t id) (found_fits (has_id id) t.ends all)
