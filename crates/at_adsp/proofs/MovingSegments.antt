-- How far segments, calls and timers let the numbers of the ends of a table go on.
use Rattle.std.proofs.Common.{◌≡◌, ℕ, ◌+◌, Bool, true, false, cond, List, [], ◌∷◌, length, take, Option, Some, None}
use Rattle.std.proofs.Common.{refl, subst, ◌∙◌}
use Rattle.std.specs.Prelude.{◌&&◌, ◌==◌, ◌^◌, find, Ok, Err}
use Rattle.at_ddp.specs.Address.{same_address}
use Rattle.at_ddp.specs.Tables.{replaced}
use Rattle.at_ddp.specs.declared.address.Address.{Address}
use Rattle.at_adsp_frame.specs.Segments.{Content, Part, Open}
use Rattle.at_adsp_frame.specs.declared.segment.OpenKind.{OpenKind}
use Rattle.at_adsp_frame.specs.declared.segment.OpenKind.TheVariants.{Request, Acknowledgement}
use Rattle.at_adsp_frame.specs.declared.segment.OpenKind.TheVariants.{RequestAndAcknowledgement, Denial}
use Rattle.at_adsp_end.specs.Calls.{is_last, probed, reading, ticked, writing}
use Rattle.at_adsp_end.specs.Ends.{EndState, answering, confirming, connector, free, half_end, has_opened, has_remote}
use Rattle.at_adsp_end.specs.Ends.{is_closed, is_half, is_open, is_opening, limit}
use Rattle.at_adsp_end.specs.Hearing.{heard, told}
use Rattle.at_adsp_end.specs.Positions.{Numbers, whole, wire}
use Rattle.at_adsp_end.specs.Sending.{acks, closing, resetting_now}
use Rattle.at_adsp_end.specs.declared.fault.StreamFault.TheVariants.{NoRoom, NotOpen}
use Rattle.at_adsp_end.specs.declared.item.Item.{Item}
use Rattle.at_adsp_end.specs.declared.phase.Phase.TheVariants as phase
use Rattle.at_adsp_end.specs.declared.remote.Remote.{Remote}
use Rattle.at_adsp_end.specs.declared.change.EndChange.{EndChange}
use Rattle.at_adsp_end.specs.declared.change.EndChange.TheVariants as step
use Rattle.at_adsp_end.specs.declared.tick.Tick.{Tick}
use Rattle.at_adsp_end.specs.declared.tick.Tick.TheVariants as timer
use Rattle.at_adsp_ends.specs.Calls.{closed_at, connected, finds_no_room, frees, read_at, reset_at, ticked_at, wrote}
use Rattle.at_adsp_ends.specs.Calls.{wrote_some}
use Rattle.at_adsp_ends.specs.Openings.{ack_came, answer_came, answers_again, confirms_again, connected_to, denial_came}
use Rattle.at_adsp_ends.specs.Openings.{heard_opening, ignored, is_answered, opened, request_came, room_for}
use Rattle.at_adsp_ends.specs.Receiving.{any_request_came, opening_came, part_came, received, segment_came, settled}
use Rattle.at_adsp_ends.specs.Tables.{Done, EndTable, IdsDiffer, by_id, by_remote, freed, has_id, moved, next_id}
use Rattle.at_adsp_ends.specs.Tables.{stayed}
use Rattle.at_adsp.specs.Moving.{AllMoveOn, IsPast, MovesOn, MovesOnBy, NeverMovesBack}
use Rattle.at_adsp.proofs.EndMoves.{hearing_same, heard_quiet, open_is}
use Rattle.at_adsp.proofs.Moving.{Adds, closing_moves, hearing_moves, reading_moves, resetting_moves, ticked_moves}
use Rattle.at_adsp.proofs.Moving.{writing_moves}
use Rattle.at_adsp.proofs.MovingHears.{heard_moves}
use Rattle.at_adsp.proofs.MovingTables.{all_changed, all_freed, all_made, all_same}
use Rattle.at_adsp.proofs.Rounds.{at_adds}

-- ---- segments

module _ (N : Numbers) (adds : Adds N) (t : EndTable) (differ : IdsDiffer t.ends) (from : Address) (s : Content) where
  abbrev r : Remote
  r = record { address = from; id = s.source }

  abbrev Goes : Done EndChange → Type 0
  Goes d = AllMoveOn N s.window t d.after

  nothing : Goes (ignored t)
  nothing = all_same N adds s.window t

  room : (o : Option ℕ) → Goes (room_for N t r o)
  room None = all_same N adds s.window t
  room (Some id) = all_made N adds s.window t (half_end t.rooms id r)

  request : (o : Option EndState) → Goes (request_came N t r o)
  request None = room (cond t.listening (next_id t) None)
  request (Some e) = go (answers_again e)
    where
      go : (b : Bool) → Goes (cond b (stayed t step.Again e (answering N e ∷ [])) (ignored t))
      go true = all_same N adds s.window t
      go false = nothing

  any : (b : Bool) → Goes (any_request_came N t r b)
  any true = nothing
  any false = request (by_remote t r)

  -- an end opens whose halves were so
  opens : (q : EndState → Bool) (e f : EndState) → f ≡ record e { remote = f.remote; phase = f.phase } → find q t.ends
      ≡ Some e → AllMoveOn N s.window t (opened N t f s []).after
  opens q e f same is =
      let h = hearing_moves N adds f s in
      let quiet = hearing_same N f s.window (acks N f.sender s.next) in
      all_changed N adds s.window t q e (heard_opening N f s).after differ is (quiet.id ∙ (λ i. (same i).id))
      (record {
        front = subst (λ (x : EndState). IsPast N (length x.sender.unacknowledged + length x.sender.waiting)
            x.sender.front (heard_opening N f s).after.sender.front) same h.front;
        limit = subst (λ (x : EndState). IsPast N s.window (limit N x.sender)
            (limit N (heard_opening N f s).after.sender)) same h.limit;
        expected = subst (λ (x : EndState). IsPast N (free x) x.receiver.received
            (heard_opening N f s).after.receiver.received) same h.expected;
      })

  ack : (dest : ℕ) (o : Option EndState) → by_id t dest ≡ o → Goes (ack_came N t r s o)
  ack dest None is = nothing
  ack dest (Some e) is = go (is_half e.phase && has_remote r e)
    where
      go : (b : Bool) → Goes (cond b (opened N t (record e { phase = phase.Open }) s []) (ignored t))
      go true = opens (has_id dest) e (record e { phase = phase.Open }) refl is
      go false = nothing

  answer : (dest : ℕ) (there o : Option EndState) → by_id t dest ≡ o → Goes (answer_came N t r s there o)
  answer dest there None is = nothing
  answer dest there (Some e) is = go (is_answered e r there) (confirms_again e r)
    where
      go : (b c : Bool) →
          Goes (cond b (opened N t (connected_to e r) s (confirming N (connected_to e r) ∷ []))
          (cond c (stayed t step.Again e (confirming N e ∷ [])) (ignored t)))
      go true c = opens (has_id dest) e (connected_to e r) refl is
      go false true = all_same N adds s.window t
      go false false = nothing

  denial : (o : Option EndState) → Goes (denial_came t from o)
  denial None = nothing
  denial (Some e) = go (is_opening e.phase && same_address e.asked from)
    where
      go : (b : Bool) → Goes (cond b (freed t (step.Denied e.id) e) (ignored t))
      go true = all_freed N adds s.window t e.id differ
      go false = nothing

  segment : (o : Option EndState) → by_remote t r ≡ o → Goes (segment_came N t s o)
  segment None is = nothing
  segment (Some e) is = go (is_open e.phase) refl
    where
      go : (b : Bool) → is_open e.phase ≡ b → Goes (cond b (settled t (heard N e (told N e s))) (ignored t))
      go true live = all_changed N adds s.window t (has_remote r) e (heard N e (told N e s)).after differ is
          (heard_quiet N e (told N e s) (open_is e.phase live)).id (heard_moves N adds e s s.body)
      go false live = nothing

  opening : (kind : OpenKind) (dest : ℕ) → Goes (opening_came N t r s kind dest)
  opening Request dest = any (s.source == 0)
  opening Acknowledgement dest = ack dest (by_id t dest) refl
  opening RequestAndAcknowledgement dest = answer dest (by_remote t r) (by_id t dest) refl
  opening Denial dest = denial (by_id t dest)

  part : (p : Part) → Goes (part_came N t r s p)
  part (Open kind dest) = opening kind dest
  part other = segment (by_remote t r) refl

  pub received_moves : Goes (received N t from s)
  received_moves = part s.body

-- ---- calls and timers

probed_id : (N : Numbers) (e : EndState) (b : Bool) → (probed N e b).after.id ≡ e.id
probed_id N e true = refl
probed_id N e false = refl

ticked_id : (N : Numbers) (e : EndState) (tick : Tick) → (ticked N e tick).after.id ≡ e.id
ticked_id N e timer.Retransmit = refl
ticked_id N e timer.Probe = probed_id N e (is_last e timer.Probe)

module _ (N : Numbers) (adds : Adds N) (t : EndTable) (differ : IdsDiffer t.ends) where
  -- the end that a call names
  calls : (id : ℕ) (e f : EndState) → by_id t id ≡ Some e → f.id ≡ e.id → MovesOn N 0 e f
      → AllMoveOn N 0 t (record t { ends = replaced (has_id f.id) f t.ends })
  calls id e f is same moves = all_changed N adds 0 t (has_id id) e f differ is same moves

  connects : (to : Address) (o : Option ℕ) → MovesOnBy N t (connected t to o)
  connects to None = tt
  connects to (Some id) = all_made N adds 0 t (connector t.rooms id to)

  closes : (id : ℕ) (o : Option EndState) → by_id t id ≡ o → MovesOnBy N t (closed_at N t o)
  closes id None is = tt
  closes id (Some e) is = go (is_open e.phase)
    where
      go : (b : Bool) → MovesOnBy N t
          (cond b (Ok (moved t (step.Closed e.id) (closing N e).after (closing N e).sent))
          (Ok (freed t (step.Freed e.id) e)))
      go true = calls id e (closing N e).after is refl (closing_moves N adds e)
      go false = all_freed N adds 0 t e.id differ

  ticks : (tick : Tick) (id : ℕ) (o : Option EndState) → by_id t id ≡ o → MovesOnBy N t (ticked_at N t tick o)
  ticks tick id None is = tt
  ticks tick id (Some e) is = go (is_closed e.phase) (frees e tick)
    where
      go : (b c : Bool) → MovesOnBy N t
          (cond b (Err NotOpen) (cond c (Ok (freed t (step.Freed e.id) e)) (Ok (settled t (ticked N e tick)))))
      go true c = tt
      go false true = all_freed N adds 0 t e.id differ
      go false false = calls id e (ticked N e tick).after is (ticked_id N e tick) (ticked_moves N adds e tick)

  reads : (count id : ℕ) (o : Option EndState) → by_id t id ≡ o → MovesOnBy N t (read_at N t count o)
  reads count id None is = tt
  reads count id (Some e) is = go (has_opened e.phase)
    where
      go : (b : Bool) → MovesOnBy N t
          (cond b (Ok (moved t (take count e.receiver.unread) (reading N e count).after (reading N e count).sent))
          (Err NotOpen))
      go true = calls id e (reading N e count).after is refl (reading_moves N adds e count)
      go false = tt

  resets : (id : ℕ) (o : Option EndState) → by_id t id ≡ o → MovesOnBy N t (reset_at N t o)
  resets id None is = tt
  resets id (Some e) is = go (is_open e.phase)
    where
      go : (b : Bool) → MovesOnBy N t
          (cond b (Ok (moved {X = Unit {0}} t tt (resetting_now N e).after (resetting_now N e).sent)) (Err NotOpen))
      go true = calls id e (resetting_now N e).after is refl (resetting_moves N adds e)
      go false = tt

  writes : (items : List Item) (id : ℕ) (o : Option EndState) → by_id t id ≡ o → MovesOnBy N t (wrote N t items o)
  writes items id None is = tt
  writes items id (Some e) is = go (is_open e.phase) (finds_no_room e items)
    where
      go : (b c : Bool) → MovesOnBy N t (cond b (cond c (Err NoRoom) (Ok (wrote_some N t items e))) (Err NotOpen))
      go true true = tt
      go true false = calls id e (writing N e items).after is refl (writing_moves N adds e items)
      go false c = tt

  pub never_back : NeverMovesBack N t
  never_back = record {
    received = λ from s. received_moves N adds t differ from s;
    connected = λ to. connects to (next_id t);
    listens = λ on. all_same N adds 0 t;
    closed = λ id. closes id (by_id t id) refl;
    ticked = λ tick id. ticks tick id (by_id t id) refl;
    read = λ count id. reads count id (by_id t id) refl;
    reset = λ id. resets id (by_id t id) refl;
    wrote = λ items id. writes items id (by_id t id) refl;
  }

pub never_back_whole : (t : EndTable) → IdsDiffer t.ends → NeverMovesBack whole t
never_back_whole t differ = never_back whole (λ a k. refl) t differ

pub never_back_wire : (t : EndTable) → IdsDiffer t.ends → NeverMovesBack wire t
never_back_wire t differ = never_back wire (λ a k. at_adds (2 ^ 32) a k) t differ
