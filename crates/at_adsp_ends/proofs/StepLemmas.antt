-- What an end keeps at each call; what is read; which timers free it; how ends open.
use Rattle.std.proofs.Common.{◌≡◌, ℕ, ◌≤◌, Bool, true, false, cond, List, [], ◌∷◌, ◌++◌, length, Option}
use Rattle.std.proofs.Common.{Some, None, slice_get, refl, sym, ap, subst, ◌∙◌, arith}
use Rattle.std.specs.Prelude.{◌&&◌, ◌==◌, find, is_none, is_some, not, take, IfOk, IsOk, OnErr, OnOk, Result, Ok, Err}
use Rattle.std.specs.Result.{is_ok}
use Rattle.std.proofs.Math.Seq.{take-append_seam}
use Rattle.std.proofs.lemmas.Bool.{and_parts, true≢false}
use Rattle.std.proofs.lemmas.List.{length-take}
use Rattle.at_ddp.specs.Address.{same_address}
use Rattle.at_ddp.specs.Outbox.{Outbox}
use Rattle.at_ddp.specs.Sending.{HasRoomToSend}
use Rattle.at_adsp_frame.specs.Segments.{Content, spelled}
use Rattle.at_adsp_end.specs.Calls.{is_idle, is_last, probed, reading, ticked, writing}
use Rattle.at_adsp_end.specs.Ends.{EndState, confirming, denying, has_remote, is_closed, is_opening, spelled_all}
use Rattle.at_adsp_end.specs.Moves.{closed, opened}
use Rattle.at_adsp_end.specs.Positions.{wire}
use Rattle.at_adsp_end.specs.Sending.{acks, closing, resetting_now}
use Rattle.at_adsp_end.specs.declared.fault.StreamFault.{StreamFault}
use Rattle.at_adsp_end.specs.declared.fault.StreamFault.TheVariants.{NoMemory}
use Rattle.at_adsp_end.specs.declared.item.Item.{Item}
use Rattle.at_adsp_end.specs.declared.remote.Remote.{Remote}
use Rattle.at_adsp_end.specs.declared.change.EndChange.TheVariants.{Again, Closed, Freed, Idle}
use Rattle.at_adsp_end.specs.declared.phase.Phase.TheVariants as phase
use Rattle.at_adsp_end.specs.declared.tick.Tick.{Tick}
use Rattle.at_adsp_end.specs.declared.tick.Tick.TheVariants.{Retransmit, Probe}
use Rattle.at_adsp_ends.specs.Moves.{read_of}
use Rattle.at_adsp_ends.specs.Openings.{connected_to, heard_opening, is_answered, room_for}
use Rattle.at_adsp_ends.specs.Receiving.{any_request_came, made_id}
use Rattle.at_adsp_ends.specs.Tables.{EndTable, next_id}
use Rattle.at_adsp_ends.proofs.MoveLemmas.{Keeps, hearing_keeps}
use Rattle.at_adsp_ends.proofs.Places.{At, test_at}

-- ---- calls

pub reset_keeps : (e : EndState) → Keeps e (resetting_now wire e).after
reset_keeps e = record { id = refl; asked = refl; remote = refl; phase = λ h. h }

pub close_keeps : (e : EndState) → Keeps e (closed e (closing wire e)).after
close_keeps e = record { id = refl; asked = refl; remote = refl; phase = λ h. absurd (cc) }

pub read_keeps : (e : EndState) (n : ℕ) → Keeps e (reading wire e n).after
read_keeps e n = record { id = refl; asked = refl; remote = refl; phase = λ h. h }

pub write_keeps : (e : EndState) (items : List Item) → Keeps e (writing wire e items).after
write_keeps e items = record { id = refl; asked = refl; remote = refl; phase = λ h. h }

pub any_unit : {E : Type 0} (r : Result (Unit {0}) E) → IfOk r (λ x. x ≡ tt)
any_unit (Ok x) = refl
any_unit (Err e) = tt

pub closed_frees : (a b : ℕ) → Closed a ≡ Freed b → ⊥
closed_frees a b h = cc

-- a call that succeeds did not fail
pub fails : {X E : Type 0} {r : Result X E} {x : E} → r ≡ Err x → IsOk r → ⊥
fails {X} {E} failed ok = true≢false (sym ok ∙ ap is_ok failed)

-- ---- what is read

pub read_told : {E : Type 0} (r : Result ℕ E) (q : Result ℕ StreamFault) (buffer : List Item) → IfOk r (λ n. q ≡ Ok n)
    → IfOk r (λ n. read_of q buffer ≡ Ok (take n buffer))
read_told (Ok n) q buffer is = ap (λ (x : Result ℕ StreamFault). read_of x buffer) is
read_told (Err e) q buffer is = tt

pub read_failed : {E : Type 0} (r : Result ℕ E) (q : Result ℕ StreamFault) (buffer : List Item)
    → OnErr r (q ≡ Err NoMemory) → OnErr r (read_of q buffer ≡ Err NoMemory)
read_failed (Ok n) q buffer is = tt
read_failed (Err e) q buffer is = ap (λ (x : Result ℕ StreamFault). read_of x buffer) is

pub read_is : {E : Type 0} (r : Result ℕ E) (buffer got rest : List Item) → IfOk r (λ n. n ≡ length got)
    → OnOk r (buffer ≡ got ++ rest) → IfOk r (λ n. take n buffer ≡ got)
read_is (Ok n) buffer got rest count is = (λ i. take (count i) (is i)) ∙ take-append_seam got rest
read_is (Err e) buffer got rest count is = tt

pub read_within : {E : Type 0} (r : Result ℕ E) (q : Result ℕ StreamFault) (n : ℕ) (xs : List Item)
    → IfOk r (λ x. q ≡ Ok x) → OnErr r (q ≡ Err NoMemory) → IfOk r (λ x. x ≡ length (take n xs)) → IfOk q (λ x. x ≤ n)
read_within (Ok x) q n xs good bad count = subst (λ (z : Result ℕ StreamFault). IfOk z (λ x. x ≤ n)) (sym good)
    (let e = length-take n xs in omega (arith, e, count))
read_within (Err e) q n xs good bad count = subst (λ (z : Result ℕ StreamFault). IfOk z (λ x. x ≤ n)) (sym bad) tt

-- ---- timers

probed_stands : (e : EndState) (b : Bool) (id : ℕ) → (probed wire e b).step ≡ Freed id → ⊥
probed_stands e true id h = cc
probed_stands e false id h = cc

idle_stands : (b : Bool) (id : ℕ) → cond b Idle Again ≡ Freed id → ⊥
idle_stands true id h = cc
idle_stands false id h = cc

-- a timer of an end that stays frees none
pub ticked_stands : (e : EndState) (tick : Tick) (id : ℕ) → (ticked wire e tick).step ≡ Freed id → ⊥
ticked_stands e Retransmit id h = idle_stands (is_idle e) id h
ticked_stands e Probe id h = probed_stands e (is_last e Probe) id h

pub live_phase : (e : EndState) → is_closed e.phase ≡ false → e.phase ≡ phase.Closed → ⊥
live_phase e live is = true≢false (sym (ap is_closed is) ∙ live)

-- ---- openings

pub ack_keeps : (e : EndState) (s : Content)
    → Keeps e (opened (record e { phase = phase.Open }) []
    (heard_opening wire (record e { phase = phase.Open }) s)).after
ack_keeps e s =
    let h = hearing_keeps (record e { phase = phase.Open }) s.window (acks wire e.sender s.next) in record {
      id = h.id;
      asked = h.asked;
      remote = h.remote;
      phase = λ o. absurd (true≢false (sym (h.phase o)));
    }

pub answer_keeps : (e : EndState) (r : Remote) (s : Content)
    → Keeps (connected_to e r)
    (opened (connected_to e r) (confirming wire (connected_to e r) ∷ [])
    (heard_opening wire (connected_to e r) s)).after
answer_keeps e r s = let h = hearing_keeps (connected_to e r) s.window (acks wire e.sender s.next) in
    record { id = h.id; asked = h.asked; remote = h.remote; phase = h.phase }

none_there : (a b : Bool) (there : Option EndState) → (a && b && is_none there) ≡ true → there ≡ None
none_there a b None h = refl
none_there a b (Some e) h = let parts = and_parts (a && b) false h in absurd (true≢false (sym parts.1))

pub answered_new : (e : EndState) (r : Remote) (there : Option EndState) → is_answered e r there ≡ true → there ≡ None
answered_new e r there h = none_there (is_opening e.phase) (same_address e.asked r.address) there h

pub taken_is : (there : Option EndState) (a b taken : Bool) → taken ≡ is_some there → (a && b && is_none there)
    ≡ (a && b && not taken)
taken_is None a b taken is = ap (λ x. a && b && not x) (sym is)
taken_is (Some e) a b taken is = ap (λ x. a && b && not x) (sym is)

-- what the code found by the place of the end that is answered, and by its remote
pub answered_at : {p : EndState → Bool} {t : EndTable} {i : ℕ} {e x : EndState} {r b taken : Bool} → At p t i e
    → (remote : Remote) → taken ≡ is_some (find (has_remote remote) t.ends) → slice_get t.ends i ≡ Some x
    → r ≡ (is_opening x.phase && same_address x.asked remote.address && not taken) → r ≡ b
    → is_answered e remote (find (has_remote remote) t.ends) ≡ b
answered_at {t = t} {e = e} {taken = taken} q remote there read is said =
    taken_is (find (has_remote remote) t.ends) (is_opening e.phase) (same_address e.asked remote.address) taken there
    ∙ test_at q (λ x. is_opening x.phase && same_address x.asked remote.address && not taken) read is said

pub listened_id : (t : EndTable) (id : ℕ) → cond t.listening (next_id t) None ≡ Some id → next_id t ≡ Some id
listened_id t id h = go t.listening h
  where
    go : (b : Bool) → cond b (next_id t) None ≡ Some id → next_id t ≡ Some id
    go true g = g
    go false g = absurd (cc)

-- a request that makes no end is denied
pub request_room : (t : EndTable) (r : Remote) (box : Outbox) (B : Type 0) → (r.id == 0) ≡ false
    → find (has_remote r) t.ends ≡ None
    → (cond t.listening (next_id t) None ≡ None → HasRoomToSend box ((r.address, spelled (denying r.id)) ∷ []) → B)
    → made_id (any_request_came wire t r (r.id == 0)).answer ≡ None
    → HasRoomToSend box (spelled_all (any_request_came wire t r (r.id == 0)).sent) → B
request_room t r box B some none denied = rw (some, none) (go (cond t.listening (next_id t) None) denied)
  where
    go : (o : Option ℕ) → (o ≡ None → HasRoomToSend box ((r.address, spelled (denying r.id)) ∷ []) → B)
        → made_id (room_for wire t r o).answer ≡ None → HasRoomToSend box (spelled_all (room_for wire t r o).sent) → B
    go None f h room = f refl room
    go (Some id) f h room = absurd (cc)
