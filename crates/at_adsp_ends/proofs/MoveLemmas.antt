-- What one end did, as what the table did.
use Rattle.std.proofs.Common.{◌≡◌, ℕ, zero, suc, Bool, true, false, List, [], ◌∷◌, set, Option, Some, None, refl}
use Rattle.std.proofs.Common.{sym, ap, subst, ◌∙◌}
use Rattle.std.specs.Prelude.{remove, IfOk, IsOk, OnErr, OnOk, Result, Ok, Err}
use Rattle.std.specs.Result.{IsErr, is_ok}
use Rattle.std.proofs.lemmas.Bool.{true≢false}
use Rattle.at_ddp.specs.Outbox.{Outbox}
use Rattle.at_ddp.specs.Sending.{HasRoomToSend, Sends}
use Rattle.at_ddp.specs.declared.address.Address.{Address}
use Rattle.at_ddp.proofs.OutboxLemmas.{sends_nothing}
use Rattle.at_adsp_frame.specs.Segments.{Content}
use Rattle.at_adsp_end.specs.Calls.{is_last, probed, ticked}
use Rattle.at_adsp_end.specs.Ends.{Change, EndState, SendsTo, addressed, is_opening}
use Rattle.at_adsp_end.specs.Ends.{spelled_all}
use Rattle.at_adsp_end.specs.Hearing.{Brings, Asks, Closes, Resets, Answers, Advises, Outcome, Saying, Told}
use Rattle.at_adsp_end.specs.Hearing.{after_hearing, heard}
use Rattle.at_adsp_end.specs.Loads.{HasRoomTo}
use Rattle.at_adsp_end.specs.Moves.{IsChange, IsOutcome}
use Rattle.at_adsp_end.specs.Positions.{wire}
use Rattle.at_adsp_end.specs.Sending.{hearing}
use Rattle.at_adsp_end.specs.declared.fault.StreamFault.{StreamFault}
use Rattle.at_adsp_end.specs.declared.fault.StreamFault.TheVariants.{NoMemory}
use Rattle.at_adsp_end.specs.declared.forward.Forward.TheVariants.{Jump, Older, Beyond}
use Rattle.at_adsp_end.specs.declared.remote.Remote.{Remote}
use Rattle.at_adsp_end.specs.declared.rooms.Rooms.{Rooms}
use Rattle.at_adsp_end.specs.declared.change.EndChange.{EndChange}
use Rattle.at_adsp_end.specs.declared.change.EndChange.TheVariants.{Freed, Ignored}
use Rattle.at_adsp_end.specs.declared.tick.Tick.{Tick}
use Rattle.at_adsp_end.specs.declared.tick.Tick.TheVariants.{Retransmit, Probe}
use Rattle.at_table.specs.Rows.{Rows, with_item}
use Rattle.at_adsp_ends.specs.Filed.{AreFiled}
use Rattle.at_adsp_ends.specs.Moves.{IsCalled, IsDone, IsNothing, IsTaken}
use Rattle.at_adsp_ends.specs.Openings.{ignored}
use Rattle.at_adsp_ends.specs.Receiving.{settled}
use Rattle.at_adsp_ends.specs.Tables.{AreEnds, Done, EndTable, freed, moved, without_end}
use Rattle.at_adsp_ends.proofs.DistinctLemmas.{Stands, stands_next}
use Rattle.at_adsp_ends.proofs.FiledLemmas.{Lent, filed_kept}
use Rattle.at_adsp_ends.proofs.Places.{At, stands_at, table}
use Rattle.at_adsp_ends.proofs.TableLaws.{changed_in, changed_lawful, removed_in}

-- ---- what an end keeps

pub record Keeps (e y : EndState) : Type 0 where
  pub id : y.id ≡ e.id
  pub asked : y.asked ≡ e.asked
  pub remote : y.remote ≡ e.remote
  pub phase : is_opening y.phase ≡ true → is_opening e.phase ≡ true

pub hearing_keeps : (e : EndState) (window : ℕ) (acks : Option ℕ) → Keeps e (hearing wire e window acks).after
hearing_keeps e window None = record { id = refl; asked = refl; remote = refl; phase = λ h. h }
hearing_keeps e window (Some k) = record { id = refl; asked = refl; remote = refl; phase = λ h. h }

saying_keeps : (c : Change) (ack : Bool) (s : Saying) → Keeps c.after (after_hearing wire c ack s).after
saying_keeps c ack (Brings items) = record { id = refl; asked = refl; remote = refl; phase = λ h. h }
saying_keeps c ack Asks = record { id = refl; asked = refl; remote = refl; phase = λ h. h }
saying_keeps c ack Closes = record { id = refl; asked = refl; remote = refl; phase = λ h. absurd (cc) }
saying_keeps c ack (Resets (Jump d)) = record { id = refl; asked = refl; remote = refl; phase = λ h. h }
saying_keeps c ack (Resets Older) = record { id = refl; asked = refl; remote = refl; phase = λ h. h }
saying_keeps c ack (Resets Beyond) = record { id = refl; asked = refl; remote = refl; phase = λ h. h }
saying_keeps c ack (Answers true) = record { id = refl; asked = refl; remote = refl; phase = λ h. h }
saying_keeps c ack (Answers false) = record { id = refl; asked = refl; remote = refl; phase = λ h. h }
saying_keeps c ack Advises = record { id = refl; asked = refl; remote = refl; phase = λ h. h }

pub heard_keeps : (e : EndState) (t : Told) → Keeps e (heard wire e t).after
heard_keeps e t =
    let h = hearing_keeps e t.window t.acks in
    let s = saying_keeps (hearing wire e t.window t.acks) t.ack t.saying in
    record {
      id = s.id ∙ h.id;
      asked = s.asked ∙ h.asked;
      remote = s.remote ∙ h.remote;
      phase = λ o. h.phase (s.phase o);
    }

probed_keeps : (e : EndState) (b : Bool) → Keeps e (probed wire e b).after
probed_keeps e true = record { id = refl; asked = refl; remote = refl; phase = λ h. absurd (cc) }
probed_keeps e false = record { id = refl; asked = refl; remote = refl; phase = λ h. h }

pub ticked_keeps : (e : EndState) (tick : Tick) → Keeps e (ticked wire e tick).after
ticked_keeps e Retransmit = record { id = refl; asked = refl; remote = refl; phase = λ h. h }
ticked_keeps e Probe = probed_keeps e (is_last e Probe)

-- what a call that may fail leaves of an end
pub same_keeps : {e new : EndState} → new ≡ e → Keeps e new
same_keeps {e} is = record {
  id = ap (λ (x : EndState). x.id) is;
  asked = ap (λ (x : EndState). x.asked) is;
  remote = ap (λ (x : EndState). x.remote) is;
  phase = subst (λ (x : EndState). is_opening x.phase ≡ true → is_opening e.phase ≡ true) (sym is) (λ h. h);
}

pub left_keeps : {e y new : EndState} → Keeps e y → new ≡ y → Keeps e new
left_keeps {e} k is = subst (Keeps e) (sym is) k

-- ---- the table

-- the table with these ends in place of its own
abbrev pub of_ends : EndTable → List EndState → EndTable
of_ends t ends = record t { ends = ends }

-- the table with this end in that place
abbrev pub put : EndTable → ℕ → EndState → EndTable
put t i y = of_ends t (set t.ends i y)

set_same : {X : Type 0} (xs : List X) (i : ℕ) (e : X) → Stands xs i e → set xs i e ≡ xs
set_same [] i e s = refl
set_same (x ∷ xs) zero e s = ap (λ y. y ∷ xs) (sym (s.at x))
set_same (x ∷ xs) (suc i) e s = ap (λ l. x ∷ l) (set_same xs i e (stands_next x xs i e s))

module _ {p : EndState → Bool} {t : EndTable} {i : ℕ} {e : EndState} (q : At p t i e) (new : EndState)
    (a b : Outbox) where
  table_same : new ≡ e → put t i new ≡ t
  table_same is = ap (of_ends t) (ap (set t.ends i) is ∙ set_same t.ends i e q.stands)

  move_done : {X : Type 0} (y : EndState) (x answer : X) (sent : List Content) → y.id ≡ e.id → y.asked ≡ e.asked
      → answer ≡ x → new ≡ y → SendsTo a b e.asked sent → IsDone (moved t x y sent) answer (put t i new) a b
  move_done y x answer sent id asked told is sends = record {
    answer_is = told;
    state = ap (of_ends t) (ap (set t.ends i) is ∙ sym (changed_in t.ends i e y q.laws.ids_differ q.stands id));
    sent = subst (λ (to : Address). Sends a b (spelled_all (addressed to sent))) (sym asked) sends;
  }

  nothing : new ≡ e → Sends a b [] → IsNothing t (put t i new) a b
  nothing is none = record { state = table_same is; sent = none }

  pub taken_outcome : {E : Type 0} (r : Result EndChange E) (o : Outcome) → o.after.id ≡ e.id → o.after.asked ≡ e.asked
      → IfOk r (λ step. IsOutcome o e.asked step new a b) → OnErr r (new ≡ e) → OnErr r (Sends a b [])
      → IsTaken (settled t o) r t (put t i new) a b
  taken_outcome (Ok step) o id asked is same none =
      move_done o.after o.step step o.sent id asked is.step_is is.state is.sent
  taken_outcome (Err x) o id asked is same none = nothing same none

  -- a segment found memory out
  pub taken_not : {E : Type 0} (r : Result EndChange E) (d : Done EndChange) → IsErr r → new ≡ e → Sends a b []
      → IsTaken d r t (put t i new) a b
  taken_not (Ok step) d failed same none = absurd (cc)
  taken_not (Err x) d failed same none = nothing same none

  pub called_outcome : {E : Type 0} (r : Result EndChange E) (z : Result EndChange StreamFault) (o : Outcome)
      → Keeps e o.after
      → IfOk r (λ x. z ≡ Ok x) → OnErr r (z ≡ Err NoMemory) → IfOk r (λ step. IsOutcome o e.asked step new a b)
      → OnErr r (new ≡ e) → OnErr r (Sends a b []) → IsCalled (Ok (settled t o)) z t (put t i new) a b
  called_outcome (Ok step) z o k good bad is same none =
      subst (λ (x : Result EndChange StreamFault). IsCalled (Ok (settled t o)) x t (put t i new) a b) (sym good)
      (move_done o.after o.step step o.sent k.id k.asked is.step_is is.state is.sent)
  called_outcome (Err x) z o k good bad is same none =
      subst (λ (x : Result EndChange StreamFault). IsCalled (Ok (settled t o)) x t (put t i new) a b) (sym bad)
      (refl, nothing same none)

  pub called_change : {X Y E : Type 0} (f : X → Y) (r : Result X E) (z : Result Y StreamFault) (c : Change) (y : Y)
      → Keeps e c.after → IfOk r (λ x. z ≡ Ok (f x)) → OnErr r (z ≡ Err NoMemory) → IfOk r (λ x. f x ≡ y)
      → OnOk r (IsChange c e.asked new a b) → OnErr r (new ≡ e) → OnErr r (Sends a b [])
      → IsCalled (Ok (moved t y c.after c.sent)) z t (put t i new) a b
  called_change {X} {Y} f (Ok x) z c y k good bad told is same none =
      subst (λ (w : Result Y StreamFault). IsCalled (Ok (moved t y c.after c.sent)) w t (put t i new) a b) (sym good)
      (move_done c.after y (f x) c.sent k.id k.asked told is.state is.sent)
  called_change {X} {Y} f (Err x) z c y k good bad told is same none =
      subst (λ (w : Result Y StreamFault). IsCalled (Ok (moved t y c.after c.sent)) w t (put t i new) a b) (sym bad)
      (refl, nothing same none)

-- ---- what holds of every table still holds

module _ {listening : Bool} {next room i : ℕ} {rooms : Rooms} {rows : Rows ℕ EndState}
    {id_under : Remote → Option ℕ} {e : EndState} (laws : AreEnds (table listening next rooms rows.items))
    (lent : Lent rows id_under room i e) (new : EndState) where
  -- an end keeps its identifier and its remote
  pub kept_lawful : Keeps e new
      → AreEnds (table listening next rooms (set rows.items i new)) × AreFiled (with_item rows i new) id_under room
  kept_lawful k = (
    changed_lawful (table listening next rooms rows.items) i e new laws (stands_at lent.at) k.id k.remote,
    filed_kept lent new k.id k.remote k.phase,
  )

  module _ (a b : Outbox) where
    pub outcome_lawful : {E : Type 0} (r : Result EndChange E) (o : Outcome) → Keeps e o.after
        → IfOk r (λ step. IsOutcome o e.asked step new a b) → OnErr r (new ≡ e)
        → AreEnds (table listening next rooms (set rows.items i new)) × AreFiled (with_item rows i new) id_under room
    outcome_lawful (Ok step) o k is same = kept_lawful (left_keeps k is.state)
    outcome_lawful (Err x) o k is same = kept_lawful (same_keeps same)

    pub change_lawful : {X E : Type 0} (r : Result X E) (c : Change) → Keeps e c.after
        → OnOk r (IsChange c e.asked new a b) → OnErr r (new ≡ e)
        → AreEnds (table listening next rooms (set rows.items i new)) × AreFiled (with_item rows i new) id_under room
    change_lawful (Ok x) c k is same = kept_lawful (left_keeps k is.state)
    change_lawful (Err x) c k is same = kept_lawful (same_keeps same)

-- ---- an end is freed

module _ {p : EndState → Bool} {t : EndTable} {i : ℕ} {e : EndState} (q : At p t i e) (seen new : EndTable)
    (same : t ≡ seen) (gone : new ≡ of_ends seen (remove seen.ends i)) where
  pub freed_state : new ≡ without_end t e.id
  freed_state = gone ∙ ap (λ (k : EndTable). of_ends k (remove k.ends i)) (sym same)
      ∙ ap (of_ends t) (sym (removed_in t.ends i e q.laws.ids_differ q.stands))

  pub freed_called : (id : ℕ) (box : Outbox) → e.id ≡ id
      → IsCalled (Ok (freed t (Freed e.id) e)) (Ok (Freed id)) t new box box
  freed_called id box named =
      record { answer_is = ap Freed (sym named); state = freed_state; sent = sends_nothing box }

-- ---- nothing comes of it

pub ignored_done : (t : EndTable) (box : Outbox) → IsDone (ignored t) Ignored t box box
ignored_done t box = record { answer_is = refl; state = refl; sent = sends_nothing box }

pub refused : {X : Type 0} (fault : StreamFault) (t : EndTable) (box : Outbox)
    → IsCalled {X = X} (Err fault) (Err fault) t t box box
refused fault t box = (refl, record { state = refl; sent = sends_nothing box })

-- ---- room for what is sent

-- what the table sends for an end is what the end sends
pub room_asked : (box : Outbox) (e y : EndState) (sent : List Content) → Keeps e y
    → HasRoomToSend box (spelled_all (addressed y.asked sent)) → HasRoomTo box e.asked sent
room_asked box e y sent k h =
    subst (λ (to : Address). HasRoomToSend box (spelled_all (addressed to sent))) k.asked h

-- a call that only memory can refuse
pub room_called : {X E : Type 0} (r : Result X E) (z : Result X StreamFault) (box : Outbox) (e y : EndState)
    (sent : List Content) → Keeps e y → (HasRoomTo box e.asked sent → IsOk r) → IfOk r (λ x. z ≡ Ok x)
    → HasRoomToSend box (spelled_all (addressed y.asked sent)) → IsOk z
room_called {X} {E} r z box e y sent k ok told h = go r (ok (room_asked box e y sent k h)) told
  where
    go : (r : Result X E) → IsOk r → IfOk r (λ x. z ≡ Ok x) → IsOk z
    go (Ok x) is told = ap is_ok told
    go (Err x) is told = absurd (true≢false (sym is))
