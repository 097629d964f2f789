-- What each happening does to the ends of streams as their users see them.
use Rattle.std.proofs.Common.{◌≡◌, ℕ, ◌+◌, Bool, true, false, cond, List, [], ◌∷◌, ◌≤◌, length, take, Option}
use Rattle.std.proofs.Common.{Some, None, inl, inr, refl, ap, ◌∙◌}
use Rattle.std.specs.Prelude.{not, Ok, Err, ◌&&◌}
use Rattle.std.proofs.lemmas.Bool.{true≢false, eqb-true}
use Rattle.at_ddp.specs.declared.address.Address.{Address}
use Rattle.at_adsp_end.specs.Calls.{is_last, probed, reading, ticked, writing}
use Rattle.at_adsp_end.specs.Ends.{Change, EndState, asking, connector, has_opened}
use Rattle.at_adsp_end.specs.Ends.{is_closed, is_open, places}
use Rattle.at_adsp_end.specs.Hearing.{Advises, Answers, Asks, Brings, Closes, Resets, Saying, after_hearing}
use Rattle.at_adsp_end.specs.Hearing.{is_empty}
use Rattle.at_adsp_end.specs.declared.forward.Forward.TheVariants.{Jump, Older, Beyond}
use Rattle.at_adsp_end.specs.Positions.{Numbers}
use Rattle.at_adsp_end.specs.Sending.{closing, resetting_now}
use Rattle.at_adsp_end.specs.declared.fault.StreamFault.TheVariants.{NoRoom, NotOpen}
use Rattle.at_adsp_end.specs.declared.item.Item.{Item}
use Rattle.at_adsp_end.specs.declared.phase.Phase.TheVariants as phase
use Rattle.at_adsp_end.specs.declared.change.EndChange.{EndChange}
use Rattle.at_adsp_end.specs.declared.change.EndChange.TheVariants as step
use Rattle.at_adsp_end.specs.declared.tick.Tick.{Tick}
use Rattle.at_adsp_end.specs.declared.tick.Tick.TheVariants.{Retransmit, Probe}
use Rattle.at_adsp_ends.specs.Calls.{closed_at, connected, finds_no_room, frees, read_at, reset_at, ticked_at, wrote}
use Rattle.at_adsp_ends.specs.Calls.{wrote_some}
use Rattle.at_adsp_ends.specs.Receiving.{settled}
use Rattle.at_adsp_ends.specs.Tables.{EndTable, by_id, freed, has_id, moved, next_id}
use Rattle.at_adsp.specs.Connections.{AfterCall, AfterConnecting, AfterStep, streams}
use Rattle.at_adsp.specs.Network.{Network}
use Rattle.at_adsp.specs.Network.{Setting, calls}
use Rattle.at_adsp.specs.Network.{calls_with, does, gave_up, wrote_first}
use Rattle.at_adsp.specs.Streams.{GaveUp, Read, with_deed}
use Rattle.at_adsp.proofs.Beginnings.{made_streams}
use Rattle.at_adsp.proofs.Distinct.{drawn}
use Rattle.at_adsp.proofs.EndMoves.{open_is}
use Rattle.at_adsp.proofs.Sound.{Sound}
use Rattle.at_adsp.proofs.Steps.{deed_streams, found_passes, quiet_streams}

-- ---- steps that make and open nothing

abbrev pub IsQuiet : EndChange → Type 0
IsQuiet (step.Made id) = ⊥
IsQuiet (step.Opened id) = ⊥
IsQuiet other = Unit {0}

pub after_quiet : (old new : Network) (at from : Address) (s : EndChange) → IsQuiet s → streams new ≡ streams old
    → AfterStep old new at from s
after_quiet old new at from (step.Made id) quiet same = absurd quiet
after_quiet old new at from (step.Opened id) quiet same = absurd quiet
after_quiet old new at from other quiet same = same

pub heard_step : (N : Numbers) (c : Change) (ack : Bool) (s : Saying) → IsQuiet (after_hearing N c ack s).step
heard_step N c ack (Brings items) = tt
heard_step N c ack Asks = tt
heard_step N c ack Closes = tt
heard_step N c ack (Resets (Jump d)) = tt
heard_step N c ack (Resets Older) = tt
heard_step N c ack (Resets Beyond) = tt
heard_step N c ack (Answers false) = tt
heard_step N c ack (Answers true) = tt
heard_step N c ack Advises = go (is_empty c.after.sender.unacknowledged)
  where
    go : (b : Bool) → IsQuiet (cond b (step.Heard c.after.id 0) step.Again)
    go true = tt
    go false = tt

-- ---- calls and timers

pub connects_streams : (setting : Setting) (n : Network) (at to : Address) → 1 ≤ (n.tables at).next → (o : Option ℕ)
    → next_id (n.tables at) ≡ o → AfterConnecting n (calls setting n at (connected (n.tables at) to o)) at to o
connects_streams setting n at to some None is = refl
connects_streams setting n at to some (Some id) is =
    let d = drawn (n.tables at) id some is in
    made_streams setting n at (connector (n.tables at).rooms id to) id
    (asking (connector (n.tables at).rooms id to) ∷ []) d.free

module _ (setting : Setting) (n : Network) (at : Address) (id : ℕ) (sound : Sound setting (n.event + 1) n) where
  abbrev N : Numbers
  N = setting.numbers

  abbrev t : EndTable
  t = n.tables at

  pub closes_streams : (o : Option EndState) → by_id t id ≡ o → streams (calls setting n at (closed_at N t o))
      ≡ streams n
  closes_streams None is = refl
  closes_streams (Some e) is = go (is_open e.phase) refl
    where
      go : (b : Bool) → is_open e.phase ≡ b
          → streams (calls setting n at
          (cond b (Ok (moved t (step.Closed e.id) (closing N e).after (closing N e).sent))
          (Ok (freed t (step.Freed e.id) e)))) ≡ streams n
      go true h =
          quiet_streams setting n at (has_id id) e (closing N e).after sound is
          (record { id = refl; listener = refl; asked = refl; remote = refl; phase = inr (open_is e.phase h, refl) })
          (step.Closed e.id) (closing N e).sent
      go false h = refl

  -- an end that is found has the identifier
  pub own : (e : EndState) → by_id t id ≡ Some e → e.id ≡ id
  own e is = eqb-true e.id id (found_passes setting (n.event + 1) n at (has_id id) e sound is)

  pub writes_streams : (items : List Item) (o : Option EndState) → by_id t id ≡ o
      → AfterCall n (calls_with (wrote_first items) setting n at (wrote N t items o)) at id (wrote_first items)
      (wrote N t items o)
  writes_streams items None is = refl
  writes_streams items (Some e) is = go (is_open e.phase) (finds_no_room e items)
    where
      go : (b c : Bool) → AfterCall n
          (calls_with (wrote_first items) setting n at
          (cond b (cond c (Err NoRoom) (Ok (wrote_some N t items e))) (Err NotOpen))) at id (wrote_first items)
          (cond b (cond c (Err NoRoom) (Ok (wrote_some N t items e))) (Err NotOpen))
      go true true = refl
      go true false =
          deed_streams (wrote_first items (length (take (places e) items))) setting n at (has_id id) e
          (writing N e items).after sound is
          (record { id = refl; listener = refl; asked = refl; remote = refl; phase = inl refl })
          (length (take (places e) items)) (writing N e items).sent
          ∙ ap (λ k. with_deed at k (wrote_first items (length (take (places e) items))) (streams n)) (own e is)
      go false c = refl

  pub reads_streams : (count : ℕ) (o : Option EndState) → by_id t id ≡ o
      → AfterCall n (calls_with Read setting n at (read_at N t count o)) at id Read (read_at N t count o)
  reads_streams count None is = refl
  reads_streams count (Some e) is = go (has_opened e.phase)
    where
      go : (b : Bool) → AfterCall n
          (calls_with Read setting n at
          (cond b (Ok (moved t (take count e.receiver.unread) (reading N e count).after (reading N e count).sent))
          (Err NotOpen))) at id Read
          (cond b (Ok (moved t (take count e.receiver.unread) (reading N e count).after (reading N e count).sent))
          (Err NotOpen))
      go true =
          deed_streams (Read (take count e.receiver.unread)) setting n at (has_id id) e
          (reading N e count).after sound is
          (record { id = refl; listener = refl; asked = refl; remote = refl; phase = inl refl })
          (take count e.receiver.unread) (reading N e count).sent
          ∙ ap (λ k. with_deed at k (Read (take count e.receiver.unread)) (streams n)) (own e is)
      go false = refl

  pub resets_streams : (o : Option EndState) → by_id t id ≡ o
      → AfterCall n (calls_with gave_up setting n at (reset_at N t o)) at id gave_up (reset_at N t o)
  resets_streams None is = refl
  resets_streams (Some e) is = go (is_open e.phase)
    where
      go : (b : Bool) → AfterCall n
          (calls_with gave_up setting n at
          (cond b (Ok (moved {X = Unit {0}} t tt (resetting_now N e).after (resetting_now N e).sent)) (Err NotOpen)))
          at id gave_up (cond b (Ok (moved {X = Unit {0}} t tt (resetting_now N e).after (resetting_now N e).sent))
          (Err NotOpen))
      go true =
          deed_streams GaveUp setting n at (has_id id) e (resetting_now N e).after sound is
          (record { id = refl; listener = refl; asked = refl; remote = refl; phase = inl refl }) {X = Unit {0}} tt
          (resetting_now N e).sent
          ∙ ap (λ k. with_deed at k GaveUp (streams n)) (own e is)
      go false = refl

  tick_streams : (e : EndState) (tick : Tick) → by_id t id ≡ Some e → frees e tick ≡ false
      → streams (does setting n at (settled t (ticked N e tick))) ≡ streams n
  tick_streams e Retransmit is stays =
      quiet_streams setting n at (has_id id) e e sound is
      (record { id = refl; listener = refl; asked = refl; remote = refl; phase = inl refl })
      (ticked N e Retransmit).step (ticked N e Retransmit).sent
  tick_streams e Probe is stays = go (is_last e Probe) stays
    where
      is_opened : (b : Bool) → is_open e.phase ≡ b → not b ≡ false → e.phase ≡ phase.Open
      is_opened true h g = open_is e.phase h
      is_opened false h g = absurd (true≢false g)

      go : (b : Bool) → (b && not (is_open e.phase)) ≡ false → streams (does setting n at (settled t (probed N e b)))
          ≡ streams n
      go true h =
          quiet_streams setting n at (has_id id) e (probed N e true).after sound is
          (record {
            id = refl;
            listener = refl;
            asked = refl;
            remote = refl;
            phase = inr (is_opened (is_open e.phase) refl h, refl);
          }) (probed N e true).step []
      go false h =
          quiet_streams setting n at (has_id id) e (probed N e false).after sound is
          (record { id = refl; listener = refl; asked = refl; remote = refl; phase = inl refl })
          (probed N e false).step
          (probed N e false).sent

  pub ticks_streams : (tick : Tick) (o : Option EndState) → by_id t id ≡ o
      → streams (calls setting n at (ticked_at N t tick o)) ≡ streams n
  ticks_streams tick None is = refl
  ticks_streams tick (Some e) is = go (is_closed e.phase) (frees e tick) refl
    where
      go : (b c : Bool) → frees e tick ≡ c
          → streams (calls setting n at
          (cond b (Err NotOpen) (cond c (Ok (freed t (step.Freed e.id) e)) (Ok (settled t (ticked N e tick))))))
          ≡ streams n
      go true c h = refl
      go false true h = refl
      go false false h = tick_streams e tick is h
