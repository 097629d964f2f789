-- What calls and timers leave true of a network of ends of streams.
use Rattle.std.proofs.Common.{◌≡◌, ℕ, ◌+◌, Bool, true, false, cond, List, [], ◌∷◌, Option, Some, None, inl, inr, refl}
use Rattle.std.specs.Prelude.{not, take, length, ◌++◌, Ok, Err, ◌&&◌}
use Rattle.std.proofs.lemmas.Bool.{true≢false}
use Rattle.at_ddp.specs.declared.address.Address.{Address}
use Rattle.at_adsp_end.specs.Calls.{is_last, probed, reading, ticked, writing}
use Rattle.at_adsp_end.specs.Ends.{EndState, asking, connector, has_opened, is_closed, is_open, places}
use Rattle.at_adsp_end.specs.Sending.{closing, resetting_now}
use Rattle.at_adsp_end.specs.declared.fault.StreamFault.TheVariants.{NotOpen, NoRoom}
use Rattle.at_adsp_end.specs.declared.item.Item.{Item}
use Rattle.at_adsp_end.specs.declared.phase.Phase.TheVariants as phase
use Rattle.at_adsp_end.specs.declared.change.EndChange.TheVariants as step
use Rattle.at_adsp_end.specs.declared.tick.Tick.{Tick}
use Rattle.at_adsp_end.specs.declared.tick.Tick.TheVariants.{Retransmit, Probe}
use Rattle.at_adsp_ends.specs.Calls.{closed_at, connected, finds_no_room, frees, read_at, reset_at, ticked_at, wrote}
use Rattle.at_adsp_ends.specs.Calls.{wrote_some}
use Rattle.at_adsp_ends.specs.Receiving.{settled}
use Rattle.at_adsp_ends.specs.Tables.{by_id, freed, has_id, moved, next_id}
use Rattle.at_adsp.specs.Network.{Setting, Network, NoneNames, calls, calls_with, does, does_with, gave_up, wrote_first}
use Rattle.at_adsp.specs.Streams.{GaveUp, Read}
use Rattle.at_adsp.proofs.Beginnings.{made_sound}
use Rattle.at_adsp.proofs.Distinct.{drawn}
use Rattle.at_adsp.proofs.EndMoves.{again_says, open_is, plain_says, probes_says, reading_plain, sending_plain}
use Rattle.at_adsp.proofs.Sound.{Sound}
use Rattle.at_adsp.proofs.Steps.{deed_sound, found_stands, freed_sound, later, quiet_sound, stands_known}

pub connects_sound : (setting : Setting) (n : Network) (at to : Address) → Sound setting n.event n
    → ((id : ℕ) → next_id (n.tables at) ≡ Some id → NoneNames n at id) →
    Sound setting (n.event + 1) (calls setting n at (connected (n.tables at) to (next_id (n.tables at))))
connects_sound setting n at to sound unnamed = go (next_id (n.tables at)) refl
  where
    go : (o : Option ℕ) → next_id (n.tables at) ≡ o
        → Sound setting (n.event + 1) (calls setting n at (connected (n.tables at) to o))
    go None is = later setting n sound
    go (Some id) is =
        made_sound setting n at (connector (n.tables at).rooms id to) sound
        (record {
          drawn = drawn (n.tables at) id (sound.next at) is;
          known = (refl, refl);
          unopened = refl;
          unnamed = unnamed id is;
        }) id
        (asking (connector (n.tables at).rooms id to) ∷ []) (tt, tt)

module _ (setting : Setting) (n : Network) (at : Address) (id : ℕ) (sound : Sound setting (n.event + 1) n) where
  pub closes_sound : Sound setting (n.event + 1)
      (calls setting n at (closed_at setting.numbers (n.tables at) (by_id (n.tables at) id)))
  closes_sound = go (by_id (n.tables at) id) refl
    where
      which : (e : EndState) → by_id (n.tables at) id ≡ Some e → (b : Bool) → is_open e.phase ≡ b →
          Sound setting (n.event + 1)
          (calls setting n at (cond b
          (Ok (moved (n.tables at) (step.Closed e.id) (closing setting.numbers e).after
          (closing setting.numbers e).sent)) (Ok (freed (n.tables at) (step.Freed e.id) e))))
      which e is true opened =
          quiet_sound setting n at (has_id id) e (closing setting.numbers e).after (step.Closed e.id)
          (closing setting.numbers e).sent sound is
          (record {
            id = refl;
            listener = refl;
            asked = refl;
            remote = refl;
            phase = inr (open_is e.phase opened, refl);
          }) (tt, tt)
      which e is false opened = freed_sound setting n at (step.Freed e.id) e sound

      go : (o : Option EndState) → by_id (n.tables at) id ≡ o
          → Sound setting (n.event + 1) (calls setting n at (closed_at setting.numbers (n.tables at) o))
      go None is = sound
      go (Some e) is = which e is (is_open e.phase) refl

  pub writes_sound : (items : List Item)
      → Sound setting (n.event + 1)
      (calls_with (wrote_first items) setting n at (wrote setting.numbers (n.tables at) items (by_id (n.tables at) id)))
  writes_sound items = go (by_id (n.tables at) id) refl
    where
      done : (e : EndState) → by_id (n.tables at) id ≡ Some e
          → Sound setting (n.event + 1)
          (does_with (wrote_first items (length (take (places e) items))) setting n at
          (wrote_some setting.numbers (n.tables at) items e))
      done e is =
          deed_sound (wrote_first items (length (take (places e) items))) setting n at (has_id id) e
          (writing setting.numbers e items).after (length (take (places e) items))
          (writing setting.numbers e items).sent sound is
          (record { id = refl; listener = refl; asked = refl; remote = refl; phase = inl refl })
          (plain_says (writing setting.numbers e items).after (writing setting.numbers e items).sent
          (sending_plain setting.numbers
          (record e { sender = record e.sender { waiting = e.sender.waiting ++ take (places e) items } })))

      which : (e : EndState) → by_id (n.tables at) id ≡ Some e → (b c : Bool) →
          Sound setting (n.event + 1)
          (calls_with (wrote_first items) setting n at
          (cond b (cond c (Err NoRoom) (Ok (wrote_some setting.numbers (n.tables at) items e))) (Err NotOpen)))
      which e is true true = sound
      which e is true false = done e is
      which e is false c = sound

      go : (o : Option EndState) → by_id (n.tables at) id ≡ o
          → Sound setting (n.event + 1)
          (calls_with (wrote_first items) setting n at (wrote setting.numbers (n.tables at) items o))
      go None is = sound
      go (Some e) is = which e is (is_open e.phase) (finds_no_room e items)

  pub reads_sound : (count : ℕ)
      → Sound setting (n.event + 1)
      (calls_with Read setting n at (read_at setting.numbers (n.tables at) count (by_id (n.tables at) id)))
  reads_sound count = go (by_id (n.tables at) id) refl
    where
      which : (e : EndState) → by_id (n.tables at) id ≡ Some e → (b : Bool) →
          Sound setting (n.event + 1)
          (calls_with Read setting n at
          (cond b (Ok (moved (n.tables at) (take count e.receiver.unread) (reading setting.numbers e count).after
          (reading setting.numbers e count).sent)) (Err NotOpen)))
      which e is true =
          deed_sound (Read (take count e.receiver.unread)) setting n at (has_id id) e
          (reading setting.numbers e count).after (take count e.receiver.unread)
          (reading setting.numbers e count).sent sound is
          (record { id = refl; listener = refl; asked = refl; remote = refl; phase = inl refl })
          (plain_says (reading setting.numbers e count).after (reading setting.numbers e count).sent
          (reading_plain setting.numbers e count))
      which e is false = sound

      go : (o : Option EndState) → by_id (n.tables at) id ≡ o
          → Sound setting (n.event + 1) (calls_with Read setting n at (read_at setting.numbers (n.tables at) count o))
      go None is = sound
      go (Some e) is = which e is (has_opened e.phase)

  pub resets_sound : Sound setting (n.event + 1)
      (calls_with gave_up setting n at (reset_at setting.numbers (n.tables at) (by_id (n.tables at) id)))
  resets_sound = go (by_id (n.tables at) id) refl
    where
      which : (e : EndState) → by_id (n.tables at) id ≡ Some e → (b : Bool) →
          Sound setting (n.event + 1)
          (calls_with gave_up setting n at
          (cond b (Ok (moved {X = Unit {0}} (n.tables at) tt (resetting_now setting.numbers e).after
          (resetting_now setting.numbers e).sent)) (Err NotOpen)))
      which e is true =
          deed_sound {X = Unit {0}} GaveUp setting n at (has_id id) e (resetting_now setting.numbers e).after tt
          (resetting_now setting.numbers e).sent sound is
          (record { id = refl; listener = refl; asked = refl; remote = refl; phase = inl refl }) (tt, tt)
      which e is false = sound

      go : (o : Option EndState) → by_id (n.tables at) id ≡ o
          → Sound setting (n.event + 1) (calls_with gave_up setting n at (reset_at setting.numbers (n.tables at) o))
      go None is = sound
      go (Some e) is = which e is (is_open e.phase)

  -- ---- timers

  -- a timer of an end that it does not free
  tick_kept : (e : EndState) (tick : Tick) → by_id (n.tables at) id ≡ Some e → frees e tick ≡ false
      → Sound setting (n.event + 1) (does setting n at (settled (n.tables at) (ticked setting.numbers e tick)))
  tick_kept e Retransmit is stays =
      quiet_sound setting n at (has_id id) e e (ticked setting.numbers e Retransmit).step
      (ticked setting.numbers e Retransmit).sent sound is
      (record { id = refl; listener = refl; asked = refl; remote = refl; phase = inl refl })
      (again_says setting.numbers e e.phase
      (stands_known setting (n.event + 1) n at e sound
      (found_stands setting (n.event + 1) n at (has_id id) e sound is)))
  tick_kept e Probe is stays = go (is_last e Probe) stays
    where
      not_opened : (b : Bool) → is_open e.phase ≡ b → not b ≡ false → e.phase ≡ phase.Open
      not_opened true opened h = open_is e.phase opened
      not_opened false opened h = absurd (true≢false h)

      go : (b : Bool) → (b && not (is_open e.phase)) ≡ false
          → Sound setting (n.event + 1) (does setting n at (settled (n.tables at) (probed setting.numbers e b)))
      go true h =
          quiet_sound setting n at (has_id id) e (probed setting.numbers e true).after
          (probed setting.numbers e true).step [] sound is
          (record {
            id = refl;
            listener = refl;
            asked = refl;
            remote = refl;
            phase = inr (not_opened (is_open e.phase) refl h, refl);
          }) tt
      go false h =
          quiet_sound setting n at (has_id id) e (probed setting.numbers e false).after
          (probed setting.numbers e false).step (probed setting.numbers e false).sent sound is
          (record { id = refl; listener = refl; asked = refl; remote = refl; phase = inl refl })
          (probes_says setting.numbers (probed setting.numbers e false).after e.phase
          (stands_known setting (n.event + 1) n at e sound
          (found_stands setting (n.event + 1) n at (has_id id) e sound is)))

  pub ticks_sound : (tick : Tick)
      → Sound setting (n.event + 1)
      (calls setting n at (ticked_at setting.numbers (n.tables at) tick (by_id (n.tables at) id)))
  ticks_sound tick = go (by_id (n.tables at) id) refl
    where
      which : (e : EndState) → by_id (n.tables at) id ≡ Some e → (b c : Bool) → frees e tick ≡ c →
          Sound setting (n.event + 1)
          (calls setting n at (cond b (Err NotOpen)
          (cond c (Ok (freed (n.tables at) (step.Freed e.id) e))
          (Ok (settled (n.tables at) (ticked setting.numbers e tick))))))
      which e is true c h = sound
      which e is false true h = freed_sound setting n at (step.Freed e.id) e sound
      which e is false false h = tick_kept e tick is h

      go : (o : Option EndState) → by_id (n.tables at) id ≡ o
          → Sound setting (n.event + 1) (calls setting n at (ticked_at setting.numbers (n.tables at) tick o))
      go None is = sound
      go (Some e) is = which e is (is_closed e.phase) (frees e tick) refl
