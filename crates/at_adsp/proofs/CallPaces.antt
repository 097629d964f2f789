-- How far the ends of a network go on at calls.
use Rattle.std.proofs.Common.{◌≡◌, ℕ, ◌+◌, ◌≤◌, Bool, true, false, cond, List, [], ◌∷◌, Option, Some, None, inl, inr}
use Rattle.std.proofs.Common.{refl, sym, ap, ◌∙◌, arith}
use Rattle.std.specs.Prelude.{not, take, length, Ok, Err, ◌&&◌}
use Rattle.std.proofs.lemmas.Bool.{true≢false}
use Rattle.at_ddp.specs.declared.address.Address.{Address}
use Rattle.at_adsp_end.specs.Calls.{is_last, probed, reading, ticked, writing}
use Rattle.at_adsp_end.specs.Ends.{EndState, asking, connector, has_opened, is_closed, is_open, places}
use Rattle.at_adsp_end.specs.Positions.{whole}
use Rattle.at_adsp_end.specs.Sending.{closing, resetting_now}
use Rattle.at_adsp_end.specs.declared.fault.StreamFault.TheVariants.{NotOpen, NoRoom}
use Rattle.at_adsp_end.specs.declared.item.Item.{Item}
use Rattle.at_adsp_end.specs.declared.phase.Phase.{Phase}
use Rattle.at_adsp_end.specs.declared.phase.Phase.TheVariants as phase
use Rattle.at_adsp_end.specs.declared.change.EndChange.TheVariants as step
use Rattle.at_adsp_end.specs.declared.tick.Tick.{Tick}
use Rattle.at_adsp_end.specs.declared.tick.Tick.TheVariants.{Retransmit, Probe}
use Rattle.at_adsp_ends.specs.Calls.{closed_at, connected, finds_no_room, frees, listened, read_at, reset_at, ticked_at}
use Rattle.at_adsp_ends.specs.Calls.{wrote, wrote_some}
use Rattle.at_adsp_ends.specs.Receiving.{settled}
use Rattle.at_adsp_ends.specs.Tables.{EndTable, by_id, freed, has_id, moved, next_id, without_end}
use Rattle.at_ddp.proofs.PostLemmas.{put_elsewhere}
use Rattle.at_adsp.specs.Network.{Setting, Network, NoneNames, calls, calls_with, does, gave_up, listens}
use Rattle.at_adsp.specs.Network.{wrote_first}
use Rattle.at_adsp.specs.Orders.{whole_numbered}
use Rattle.at_adsp.specs.Streams.{Nothing, Read, GaveUp}
use Rattle.at_adsp.proofs.Distinct.{drawn}
use Rattle.at_adsp.proofs.EndMoves.{open_is}
use Rattle.at_adsp.proofs.PacedBirths.{made_pace}
use Rattle.at_adsp.proofs.PacedNetworks.{PaceOf, PaceOn, Past, earlier_low}
use Rattle.at_adsp.proofs.PacedNetworks.{none_go, pace_later, still_pace}
use Rattle.at_adsp.proofs.PacedDeeds.{again_advances, closing_advances, closing_follows, probed_advances}
use Rattle.at_adsp.proofs.PacedDeeds.{probed_follows, reading_advances, reading_follows, resetting_advances}
use Rattle.at_adsp.proofs.PacedDeeds.{resetting_follows, writing_advances, writing_follows}
use Rattle.at_adsp.proofs.Sound.{Sound}
use Rattle.at_adsp.proofs.PacedCalls.{quiet_pace, kept_pace}

pub connects_pace : (room : ℕ) (setting : Setting) (n : Network) (at to : Address) → Sound setting n.event n
    → (pace : PaceOf room setting.ours n.event n) → ((id : ℕ) → next_id (n.tables at) ≡ Some id → NoneNames n at id) →
    PaceOn room setting.ours pace.marks n
    (calls setting n at (connected (n.tables at) to (next_id (n.tables at))))
connects_pace room setting n at to sound pace unnamed = go (next_id (n.tables at)) refl
  where
    go : (o : Option ℕ) → next_id (n.tables at) ≡ o
        → PaceOn room setting.ours pace.marks n (calls setting n at (connected (n.tables at) to o))
    go None is = still_pace room setting.ours n (pace_later room setting.ours n pace) sound.past
    go (Some id) is =
        let fits = pace.rooms at in
        made_pace room setting n at (connector (n.tables at).rooms id to) sound
        (record {
          drawn = drawn (n.tables at) id (sound.next at) is;
          known = (refl, refl);
          unopened = refl;
          unnamed = unnamed id is;
        }) pace (refl, refl) (record { queue = λ is. omega arith; space = fits; unread = omega arith }) id
        (asking (connector (n.tables at).rooms id to) ∷ []) (
          record {
            window = omega (arith, fits);
            tells = λ m. record {
              source = refl;
              first = omega arith;
              next = omega arith;
              window = omega (arith, fits);
            };
          },
          tt,
        )
        ((λ plain. plain), tt)

module _ (room : ℕ) (setting : Setting) (n : Network) (at : Address) (id : ℕ)
    (sound : Sound (whole_numbered setting) (n.event + 1) n) (past : Past n)
    (pace : PaceOf room setting.ours (n.event + 1) n) where
  abbrev W : Setting
  W = whole_numbered setting

  was_opened : {A : Type 0} (p : Phase) → is_open p ≡ true → has_opened p ≡ false → A
  was_opened p h unopened = absurd (true≢false (sym (ap has_opened (open_is p h)) ∙ unopened))

  abbrev Now : Network → Type 0
  Now m = PaceOn room setting.ours pace.marks n m

  nothing : Now n
  nothing = still_pace room setting.ours n pace past

  pub closes_pace : Now (calls W n at (closed_at whole (n.tables at) (by_id (n.tables at) id)))
  closes_pace = go (by_id (n.tables at) id) refl
    where
      which : (e : EndState) → by_id (n.tables at) id ≡ Some e → (b : Bool) → is_open e.phase ≡ b →
          Now
          (calls W n at (cond b (Ok
          (moved (n.tables at) (step.Closed e.id) (closing whole e).after (closing whole e).sent))
          (Ok (freed (n.tables at) (step.Freed e.id) e))))
      which e is true opened =
          quiet_pace room Nothing W n at (has_id id) e (closing whole e).after sound is
          (record {
            id = refl;
            listener = refl;
            asked = refl;
            remote = refl;
            phase = inr (open_is e.phase opened, refl);
          }) pace
          (step.Closed e.id) (closing whole e).sent (closing_advances room (setting.ours e.asked) e)
          (λ unopened. absurd (true≢false unopened))
          (λ b peer h. closing_follows room e (pace.marks b) h) past
      which e is false opened = kept_pace room setting.ours n at e.asked (without_end (n.tables at) e.id) []
          (pace.rooms at) tt tt past pace

      go : (o : Option EndState) → by_id (n.tables at) id ≡ o
          → Now (calls W n at (closed_at whole (n.tables at) o))
      go None is = nothing
      go (Some e) is = which e is (is_open e.phase) refl

  pub writes_pace : (items : List Item)
      → Now
      (calls_with (wrote_first items) W n at (wrote whole (n.tables at) items (by_id (n.tables at) id)))
  writes_pace items = go (by_id (n.tables at) id) refl
    where
      which : (e : EndState) → by_id (n.tables at) id ≡ Some e → (b c : Bool) → is_open e.phase ≡ b →
          Now
          (calls_with (wrote_first items) W n at
          (cond b (cond c (Err NoRoom) (Ok (wrote_some whole (n.tables at) items e))) (Err NotOpen)))
      which e is true true opened = nothing
      which e is true false opened =
          quiet_pace room (wrote_first items (length (take (places e) items))) W n at (has_id id) e
          (writing whole e items).after sound is
          (record { id = refl; listener = refl; asked = refl; remote = refl; phase = inl refl }) pace
          (length (take (places e) items)) (writing whole e items).sent
          (writing_advances room (setting.ours e.asked) e items) (λ unopened. was_opened e.phase opened unopened)
          (λ b peer h. writing_follows room e items (pace.marks b) h) past
      which e is false c opened = nothing

      go : (o : Option EndState) → by_id (n.tables at) id ≡ o
          → Now (calls_with (wrote_first items) W n at (wrote whole (n.tables at) items o))
      go None is = nothing
      go (Some e) is = which e is (is_open e.phase) (finds_no_room e items) refl

  pub reads_pace : (count : ℕ)
      → Now (calls_with Read W n at (read_at whole (n.tables at) count (by_id (n.tables at) id)))
  reads_pace count = go (by_id (n.tables at) id) refl
    where
      which : (e : EndState) → by_id (n.tables at) id ≡ Some e → (b : Bool) → has_opened e.phase ≡ b →
          Now
          (calls_with Read W n at (cond b
          (Ok (moved (n.tables at) (take count e.receiver.unread) (reading whole e count).after
          (reading whole e count).sent)) (Err NotOpen)))
      which e is true opened =
          quiet_pace room (Read (take count e.receiver.unread)) W n at (has_id id) e
          (reading whole e count).after sound is
          (record { id = refl; listener = refl; asked = refl; remote = refl; phase = inl refl }) pace
          (take count e.receiver.unread) (reading whole e count).sent (reading_advances room
          (setting.ours e.asked) e count)
          (λ unopened. absurd (true≢false (sym opened ∙ unopened)))
          (λ b peer h. reading_follows room e count (pace.marks b) h) past
      which e is false opened = nothing

      go : (o : Option EndState) → by_id (n.tables at) id ≡ o
          → Now (calls_with Read W n at (read_at whole (n.tables at) count o))
      go None is = nothing
      go (Some e) is = which e is (has_opened e.phase) refl

  pub resets_pace : Now
      (calls_with gave_up W n at (reset_at whole (n.tables at) (by_id (n.tables at) id)))
  resets_pace = go (by_id (n.tables at) id) refl
    where
      which : (e : EndState) → by_id (n.tables at) id ≡ Some e → (b : Bool) → is_open e.phase ≡ b →
          Now
          (calls_with gave_up W n at
          (cond b (Ok (moved {X = Unit {0}} (n.tables at) tt (resetting_now whole e).after
          (resetting_now whole e).sent)) (Err NotOpen)))
      which e is true opened =
          quiet_pace room GaveUp W n at (has_id id) e (resetting_now whole e).after sound is
          (record { id = refl; listener = refl; asked = refl; remote = refl; phase = inl refl }) pace
          {X = Unit {0}} tt (resetting_now whole e).sent
          (resetting_advances room (setting.ours e.asked) e) (λ unopened. was_opened e.phase opened unopened)
          (λ b peer h. resetting_follows room e (pace.marks b) h) past
      which e is false opened = nothing

      go : (o : Option EndState) → by_id (n.tables at) id ≡ o
          → Now (calls_with gave_up W n at (reset_at whole (n.tables at) o))
      go None is = nothing
      go (Some e) is = which e is (is_open e.phase) refl

  -- ---- timers

  tick_pace : (e : EndState) (tick : Tick) → by_id (n.tables at) id ≡ Some e → is_closed e.phase ≡ false → frees e tick
      ≡ false → Now (does W n at (settled (n.tables at) (ticked whole e tick)))
  tick_pace e Retransmit is open_ stays =
      quiet_pace room Nothing W n at (has_id id) e e sound is
      (record { id = refl; listener = refl; asked = refl; remote = refl; phase = inl refl }) pace
      (ticked whole e Retransmit).step (ticked whole e Retransmit).sent
      (again_advances room (setting.ours e.asked) e) (λ unopened. (refl, refl)) (λ b peer h. h) past
  tick_pace e Probe is open_ stays = go (is_last e Probe) stays
    where
      opened : (b : Bool) → is_open e.phase ≡ b → not b ≡ false → e.phase ≡ phase.Open
      opened true h g = open_is e.phase h
      opened false h g = absurd (true≢false g)

      go : (b : Bool) → (b && not (is_open e.phase)) ≡ false
          → Now (does W n at (settled (n.tables at) (probed whole e b)))
      go true h =
          quiet_pace room Nothing W n at (has_id id) e (probed whole e true).after sound is
          (record {
            id = refl;
            listener = refl;
            asked = refl;
            remote = refl;
            phase = inr (opened (is_open e.phase) refl h, refl);
          }) pace (probed whole e true).step []
          (probed_advances room (setting.ours e.asked) e true) (λ unopened. absurd (true≢false unopened))
          (λ b peer g. probed_follows room e true (pace.marks b) g) past
      go false h =
          quiet_pace room Nothing W n at (has_id id) e (probed whole e false).after sound is
          (record { id = refl; listener = refl; asked = refl; remote = refl; phase = inl refl }) pace
          (probed whole e false).step
          (probed whole e false).sent (probed_advances room (setting.ours e.asked) e false) (λ unopened. (refl, refl))
          (λ b peer g. probed_follows room e false (pace.marks b) g) past

  pub ticks_pace : (tick : Tick)
      → Now (calls W n at (ticked_at whole (n.tables at) tick (by_id (n.tables at) id)))
  ticks_pace tick = go (by_id (n.tables at) id) refl
    where
      which : (e : EndState) → by_id (n.tables at) id ≡ Some e → (b c : Bool) → is_closed e.phase ≡ b → frees e tick
          ≡ c →
          Now
          (calls W n at (cond b (Err NotOpen)
          (cond c (Ok (freed (n.tables at) (step.Freed e.id) e))
          (Ok (settled (n.tables at) (ticked whole e tick))))))
      which e is true c open_ h = nothing
      which e is false true open_ h = kept_pace room setting.ours n at e.asked (without_end (n.tables at) e.id)
          [] (pace.rooms at) tt tt past pace
      which e is false false open_ h = tick_pace e tick is open_ h

      go : (o : Option EndState) → by_id (n.tables at) id ≡ o
          → Now (calls W n at (ticked_at whole (n.tables at) tick o))
      go None is = nothing
      go (Some e) is = which e is (is_closed e.phase) (frees e tick) refl refl

-- requests are answered, or no more
pub listens_pace : (room : ℕ) (ours : Address → Bool) (n : Network) (at : Address) (on : Bool) → Past n
    → (pace : PaceOf room ours (n.event + 1) n) → PaceOn room ours pace.marks n (listens n at on)
listens_pace room ours n at on past pace = record {
  pace = record {
    marks = pace.marks;
    none = pace.none;
    ends = pace.ends;
    sent = pace.sent;
    few = pace.few;
    rooms = put_elsewhere (λ a (x : EndTable). x.rooms.receive ≤ room) n.tables at (listened (n.tables at) on)
        (λ a other. pace.rooms a) (pace.rooms at);
  };
  goes = none_go room ours pace.marks n.made;
  low = earlier_low room ours n.made pace.marks n past;
  back = λ s lt fresh. (fresh, refl);
  before = λ which s is lt. is;
}
