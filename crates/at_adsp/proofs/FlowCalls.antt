-- What calls and timers leave of what is written and read in a network of ends of streams.
use Rattle.std.proofs.Common.{◌≡◌, ℕ, ◌+◌, Bool, true, false, cond, List, [], ◌∷◌, Option, Some, None, inl, inr, refl}
use Rattle.std.proofs.Common.{sym, ap, ◌∙◌}
use Rattle.std.specs.Prelude.{find, not, take, length, ◌++◌, Ok, Err, ◌&&◌}
use Rattle.std.proofs.lemmas.Bool.{true≢false}
use Rattle.at_ddp.specs.declared.address.Address.{Address}
use Rattle.at_adsp_frame.specs.Segments.{Content}
use Rattle.at_adsp_end.specs.Calls.{is_last, probed, reading, ticked, writing}
use Rattle.at_adsp_end.specs.Ends.{EndState, addressed, asking, connector, has_opened, is_closed, is_open, no_receiver}
use Rattle.at_adsp_end.specs.Ends.{places}
use Rattle.at_adsp_end.specs.Positions.{whole}
use Rattle.at_adsp_end.specs.Sending.{closing, resetting_now}
use Rattle.at_adsp_end.specs.declared.fault.StreamFault.TheVariants.{NotOpen, NoRoom}
use Rattle.at_adsp_end.specs.declared.item.Item.{Item}
use Rattle.at_adsp_end.specs.declared.phase.Phase.{Phase}
use Rattle.at_adsp_end.specs.declared.phase.Phase.TheVariants as phase
use Rattle.at_adsp_end.specs.declared.change.EndChange.TheVariants as step
use Rattle.at_adsp_end.specs.declared.tick.Tick.{Tick}
use Rattle.at_adsp_end.specs.declared.tick.Tick.TheVariants.{Retransmit, Probe}
use Rattle.at_adsp_ends.specs.Calls.{closed_at, connected, finds_no_room, frees, read_at, reset_at, ticked_at, wrote}
use Rattle.at_adsp_ends.specs.Calls.{wrote_some}
use Rattle.at_adsp_ends.specs.Receiving.{settled}
use Rattle.at_adsp_ends.specs.Tables.{by_id, freed, has_id, moved, next_id}
use Rattle.at_ddp.specs.Posts.{stamped}
use Rattle.at_ddp.proofs.PostLemmas.{sent_both}
use Rattle.at_adsp.specs.Network.{Setting, Network, NoneNames, calls, calls_with, does, does_with, gave_up, wrote_first}
use Rattle.at_adsp.specs.Orders.{whole_numbered}
use Rattle.at_adsp.specs.Reading.{Written}
use Rattle.at_adsp.specs.Streams.{Deed, Nothing, Read, GaveUp, read_after, written_after}
use Rattle.at_adsp.proofs.Carries.{Goes, Writer, resetting_goes}
use Rattle.at_adsp.proofs.Distinct.{drawn}
use Rattle.at_adsp.proofs.EndMoves.{Quiet, open_is, quiet_opened}
use Rattle.at_adsp.proofs.Flows.{CarriesHere, CarryNothing, EndFlows, Flow, FlowOf, changed_flow, flow_later, flowed}
use Rattle.at_adsp.proofs.Flows.{made_flow, nothing_carried}
use Rattle.at_adsp.proofs.Hears.{Reader, read_reads}
use Rattle.at_adsp.proofs.Logs.{Log}
use Rattle.at_adsp.proofs.Sound.{Sound, Stands}
use Rattle.at_adsp.proofs.Steps.{moves, old, s as stood, same_peer}
use Rattle.at_adsp.proofs.Writing.{again_goes, closing_goes, probed_goes, reading_goes, writing_goes}

-- ---- an end that moves quietly

module _ (deed : Deed) (setting : Setting) (n : Network) (at : Address) (q : EndState → Bool) (e f : EndState)
    (sound : Sound setting (n.event + 1) n) (is : find q (n.tables at).ends ≡ Some e) (quiet : Quiet e f)
    (flow : FlowOf (n.event + 1) n) where
  abbrev it : Stands setting n.made at e
  it = stood deed setting n at q e f sound is quiet

  was : EndFlows flow.logs (stood deed setting n at q e f sound is quiet).it.stream e
  was = flowed deed setting n at e f sound (stood deed setting n at q e f sound is quiet)
      (moves deed setting n at q e f sound is quiet) flow

  pub quiet_flow : {X : Type 0} (answer : X) (out : List Content) →
      ((w : List Written) (l : List Log) → Writer w l e.phase e.sender → Goes (written_after deed w) l f out) →
      ((b : ℕ) (got : List Item) → it.it.stream.peer ≡ Some b → Reader got (flow.logs b) e.receiver
      → Reader (read_after deed got) (flow.logs b) f.receiver) →
      (has_opened f.phase ≡ false → (got : List Item) → (got ≡ []) × (e.receiver ≡ no_receiver)
      → (read_after deed got ≡ []) × (f.receiver ≡ no_receiver)) →
      FlowOf (n.event + 1) (does_with deed setting n at (moved (n.tables at) answer f out))
  quiet_flow answer out goes reads begins =
      let o = old deed setting n at q e f sound is quiet in
      let w = was in
      changed_flow deed setting n at e f sound it (moves deed setting n at q e f sound is quiet) flow out
      (goes it.it.stream.written (flow.logs it.it.stream.birth) w.writer)
      (λ unopened. begins unopened it.it.stream.read (w.begins (sym (quiet_opened e f quiet) ∙ unopened)))
      (λ b peer. let p = sym (same_peer deed setting n at q e f sound is quiet)
      ∙ peer in reads b it.it.stream.read p (w.reader b p))
      answer o.0 o.1

-- ---- what changes no end

pub kept_flow : (n : Network) (at to : Address) (out : List Content) → CarryNothing out → FlowOf (n.event + 1) n
    → Flow (n.event + 1) n.made (n.sent ++ stamped n.event at (addressed to out))
kept_flow n at to out nothing flow = record {
  logs = flow.logs;
  none = flow.none;
  ends = flow.ends;
  sent = sent_both (CarriesHere n.made flow.logs) n.sent (stamped n.event at (addressed to out)) flow.sent
      (nothing_carried n.made flow.logs n.event at to out nothing);
}

-- ---- calls

pub connects_flow : (setting : Setting) (n : Network) (at to : Address) → Sound setting n.event n → FlowOf n.event n
    → ((id : ℕ) → next_id (n.tables at) ≡ Some id → NoneNames n at id) →
    FlowOf (n.event + 1) (calls setting n at (connected (n.tables at) to (next_id (n.tables at))))
connects_flow setting n at to sound flow unnamed = go (next_id (n.tables at)) refl
  where
    go : (o : Option ℕ) → next_id (n.tables at) ≡ o
        → FlowOf (n.event + 1) (calls setting n at (connected (n.tables at) to o))
    go None is = flow_later n flow
    go (Some id) is =
        made_flow setting n at (connector (n.tables at).rooms id to) sound
        (record {
          drawn = drawn (n.tables at) id (sound.next at) is;
          known = (refl, refl);
          unopened = refl;
          unnamed = unnamed id is;
        }) flow (refl, refl) id
        (asking (connector (n.tables at).rooms id to) ∷ []) (λ l. (tt, tt))

module _ (setting : Setting) (n : Network) (at : Address) (id : ℕ)
    (sound : Sound (whole_numbered setting) (n.event + 1) n) (flow : FlowOf (n.event + 1) n) where
  abbrev W : Setting
  W = whole_numbered setting

  -- an end that is open is not closed, and was opened
  not_closed : (p : Phase) → is_open p ≡ true → is_closed p ≡ false
  not_closed p h = ap is_closed (open_is p h)

  was_opened : {A : Type 0} (p : Phase) → is_open p ≡ true → has_opened p ≡ false → A
  was_opened p h unopened = absurd (true≢false (sym (ap has_opened (open_is p h)) ∙ unopened))

  pub closes_flow : FlowOf (n.event + 1) (calls W n at (closed_at whole (n.tables at) (by_id (n.tables at) id)))
  closes_flow = go (by_id (n.tables at) id) refl
    where
      which : (e : EndState) → by_id (n.tables at) id ≡ Some e → (b : Bool) → is_open e.phase ≡ b →
          FlowOf (n.event + 1) (calls W n at
          (cond b (Ok (moved (n.tables at) (step.Closed e.id) (closing whole e).after (closing whole e).sent))
          (Ok (freed (n.tables at) (step.Freed e.id) e))))
      which e is true opened =
          quiet_flow Nothing W n at (has_id id) e (closing whole e).after sound is
          (record {
            id = refl;
            listener = refl;
            asked = refl;
            remote = refl;
            phase = inr (open_is e.phase opened, refl);
          }) flow
          (step.Closed e.id) (closing whole e).sent (λ w l h. closing_goes w l e h) (λ b got peer h. h)
          (λ unopened. absurd (true≢false unopened))
      which e is false opened = kept_flow n at e.asked [] (λ l. tt) flow

      go : (o : Option EndState) → by_id (n.tables at) id ≡ o
          → FlowOf (n.event + 1) (calls W n at (closed_at whole (n.tables at) o))
      go None is = flow
      go (Some e) is = which e is (is_open e.phase) refl

  pub writes_flow : (items : List Item)
      → FlowOf (n.event + 1) (calls_with (wrote_first items) W n at
      (wrote whole (n.tables at) items (by_id (n.tables at) id)))
  writes_flow items = go (by_id (n.tables at) id) refl
    where
      which : (e : EndState) → by_id (n.tables at) id ≡ Some e → (b c : Bool) → is_open e.phase ≡ b →
          FlowOf (n.event + 1) (calls_with (wrote_first items) W n at
          (cond b (cond c (Err NoRoom) (Ok (wrote_some whole (n.tables at) items e))) (Err NotOpen)))
      which e is true true opened = flow
      which e is true false opened =
          quiet_flow (wrote_first items (length (take (places e) items))) W n at (has_id id) e
          (writing whole e items).after sound is
          (record { id = refl; listener = refl; asked = refl; remote = refl; phase = inl refl }) flow
          (length (take (places e) items)) (writing whole e items).sent
          (λ w l h. writing_goes w l e items (h.writes (not_closed e.phase opened))) (λ b got peer h. h)
          (λ unopened. was_opened e.phase opened unopened)
      which e is false c opened = flow

      go : (o : Option EndState) → by_id (n.tables at) id ≡ o
          → FlowOf (n.event + 1) (calls_with (wrote_first items) W n at (wrote whole (n.tables at) items o))
      go None is = flow
      go (Some e) is = which e is (is_open e.phase) (finds_no_room e items) refl

  pub reads_flow : (count : ℕ)
      → FlowOf (n.event + 1) (calls_with Read W n at (read_at whole (n.tables at) count (by_id (n.tables at) id)))
  reads_flow count = go (by_id (n.tables at) id) refl
    where
      which : (e : EndState) → by_id (n.tables at) id ≡ Some e → (b : Bool) → has_opened e.phase ≡ b →
          FlowOf (n.event + 1) (calls_with Read W n at
          (cond b (Ok (moved (n.tables at) (take count e.receiver.unread) (reading whole e count).after
          (reading whole e count).sent)) (Err NotOpen)))
      which e is true opened =
          quiet_flow (Read (take count e.receiver.unread)) W n at (has_id id) e (reading whole e count).after sound is
          (record { id = refl; listener = refl; asked = refl; remote = refl; phase = inl refl }) flow
          (take count e.receiver.unread) (reading whole e count).sent
          (λ w l h. reading_goes w l e count h) (λ b got peer h. read_reads got (flow.logs b) e count h)
          (λ unopened. absurd (true≢false (sym opened ∙ unopened)))
      which e is false opened = flow

      go : (o : Option EndState) → by_id (n.tables at) id ≡ o
          → FlowOf (n.event + 1) (calls_with Read W n at (read_at whole (n.tables at) count o))
      go None is = flow
      go (Some e) is = which e is (has_opened e.phase) refl

  pub resets_flow : FlowOf (n.event + 1)
      (calls_with gave_up W n at (reset_at whole (n.tables at) (by_id (n.tables at) id)))
  resets_flow = go (by_id (n.tables at) id) refl
    where
      which : (e : EndState) → by_id (n.tables at) id ≡ Some e → (b : Bool) → is_open e.phase ≡ b →
          FlowOf (n.event + 1) (calls_with gave_up W n at
          (cond b (Ok (moved {X = Unit {0}} (n.tables at) tt (resetting_now whole e).after
          (resetting_now whole e).sent)) (Err NotOpen)))
      which e is true opened =
          quiet_flow GaveUp W n at (has_id id) e (resetting_now whole e).after sound is
          (record { id = refl; listener = refl; asked = refl; remote = refl; phase = inl refl }) flow
          {X = Unit {0}} tt (resetting_now whole e).sent
          (λ w l h. resetting_goes w l e (h.writes (not_closed e.phase opened))) (λ b got peer h. h)
          (λ unopened. was_opened e.phase opened unopened)
      which e is false opened = flow

      go : (o : Option EndState) → by_id (n.tables at) id ≡ o
          → FlowOf (n.event + 1) (calls_with gave_up W n at (reset_at whole (n.tables at) o))
      go None is = flow
      go (Some e) is = which e is (is_open e.phase) refl

  -- ---- timers

  tick_flow : (e : EndState) (tick : Tick) → by_id (n.tables at) id ≡ Some e → is_closed e.phase ≡ false → frees e tick
      ≡ false → FlowOf (n.event + 1) (does W n at (settled (n.tables at) (ticked whole e tick)))
  tick_flow e Retransmit is open_ stays =
      quiet_flow Nothing W n at (has_id id) e e sound is
      (record { id = refl; listener = refl; asked = refl; remote = refl; phase = inl refl }) flow
      (ticked whole e Retransmit).step (ticked whole e Retransmit).sent
      (λ w l h. again_goes w l e open_ h) (λ b got peer h. h) (λ unopened got h. h)
  tick_flow e Probe is open_ stays = go (is_last e Probe) stays
    where
      opened : (b : Bool) → is_open e.phase ≡ b → not b ≡ false → e.phase ≡ phase.Open
      opened true h g = open_is e.phase h
      opened false h g = absurd (true≢false g)

      go : (b : Bool) → (b && not (is_open e.phase)) ≡ false
          → FlowOf (n.event + 1) (does W n at (settled (n.tables at) (probed whole e b)))
      go true h =
          quiet_flow Nothing W n at (has_id id) e (probed whole e true).after sound is
          (record {
            id = refl;
            listener = refl;
            asked = refl;
            remote = refl;
            phase = inr (opened (is_open e.phase) refl h, refl);
          }) flow (probed whole e true).step []
          (λ w l g. probed_goes w l e true g) (λ b got peer g. g) (λ unopened. absurd (true≢false unopened))
      go false h =
          quiet_flow Nothing W n at (has_id id) e (probed whole e false).after sound is
          (record { id = refl; listener = refl; asked = refl; remote = refl; phase = inl refl }) flow
          (probed whole e false).step
          (probed whole e false).sent (λ w l g. probed_goes w l e false g) (λ b got peer g. g) (λ unopened got g. g)

  pub ticks_flow : (tick : Tick)
      → FlowOf (n.event + 1) (calls W n at (ticked_at whole (n.tables at) tick (by_id (n.tables at) id)))
  ticks_flow tick = go (by_id (n.tables at) id) refl
    where
      which : (e : EndState) → by_id (n.tables at) id ≡ Some e → (b c : Bool) → is_closed e.phase ≡ b → frees e tick
          ≡ c →
          FlowOf (n.event + 1) (calls W n at
          (cond b (Err NotOpen) (cond c (Ok (freed (n.tables at) (step.Freed e.id) e))
          (Ok (settled (n.tables at) (ticked whole e tick))))))
      which e is true c open_ h = flow
      which e is false true open_ h = kept_flow n at e.asked [] (λ l. tt) flow
      which e is false false open_ h = tick_flow e tick is open_ h

      go : (o : Option EndState) → by_id (n.tables at) id ≡ o
          → FlowOf (n.event + 1) (calls W n at (ticked_at whole (n.tables at) tick o))
      go None is = flow
      go (Some e) is = which e is (is_closed e.phase) (frees e tick) refl refl
