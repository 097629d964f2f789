-- Each call and timer at a table of ends keeps a network in range.
use Rattle.std.proofs.Common.{◌≡◌, ℕ, ◌+◌, ◌^◌, ◌<◌, Bool, true, false, cond, List, [], ◌∷◌, length}
use Rattle.std.proofs.Common.{take, Option, Some, None, lit<}
use Rattle.std.specs.Prelude.{Ok, Err}
use Rattle.at_ddp.specs.Datagram.{IsAddress}
use Rattle.at_ddp.specs.declared.address.Address.{Address}
use Rattle.at_adsp_end.specs.Calls.{is_last, probed, reading, ticked, writing}
use Rattle.at_adsp_end.specs.Ends.{EndState, asking, connector, has_opened}
use Rattle.at_adsp_end.specs.Ends.{is_closed, is_open, places}
use Rattle.at_adsp_end.specs.Positions.{Numbers}
use Rattle.at_adsp_end.specs.Sending.{closing, resetting_now}
use Rattle.at_adsp_end.specs.declared.fault.StreamFault.TheVariants.{NoRoom, NotOpen}
use Rattle.at_adsp_end.specs.declared.item.Item.{Item}
use Rattle.at_adsp_end.specs.declared.change.EndChange.TheVariants as step
use Rattle.at_adsp_end.specs.declared.tick.Tick.{Tick}
use Rattle.at_adsp_end.specs.declared.tick.Tick.TheVariants.{Retransmit, Probe}
use Rattle.at_adsp_ends.specs.Calls.{closed_at, connected, finds_no_room, frees, read_at, reset_at, ticked_at}
use Rattle.at_adsp_ends.specs.Calls.{wrote, wrote_some}
use Rattle.at_adsp_ends.specs.Receiving.{settled}
use Rattle.at_adsp_ends.specs.Tables.{by_id, freed, has_id, moved}
use Rattle.at_adsp_ends.specs.Tables.{next_id}
use Rattle.at_adsp.specs.Network.{Network, Setting}
use Rattle.at_adsp.specs.Network.{calls, does}
use Rattle.at_adsp.proofs.Ranges.{AreItems, EndFits, asking_fits}
use Rattle.at_adsp.proofs.SentRanges.{again_fits}
use Rattle.at_adsp.proofs.SentRanges.{closing_fits}
use Rattle.at_adsp.proofs.SentRanges.{probes_fits}
use Rattle.at_adsp.proofs.SentRanges.{reading_fits, resetting_fits, shuts_fits, writing_fits}
use Rattle.at_adsp.proofs.RangeHistories.{NetworkFits, next_below}
use Rattle.at_adsp.proofs.RangeMoves.{alone, moved_fits, freed_fits, made_fits}
use Rattle.at_adsp.proofs.RangeMoves.{found_fits}

module _ (setting : Setting) (n : Network) (at : Address) (here : IsAddress at) (f : NetworkFits n) where
  pub connects_fits : (to : Address) → IsAddress to → (o : Option ℕ) → next_id (n.tables at) ≡ o
      → NetworkFits (calls setting n at (connected (n.tables at) to o))
  connects_fits to there None is = f
  connects_fits to there (Some id) is =
      let t = f.tables at in
      let e : EndFits (connector (n.tables at).rooms id to) =
      record {
        id = next_below (n.tables at) id (f.tables at) is;
        asked = there;
        remote = lit< tt;
        received = lit< tt;
        room = t.room;
        unacknowledged = tt;
        waiting = tt;
      } in
      made_fits setting n at here f id (connector (n.tables at).rooms id to)
      (asking (connector (n.tables at).rooms id to) ∷ [])
      (alone (connector (n.tables at).rooms id to) (asking (connector (n.tables at).rooms id to)) e
      (asking_fits (connector (n.tables at).rooms id to) e))

  module _ (N : Numbers) (fits : (p : ℕ) → N.at p < 2 ^ 32) where
    pub closes_fits : (id : ℕ) (o : Option EndState) → by_id (n.tables at) id ≡ o
        → NetworkFits (calls setting n at (closed_at N (n.tables at) o))
    closes_fits id None is = f
    closes_fits id (Some e) is = go (is_open e.phase)
      where
        go : (b : Bool) → NetworkFits
            (calls setting n at (cond b
            (Ok (moved (n.tables at) (step.Closed e.id) (closing N e).after (closing N e).sent))
            (Ok (freed (n.tables at) (step.Freed e.id) e))))
        go true = moved_fits setting n at here f (step.Closed e.id) (closing N e).after (closing N e).sent
            (closing_fits N fits e (found_fits setting n at here f (has_id id) e is))
        go false = freed_fits setting n at here f (step.Freed e.id) e

    pub writes_fits : (items : List Item) → AreItems items → (id : ℕ) (o : Option EndState) → by_id (n.tables at) id ≡ o
        → NetworkFits (calls setting n at (wrote N (n.tables at) items o))
    writes_fits items each id None is = f
    writes_fits items each id (Some e) is = go (is_open e.phase) (finds_no_room e items)
      where
        go : (b c : Bool) → NetworkFits
            (calls setting n at (cond b (cond c (Err NoRoom) (Ok (wrote_some N (n.tables at) items e))) (Err NotOpen)))
        go true true = f
        go true false = moved_fits setting n at here f (length (take (places e) items)) (writing N e items).after
            (writing N e items).sent
            (writing_fits N fits e items (found_fits setting n at here f (has_id id) e is) each)
        go false c = f

    pub reads_fits : (count id : ℕ) (o : Option EndState) → by_id (n.tables at) id ≡ o
        → NetworkFits (calls setting n at (read_at N (n.tables at) count o))
    reads_fits count id None is = f
    reads_fits count id (Some e) is = go (has_opened e.phase)
      where
        go : (b : Bool) → NetworkFits
            (calls setting n at (cond b
            (Ok (moved (n.tables at) (take count e.receiver.unread) (reading N e count).after
            (reading N e count).sent)) (Err NotOpen)))
        go true = moved_fits setting n at here f (take count e.receiver.unread) (reading N e count).after
            (reading N e count).sent
            (reading_fits N fits e count (found_fits setting n at here f (has_id id) e is))
        go false = f

    pub resets_fits : (id : ℕ) (o : Option EndState) → by_id (n.tables at) id ≡ o
        → NetworkFits (calls setting n at (reset_at N (n.tables at) o))
    resets_fits id None is = f
    resets_fits id (Some e) is = go (is_open e.phase)
      where
        go : (b : Bool) → NetworkFits
            (calls setting n at (cond b
            (Ok (moved {X = Unit {0}} (n.tables at) tt (resetting_now N e).after (resetting_now N e).sent))
            (Err NotOpen)))
        go true = moved_fits setting n at here f {X = Unit {0}} tt (resetting_now N e).after (resetting_now N e).sent
            (resetting_fits N fits e (found_fits setting n at here f (has_id id) e is))
        go false = f

    -- the same end after a probe tick
    counted : (e : EndState) → EndFits e → EndFits (record e { ticks = e.ticks + 1 })
    counted e h = record {
      id = h.id;
      asked = h.asked;
      remote = h.remote;
      received = h.received;
      room = h.room;
      unacknowledged = h.unacknowledged;
      waiting = h.waiting;
    }

    tick_fits : (e : EndState) (tick : Tick) → EndFits e
        → NetworkFits (does setting n at (settled (n.tables at) (ticked N e tick)))
    tick_fits e Retransmit h =
        moved_fits setting n at here f (ticked N e Retransmit).step e (ticked N e Retransmit).sent
        (record { end = h; sent = again_fits N fits e e.phase h })
    tick_fits e Probe h = go (is_last e Probe)
      where
        go : (b : Bool) → NetworkFits (does setting n at (settled (n.tables at) (probed N e b)))
        go true = moved_fits setting n at here f (probed N e true).step (probed N e true).after []
            (record { end = shuts_fits N fits e 4 h; sent = tt })
        go false =
            moved_fits setting n at here f (probed N e false).step (probed N e false).after (probed N e false).sent
            (record {
              end = counted e h;
              sent = probes_fits N fits (record e { ticks = e.ticks + 1 }) e.phase (counted e h);
            })

    pub ticks_fits : (tick : Tick) (id : ℕ) (o : Option EndState) → by_id (n.tables at) id ≡ o
        → NetworkFits (calls setting n at (ticked_at N (n.tables at) tick o))
    ticks_fits tick id None is = f
    ticks_fits tick id (Some e) is = go (is_closed e.phase) (frees e tick)
      where
        go : (b c : Bool) → NetworkFits
            (calls setting n at (cond b (Err NotOpen)
            (cond c (Ok (freed (n.tables at) (step.Freed e.id) e)) (Ok (settled (n.tables at) (ticked N e tick))))))
        go true c = f
        go false true = freed_fits setting n at here f (step.Freed e.id) e
        go false false = tick_fits e tick (found_fits setting n at here f (has_id id) e is)
