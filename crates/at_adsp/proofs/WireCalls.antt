-- What a call or a timer does at a table of ends is the same on the cable.
use Rattle.std.proofs.Common.{◌≡◌, ℕ, zero, suc, ◌+◌, ◌^◌, Bool, true, false, cond, List, [], ◌∷◌, ◌++◌, length, map}
use Rattle.std.proofs.Common.{take, Option, Some, None, refl, sym, ap, ◌∙◌}
use Rattle.std.specs.Prelude.{nat_lt, Result, Ok, Err}
use Rattle.at_ddp.specs.declared.address.Address.{Address}
use Rattle.at_adsp_frame.specs.Segments.{Content, Close, Open, Probe, Reset}
use Rattle.at_adsp_frame.specs.declared.segment.OpenKind.TheVariants.{RequestAndAcknowledgement}
use Rattle.at_adsp_end.specs.Calls.{after_read, is_last, open_again, probed, probes, read_opens, reading, sent_again}
use Rattle.at_adsp_end.specs.Calls.{ticked, writing}
use Rattle.at_adsp_end.specs.Ends.{Change, EndState, addressed, acknowledging, asking, connector, control, id_of}
use Rattle.at_adsp_end.specs.Ends.{has_opened, has_remote, is_closed, is_open, places}
use Rattle.at_adsp_end.specs.Hearing.{Outcome}
use Rattle.at_adsp_end.specs.Positions.{whole, wire}
use Rattle.at_adsp_end.specs.Sending.{closing, repeated, resetting_now}
use Rattle.at_adsp_end.specs.declared.fault.StreamFault.{StreamFault}
use Rattle.at_adsp_end.specs.declared.fault.StreamFault.TheVariants.{NoRoom, NotOpen}
use Rattle.at_adsp_end.specs.declared.item.Item.{Item}
use Rattle.at_adsp_end.specs.declared.phase.Phase.{Phase}
use Rattle.at_adsp_end.specs.declared.phase.Phase.TheVariants as phase
use Rattle.at_adsp_end.specs.declared.remote.Remote.{Remote}
use Rattle.at_adsp_end.specs.declared.change.EndChange.TheVariants as step
use Rattle.at_adsp_end.specs.declared.tick.Tick.{Tick}
use Rattle.at_adsp_end.specs.declared.tick.Tick.TheVariants.{Retransmit, Probe as probe_tick}
use Rattle.at_adsp_ends.specs.Calls.{closed_at, connected, finds_no_room, frees, read_at, reset_at, ticked_at, wrote}
use Rattle.at_adsp_ends.specs.Calls.{wrote_some}
use Rattle.at_adsp_ends.specs.Receiving.{settled}
use Rattle.at_adsp_ends.specs.Tables.{Done, EndTable, by_id, by_remote, following, free_id, freed, has_id, made, moved}
use Rattle.at_adsp_ends.specs.Tables.{next_id, stayed}
use Rattle.at_adsp.specs.Wires.{wired, wired_outcome, wired_segment}
use Rattle.at_adsp.proofs.Mapped.{any_mapped, find_mapped, length_mapped, mapped, replaced_mapped, without_mapped}
use Rattle.at_adsp.proofs.Rounds.{at_adds}
use Rattle.at_adsp.proofs.Wires.{control_wired, repeated_wired, sends_on_wired, shut_wired, wired_change}
use Rattle.std.proofs.lemmas.List.{map-append}

abbrev M : ℕ
M = 2 ^ 32

-- ---- tables as the cable has them

abbrev pub wired_table : EndTable → EndTable
wired_table t = record t { ends = map wired t.ends }

abbrev pub wired_to : Address × Content → Address × Content
wired_to x = (x.0, wired_segment x.1)

abbrev pub wired_done : {X : Type 0} → Done X → Done X
wired_done d = record {
  answer = d.answer;
  after = wired_table d.after;
  changed = mapped wired d.changed;
  sent = map wired_to d.sent;
}

abbrev pub wired_result : {X : Type 0} → Result (Done X) StreamFault → Result (Done X) StreamFault
wired_result (Err fault) = Err fault
wired_result (Ok d) = Ok (wired_done d)

pub id_wired : (t : EndTable) (id : ℕ) → by_id (wired_table t) id ≡ mapped wired (by_id t id)
id_wired t id = find_mapped wired (has_id id) (has_id id) (λ e. refl) t.ends

pub remote_wired : (t : EndTable) (r : Remote) → by_remote (wired_table t) r ≡ mapped wired (by_remote t r)
remote_wired t r = find_mapped wired (has_remote r) (has_remote r) (λ e. refl) t.ends

free_wired : (tries first : ℕ) (ends : List EndState) → free_id tries first (map wired ends) ≡ free_id tries first ends
free_wired zero first ends = refl
free_wired (suc tries) first ends =
    λ i. cond (any_mapped wired (has_id first) (has_id first) (λ e. refl) ends i)
    (free_wired tries (following first) ends i) (Some first)

pub next_wired : (t : EndTable) → next_id (wired_table t) ≡ next_id t
next_wired t =
    ap (λ k. cond (nat_lt k 16) (free_id (k + 1) t.next (map wired t.ends)) None) (length_mapped wired t.ends)
    ∙ ap (λ o. cond (nat_lt (length t.ends) 16) o None) (free_wired (length t.ends + 1) t.next t.ends)

pub addressed_wired : (to : Address) (out : List Content) → addressed to (map wired_segment out)
    ≡ map wired_to (addressed to out)
addressed_wired to [] = refl
addressed_wired to (x ∷ out) = ap (λ l. (to, wired_segment x) ∷ l) (addressed_wired to out)

-- ---- what becomes of an end

module _ {X : Type 0} (t : EndTable) (answer : X) (e : EndState) (out : List Content) where
  pub made_wired : made (wired_table t) answer (wired e) (map wired_segment out) ≡ wired_done (made t answer e out)
  made_wired = λ i. record {
    answer = answer;
    after = record {
      listening = t.listening;
      next = following e.id;
      rooms = t.rooms;
      ends = sym (map-append wired t.ends (e ∷ [])) i;
    };
    changed = Some (wired e);
    sent = addressed_wired e.asked out i;
  }

  pub moved_wired : moved (wired_table t) answer (wired e) (map wired_segment out) ≡ wired_done (moved t answer e out)
  moved_wired = λ i. record {
    answer = answer;
    after = record {
      listening = t.listening;
      next = t.next;
      rooms = t.rooms;
      ends = replaced_mapped wired (has_id e.id) (has_id e.id) (λ x. refl) e t.ends i;
    };
    changed = Some (wired e);
    sent = addressed_wired e.asked out i;
  }

  pub stayed_wired : stayed (wired_table t) answer (wired e) (map wired_segment out)
      ≡ wired_done (stayed t answer e out)
  stayed_wired = λ i. record {
    answer = answer;
    after = wired_table t;
    changed = None;
    sent = addressed_wired e.asked out i;
  }

  pub freed_wired : freed (wired_table t) answer (wired e) ≡ wired_done (freed t answer e)
  freed_wired = λ i. record {
    answer = answer;
    after = record {
      listening = t.listening;
      next = t.next;
      rooms = t.rooms;
      ends = without_mapped wired (has_id e.id) (has_id e.id) (λ x. refl) t.ends i;
    };
    changed = None;
    sent = [];
  }

-- an end that moved in this way
pub moves_wired : {X : Type 0} (t : EndTable) (answer : X) (c d : Change) → c ≡ wired_change d
    → moved (wired_table t) answer c.after c.sent ≡ wired_done (moved t answer d.after d.sent)
moves_wired t answer c d h = ap (λ (x : Change). moved (wired_table t) answer x.after x.sent) h
    ∙ moved_wired t answer d.after d.sent

pub settled_wired : (t : EndTable) (o p : Outcome) → o ≡ wired_outcome p → settled (wired_table t) o
    ≡ wired_done (settled t p)
settled_wired t o p h = ap (λ (x : Outcome). settled (wired_table t) x) h ∙ moved_wired t p.step p.after p.sent

-- ---- what an end does

closing_wired : (e : EndState) → closing wire (wired e) ≡ wired_change (closing whole e)
closing_wired e = λ i. record { after = shut_wired e i; sent = control_wired e false Close i ∷ [] }

resetting_wired : (e : EndState) → resetting_now wire (wired e) ≡ wired_change (resetting_now whole e)
resetting_wired e = λ i. record {
  after = record (wired (resetting_now whole e).after) {
    sender = record
        (wired (resetting_now whole e).after).sender {
          front = at_adds M e.sender.front
              (length e.sender.unacknowledged) i;
        };
  };
  sent = control_wired e false Reset i ∷ [];
}

writing_wired : (e : EndState) (items : List Item) → writing wire (wired e) items ≡ wired_change (writing whole e items)
writing_wired e items = sends_on_wired
    (record e { sender = record e.sender { waiting = e.sender.waiting ++ take (places e) items } })

reading_wired : (e : EndState) (count : ℕ) → reading wire (wired e) count ≡ wired_change (reading whole e count)
reading_wired e count = λ i. record { after = wired (after_read e count); sent = go (read_opens e count) i }
  where
    go : (b : Bool) → cond b (acknowledging wire (wired (after_read e count)) ∷ []) []
        ≡ map wired_segment (cond b (acknowledging whole (after_read e count) ∷ []) [])
    go true = λ i. control_wired (after_read e count) false Probe i ∷ []
    go false = refl

again_open_wired : (e : EndState) → open_again wire (wired e) ≡ map wired_segment (open_again whole e)
again_open_wired e = go e.sender.resetting
  where
    go : (b : Bool) → cond b (control wire (wired e) false Reset ∷ []) (repeated wire (wired e))
        ≡ map wired_segment (cond b (control whole e false Reset ∷ []) (repeated whole e))
    go true = λ i. control_wired e false Reset i ∷ []
    go false = repeated_wired e

again_wired : (e : EndState) (p : Phase) → sent_again wire (wired e) p ≡ map wired_segment (sent_again whole e p)
again_wired e phase.Opening = refl
again_wired e phase.Half = λ i. control_wired e false (Open RequestAndAcknowledgement (id_of e.remote)) i ∷ []
again_wired e phase.Open = again_open_wired e
again_wired e phase.Closed = refl

probes_wired : (e : EndState) (p : Phase) → probes wire (wired e) p ≡ map wired_segment (probes whole e p)
probes_wired e phase.Opening = refl
probes_wired e phase.Half = λ i. control_wired e false (Open RequestAndAcknowledgement (id_of e.remote)) i ∷ []
probes_wired e phase.Open = λ i. control_wired e true Probe i ∷ []
probes_wired e phase.Closed = refl

probed_wired : (e : EndState) (b : Bool) → probed wire (wired e) b ≡ wired_outcome (probed whole e b)
probed_wired e true = λ i. record { step = step.Closed e.id; after = shut_wired (record e { ticks = 4 }) i; sent = [] }
probed_wired e false = λ i.
    record { step = step.Again; after = wired (record e { ticks = e.ticks + 1 }); sent = probes_wired e e.phase i }

ticked_wired : (e : EndState) (tick : Tick) → ticked wire (wired e) tick ≡ wired_outcome (ticked whole e tick)
ticked_wired e Retransmit =
    λ i. record { step = (ticked whole e Retransmit).step; after = wired e; sent = again_wired e e.phase i }
ticked_wired e probe_tick = probed_wired e (is_last e probe_tick)

-- ---- calls and timers, given the end that they name

module _ (t : EndTable) where
  abbrev T : EndTable
  T = wired_table t

  pub connected_wired : (to : Address) (o : Option ℕ) → connected T to o ≡ wired_result (connected t to o)
  connected_wired to None = refl
  connected_wired to (Some id) =
      ap Ok (made_wired t id (connector t.rooms id to) (asking (connector t.rooms id to) ∷ []))

  pub closed_wired : (o : Option EndState) → closed_at wire T (mapped wired o) ≡ wired_result (closed_at whole t o)
  closed_wired None = refl
  closed_wired (Some e) = go (is_open e.phase)
    where
      go : (b : Bool) →
          cond b (Ok (moved T (step.Closed e.id) (closing wire (wired e)).after (closing wire (wired e)).sent))
          (Ok (freed T (step.Freed e.id) (wired e)))
          ≡ wired_result (cond b (Ok (moved t (step.Closed e.id) (closing whole e).after (closing whole e).sent))
          (Ok (freed t (step.Freed e.id) e)))
      go true = ap Ok (moves_wired t (step.Closed e.id) (closing wire (wired e)) (closing whole e) (closing_wired e))
      go false = ap Ok (freed_wired t (step.Freed e.id) e [])

  pub ticks_wired : (tick : Tick) (o : Option EndState) → ticked_at wire T tick (mapped wired o)
      ≡ wired_result (ticked_at whole t tick o)
  ticks_wired tick None = refl
  ticks_wired tick (Some e) = go (is_closed e.phase) (frees e tick)
    where
      go : (b c : Bool) →
          cond b (Err NotOpen) (cond c (Ok (freed T (step.Freed e.id) (wired e)))
          (Ok (settled T (ticked wire (wired e) tick))))
          ≡ wired_result (cond b (Err NotOpen)
          (cond c (Ok (freed t (step.Freed e.id) e)) (Ok (settled t (ticked whole e tick)))))
      go true c = refl
      go false true = ap Ok (freed_wired t (step.Freed e.id) e [])
      go false false = ap Ok (settled_wired t (ticked wire (wired e) tick) (ticked whole e tick) (ticked_wired e tick))

  pub reads_wired : (count : ℕ) (o : Option EndState) → read_at wire T count (mapped wired o)
      ≡ wired_result (read_at whole t count o)
  reads_wired count None = refl
  reads_wired count (Some e) = go (has_opened e.phase)
    where
      go : (b : Bool) →
          cond b (Ok (moved T (take count e.receiver.unread) (reading wire (wired e) count).after
          (reading wire (wired e) count).sent)) (Err NotOpen)
          ≡ wired_result (cond b (Ok
          (moved t (take count e.receiver.unread) (reading whole e count).after (reading whole e count).sent))
          (Err NotOpen))
      go true = ap Ok (moves_wired t (take count e.receiver.unread) (reading wire (wired e) count)
          (reading whole e count) (reading_wired e count))
      go false = refl

  pub resets_wired : (o : Option EndState) → reset_at wire T (mapped wired o) ≡ wired_result (reset_at whole t o)
  resets_wired None = refl
  resets_wired (Some e) = go (is_open e.phase)
    where
      go : (b : Bool) →
          cond b (Ok (moved {X = Unit {0}} T tt (resetting_now wire (wired e)).after
          (resetting_now wire (wired e)).sent)) (Err NotOpen)
          ≡ wired_result (cond b (Ok
          (moved {X = Unit {0}} t tt (resetting_now whole e).after (resetting_now whole e).sent)) (Err NotOpen))
      go true = ap Ok (moves_wired {X = Unit {0}} t tt (resetting_now wire (wired e)) (resetting_now whole e)
          (resetting_wired e))
      go false = refl

  pub wrote_wired : (items : List Item) (o : Option EndState) → wrote wire T items (mapped wired o)
      ≡ wired_result (wrote whole t items o)
  wrote_wired items None = refl
  wrote_wired items (Some e) = go (is_open e.phase) (finds_no_room e items)
    where
      go : (b c : Bool) →
          cond b (cond c (Err NoRoom) (Ok (wrote_some wire T items (wired e)))) (Err NotOpen)
          ≡ wired_result (cond b (cond c (Err NoRoom) (Ok (wrote_some whole t items e))) (Err NotOpen))
      go true true = refl
      go true false = ap Ok (moves_wired t (length (take (places e) items)) (writing wire (wired e) items)
          (writing whole e items) (writing_wired e items))
      go false c = refl
