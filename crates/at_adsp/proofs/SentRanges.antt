-- What an end in range sends is in range too.
use Rattle.std.proofs.Common.{ℕ, ◌+◌, ◌^◌, ◌<◌, Bool, true, false, cond, List, [], ◌∷◌, ◌++◌}
use Rattle.std.proofs.Common.{length, take, drop, Option, Some, None, refl, lit<, lit≤}
use Rattle.std.specs.List.{AllByRecursion}
use Rattle.std.proofs.lemmas.List.Elements.{All-nil}
use Rattle.at_ddp.proofs.Alls.{all_both, all_taken, all_dropped}
use Rattle.at_adsp_frame.specs.Segments.{Content, Part, IsLawful, IsLawfulPart, Open, Probe, Close, Reset, ResetAck}
use Rattle.at_adsp_frame.specs.Segments.{Data}
use Rattle.at_adsp_frame.specs.declared.segment.OpenKind.TheVariants.{Acknowledgement, RequestAndAcknowledgement}
use Rattle.at_adsp_end.specs.Calls.{after_read, open_again, probes, read_opens, reading, sent_again, writing}
use Rattle.at_adsp_end.specs.Cuts.{Piece, items_of, numbered, pieces}
use Rattle.at_adsp_end.specs.Ends.{Change, EndState, Sender, answering, confirming, control, denying, id_of}
use Rattle.at_adsp_end.specs.Ends.{next_unsent, places}
use Rattle.at_adsp_end.specs.Hearing.{Advises, Answers, Asks, Brings, Closes, Resets, Saying, Told, after_hearing}
use Rattle.at_adsp_end.specs.Hearing.{heard, if_asked, jumped, taken, taking}
use Rattle.at_adsp_end.specs.declared.forward.Forward.TheVariants.{Jump, Older, Beyond}
use Rattle.at_adsp_end.specs.Positions.{Numbers}
use Rattle.at_adsp_end.specs.Sending.{acknowledged, closing, going, hearing, repeated, resetting_now, sending, shut}
use Rattle.at_adsp_end.specs.declared.item.Item.{Item}
use Rattle.at_adsp_end.specs.declared.phase.Phase.{Phase}
use Rattle.at_adsp_end.specs.declared.phase.Phase.TheVariants as phase
use Rattle.at_adsp_end.specs.Items.{IsItem}
use Rattle.at_adsp.proofs.Ranges.{AreItems, IsPiece, pieces_fit, EndFits, AllLawful, Fits, packet_fits, asking_fits}

module _ (N : Numbers) (fits : (p : ℕ) → N.at p < 2 ^ 32) where
  pub control_fits : (e : EndState) (ack : Bool) (body : Part) → EndFits e → IsLawfulPart body
      → IsLawful (control N e ack body)
  control_fits e ack body f part =
      packet_fits e (next_unsent N e.sender) ack body f (fits (e.sender.front + length e.sender.unacknowledged)) part

  numbered_fits : (e : EndState) (first : ℕ) (ps : List Piece) → EndFits e → AllByRecursion IsPiece ps
      → AllLawful (numbered N e first ps)
  numbered_fits e first [] f each = tt
  numbered_fits e first (p ∷ ps) f each = (
    packet_fits e (N.at first) true (Data p.end p.bytes) f (fits first) each.0,
    numbered_fits e
        (first + length (items_of p)) ps f each.1,
  )

  cut_fits : (e : EndState) (first : ℕ) (items : List Item) → EndFits e → AreItems items
      → AllLawful (numbered N e first (pieces [] items))
  cut_fits e first items f each =
      numbered_fits e first (pieces [] items) f (pieces_fit [] items (All-nil (λ n. n < 256)) (lit≤ tt) each)

  -- ---- what is sent and acknowledged

  going_fits : (s : Sender) → AreItems s.waiting → AreItems (going s)
  going_fits s each = go s.resetting
    where
      go : (b : Bool) → AreItems (cond b [] (take s.credit s.waiting))
      go true = tt
      go false = all_taken IsItem s.credit s.waiting each

  pub sending_fits : (e : EndState) → EndFits e → Fits (sending N e).after (sending N e).sent
  sending_fits e f = record {
    end =
        record {
          id = f.id;
          asked = f.asked;
          remote = f.remote;
          received = f.received;
          room = f.room;
          unacknowledged = all_both IsItem e.sender.unacknowledged (going e.sender) f.unacknowledged
              (going_fits e.sender f.waiting);
          waiting = all_dropped IsItem (length (going e.sender)) e.sender.waiting f.waiting;
        };
    sent = cut_fits e (e.sender.front + length e.sender.unacknowledged) (going e.sender) f
        (going_fits e.sender f.waiting);
  }

  pub repeated_fits : (e : EndState) → EndFits e → AllLawful (repeated N e)
  repeated_fits e f = cut_fits e e.sender.front e.sender.unacknowledged f f.unacknowledged

  pub hearing_fits : (e : EndState) (window : ℕ) (acks : Option ℕ) → EndFits e
      → Fits (hearing N e window acks).after (hearing N e window acks).sent
  hearing_fits e window None f = record {
    end = record {
      id = f.id;
      asked = f.asked;
      remote = f.remote;
      received = f.received;
      room = f.room;
      unacknowledged = f.unacknowledged;
      waiting = f.waiting;
    };
    sent = tt;
  }
  hearing_fits e window (Some k) f =
      sending_fits (record e { sender = acknowledged N k window e.sender; ticks = 0 })
      (record {
        id = f.id;
        asked = f.asked;
        remote = f.remote;
        received = f.received;
        room = f.room;
        unacknowledged = all_dropped IsItem k e.sender.unacknowledged f.unacknowledged;
        waiting = f.waiting;
      })

  -- ---- what is heard

  shut_fits : (e : EndState) → EndFits e → EndFits (shut N e)
  shut_fits e f = record {
    id = f.id;
    asked = f.asked;
    remote = f.remote;
    received = f.received;
    room = f.room;
    unacknowledged = tt;
    waiting = tt;
  }

  if_fits : (ack : Bool) (e : EndState) → EndFits e → AllLawful (if_asked N ack e)
  if_fits true e f = (control_fits e false Probe f tt, tt)
  if_fits false e f = tt

  more_fits : (e : EndState) (sent more : List Content) → EndFits e → AllLawful sent → AllLawful more
      → Fits e (sent ++ more)
  more_fits e sent more f a b = record { end = f; sent = all_both IsLawful sent more a b }

  -- an end that expects another number
  expects_fits : (e : EndState) (received : ℕ) (unread : List Item) → EndFits e → received < 2 ^ 32
      → EndFits (record e { receiver = record { received = received; unread = unread } })
  expects_fits e received unread f in_range =
      record {
        id = f.id;
        asked = f.asked;
        remote = f.remote;
        received = in_range;
        room = f.room;
        unacknowledged = f.unacknowledged;
        waiting = f.waiting;
      }

  after_hearing_fits : (c : Change) (ack : Bool) (s : Saying) → Fits c.after c.sent
      → Fits (after_hearing N c ack s).after (after_hearing N c ack s).sent
  after_hearing_fits c ack (Brings items) h =
      let f = expects_fits c.after (N.at (c.after.receiver.received + length (taken c.after items)))
      (c.after.receiver.unread ++ taken c.after items) h.end
      (fits (c.after.receiver.received + length (taken c.after items))) in
      more_fits (taking N c.after items) c.sent (if_asked N ack (taking N c.after items)) f h.sent
      (if_fits ack (taking N c.after items) f)
  after_hearing_fits c ack Asks h = more_fits c.after c.sent (if_asked N ack c.after) h.end h.sent
      (if_fits ack c.after h.end)
  after_hearing_fits c ack Closes h = record { end = shut_fits c.after h.end; sent = h.sent }
  after_hearing_fits c ack (Resets (Jump d)) h =
      let f = expects_fits c.after (N.at (c.after.receiver.received + d)) [] h.end
      (fits (c.after.receiver.received + d)) in
      more_fits (jumped N c.after d) c.sent (control N (jumped N c.after d) false ResetAck ∷ []) f h.sent
      (control_fits (jumped N c.after d) false ResetAck f tt, tt)
  after_hearing_fits c ack (Resets Older) h =
      more_fits c.after c.sent (control N c.after false ResetAck ∷ []) h.end h.sent
      (control_fits c.after false ResetAck h.end tt, tt)
  after_hearing_fits c ack (Resets Beyond) h = more_fits c.after c.sent [] h.end h.sent tt
  after_hearing_fits c ack (Answers false) h = more_fits c.after c.sent [] h.end h.sent tt
  after_hearing_fits c ack (Answers true) h =
      let e = h.end in
      let s = sending_fits (record c.after { sender = record c.after.sender { resetting = false } })
      (record {
        id = e.id;
        asked = e.asked;
        remote = e.remote;
        received = e.received;
        room = e.room;
        unacknowledged = e.unacknowledged;
        waiting = e.waiting;
      }) in
      more_fits (after_hearing N c ack (Answers true)).after
      (c.sent ++ (sending N (record c.after { sender = record c.after.sender { resetting = false } })).sent) []
      s.end
      (all_both IsLawful c.sent
      (sending N (record c.after { sender = record c.after.sender { resetting = false } })).sent h.sent s.sent) tt
  after_hearing_fits c ack Advises h = more_fits c.after c.sent (repeated N c.after) h.end h.sent
      (repeated_fits c.after h.end)

  pub heard_fits : (e : EndState) (t : Told) → EndFits e → Fits (heard N e t).after (heard N e t).sent
  heard_fits e t f = after_hearing_fits (hearing N e t.window t.acks) t.ack t.saying (hearing_fits e t.window t.acks f)

  -- ---- calls and timers

  pub closing_fits : (e : EndState) → EndFits e → Fits (closing N e).after (closing N e).sent
  closing_fits e f = record { end = shut_fits e f; sent = (control_fits e false Close f tt, tt) }

  pub shuts_fits : (e : EndState) (ticks : ℕ) → EndFits e → EndFits (shut N (record e { ticks = ticks }))
  shuts_fits e ticks f = record {
    id = f.id;
    asked = f.asked;
    remote = f.remote;
    received = f.received;
    room = f.room;
    unacknowledged = tt;
    waiting = tt;
  }

  pub resetting_fits : (e : EndState) → EndFits e → Fits (resetting_now N e).after (resetting_now N e).sent
  resetting_fits e f = record {
    end = record {
      id = f.id;
      asked = f.asked;
      remote = f.remote;
      received = f.received;
      room = f.room;
      unacknowledged = tt;
      waiting = tt;
    };
    sent = (control_fits e false Reset f tt, tt);
  }

  pub writing_fits : (e : EndState) (items : List Item) → EndFits e → AreItems items
      → Fits (writing N e items).after (writing N e items).sent
  writing_fits e items f each =
      sending_fits (record e { sender = record e.sender { waiting = e.sender.waiting ++ take (places e) items } })
      (record {
        id = f.id;
        asked = f.asked;
        remote = f.remote;
        received = f.received;
        room = f.room;
        unacknowledged = f.unacknowledged;
        waiting = all_both IsItem e.sender.waiting (take (places e) items) f.waiting
            (all_taken IsItem (places e) items each);
      })

  pub reading_fits : (e : EndState) (count : ℕ) → EndFits e → Fits (reading N e count).after (reading N e count).sent
  reading_fits e count f =
      let g = expects_fits e e.receiver.received (drop count e.receiver.unread) f f.received in
      record { end = g; sent = if_fits (read_opens e count) (after_read e count) g }

  -- ---- what goes again

  pub answering_fits : (e : EndState) → EndFits e → IsLawful (answering N e)
  answering_fits e f = control_fits e false (Open RequestAndAcknowledgement (id_of e.remote)) f (f.remote, refl)

  pub confirming_fits : (e : EndState) → EndFits e → IsLawful (confirming N e)
  confirming_fits e f = control_fits e false (Open Acknowledgement (id_of e.remote)) f (f.remote, refl)

  again_open : (e : EndState) → EndFits e → AllLawful (open_again N e)
  again_open e f = go e.sender.resetting
    where
      go : (b : Bool) → AllLawful (cond b (control N e false Reset ∷ []) (repeated N e))
      go true = (control_fits e false Reset f tt, tt)
      go false = repeated_fits e f

  pub again_fits : (e : EndState) (p : Phase) → EndFits e → AllLawful (sent_again N e p)
  again_fits e phase.Opening f = (asking_fits e f, tt)
  again_fits e phase.Half f = (answering_fits e f, tt)
  again_fits e phase.Open f = again_open e f
  again_fits e phase.Closed f = tt

  pub probes_fits : (e : EndState) (p : Phase) → EndFits e → AllLawful (probes N e p)
  probes_fits e phase.Opening f = (asking_fits e f, tt)
  probes_fits e phase.Half f = (answering_fits e f, tt)
  probes_fits e phase.Open f = (control_fits e true Probe f tt, tt)
  probes_fits e phase.Closed f = tt

pub denying_fits : (id : ℕ) → id < 2 ^ 16 → IsLawful (denying id)
denying_fits id fits = record {
  numbers =
      record { source = lit< tt; first = lit< tt; next = lit< tt; window = lit< tt };
  body = (fits, refl);
}
