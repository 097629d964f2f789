-- How far an end goes on as it is called or hears a timer.
use Rattle.std.proofs.Common.{ℕ, ◌+◌, ◌*◌, ◌≤◌, Bool, true, false, cond, List, [], ◌∷◌, ◌++◌, length, take, drop, refl}
use Rattle.std.proofs.Common.{arith}
use Rattle.std.specs.List.{AllByRecursion}
use Rattle.at_adsp_frame.specs.Segments.{Close, Probe, Open, Reset}
use Rattle.at_adsp_frame.specs.declared.segment.OpenKind.TheVariants.{RequestAndAcknowledgement}
use Rattle.at_adsp_end.specs.Calls.{after_read, open_again, probed, probes, read_opens, reading, sent_again, ticked}
use Rattle.at_adsp_end.specs.Calls.{writing}
use Rattle.at_adsp_end.specs.Ends.{EndState, control, id_of, places}
use Rattle.at_adsp_end.specs.Positions.{whole}
use Rattle.at_adsp_end.specs.Sending.{repeated, resetting_now, sending, shut, closing}
use Rattle.at_adsp_end.specs.declared.item.Item.{Item}
use Rattle.at_adsp_end.specs.declared.phase.Phase.{Phase}
use Rattle.at_adsp_end.specs.declared.phase.Phase.TheVariants as phase
use Rattle.at_adsp_end.specs.declared.tick.Tick.TheVariants.{Retransmit}
use Rattle.at_adsp.proofs.Fews.{length_drop}
use Rattle.at_adsp.proofs.Paces.{Follows, Keeps, Marks, Paces, TellsFrom, TellsOf, asked_from, asked_tells}
use Rattle.at_adsp.proofs.Paces.{control_from, control_tells, free_fits, from_on, marks_of, repeated_from}
use Rattle.at_adsp.proofs.Paces.{repeated_tells, sending_limit, sending_paces, so_paces}
use Rattle.at_adsp.proofs.Slows.{Advances, IsSlow, probed_exact, reading_exact, same_slow, sending_exact, sending_sends}
use Rattle.at_adsp.proofs.Slows.{sending_slow, ticked_exact}
use Rattle.at_adsp.proofs.PacedHearings.{shut_keeps, taking_keeps}

abbrev with_waiting : EndState → List Item → EndState
with_waiting e items = record e { sender = record e.sender { waiting = e.sender.waiting ++ take (places e) items } }

module _ (room : ℕ) (here : Bool) where
  pub closing_advances : (e : EndState) → Keeps room here e
      → Advances room here e (closing whole e).after (closing whole e).sent
  closing_advances e k = record {
    paces = record {
      id = refl;
      rises = record { gave = omega arith; took = omega arith };
      front = omega arith;
      keeps = shut_keeps room here e k;
      tells = (record { source = refl; first = omega arith; next = omega arith; window = free_fits room here e k }, tt);
      from = (control_from room here e false Close, tt);
    };
    slow = λ is. same_slow (room + room) e (closing whole e).after (omega arith) refl;
    exact = (tt, tt);
    sends = omega arith;
  }

  pub resetting_advances : (e : EndState) → Keeps room here e
      → Advances room here e (resetting_now whole e).after (resetting_now whole e).sent
  resetting_advances e k = record {
    paces = record {
      id = refl;
      rises = record { gave = omega arith; took = omega arith };
      front = omega arith;
      keeps = record {
        queue = λ is. let q = k.queue is in omega (arith, q);
        space = k.space;
        unread = k.unread;
      };
      tells = (record { source = refl; first = omega arith; next = omega arith; window = free_fits room here e k }, tt);
      from = (control_from room here e false Reset, tt);
    };
    slow = λ is. same_slow (room + room) e (resetting_now whole e).after (omega arith) refl;
    exact = (omega arith, tt);
    sends = omega arith;
  }

  pub writing_advances : (e : EndState) (items : List Item) → Keeps room here e
      → Advances room here e (writing whole e items).after (writing whole e items).sent
  writing_advances e items k =
      let w = with_waiting e items in
      let g : Keeps room here w = record { queue = k.queue; space = k.space; unread = k.unread } in
      let s = sending_paces room here w g in
      record {
        paces = record {
          id = refl;
          rises = s.rises;
          front = s.front;
          keeps = s.keeps;
          tells = s.tells;
          from = from_on e w (sending whole w).sent (omega arith) (omega arith) s.from;
        };
        slow = λ is. let slow = sending_slow room here is w g in let gave = slow.gave in let took = slow.took in
            record { gave = omega (arith, gave); took = omega (arith, took) };
        exact = sending_exact w (marks_of (sending whole w).after).gave;
        sends = sending_sends w;
      }

  pub reading_advances : (e : EndState) (count : ℕ) → Keeps room here e
      → Advances room here e (reading whole e count).after (reading whole e count).sent
  reading_advances e count k =
      let d = length_drop count e.receiver.unread in
      let u = k.unread in
      let g = taking_keeps room here e e.receiver.received (drop count e.receiver.unread) (omega (arith, d, u)) k in
      record {
        paces = so_paces room here e (after_read e count) (reading whole e count).sent refl refl refl g
            (asked_tells room here (read_opens e count) (after_read e count) g)
            (from_on e (after_read e count) (reading whole e count).sent (omega arith) (omega arith)
            (asked_from room here (read_opens e count) (after_read e count)));
        slow = λ is. same_slow (room + room) e (after_read e count) refl refl;
        exact = reading_exact e count (marks_of (after_read e count)).gave;
        sends = omega arith;
      }

  open_tells : (e : EndState) → Keeps room here e → AllByRecursion (TellsOf room e.id (marks_of e)) (open_again whole e)
  open_tells e k = go e.sender.resetting
    where
      go : (b : Bool) → AllByRecursion (TellsOf room e.id (marks_of e))
          (cond b (control whole e false Reset ∷ []) (repeated whole e))
      go true = (control_tells room here e false Reset refl k, tt)
      go false = repeated_tells room here e k

  open_from : (e : EndState) → AllByRecursion (TellsFrom e) (open_again whole e)
  open_from e = go e.sender.resetting
    where
      go : (b : Bool) → AllByRecursion (TellsFrom e) (cond b (control whole e false Reset ∷ []) (repeated whole e))
      go true = (control_from room here e false Reset, tt)
      go false = repeated_from room here e

  again_tells : (e : EndState) (p : Phase) → Keeps room here e
      → AllByRecursion (TellsOf room e.id (marks_of e)) (sent_again whole e p)
  again_tells e phase.Opening k =
      (record { source = refl; first = omega arith; next = omega arith; window = free_fits room here e k }, tt)
  again_tells e phase.Half k =
      (control_tells room here e false (Open RequestAndAcknowledgement (id_of e.remote)) refl k, tt)
  again_tells e phase.Open k = open_tells e k
  again_tells e phase.Closed k = tt

  again_from : (e : EndState) (p : Phase) → AllByRecursion (TellsFrom e) (sent_again whole e p)
  again_from e phase.Opening = ((λ plain. absurd plain), tt)
  again_from e phase.Half = ((λ plain. absurd plain), tt)
  again_from e phase.Open = open_from e
  again_from e phase.Closed = tt

  probes_tells : (e : EndState) (p : Phase) → Keeps room here e
      → AllByRecursion (TellsOf room e.id (marks_of e)) (probes whole e p)
  probes_tells e phase.Opening k =
      (record { source = refl; first = omega arith; next = omega arith; window = free_fits room here e k }, tt)
  probes_tells e phase.Half k =
      (control_tells room here e false (Open RequestAndAcknowledgement (id_of e.remote)) refl k, tt)
  probes_tells e phase.Open k = (control_tells room here e true Probe refl k, tt)
  probes_tells e phase.Closed k = tt

  probes_from : (e : EndState) (p : Phase) → AllByRecursion (TellsFrom e) (probes whole e p)
  probes_from e phase.Opening = ((λ plain. absurd plain), tt)
  probes_from e phase.Half = ((λ plain. absurd plain), tt)
  probes_from e phase.Open = (control_from room here e true Probe, tt)
  probes_from e phase.Closed = tt

  pub again_advances : (e : EndState) → Keeps room here e
      → Advances room here e (ticked whole e Retransmit).after (ticked whole e Retransmit).sent
  again_advances e k = record {
    paces = so_paces room here e e (sent_again whole e e.phase) refl refl refl k (again_tells e e.phase k)
        (again_from e e.phase);
    slow = λ is. same_slow (room + room) e e refl refl;
    exact = ticked_exact e;
    sends = omega arith;
  }

  probed_paces : (e : EndState) (b : Bool) → Keeps room here e
      → Paces room here e (probed whole e b).after (probed whole e b).sent
  probed_paces e true k =
      record {
        id = refl;
        rises = record { gave = omega arith; took = omega arith };
        front = omega arith;
        keeps = shut_keeps room here (record e { ticks = 4 })
            (record { queue = k.queue; space = k.space; unread = k.unread });
        tells = tt;
        from = tt;
      }
  probed_paces e false k = so_paces room here e (record e { ticks = e.ticks + 1 }) (probes whole e e.phase) refl refl
      refl (record { queue = k.queue; space = k.space; unread = k.unread }) (probes_tells e e.phase k)
      (probes_from e e.phase)

  probed_slow : (e : EndState) (b : Bool) → IsSlow (room + room) (marks_of e) (marks_of (probed whole e b).after)
  probed_slow e true = same_slow (room + room) e (probed whole e true).after (omega arith) refl
  probed_slow e false = same_slow (room + room) e (probed whole e false).after refl refl

  probed_sends : (e : EndState) (b : Bool) → (marks_of (probed whole e b).after).gave
      ≤ (marks_of e).gave + 573 * length (probed whole e b).sent
  probed_sends e true = omega arith
  probed_sends e false = omega arith

  pub probed_advances : (e : EndState) (b : Bool) → Keeps room here e
      → Advances room here e (probed whole e b).after (probed whole e b).sent
  probed_advances e b k = record {
    paces = probed_paces e b k;
    slow = λ is. probed_slow e b;
    exact = probed_exact e b (marks_of (probed whole e b).after).gave;
    sends = probed_sends e b;
  }

module _ (room : ℕ) where
  pub closing_follows : (e : EndState) (m : Marks) → Follows room m e → Follows room m (shut whole e)
  closing_follows e m h = let l = h.limit in record { received = h.received; limit = omega (arith, l) }

  pub resetting_follows : (e : EndState) (m : Marks) → Follows room m e → Follows room m (resetting_now whole e).after
  resetting_follows e m h = let l = h.limit in record { received = h.received; limit = omega (arith, l) }

  pub writing_follows : (e : EndState) (items : List Item) (m : Marks) → Follows room m e
      → Follows room m (writing whole e items).after
  writing_follows e items m h =
      sending_limit room (with_waiting e items) m (record { received = h.received; limit = h.limit })

  pub reading_follows : (e : EndState) (count : ℕ) (m : Marks) → Follows room m e
      → Follows room m (reading whole e count).after
  reading_follows e count m h = record { received = h.received; limit = h.limit }

  pub probed_follows : (e : EndState) (b : Bool) (m : Marks) → Follows room m e
      → Follows room m (probed whole e b).after
  probed_follows e true m h = let l = h.limit in record { received = h.received; limit = omega (arith, l) }
  probed_follows e false m h = record { received = h.received; limit = h.limit }
