-- How far an end goes on as it hears a segment.
use Rattle.std.proofs.Common.{◌≡◌, ℕ, ◌+◌, ◌≤◌, Bool, true, false, List, [], ◌∷◌, ◌++◌, length, refl, sym, subst, arith}
use Rattle.at_ddp.proofs.Alls.{all_implied}
use Rattle.at_adsp_frame.specs.Segments.{Content, ResetAck}
use Rattle.at_adsp_end.specs.Ends.{Change, EndState, control, free}
use Rattle.at_adsp_end.specs.Hearing.{Advises, Answers, Asks, Brings, Closes, Resets, Saying, after_hearing, heard}
use Rattle.at_adsp_end.specs.Hearing.{if_asked, jumped, taken, taking, told}
use Rattle.at_adsp_end.specs.Positions.{whole}
use Rattle.at_adsp_end.specs.Sending.{acks, hearing, repeated, sending, shut}
use Rattle.at_adsp_end.specs.declared.forward.Forward.TheVariants.{Jump, Older, Beyond}
use Rattle.at_adsp_end.specs.declared.item.Item.{Item}
use Rattle.at_adsp.proofs.Carries.{acks_within}
use Rattle.at_adsp.proofs.Fews.{FewSaid, length_take, saying_few}
use Rattle.at_adsp.proofs.Hears.{hearing_receiver}
use Rattle.at_adsp.proofs.Logs.{length_both}
use Rattle.at_adsp.proofs.Paces.{Follows, Keeps, Marks, Paces, TellsOf, asked_from, asked_tells, control_from}
use Rattle.at_adsp.proofs.Paces.{control_tells, from_on, hearing_follows, hearing_paces, marks_of, repeated_from}
use Rattle.at_adsp.proofs.Paces.{repeated_tells, rises_on, sending_limit, sending_paces, so_paces, tells_on, then_paces}
use Rattle.at_adsp.proofs.Slows.{Advances, heard_exact, heard_sends, heard_slow}

module _ (room : ℕ) (here : Bool) where
  -- ---- what an end hears

  pub shut_keeps : (e : EndState) → Keeps room here e → Keeps room here (shut whole e)
  shut_keeps e k = record {
    queue = λ is. let q = k.queue is in omega (arith, q);
    space = k.space;
    unread = k.unread;
  }

  pub taking_keeps : (e : EndState) (r : ℕ) (xs : List Item) → length xs ≤ r → Keeps room here e
      → Keeps room here (record e { receiver = record { received = r; unread = xs } })
  taking_keeps e r xs unread k = record { queue = k.queue; space = k.space; unread = unread }

  after_hearing_paces : (e : EndState) (c : Change) (ack : Bool) (s : Saying) → Paces room here e c.after c.sent
      → Paces room here e (after_hearing whole c ack s).after (after_hearing whole c ack s).sent
  after_hearing_paces e c ack (Brings items) h =
      then_paces room here e c.after (taking whole c.after items) c.sent
      (if_asked whole ack (taking whole c.after items)) h
      (λ k.
      let both = length_both c.after.receiver.unread (taken c.after items) in
      let u = k.unread in
      let g = taking_keeps c.after (c.after.receiver.received + length (taken c.after items))
      (c.after.receiver.unread ++ taken c.after items) (omega (arith, both, u)) k in
      record {
        id = refl;
        rises = record { gave = omega arith; took = omega arith };
        front = omega arith;
        keeps = g;
        tells = asked_tells room here ack (taking whole c.after items) g;
        from = from_on c.after (taking whole c.after items) (if_asked whole ack (taking whole c.after items))
            (omega arith) (omega arith) (asked_from room here ack (taking whole c.after items));
      })
  after_hearing_paces e c ack Asks h = then_paces room here e c.after c.after c.sent (if_asked whole ack c.after) h
      (λ k. so_paces room here c.after c.after (if_asked whole ack c.after) refl refl refl k
      (asked_tells room here ack c.after k) (asked_from room here ack c.after))
  after_hearing_paces e c ack Closes h = record {
    id = h.id;
    rises = rises_on (marks_of e) (marks_of c.after) (marks_of (shut whole c.after)) h.rises
        (record { gave = omega arith; took = omega arith });
    front = let f = h.front in omega (arith, f);
    keeps = shut_keeps c.after h.keeps;
    from = h.from;
    tells =
        all_implied (TellsOf room c.after.id (marks_of c.after))
        (TellsOf room c.after.id (marks_of (shut whole c.after))) c.sent
        (λ s t. tells_on room c.after.id (marks_of c.after) (marks_of (shut whole c.after)) s
        (record { gave = omega arith; took = omega arith }) t) h.tells;
  }
  after_hearing_paces e c ack (Resets (Jump d)) h =
      then_paces room here e c.after (jumped whole c.after d) c.sent
      (control whole (jumped whole c.after d) false ResetAck ∷ []) h
      (λ k.
      let g = taking_keeps c.after (c.after.receiver.received + d) [] (omega arith) k in
      record {
        id = refl;
        rises = record { gave = omega arith; took = omega arith };
        front = omega arith;
        keeps = g;
        tells = (control_tells room here (jumped whole c.after d) false ResetAck refl g, tt);
        from = from_on c.after (jumped whole c.after d) (control whole (jumped whole c.after d) false ResetAck ∷ [])
            (omega arith) (omega arith) (control_from room here (jumped whole c.after d) false ResetAck, tt);
      })
  after_hearing_paces e c ack (Resets Older) h =
      then_paces room here e c.after c.after c.sent (control whole c.after false ResetAck ∷ []) h
      (λ k. so_paces room here c.after c.after (control whole c.after false ResetAck ∷ []) refl refl refl k
      (control_tells room here c.after false ResetAck refl k, tt) (control_from room here c.after false ResetAck, tt))
  after_hearing_paces e c ack (Resets Beyond) h =
      then_paces room here e c.after c.after c.sent [] h
      (λ k. so_paces room here c.after c.after [] refl refl refl k tt tt)
  after_hearing_paces e c ack (Answers false) h =
      then_paces room here e c.after c.after c.sent [] h
      (λ k. so_paces room here c.after c.after [] refl refl refl k tt tt)
  after_hearing_paces e c ack (Answers true) h =
      let g : EndState = record c.after { sender = record c.after.sender { resetting = false } } in
      then_paces room here e (sending whole g).after (sending whole g).after (c.sent ++ (sending whole g).sent) []
      (then_paces room here e c.after (sending whole g).after c.sent (sending whole g).sent h
      (λ k. let s = sending_paces room here g (record { queue = k.queue; space = k.space; unread = k.unread }) in
      record {
        id = refl;
        rises = s.rises;
        front = s.front;
        keeps = s.keeps;
        tells = s.tells;
        from = from_on c.after g (sending whole g).sent (omega arith) (omega arith) s.from;
      }))
      (λ k. so_paces room here (sending whole g).after (sending whole g).after [] refl refl refl k tt tt)
  after_hearing_paces e c ack Advises h = then_paces room here e c.after c.after c.sent (repeated whole c.after) h
      (λ k. so_paces room here c.after c.after (repeated whole c.after) refl refl refl k
      (repeated_tells room here c.after k) (repeated_from room here c.after))

  pub heard_advances : (e : EndState) (s : Content) → (here ≡ true → s.window ≤ room) → Keeps room here e
      → Advances room here e (heard whole e (told whole e s)).after (heard whole e (told whole e s)).sent
  heard_advances e s fits k = record {
    paces =
        after_hearing_paces e (hearing whole e s.window (acks whole e.sender s.next)) s.ack (told whole e s).saying
        (hearing_paces room here e s.window (acks whole e.sender s.next) fits (acks_within e.sender s.next) k);
    slow = λ is. heard_slow room here is e s fits k;
    exact = heard_exact e s (marks_of (heard whole e (told whole e s)).after).gave;
    sends = heard_sends e s;
  }

module _ (room : ℕ) where
  after_hearing_follows : (m : Marks) (c : Change) (ack : Bool) (s : Saying)
      → FewSaid m.gave c.after.receiver.received s → Follows room m c.after
      → Follows room m (after_hearing whole c ack s).after
  after_hearing_follows m c ack (Brings items) says h = let t = length_take (free c.after) items in
      record { received = omega (arith, says, t); limit = h.limit }
  after_hearing_follows m c ack Asks says h = h
  after_hearing_follows m c ack Closes says h = let l = h.limit in
      record { received = h.received; limit = omega (arith, l) }
  after_hearing_follows m c ack (Resets (Jump d)) says h = record { received = says; limit = h.limit }
  after_hearing_follows m c ack (Resets Older) says h = h
  after_hearing_follows m c ack (Resets Beyond) says h = h
  after_hearing_follows m c ack (Answers false) says h = h
  after_hearing_follows m c ack (Answers true) says h =
      sending_limit room (record c.after { sender = record c.after.sender { resetting = false } }) m
      (record { received = h.received; limit = h.limit })
  after_hearing_follows m c ack Advises says h = h

  -- what comes from the peer
  pub heard_follows : (e : EndState) (m : Marks) (id : ℕ) (s : Content) → TellsOf room id m s → Follows room m e
      → Follows room m (heard whole e (told whole e s)).after
  heard_follows e m id s t h =
      let c : Change = hearing whole e s.window (acks whole e.sender s.next) in
      let r = hearing_receiver e s.window (acks whole e.sender s.next) in
      after_hearing_follows m c s.ack (told whole e s).saying
      (subst (λ x. FewSaid m.gave x.received (told whole e s).saying) (sym r)
      (saying_few m.gave e s.first s.next s.body t.first h.received))
      (hearing_follows room e m id s t h)
