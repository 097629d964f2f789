-- What comes of events at the socket for streams: all that is sent is of ADSP, and the report is of streams, or
-- nobody's.
use Rattle.std.proofs.Common.{◌≡◌, ◌⊎◌, inl, inr, ℕ, Bool, true, false, cond, Option, Some, None, Result, Ok, Err, refl}
use Rattle.std.proofs.Common.{sym, ap, subst}
use Rattle.std.specs.Prelude.{MatchBool, ◌==◌}
use Rattle.at_ddp.specs.Datagram.{Content as Datagram}
use Rattle.at_ddp.specs.declared.address.Address.{Address}
use Rattle.at_ddp.specs.Protocols.{adsp_kind}
use Rattle.at_adsp_end.specs.Calls.{is_idle, is_last, probed, ticked}
use Rattle.at_adsp_end.specs.Ends.{EndState, is_closed, is_open, spelled_all}
use Rattle.at_adsp_end.specs.Fault.{number_of}
use Rattle.at_adsp_end.specs.Positions.{wire}
use Rattle.at_adsp_end.specs.declared.fault.StreamFault.{StreamFault}
use Rattle.at_adsp_end.specs.Sending.{closing as closing_}
use Rattle.at_adsp_end.specs.declared.fault.StreamFault.TheVariants.{NotOpen}
use Rattle.at_adsp_end.specs.declared.change.EndChange.{EndChange}
use Rattle.at_adsp_end.specs.declared.change.EndChange.TheVariants as step
use Rattle.at_adsp_end.specs.declared.tick.Tick.{Tick}
use Rattle.at_adsp_end.specs.declared.tick.Tick.TheVariants as tick
use Rattle.at_adsp_ends.specs.Calls.{closed_at, connected, frees, read_at, reset_at, ticked_at, wrote}
use Rattle.at_adsp_ends.specs.Receiving.{received, settled}
use Rattle.at_adsp_ends.specs.Tables.{Done, EndTable, by_id, freed, moved, next_id}
use Rattle.at_event.specs.Kinds.{Adsp}
use Rattle.at_event.specs.Outcomes.{Outcome, Over, idle, refused_as}
use Rattle.at_event.specs.Seats.{at_socket}
use Rattle.at_event.specs.declared.Call.{Call}
use Rattle.at_event.specs.declared.Call.TheVariants.{Streams}
use Rattle.at_event.specs.declared.streams.StreamCall.{StreamCall}
use Rattle.at_event.specs.declared.streams.StreamCall.TheVariants.{Open, Listen, Connect, Write, Read, Reset, Close}
use Rattle.at_event.specs.declared.Report.{Report}
use Rattle.at_event.specs.declared.Report.TheVariants as report
use Rattle.at_event.specs.declared.streams.StreamReport.TheVariants as adsp_report
use Rattle.at_event.specs.declared.Timer.{Timer}
use Rattle.at_event.specs.declared.Timer.TheVariants as timer
use Rattle.at_event.specs.declared.streams.StreamTimer.{StreamTimer}
use Rattle.at_event.specs.declared.streams.StreamTimer.TheVariants as adsp_timer
use Rattle.at_event.specs.declared.seat.Seat.{Seat}
use Rattle.at_node.specs.Nodes.{NodeState, called, timed, with_streams}
use Rattle.at_node.specs.SessionCalls.{open_called}
use Rattle.at_stream_socket.specs.Calls as calls
use Rattle.at_stream_socket.specs.Hearing.{HearsAdspFault, HearsSegment, HearsStreams, segment_heard}
use Rattle.at_stream_socket.specs.Sockets.{answered, streams_at, told_by, told_opening, told_read, told_wrote}
use Rattle.at_session.specs.Sessions.{SessionState, address_at}
use Rattle.at_steps.specs.Acts.{Act, Calls, Fires, Gets}
use Rattle.at_steps.proofs.Coming.{ComesBy, MaySay, Speaks, all_sent, no_list}

abbrev pub IsOfStreams : (A : Type 0) → Act A → Outcome A EndTable → Type 0
IsOfStreams A act o = Speaks A adsp_kind Adsp act o

-- the node with the ends of another state
abbrev pub take_streams : NodeState → NodeState → NodeState
take_streams n now = with_streams n now.streams

abbrev pub ComesOfStreams : (A : Type 0) → NodeState → Act A → Outcome A NodeState → Type 0
ComesOfStreams A n act o = ComesBy A take_streams adsp_kind Adsp n act o

module _ (A : Type 0) (act : Act A) (t : EndTable) where
  refused : (number : Option ℕ) → IsOfStreams A act (idle t (refused_as number))
  refused None = nothing act
    where
      nothing : (a : Act A) → IsOfStreams A a (idle t report.NoMemory)
      nothing (Calls call) = (tt, (tt, tt))
      nothing other = (tt, (tt, tt))
  refused (Some k) = by_number act
    where
      by_number : (a : Act A) → IsOfStreams A a (idle t (report.Refused k))
      by_number (Calls call) = (tt, (tt, tt))
      by_number other = (tt, (tt, tt))

  done : {X : Type 0} (s : Seat) (told : X → Report A) (d : Done X) → MaySay A Adsp act (told d.answer)
      → IsOfStreams A act (answered s told d)
  done s told d may = (all_sent adsp_kind (streams_at s.net s.number) (spelled_all d.sent), may)

  -- what a call may be answered with
  called_with : {X : Type 0} (s : Seat) (told : X → Report A) (r : Result (Done X) StreamFault)
      → ((d : Done X) → r ≡ Ok d → MaySay A Adsp act (told d.answer)) → IsOfStreams A act (calls.called s t told r)
  called_with s told (Ok d) may = done s told d (may d refl)
  called_with s told (Err fault) may = refused (number_of fault)

-- an end is closed or freed
closing : (A : Type 0) (t : EndTable) (id k : ℕ) (o : Option EndState) (d : Done EndChange) → closed_at wire t o ≡ Ok d
    → MaySay A Adsp (Calls (Streams (Close k))) (told_by d.answer)
closing A t id k None d is = absurd (cc)
closing A t id k (Some e) d is = go (is_open e.phase) is
  where
    ok_same : (x y : Done EndChange) → ◌≡◌ {A = Result (Done EndChange) StreamFault} (Ok x) (Ok y) → x ≡ y
    ok_same x y h = cc

    go : (b : Bool) → ◌≡◌ {A = Result (Done EndChange) StreamFault}
        (cond b (Ok (moved t (step.Closed e.id) (closing_ wire e).after (closing_ wire e).sent))
        (Ok (freed t (step.Freed e.id) e))) (Ok d) → MaySay A Adsp (Calls (Streams (Close k))) (told_by d.answer)
    go true h = subst (λ (x : Done EndChange). MaySay A Adsp (Calls (Streams (Close k))) (told_by x.answer))
        (ok_same (moved t (step.Closed e.id) (closing_ wire e).after (closing_ wire e).sent) d h) (refl, tt)
    go false h = subst (λ (x : Done EndChange). MaySay A Adsp (Calls (Streams (Close k))) (told_by x.answer))
        (ok_same (freed t (step.Freed e.id) e) d h) (refl, tt)

-- the answers of a tick
module _ (A : Type 0) (t : EndTable) (time : Timer) where
  ticking_ok : (b : Bool) (x y : Done EndChange) → MaySay A Adsp (Fires time) (told_by x.answer)
      → MaySay A Adsp (Fires time) (told_by y.answer) → (d : Done EndChange)
      → ◌≡◌ {A = Result (Done EndChange) StreamFault} (cond b (Ok x) (Ok y)) (Ok d)
      → MaySay A Adsp (Fires time) (told_by d.answer)
  ticking_ok true x y mx my d h = let same : x
      ≡ d = cc in subst (λ (z : Done EndChange). MaySay A Adsp (Fires time) (told_by z.answer)) same mx
  ticking_ok false x y mx my d h = let same : y
      ≡ d = cc in subst (λ (z : Done EndChange). MaySay A Adsp (Fires time) (told_by z.answer)) same my

  idle_or_again : (b : Bool) → MaySay A Adsp (Fires time) (told_by (cond b step.Idle step.Again))
  idle_or_again true = (refl, tt)
  idle_or_again false = (tt, tt)

  probing : (e : EndState) (b : Bool) → MaySay A Adsp (Fires time) (told_by (probed wire e b).step)
  probing e true = (refl, tt)
  probing e false = (tt, tt)

  ticked_says : (e : EndState) (x : Tick) → MaySay A Adsp (Fires time) (told_by (ticked wire e x).step)
  ticked_says e tick.Retransmit = idle_or_again (is_idle e)
  ticked_says e tick.Probe = probing e (is_last e tick.Probe)

  ticking : (x : Tick) (o : Option EndState) (d : Done EndChange) → ticked_at wire t x o ≡ Ok d
      → MaySay A Adsp (Fires time) (told_by d.answer)
  ticking x None d is = absurd (cc)
  ticking x (Some e) d is = go (is_closed e.phase) is
    where
      go : (b : Bool) → ◌≡◌ {A = Result (Done EndChange) StreamFault}
          (cond b (Err NotOpen) (cond (frees e x) (Ok (freed t (step.Freed e.id) e))
          (Ok (settled t (ticked wire e x))))) (Ok d) → MaySay A Adsp (Fires time) (told_by d.answer)
      go true h = absurd (cc)
      go false h = ticking_ok (frees e x) (freed t (step.Freed e.id) e) (settled t (ticked wire e x)) (refl, tt)
          (ticked_says e x) d h

-- ---- calls, timers and datagrams

-- a connection is asked for
connecting : (A : Type 0) (call : Call A) (s : Seat) (t : EndTable) (to : Address)
    → IsOfStreams A (Calls call) (calls.connect_called s t to)
connecting A call s t to = called_with A (Calls call) t s told_opening (connected t to (next_id t)) (λ d is. (refl, tt))

opening : (A : Type 0) (index : ℕ) (s : Seat) (t : EndTable) (o : Option Address)
    → IsOfStreams A (Calls (Streams (Open index))) (open_called s t o)
opening A index s t None = (tt, (tt, tt))
opening A index s t (Some to) = connecting A (Streams (Open index)) s t to

pub streams_called : (A : Type 0) (n : NodeState) (call : StreamCall A)
    → ComesOfStreams A n (Calls (Streams call)) (called n (Streams call))
streams_called A n (Open index) =
    record { state = refl; its = opening A index n.seat n.streams (address_at n.session index) }
streams_called A n (Listen on) = record { state = refl; its = (tt, (refl, tt)) }
streams_called A n (Connect node socket) = record {
  state = refl;
  its = connecting A (Streams (Connect node socket)) n.seat n.streams (at_socket n.seat node socket);
}
streams_called A n (Write id items) = record {
  state = refl;
  its = called_with A (Calls (Streams (Write id items))) n.streams n.seat told_wrote
      (wrote wire n.streams items (by_id n.streams id)) (λ d is. (refl, tt));
}
streams_called A n (Read id count) = record {
  state = refl;
  its = called_with A (Calls (Streams (Read id count))) n.streams n.seat told_read
      (read_at wire n.streams count (by_id n.streams id)) (λ d is. (refl, tt));
}
streams_called A n (Reset id) = record {
  state = refl;
  its = called_with A (Calls (Streams (Reset id))) n.streams n.seat (λ answer. report.Streams adsp_report.Reset)
      (reset_at wire n.streams (by_id n.streams id)) (λ d is. (refl, tt));
}
streams_called A n (Close id) = record {
  state = refl;
  its = called_with A (Calls (Streams (Close id))) n.streams n.seat told_by
      (closed_at wire n.streams (by_id n.streams id))
      (λ d is. closing A n.streams id id (by_id n.streams id) d is);
}

-- a timer, by what it does to the end
ticking_comes : (A : Type 0) (n : NodeState) (time : Timer) (id : ℕ) (x : Tick)
    → IsOfStreams A (Fires time) (calls.tick_fired n.seat n.streams id x)
ticking_comes A n time id x =
    called_with A (Fires time) n.streams n.seat told_by (ticked_at wire n.streams x (by_id n.streams id))
    (λ d is. ticking A n.streams time x (by_id n.streams id) d is)

pub streams_timed : (A : Type 0) (n : NodeState) (time : StreamTimer)
    → ComesOfStreams A n (Fires (timer.Streams time)) (timed n (timer.Streams time))
streams_timed A n (adsp_timer.Resend id) =
    record { state = refl; its = ticking_comes A n (timer.Streams (adsp_timer.Resend id)) id tick.Retransmit }
streams_timed A n (adsp_timer.Probe id) =
    record { state = refl; its = ticking_comes A n (timer.Streams (adsp_timer.Probe id)) id tick.Probe }

module _ (A : Type 0) (s : Seat) (t : EndTable) (which : ℕ) where
  came_says : (x : EndChange) → MaySay A Adsp (Gets which) (told_by x)
  came_says step.Ignored = (tt, tt)
  came_says (step.Made id) = (refl, tt)
  came_says (step.Opened id) = (refl, tt)
  came_says step.Turned = (refl, tt)
  came_says (step.Denied id) = (refl, tt)
  came_says step.Again = (tt, tt)
  came_says step.Idle = (refl, tt)
  came_says (step.Heard id items) = (refl, tt)
  came_says (step.Dropped id) = (refl, tt)
  came_says (step.Closed id) = (refl, tt)
  came_says (step.Freed id) = (refl, tt)

  datagram_of_streams : (d : Datagram) (p : Outcome A EndTable) → HearsStreams s t d p
      → IsOfStreams A (Gets which) p
  datagram_of_streams d p = go (d.to.socket == 130)
    where
      by : (q : Outcome A EndTable) → p ≡ q → IsOfStreams A (Gets which) q → IsOfStreams A (Gets which) p
      by q is h = subst (IsOfStreams A (Gets which)) (sym is) h

      go : (b : Bool) → MatchBool b (HearsSegment s t d p ⊎ HearsAdspFault t d.data_ p) (p ≡ idle t report.Ignored)
          → IsOfStreams A (Gets which) p
      go true (inl h) =
          let came = received wire t d.from h.segment in
          by (segment_heard s t d.from h.segment) h.outcome
          (done A (Gets which) t s told_by came (came_says came.answer))
      go true (inr h) = by (idle t (report.Refused h.number)) h.outcome (tt, (tt, tt))
      go false h = by (idle t report.Ignored) h (tt, (tt, tt))

-- and at the node, whose session keeps nothing of it
pub streams_heard : (A : Type 0) (n : NodeState) (which : ℕ) (d : Datagram) (o : Outcome A NodeState)
    → Over (with_streams n) (HearsStreams n.seat n.streams d) o → ComesOfStreams A n (Gets which) o
streams_heard A n which d o (p, may, is) =
    let its = datagram_of_streams A n.seat n.streams which d p may in
    subst (ComesOfStreams A n (Gets which)) (sym is) (record {
      state = ap (λ (s : SessionState). record (with_streams n p.state) { session = s })
          (no_list A n.session Adsp refl p.report its.1.0);
      its = its;
    })
