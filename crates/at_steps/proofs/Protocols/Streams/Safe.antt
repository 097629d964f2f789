-- The socket of a node for streams: its calls, its timers and its packets are safe.
use Rattle.std.proofs.Common.{◌≡◌, ◌⊎◌, inl, inr, ℕ, ◌≤◌, Bool, true, false, cond, List, length, take, Option, Some}
use Rattle.std.proofs.Common.{None, Result, Ok, Err, refl, subst, arith}
use Rattle.std.specs.Prelude.{IfOk, MatchBool, ◌==◌}
use Rattle.std.specs.List.{AllByRecursion}
use Rattle.std.proofs.lemmas.List.{length-map}
use Rattle.at_ddp.specs.Datagram.{Content as Datagram}
use Rattle.at_ddp.specs.declared.address.Address.{Address}
use Rattle.at_ddp.specs.Protocols.{adsp_kind}
use Rattle.at_adsp_frame.specs.Segments.{Content, spelled}
use Rattle.at_adsp_end.specs.Calls.{reading, ticked}
use Rattle.at_adsp_end.specs.Ends.{EndState, FitsRooms, has_opened, is_closed, is_open, spelled_all}
use Rattle.at_adsp_end.specs.Positions.{wire}
use Rattle.at_adsp_end.specs.Sending.{closing, resetting_now}
use Rattle.at_adsp_end.specs.declared.fault.StreamFault.{StreamFault}
use Rattle.at_adsp_end.specs.declared.fault.StreamFault.TheVariants as stream
use Rattle.at_adsp_end.specs.declared.item.Item.{Item}
use Rattle.at_adsp_end.specs.declared.change.EndChange.{EndChange}
use Rattle.at_adsp_end.specs.declared.change.EndChange.TheVariants as step
use Rattle.at_adsp_end.specs.declared.tick.Tick.{Tick}
use Rattle.at_adsp_end.specs.declared.tick.Tick.TheVariants as tick
use Rattle.at_adsp_ends.specs.Calls.{closed_at, connected, finds_no_room, frees, read_at, reset_at, ticked_at, wrote}
use Rattle.at_adsp_ends.specs.Calls.{wrote_some}
use Rattle.at_adsp_ends.specs.Receiving.{received, settled}
use Rattle.at_adsp_ends.specs.Tables.{Done, EndTable, IsId, SendsFew, by_id, freed, moved, next_id}
use Rattle.at_event.specs.Outcomes.{Outcome, Over, idle, over}
use Rattle.at_event.specs.Seats.{at_socket}
use Rattle.at_event.specs.declared.Call.TheVariants.{Streams}
use Rattle.at_event.specs.declared.Timer.TheVariants as timer
use Rattle.at_event.specs.declared.streams.StreamCall.{StreamCall}
use Rattle.at_event.specs.declared.streams.StreamCall.TheVariants as calls
use Rattle.at_event.specs.declared.streams.StreamTimer.{StreamTimer}
use Rattle.at_event.specs.declared.streams.StreamTimer.TheVariants as adsp_timer
use Rattle.at_event.specs.declared.Report.{Report}
use Rattle.at_event.specs.declared.Report.TheVariants as report
use Rattle.at_event.specs.declared.streams.StreamReport.TheVariants as adsp_report
use Rattle.at_event.specs.declared.fault.NodeFault.TheVariants as nodes
use Rattle.at_node.specs.Limits.{IsWithin}
use Rattle.at_node.specs.Nodes.{NodeState, called as node_called, timed, with_streams}
use Rattle.at_session.specs.Sessions.{address_at}
use Rattle.at_node.specs.SessionCalls.{open_called}
use Rattle.at_stream_socket.specs.Calls.{called, close_called, connect_called, listen_called, read_called, reset_called}
use Rattle.at_stream_socket.specs.Calls.{tick_fired, write_called}
use Rattle.at_stream_socket.specs.Hearing.{HearsAdspFault, HearsSegment, HearsStreams, segment_heard}
use Rattle.at_stream_socket.specs.Sockets.{answered, sent_of, streams_at, told_by, told_opening, told_read, told_wrote}
use Rattle.at_steps.specs.Safety.{IsSafe, IsTrueOf, TransactionTable, number_told}
use Rattle.at_event.specs.declared.Reason.TheVariants.{OfNodes, OfSegments, OfStreams}
use Rattle.at_steps.proofs.Safety.By.{by, faulted, quiet, refused, sent_few, through}

-- what the ends promise: below 16 an identifier is free, and few segments are sent
pub record StreamLaws : Type 0 where
  pub free : (t : EndTable) → IsId t.next → next_id t ≡ None → 16 ≤ length t.ends
  pub received : (t : EndTable) (from : Address) (segment : Content) → AllByRecursion FitsRooms t.ends
      → SendsFew (received wire t from segment)
  pub connected : (t : EndTable) (to : Address) → IfOk (connected t to (next_id t)) SendsFew
  pub closed : (t : EndTable) (id : ℕ) → IfOk (closed_at wire t (by_id t id)) SendsFew
  pub read : (t : EndTable) (id count : ℕ) → IfOk (read_at wire t count (by_id t id)) SendsFew
  pub reset : (t : EndTable) (id : ℕ) → IfOk (reset_at wire t (by_id t id)) SendsFew
  pub wrote : (t : EndTable) (id : ℕ) (items : List Item) → AllByRecursion FitsRooms t.ends
      → IfOk (wrote wire t items (by_id t id)) SendsFew
  pub ticked : (t : EndTable) (id : ℕ) (tick : Tick) → AllByRecursion FitsRooms t.ends
      → IfOk (ticked_at wire t tick (by_id t id)) SendsFew

module _ (A : Type 0) (n : NodeState) (Wants : TransactionTable
    → Type 0) (laws : StreamLaws) (within : IsWithin n) where
  abbrev Safe : Outcome A EndTable → Type 0
  Safe o = IsSafe Wants n n.streams o

  abbrev True : StreamFault → Type 0
  True fault = IsTrueOf Wants n (OfStreams fault)

  segments_few : (sent : List (Address × Content)) → length sent ≤ 131070 → length (sent_of n.seat sent) ≤ 131070
  segments_few sent few =
      sent_few (streams_at n.seat.net n.seat.number) adsp_kind (spelled_all sent) 131070
      (omega (arith, few, length-map {B = Address × List ℕ} sent (λ (s : Address × Content). (s.0, spelled s.1))))

  step_quiet : (x : EndChange) → number_told (told_by {A = A} x) ≡ None
  step_quiet step.Ignored = refl
  step_quiet (step.Made id) = refl
  step_quiet (step.Opened id) = refl
  step_quiet step.Turned = refl
  step_quiet (step.Denied id) = refl
  step_quiet step.Again = refl
  step_quiet step.Idle = refl
  step_quiet (step.Heard id items) = refl
  step_quiet (step.Dropped id) = refl
  step_quiet (step.Closed id) = refl
  step_quiet (step.Freed id) = refl

  -- ---- a call that may be refused

  module _ {X : Type 0} where
    told : (a b : StreamFault) → ◌≡◌ {A = Result (Done X) StreamFault} (Err a) (Err b) → True a → True b
    told a b is h = let same : a ≡ b = cc in subst True same h

    abbrev Fails : Result (Done X) StreamFault → StreamFault → Type 0
    Fails r fault = r ≡ Err fault → True fault

    either : (b : Bool) (x y : Result (Done X) StreamFault) (fault : StreamFault) → Fails x fault → Fails y fault
        → Fails (cond b x y) fault
    either true x y fault tx ty h = tx h
    either false x y fault tx ty h = ty h

    succeeds : (d : Done X) (fault : StreamFault) → Fails (Ok d) fault
    succeeds d fault h = absurd (cc)

    fails : (a fault : StreamFault) → True a → Fails (Err a) fault
    fails a fault holds h = told a fault h holds

    called_safe : (tell : X → Report A) (r : Result (Done X) StreamFault) → ((x : X) → number_told (tell x) ≡ None)
        → ((fault : StreamFault) → Fails r fault) → IfOk r SendsFew → Safe (called n.seat n.streams tell r)
    called_safe tell (Ok d) none holds few =
        quiet A Wants n n.streams (answered n.seat tell d) (none d.answer) (segments_few d.sent few)
    called_safe tell (Err fault) none holds few =
        refused A Wants n n.streams (OfStreams fault) (holds fault refl)

  -- ---- each call

  connect_true : (to : Address) (id : Option ℕ) → next_id n.streams ≡ id → (fault : StreamFault)
      → Fails (connected n.streams to id) fault
  connect_true to None is fault h = fails stream.EndsFull fault (laws.free n.streams within.ends.next is) h
  connect_true to (Some id) is fault h = absurd (cc)

  pub connect_safe : (to : Address) → Safe (connect_called n.seat n.streams to)
  connect_safe to =
      called_safe told_opening (connected n.streams to (next_id n.streams)) (λ x. refl)
      (connect_true to (next_id n.streams) refl) (laws.connected n.streams to)

  pub open_safe : (to : Option Address) → Safe (open_called n.seat n.streams to)
  open_safe None = refused A Wants n n.streams (OfNodes nodes.NotFound) tt
  open_safe (Some to) = connect_safe to

  pub listen_safe : (on : Bool) → Safe (listen_called n.streams on)
  listen_safe on = quiet A Wants n n.streams (listen_called n.streams on) refl (omega arith)

  close_true : (o : Option EndState) (fault : StreamFault) → Fails (closed_at wire n.streams o) fault
  close_true None fault = fails stream.NoSuchEnd fault tt
  close_true (Some e) fault =
      let shut = moved n.streams (step.Closed e.id) (closing wire e).after (closing wire e).sent in
      let gone = freed n.streams (step.Freed e.id) e in
      either (is_open e.phase) (Ok shut) (Ok gone) fault (succeeds shut fault) (succeeds gone fault)

  pub close_safe : (id : ℕ) → Safe (close_called n.seat n.streams id)
  close_safe id =
      called_safe told_by (closed_at wire n.streams (by_id n.streams id)) step_quiet
      (close_true (by_id n.streams id)) (laws.closed n.streams id)

  tick_true : (x : Tick) (o : Option EndState) (fault : StreamFault) → Fails (ticked_at wire n.streams x o) fault
  tick_true x None fault = fails stream.NoSuchEnd fault tt
  tick_true x (Some e) fault =
      let gone = freed n.streams (step.Freed e.id) e in
      let stays = settled n.streams (ticked wire e x) in
      either (is_closed e.phase) (Err stream.NotOpen) (cond (frees e x) (Ok gone) (Ok stays)) fault
      (fails stream.NotOpen fault tt)
      (either (frees e x) (Ok gone) (Ok stays) fault (succeeds gone fault) (succeeds stays fault))

  pub tick_safe : (id : ℕ) (x : Tick) → Safe (tick_fired n.seat n.streams id x)
  tick_safe id x =
      called_safe told_by (ticked_at wire n.streams x (by_id n.streams id)) step_quiet
      (tick_true x (by_id n.streams id)) (laws.ticked n.streams id x within.queues)

  read_true : (count : ℕ) (o : Option EndState) (fault : StreamFault) → Fails (read_at wire n.streams count o) fault
  read_true count None fault = fails stream.NoSuchEnd fault tt
  read_true count (Some e) fault =
      let c = reading wire e count in
      let got = moved n.streams (take count e.receiver.unread) c.after c.sent in
      either (has_opened e.phase) (Ok got) (Err stream.NotOpen) fault (succeeds got fault)
      (fails stream.NotOpen fault tt)

  pub read_safe : (id count : ℕ) → Safe (read_called n.seat n.streams id count)
  read_safe id count =
      called_safe told_read (read_at wire n.streams count (by_id n.streams id)) (λ x. refl)
      (read_true count (by_id n.streams id)) (laws.read n.streams id count)

  reset_true : (o : Option EndState) (fault : StreamFault) → Fails (reset_at wire n.streams o) fault
  reset_true None fault = fails stream.NoSuchEnd fault tt
  reset_true (Some e) fault =
      let c = resetting_now wire e in
      let begun : Done (Unit {0}) = moved n.streams tt c.after c.sent in
      either (is_open e.phase) (Ok begun) (Err stream.NotOpen) fault (succeeds begun fault)
      (fails stream.NotOpen fault tt)

  pub reset_safe : (id : ℕ) → Safe (reset_called n.seat n.streams id)
  reset_safe id =
      called_safe (λ answer. report.Streams adsp_report.Reset) (reset_at wire n.streams (by_id n.streams id))
      (λ x. refl)
      (reset_true (by_id n.streams id)) (laws.reset n.streams id)

  write_true : (items : List Item) (o : Option EndState) (fault : StreamFault)
      → Fails (wrote wire n.streams items o) fault
  write_true items None fault = fails stream.NoSuchEnd fault tt
  write_true items (Some e) fault =
      let some = wrote_some wire n.streams items e in
      either (is_open e.phase) (cond (finds_no_room e items) (Err stream.NoRoom) (Ok some)) (Err stream.NotOpen) fault
      (either (finds_no_room e items) (Err stream.NoRoom) (Ok some) fault (fails stream.NoRoom fault tt)
      (succeeds some fault))
      (fails stream.NotOpen fault tt)

  pub write_safe : (id : ℕ) (items : List Item) → Safe (write_called n.seat n.streams id items)
  write_safe id items =
      called_safe told_wrote (wrote wire n.streams items (by_id n.streams id)) (λ x. refl)
      (write_true items (by_id n.streams id)) (laws.wrote n.streams id items within.queues)

  -- ---- packets

  pub streams_safe : (d : Datagram) (o : Outcome A EndTable) → HearsStreams n.seat n.streams d o → Safe o
  streams_safe d o = go (d.to.socket == 130)
    where
      go : (b : Bool) → MatchBool b (HearsSegment n.seat n.streams d o ⊎ HearsAdspFault n.streams d.data_ o)
          (o ≡ idle n.streams report.Ignored) → Safe o
      go true (inl h) =
          let came = received wire n.streams d.from h.segment in
          let few = laws.received n.streams d.from h.segment within.queues in
          by A Wants n n.streams o (segment_heard n.seat n.streams d.from h.segment) h.outcome
          (quiet A Wants n n.streams (answered n.seat told_by came) (step_quiet came.answer)
          (segments_few came.sent few))
      go true (inr h) = faulted A Wants n n.streams (OfSegments h.fault) h.number o tt h.numbered h.outcome
      go false h =
          by A Wants n n.streams o (idle n.streams report.Ignored) h
          (quiet A Wants n n.streams (idle n.streams report.Ignored) refl (omega arith))

  -- ---- at the node

  of_socket : (o : Outcome A EndTable) → Safe o → IsSafe Wants n n (over (with_streams n) o)
  of_socket o safe = through A Wants n (with_streams n) n.streams o refl safe

  pub stream_call_safe : (call : StreamCall A) → IsSafe Wants n n (node_called n (Streams call))
  stream_call_safe (calls.Open index) =
      let to = address_at n.session index in of_socket (open_called n.seat n.streams to) (open_safe to)
  stream_call_safe (calls.Listen on) = of_socket (listen_called n.streams on) (listen_safe on)
  stream_call_safe (calls.Connect node socket) =
      let to = at_socket n.seat node socket in of_socket (connect_called n.seat n.streams to) (connect_safe to)
  stream_call_safe (calls.Write id items) =
      of_socket (write_called n.seat n.streams id items) (write_safe id items)
  stream_call_safe (calls.Read id count) = of_socket (read_called n.seat n.streams id count) (read_safe id count)
  stream_call_safe (calls.Reset id) = of_socket (reset_called n.seat n.streams id) (reset_safe id)
  stream_call_safe (calls.Close id) = of_socket (close_called n.seat n.streams id) (close_safe id)

  pub stream_timer_safe : (time : StreamTimer) → IsSafe {A = A} Wants n n (timed n (timer.Streams time))
  stream_timer_safe (adsp_timer.Resend id) =
      of_socket (tick_fired n.seat n.streams id tick.Retransmit) (tick_safe id tick.Retransmit)
  stream_timer_safe (adsp_timer.Probe id) =
      of_socket (tick_fired n.seat n.streams id tick.Probe) (tick_safe id tick.Probe)

  pub streams_over : (d : Datagram) (o : Outcome A NodeState)
      → Over (with_streams n) (HearsStreams n.seat n.streams d) o → IsSafe Wants n n o
  streams_over d o (p, may, is) = by A Wants n n o (over (with_streams n) p) is (of_socket p (streams_safe d p may))
