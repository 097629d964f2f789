-- What the calls of the socket for streams are in the network.
use Rattle.std.proofs.Common.{◌≡◌, inl, ℕ, Bool, true, false, cond, List, Option, Some, None, Result, Ok, Err, refl}
use Rattle.std.proofs.Common.{sym, ap, subst, ◌∙◌}
use Rattle.std.specs.Prelude.{option_map, slice_get}
use Rattle.std.proofs.lemmas.Bool.{true≢false}
use Rattle.std.specs.List.{AllByRecursion}
use Rattle.at_ddp.specs.declared.address.Address.{Address}
use Rattle.at_ddp.proofs.Alls.{all_at}
use Rattle.at_adsp_end.specs.Ends.{EndState, is_open}
use Rattle.at_adsp_end.specs.Fault.{number_of}
use Rattle.at_adsp_end.specs.Items.{IsItem}
use Rattle.at_adsp_end.specs.Positions.{wire}
use Rattle.at_adsp_end.specs.Sending.{closing}
use Rattle.at_adsp_end.specs.declared.fault.StreamFault.{StreamFault}
use Rattle.at_adsp_end.specs.declared.fault.StreamFault.TheVariants.{EndsFull, NoSuchEnd}
use Rattle.at_adsp_end.specs.declared.item.Item.{Item}
use Rattle.at_adsp_end.specs.declared.change.EndChange.TheVariants as step
use Rattle.at_adsp_ends.specs.Calls.{closed_at, connected, read_at, reset_at, wrote}
use Rattle.at_adsp_ends.specs.Tables.{Done, by_id, freed, has_id, moved, next_id}
use Rattle.at_adsp.specs.Connections.{AfterCall, AfterConnecting, streams}
use Rattle.at_adsp.specs.Lawfully.{IsInRange}
use Rattle.at_adsp.specs.Network.{Closes, Connects, Happening, IsTimely, Listens, Network, NoneNames, Reads, Resets}
use Rattle.at_adsp.specs.Network.{Setting, Writes, calls, calls_with, done, gave_up, wrote_first}
use Rattle.at_adsp.specs.Streams.{Deed, Nothing}
use Rattle.at_adsp.specs.Streams as deeds
use Rattle.at_nbp.specs.declared.find.Find.{Find as Found}
use Rattle.at_event.specs.Kinds.{IsCall}
use Rattle.at_event.specs.Kinds.{speaker_of_call}
use Rattle.at_event.specs.Outcomes.{over, refused_as}
use Rattle.at_event.specs.Seats.{at_socket}
use Rattle.at_event.specs.declared.Call.{Call}
use Rattle.at_event.specs.declared.Call.TheVariants.{Streams}
use Rattle.at_event.specs.declared.streams.StreamCall.TheVariants.{Open, Listen, Connect, Write, Read, Reset, Close}
use Rattle.at_event.specs.declared.Report.{Report}
use Rattle.at_event.specs.declared.Report.TheVariants as report
use Rattle.at_event.specs.declared.streams.StreamReport.TheVariants as adsp_report
use Rattle.at_node.specs.Numbers.{drawn_by}
use Rattle.at_node.specs.Nodes.{NodeState, called, with_streams}
use Rattle.at_node.specs.declared.numbers.Draw.TheVariants.{Conn}
use Rattle.at_node.specs.SessionCalls.{open_called}
use Rattle.at_session.specs.Sessions.{address_at}
use Rattle.at_stream_socket.specs.Calls as sockets
use Rattle.at_stream_socket.specs.Sockets.{told_by, told_opening, told_read, told_wrote}
use Rattle.at_steps.specs.Acts.{Act, Calls}
use Rattle.at_steps.specs.StreamHappenings.{IsHere, IsOf, IsOpenable, Stands, is_adsp}
use Rattle.at_steps.specs.StreamSteps.{asked_by, HasAsked, HasRead, HasReset, HasWritten, IsStep}
use Rattle.at_steps.proofs.Protocols.Streams.Below.{AllChange, AllPaired}
use Rattle.at_steps.proofs.Protocols.Streams.Ends.{finds_it, found_id, read_ok, reset_ok, wrote_ok}
use Rattle.at_steps.proofs.Protocols.Streams.Moves.{Becomes, IsIts, becomes_called, becomes_listening, before}
use Rattle.at_steps.proofs.Protocols.Streams.Moves.{changed, fits}
use Rattle.at_steps.proofs.Protocols.Streams.Moves.{happens, has_end, its_own, own, plain_step, refused, refused_step}

module _ (A : Type 0) (changes : AllChange) (paired : AllPaired) (setting : Setting) (history : List Happening)
    (n : NodeState) (st : Stands setting history n.seat.net n.seat.number n) where
  abbrev old : Network
  old = before A setting history n st

  abbrev at : Address
  at = own A setting history n st

  abbrev StepTo : Act A → Report A → Network → Type 0
  StepTo act r now = IsStep (changed A setting history n st act r (streams now))

  here : IsHere n.seat.net (Listens at true)
  here = its_own A setting history n st

  -- a call, by its result
  calling : {X : Type 0} (h : Happening) (act : Act A) (told : X → Report A) (deed : X → Deed)
      (r : Result (Done X) StreamFault) → done setting old h ≡ calls_with deed setting old at r
      → IsTimely setting old h → IsInRange h → IsHere n.seat.net h
      → IsOf n.session at act (sockets.called n.seat n.streams told r).report h
      → StepTo act (sockets.called n.seat n.streams told r).report (done setting old h)
      → IsIts A setting history n act (over (with_streams n) (sockets.called n.seat n.streams told r))
  calling h act told deed r is timely in_range its_here is_of step =
      happens A setting history n st act (sockets.called n.seat n.streams told r) h timely in_range its_here is_of
      (subst (λ x. Becomes old x at (sockets.called n.seat n.streams told r).state
      (sockets.called n.seat n.streams told r).out) (sym is)
      (becomes_called setting old n.seat n.streams deed told r st.stands)) step

  refusing : (act : Act A) (fault : StreamFault) (now : Network) → streams now ≡ streams old
      → StepTo act (refused_as (number_of fault)) now
  refusing act fault now same = refused_step A setting history n st paired act (number_of fault) (streams now) same

  -- ---- connections are asked for

  -- a call that asks this address for one
  module _ (act : Act A) (to : Address) (asks : asked_by n.session n.seat.net act ≡ Some to) where
    connect_step : (now : Network) (o : Option ℕ) → AfterConnecting old now at to o
        → StepTo act (sockets.called n.seat n.streams told_opening (connected n.streams to o)).report now
    connect_step now None same = refusing act EndsFull now same
    connect_step now (Some id) is = HasAsked (record { id = id; asked = to; act = asks; report = refl; streams = is })

    connecting : IsInRange (Connects at to) → to.net ≡ n.seat.net
        → IsOf n.session at act (sockets.connect_called n.seat n.streams to).report (Connects at to)
        → IsTimely setting old (Connects at to)
        → IsIts A setting history n act (over (with_streams n) (sockets.connect_called n.seat n.streams to))
    connecting in_range on_net is_of timely =
        calling (Connects at to) act told_opening (λ answer. Nothing) (connected n.streams to (next_id n.streams))
        (λ i. calls setting old at (connected (st.stands i) to (next_id (st.stands i))))
        timely in_range (here, on_net) is_of
        (connect_step (done setting old (Connects at to)) (next_id n.streams)
        (subst (AfterConnecting old (done setting old (Connects at to)) at to) (ap next_id st.stands)
        (changes setting history (Connects at to) st.timely)))

  -- the identifier that the report tells of
  connects_in_time : (to : Address)
      → ((id : ℕ) → drawn_by (sockets.connect_called {A = A} n.seat n.streams to).report ≡ Some (Conn id)
      → NoneNames old at id) → IsTimely setting old (Connects at to)
  connects_in_time to free id drawn = free id (tells (next_id n.streams) (ap next_id (sym st.stands) ∙ drawn))
    where
      tells : (o : Option ℕ) → o ≡ Some id
          → drawn_by (sockets.called {A = A} n.seat n.streams told_opening (connected n.streams to o)).report
          ≡ Some (Conn id)
      tells None is = absurd (cc)
      tells (Some i) is = let same : i ≡ id = cc in ap (λ k. Some (Conn k)) same

  -- what was found is connected to
  opening : (index : ℕ) (f : Option Found) → slice_get n.session.finds index ≡ f
      → ((id : ℕ) → drawn_by {A = A} (open_called n.seat n.streams (option_map (λ (x : Found). x.address) f)).report
      ≡ Some (Conn id) → NoneNames old at id)
      → IsIts A setting history n (Calls (Streams (Open index)))
      (over (with_streams n) (open_called n.seat n.streams (option_map (λ (x : Found). x.address) f)))
  opening index None is free = refused A setting history n st paired (Calls (Streams (Open index))) (Some 62)
  opening index (Some f) is free =
      let openable = all_at (IsOpenable n.seat.net) n.session.finds index f st.finds is in
      let asks : address_at n.session index ≡ Some f.address = ap (option_map (λ (x : Found). x.address)) is in
      connecting (Calls (Streams (Open index))) f.address asks (fits A setting history n st, openable.1) openable.0
      (inl (ap (option_map (Connects at)) asks)) (connects_in_time f.address free)

  -- ---- calls of ends

  write_step : (id : ℕ) (items : List Item) (now : Network) (r : Result (Done ℕ) StreamFault)
      → wrote wire n.streams items (by_id n.streams id) ≡ r → AfterCall old now at id (wrote_first items) r
      → StepTo (Calls (Streams (Write id items))) (sockets.called n.seat n.streams told_wrote r).report now
  write_step id items now (Err fault) e same = refusing (Calls (Streams (Write id items))) fault now same
  write_step id items now (Ok d) e is =
      let ok = wrote_ok n.streams id items d e in
      HasWritten (record {
        id = id;
        items = items;
        count = d.answer;
        act = refl;
        report = refl;
        stands = has_end A setting history n st paired
            (changed A setting history n st (Calls (Streams (Write id items)))
            (report.Streams (adsp_report.Wrote d.answer))
            (streams now))
            id refl refl
            ok.0;
        fits = ok.1;
        streams = is;
      })

  writing_ : (id : ℕ) (items : List Item) → AllByRecursion IsItem items
      → IsIts A setting history n (Calls (Streams (Write id items))) (called n (Streams (Write id items)))
  writing_ id items in_range =
      let r = wrote wire n.streams items (by_id n.streams id) in
      let same : wrote setting.numbers (old.tables at) items (by_id (old.tables at) id)
      ≡ r = λ i. wrote (st.numbers i) (st.stands i) items (by_id (st.stands i) id) in
      let h : Happening = Writes at id items in
      calling h (Calls (Streams (Write id items))) told_wrote (wrote_first items) r
      (ap (calls_with (wrote_first items) setting old at) same) tt (fits A setting history n st, in_range) here
      (inl refl)
      (write_step id items (done setting old h) r refl
      (subst (AfterCall old (done setting old h) at id (wrote_first items)) same
      (changes setting history h st.timely)))

  read_step : (id count : ℕ) (now : Network) (r : Result (Done (List Item)) StreamFault)
      → read_at wire n.streams count (by_id n.streams id) ≡ r → AfterCall old now at id deeds.Read r
      → StepTo (Calls (Streams (Read id count))) (sockets.called n.seat n.streams told_read r).report now
  read_step id count now (Err fault) e same = refusing (Calls (Streams (Read id count))) fault now same
  read_step id count now (Ok d) e is =
      let ok = read_ok n.streams id count d e in
      HasRead (record {
        id = id;
        count = count;
        items = d.answer;
        act = refl;
        report = refl;
        stands = has_end A setting history n st paired
            (changed A setting history n st (Calls (Streams (Read id count)))
            (report.Streams (adsp_report.Read d.answer))
            (streams now)) id
            refl refl
            ok.0;
        fits = ok.1;
        streams = is;
      })

  reading_ : (id count : ℕ)
      → IsIts A setting history n (Calls (Streams (Read id count))) (called n (Streams (Read id count)))
  reading_ id count =
      let r = read_at wire n.streams count (by_id n.streams id) in
      let same : read_at setting.numbers (old.tables at) count (by_id (old.tables at) id)
      ≡ r = λ i. read_at (st.numbers i) (st.stands i) count (by_id (st.stands i) id) in
      let h : Happening = Reads at id count in
      calling h (Calls (Streams (Read id count))) told_read deeds.Read r
      (ap (calls_with deeds.Read setting old at) same) tt
      (fits A setting history n st) here (inl refl)
      (read_step id count (done setting old h) r refl
      (subst (AfterCall old (done setting old h) at id deeds.Read) same (changes setting history h st.timely)))

  -- a reset that is refused is none
  resetting : (id : ℕ) → IsIts A setting history n (Calls (Streams (Reset id))) (called n (Streams (Reset id)))
  resetting id = go (reset_at wire n.streams (by_id n.streams id)) refl
    where
      go : (r : Result (Done (Unit {0})) StreamFault) → reset_at wire n.streams (by_id n.streams id) ≡ r
          → IsIts A setting history n (Calls (Streams (Reset id)))
          (over (with_streams n)
          (sockets.called {X = Unit {0}} n.seat n.streams (λ answer. report.Streams adsp_report.Reset) r))
      go (Err fault) e = refused A setting history n st paired (Calls (Streams (Reset id))) (number_of fault)
      go (Ok d) e =
          let same : reset_at setting.numbers (old.tables at) (by_id (old.tables at) id)
          ≡ Ok d = (λ i. reset_at (st.numbers i) (st.stands i) (by_id (st.stands i) id)) ∙ e in
          let h : Happening = Resets at id in
          let found = reset_ok n.streams id d e in
          calling {X = Unit {0}} h (Calls (Streams (Reset id))) (λ answer. report.Streams adsp_report.Reset) gave_up
          (Ok d)
          (ap (calls_with gave_up setting old at) same) tt (fits A setting history n st) here (inl refl)
          (HasReset (record {
            id = id;
            act = refl;
            report = refl;
            stands = has_end A setting history n st paired
                (changed A setting history n st (Calls (Streams (Reset id))) (report.Streams adsp_report.Reset)
                (streams (done setting
                old h)))
                id refl refl found;
            streams = subst (AfterCall old (done setting old h) at id gave_up) same
                (changes setting history h st.timely);
          }))

  -- an end is closed or freed
  close_step : (id : ℕ) (now : Network) (o : Option EndState) → by_id n.streams id ≡ o → streams now ≡ streams old
      → StepTo (Calls (Streams (Close id)))
      (sockets.called n.seat n.streams told_by (closed_at wire n.streams o)).report now
  close_step id now None e same = refusing (Calls (Streams (Close id))) NoSuchEnd now same
  close_step id now (Some x) e same = go (is_open x.phase)
    where
      go : (b : Bool) → StepTo (Calls (Streams (Close id)))
          (sockets.called n.seat n.streams told_by
          (cond b (Ok (moved n.streams (step.Closed x.id) (closing wire x).after (closing wire x).sent))
          (Ok (freed n.streams (step.Freed x.id) x)))).report now
      go true = plain_step A setting history n st paired (Calls (Streams (Close id)))
          (report.Streams (adsp_report.Closed x.id)) (streams now)
          (found_id n.streams id x e) (finds_it n.streams (has_id id) x e) same
      go false = plain_step A setting history n st paired (Calls (Streams (Close id)))
          (report.Streams (adsp_report.Freed x.id)) (streams now)
          (found_id n.streams id x e) (finds_it n.streams (has_id id) x e) same

  closing_ : (id : ℕ) → IsIts A setting history n (Calls (Streams (Close id))) (called n (Streams (Close id)))
  closing_ id =
      let r = closed_at wire n.streams (by_id n.streams id) in
      let same : closed_at setting.numbers (old.tables at) (by_id (old.tables at) id)
      ≡ r = λ i. closed_at (st.numbers i) (st.stands i) (by_id (st.stands i) id) in
      let h : Happening = Closes at id in
      calling h (Calls (Streams (Close id))) told_by (λ answer. Nothing) r (ap (calls setting old at) same) tt
      (fits A setting history n st) here (inl refl)
      (close_step id (done setting old h) (by_id n.streams id) refl (changes setting history h st.timely))

  listening : (on : Bool) → IsIts A setting history n (Calls (Streams (Listen on))) (called n (Streams (Listen on)))
  listening on =
      happens A setting history n st (Calls (Streams (Listen on))) (sockets.listen_called n.streams on)
      (Listens at on) tt tt here (inl refl) (becomes_listening old at n.streams on st.stands)
      (plain_step A setting history n st paired (Calls (Streams (Listen on))) (report.Streams adsp_report.ListenSet)
      (streams (done setting old (Listens at on))) refl tt (changes setting history (Listens at on) st.timely))

  pub call_happens : (call : Call A) → IsCall call → is_adsp (speaker_of_call call) ≡ true
      → ((id : ℕ) → drawn_by (called n call).report ≡ Some (Conn id) → NoneNames old at id)
      → IsIts A setting history n (Calls call) (called n call)
  call_happens (Streams (Open index)) range its free = opening index (slice_get n.session.finds index) refl free
  call_happens (Streams (Listen on)) range its free = listening on
  call_happens (Streams (Connect node socket)) range its free =
      let to = at_socket n.seat node socket in
      connecting (Calls (Streams (Connect node socket))) to refl
      (fits A setting history n st, record { net = st.small_net; node = range.0; socket = range.1 }) refl
      (inl refl) (connects_in_time to free)
  call_happens (Streams (Write id items)) range its free = writing_ id items range.1
  call_happens (Streams (Read id count)) range its free = reading_ id count
  call_happens (Streams (Reset id)) range its free = resetting id
  call_happens (Streams (Close id)) range its free = closing_ id
  call_happens other range its free = absurd (true≢false (sym its))
