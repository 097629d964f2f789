-- Which numbers calls, timers and segments of streams draw.
use Rattle.std.proofs.Common.{◌∙◌, ◌≡◌, ◌⊎◌, Bool, None, Option, Some, ap, arith, cond, false, inl, inr, option_map}
use Rattle.std.proofs.Common.{refl, subst, sym, true, ℕ}
use Rattle.std.specs.Prelude.{◌==◌, ◌||◌, ◌↔◌, Err, MatchBool, Ok, Result, is_none}
use Rattle.at_ddp.specs.declared.address.Address.{Address}
use Rattle.at_adsp_end.specs.Calls.{is_idle, is_last, probed, ticked}
use Rattle.at_adsp_end.specs.Ends.{EndState, is_closed, is_open}
use Rattle.at_adsp_end.specs.Positions.{wire}
use Rattle.at_adsp_end.specs.Sending.{closing}
use Rattle.at_adsp_end.specs.declared.fault.StreamFault.{StreamFault}
use Rattle.at_adsp_end.specs.declared.fault.StreamFault.TheVariants.{NotOpen}
use Rattle.at_adsp_end.specs.declared.change.EndChange.{EndChange}
use Rattle.at_adsp_end.specs.declared.tick.Tick.{Tick}
use Rattle.at_adsp_ends.specs.Calls.{closed_at, connected, frees, read_at, reset_at, ticked_at, wrote}
use Rattle.at_adsp_ends.specs.Receiving.{made_id, received, settled}
use Rattle.at_adsp_ends.specs.Tables.{Done, EndTable, by_id, freed, moved, next_id as next_end}
use Rattle.at_stream_socket.specs.Sockets.{told_by as told_as, told_opening, told_read, told_wrote}
use Rattle.at_event.specs.Outcomes.{Outcome, Over, idle, over}
use Rattle.at_event.specs.Seats.{at_socket, is_for_all, is_mine}
use Rattle.at_event.specs.declared.streams.StreamCall.{StreamCall}
use Rattle.at_event.specs.declared.streams.StreamCall.TheVariants.{Close, Connect, Listen, Open, Read, Reset, Write}
use Rattle.at_event.specs.declared.Call.TheVariants.{Streams}
use Rattle.at_event.specs.declared.Report.{Report}
use Rattle.at_event.specs.declared.seat.Seat.{Seat}
use Rattle.at_session.specs.Sessions.{address_at}
use Rattle.at_node.specs.Nodes.{KeepsSeat, NodeState, called, speaker_of, timed, with_streams}
use Rattle.at_node.specs.Numbers.{DrawsBy, drawn_by, stream_draw}
use Rattle.at_node.specs.SessionCalls.{open_called}
use Rattle.at_node.specs.declared.numbers.Draw.{Draw}
use Rattle.at_node.specs.declared.numbers.Draw.TheVariants.{Conn}
use Rattle.at_ddp.specs.Datagram.{Content as Datagram}
use Rattle.at_ddp.specs.Protocols.{adsp_kind}
use Rattle.at_event.specs.declared.service.Reply.{Reply}
use Rattle.at_event.specs.declared.service.Reply.TheVariants.{Later}
use Rattle.at_node.specs.Hearing.{HearsIt}
use Rattle.at_stream_socket.specs.Hearing.{HearsAdspFault, HearsSegment, HearsStreams, Makes, Requests, segment_heard}
use Rattle.at_node.proofs.NumberLemmas.{draw_same, nat_same}
use Rattle.at_node.proofs.Drawn.{By, IsDrawn, refused, told_none}
use Rattle.at_event.specs.declared.streams.StreamTimer.{StreamTimer}
use Rattle.at_event.specs.Kinds.{Adsp}
use Rattle.at_adsp_end.specs.Fault as adsp
use Rattle.at_adsp_end.specs.declared.change.EndChange.TheVariants as step
use Rattle.at_adsp_end.specs.declared.tick.Tick.TheVariants as tick
use Rattle.at_stream_socket.specs.Calls as calls
use Rattle.at_event.specs.declared.Report.TheVariants as report
use Rattle.at_event.specs.declared.streams.StreamReport.TheVariants as adsp_report
use Rattle.at_event.specs.declared.Timer.TheVariants as timer
use Rattle.at_event.specs.declared.streams.StreamTimer.TheVariants as adsp_timer

-- which segments make an end
abbrev pub MakingLaw : Type 0
MakingLaw = (t : EndTable) (from : Address) (s : _) (id : ℕ)
    → made_id (received wire t from s).answer ≡ Some id ↔ Requests t from s id

module _ (A : Type 0) where
  module _ (s : Seat) (t : EndTable) where
    connects : (to : Address) (o : Option ℕ) → By A (calls.called s t told_opening (connected t to o))
        (option_map (λ id. Conn id) o)
    connects to None = refl
    connects to (Some id) = refl

    opens : (o : Option Address) → By A (open_called s t o)
        (cond (is_none o) None (option_map (λ id. Conn id) (next_end t)))
    opens None = refl
    opens (Some to) = connects to (next_end t)

    -- what draws nothing, whatever it is
    plain : {X : Type 0} (told : X → Report A) → ((x : X) → drawn_by (told x) ≡ None)
        → (r : Result (Done X) StreamFault) → By A (calls.called s t told r) None
    plain told none (Ok d) = none d.answer
    plain told none (Err fault) = refused A t (adsp.number_of fault)

    either_none : (b : Bool) (x y : Done EndChange) → drawn_by {A = A} (told_as x.answer) ≡ None
        → drawn_by {A = A} (told_as y.answer) ≡ None → By A (calls.called s t told_as (cond b (Ok x) (Ok y))) None
    either_none true x y none other = none
    either_none false x y none other = other

    closes : (o : Option EndState) → By A (calls.called s t told_as (closed_at wire t o)) None
    closes None = refl
    closes (Some e) = either_none (is_open e.phase)
        (moved t (step.Closed e.id) (closing wire e).after (closing wire e).sent) (freed t (step.Freed e.id) e)
        refl refl

    idles : (b : Bool) → drawn_by {A = A} (told_as (cond b step.Idle step.Again)) ≡ None
    idles true = refl
    idles false = refl

    probes : (e : EndState) (b : Bool) → drawn_by {A = A} (told_as (probed wire e b).step) ≡ None
    probes e true = refl
    probes e false = refl

    ticks : (e : EndState) (x : Tick) → drawn_by {A = A} (told_as (ticked wire e x).step) ≡ None
    ticks e tick.Retransmit = idles (is_idle e)
    ticks e tick.Probe = probes e (is_last e tick.Probe)

    unless_closed : (b : Bool) (r : Result (Done EndChange) StreamFault) → By A (calls.called s t told_as r) None
        → By A (calls.called s t told_as (cond b (Err NotOpen) r)) None
    unless_closed true r none = refl
    unless_closed false r none = none

    ticks_at : (x : Tick) (o : Option EndState) → By A (calls.called s t told_as (ticked_at wire t x o)) None
    ticks_at x None = refl
    ticks_at x (Some e) =
        let first : Done EndChange = freed t (step.Freed e.id) e in
        let other : Done EndChange = settled t (ticked wire e x) in
        unless_closed (is_closed e.phase) (cond (frees e x) (Ok first) (Ok other))
        (either_none (frees e x) first other refl (ticks e x))

  -- ---- what comes of a call, of a timer and of a segment

  pub stream_draws : (n : NodeState) (c : StreamCall A) → By A (called n (Streams c)) (stream_draw n c)
  stream_draws n (Open index) = opens n.seat n.streams (address_at n.session index)
  stream_draws n (Listen on) = refl
  stream_draws n (Connect node socket) =
      connects n.seat n.streams (at_socket n.seat node socket) (next_end n.streams)
  stream_draws n (Write id items) =
      plain n.seat n.streams told_wrote (λ x. refl) (wrote wire n.streams items (by_id n.streams id))
  stream_draws n (Read id count) =
      plain n.seat n.streams told_read (λ x. refl) (read_at wire n.streams count (by_id n.streams id))
  stream_draws n (Reset id) =
      plain n.seat n.streams (λ x. report.Streams adsp_report.Reset) (λ x. refl)
      (reset_at wire n.streams (by_id n.streams id))
  stream_draws n (Close id) = closes n.seat n.streams (by_id n.streams id)

  pub stream_timer_draws : (n : NodeState) (time : StreamTimer) → By A (timed n (timer.Streams time)) None
  stream_timer_draws n (adsp_timer.Resend id) = ticks_at n.seat n.streams tick.Retransmit (by_id n.streams id)
  stream_timer_draws n (adsp_timer.Probe id) = ticks_at n.seat n.streams tick.Probe (by_id n.streams id)

  pub stream_timer_stays : (n : NodeState) (time : StreamTimer) → KeepsSeat {A = A} n (timed n (timer.Streams time))
  stream_timer_stays n (adsp_timer.Resend id) = refl
  stream_timer_stays n (adsp_timer.Probe id) = refl

  told_draws : (s : EndChange) (draw : Draw) → drawn_by {A = A} (told_as s) ≡ Some draw
      → (id : ℕ) × (made_id s ≡ Some id)
      × (draw ≡ Conn id)
  told_draws step.Ignored draw h = absurd (cc)
  told_draws (step.Made id) draw h = (id, refl, sym (draw_same (Conn id) draw h))
  told_draws (step.Opened id) draw h = absurd (cc)
  told_draws step.Turned draw h = absurd (cc)
  told_draws (step.Denied id) draw h = absurd (cc)
  told_draws step.Again draw h = absurd (cc)
  told_draws step.Idle draw h = absurd (cc)
  told_draws (step.Heard id items) draw h = absurd (cc)
  told_draws (step.Dropped id) draw h = absurd (cc)
  told_draws (step.Closed id) draw h = absurd (cc)
  told_draws (step.Freed id) draw h = absurd (cc)

  pub made_draws : (s : EndChange) (id : ℕ) → made_id s ≡ Some id → drawn_by {A = A} (told_as s) ≡ Some (Conn id)
  made_draws (step.Made k) id h = ap (λ x. Some (Conn x)) (nat_same k id h)
  made_draws step.Ignored id h = absurd (cc)
  made_draws (step.Opened k) id h = absurd (cc)
  made_draws step.Turned id h = absurd (cc)
  made_draws (step.Denied k) id h = absurd (cc)
  made_draws step.Again id h = absurd (cc)
  made_draws step.Idle id h = absurd (cc)
  made_draws (step.Heard k items) id h = absurd (cc)
  made_draws (step.Dropped k) id h = absurd (cc)
  made_draws (step.Closed k) id h = absurd (cc)
  made_draws (step.Freed k) id h = absurd (cc)

  typed : (kind : ℕ) → speaker_of kind ≡ Adsp → kind ≡ adsp_kind
  typed kind its = grind arith

  -- only a segment for the socket for streams draws a number
  makes_end : MakingLaw → (n : NodeState) (d : Datagram) (p : Outcome A EndTable) (draw : Draw)
      → d.kind ≡ adsp_kind → HearsStreams n.seat n.streams d p → drawn_by p.report ≡ Some draw → DrawsBy n d draw
  makes_end making n d p draw kind may told = go (d.to.socket == 130) refl may
    where
      nothing : By A p None → DrawsBy n d draw
      nothing none = let both : None ≡ Some draw = sym none ∙ told in absurd (cc)

      go : (b : Bool) → (d.to.socket == 130) ≡ b
          → MatchBool b (HearsSegment n.seat n.streams d p ⊎ HearsAdspFault n.streams d.data_ p)
          (p ≡ idle n.streams report.Ignored) → DrawsBy n d draw
      go false e h = nothing (told_none A p _ h refl)
      go true e (inl h) =
          let made = told_draws (received wire n.streams d.from h.segment).answer draw
          (sym (ap (λ (y : Outcome A EndTable). drawn_by y.report) h.outcome) ∙ told) in
          subst (DrawsBy n d) (sym made.2) (
            kind,
            record {
              socket = e;
              segment = h.segment;
              spelled = h.spelled;
              makes = (making n.streams d.from h.segment made.0).0 made.1;
            },
          )
      go true e (inr h) = nothing (told_none A p _ h.outcome refl)

  pub segment_drawn : MakingLaw → (n : NodeState) (d : Datagram) (o : Outcome A NodeState) → speaker_of d.kind ≡ Adsp
      → Over (with_streams n) (HearsStreams n.seat n.streams d) o → IsDrawn A n d o
  segment_drawn making n d o its (p, may, is) draw told =
      makes_end making n d p draw (typed d.kind its) may
      (sym (ap (λ (y : Outcome A NodeState). drawn_by y.report) is) ∙ told)

-- a segment that makes an end is heard so
module _ (A : Type 0) (making : MakingLaw) (n : NodeState) (d : Datagram)
    (mine : (is_for_all n.seat d.kind d.to || is_mine n.seat d.to) ≡ true) (kind : d.kind ≡ adsp_kind) where
  pub made_hears : (id : ℕ) → Makes n.streams d id → (said : Reply A) × (o : Outcome A NodeState) × HearsIt said n d o
      × (drawn_by o.report ≡ Some (Conn id))
  made_hears id m =
      let part : Outcome A EndTable = segment_heard n.seat n.streams d.from m.segment in
      let heard_ : HearsStreams n.seat n.streams d part =
      rw m.socket (inl (record { segment = m.segment; spelled = m.spelled; outcome = refl })) in
      let its : speaker_of d.kind ≡ Adsp = ap speaker_of kind in (
        Later,
        over (with_streams n) part,
        rw (mine, its) (part, heard_, refl),
        made_draws A
            (received wire n.streams d.from m.segment).answer id ((making n.streams d.from m.segment id).1 m.makes),
      )
