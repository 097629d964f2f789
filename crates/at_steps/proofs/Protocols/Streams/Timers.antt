-- What the timers of the ends of streams are in the network.
use Rattle.std.proofs.Common.{◌≡◌, inl, ℕ, Bool, true, false, cond, List, Option, Some, None, Result, Ok, Err, refl}
use Rattle.std.proofs.Common.{sym, subst}
use Rattle.std.proofs.lemmas.Bool.{true≢false}
use Rattle.at_ddp.specs.declared.address.Address.{Address}
use Rattle.at_adsp_end.specs.Calls.{is_idle, is_last, probed, ticked}
use Rattle.at_adsp_end.specs.Ends.{EndState, is_closed}
use Rattle.at_adsp_end.specs.Fault.{number_of}
use Rattle.at_adsp_end.specs.Positions.{wire}
use Rattle.at_adsp_end.specs.declared.fault.StreamFault.{StreamFault}
use Rattle.at_adsp_end.specs.declared.fault.StreamFault.TheVariants.{NoSuchEnd, NotOpen}
use Rattle.at_adsp_end.specs.declared.change.EndChange.{EndChange}
use Rattle.at_adsp_end.specs.declared.change.EndChange.TheVariants as step
use Rattle.at_adsp_end.specs.declared.tick.Tick.{Tick}
use Rattle.at_adsp_end.specs.declared.tick.Tick.TheVariants as tick
use Rattle.at_adsp_ends.specs.Calls.{frees, ticked_at}
use Rattle.at_adsp_ends.specs.Receiving.{settled}
use Rattle.at_adsp_ends.specs.Tables.{Done, by_id, freed, has_id}
use Rattle.at_adsp.specs.Connections.{streams}
use Rattle.at_adsp.specs.Network.{Happening, Network, Setting, Ticks, calls, done}
use Rattle.at_adsp.specs.Streams.{Nothing}
use Rattle.at_event.specs.Kinds.{speaker_of_timer}
use Rattle.at_event.specs.Outcomes.{over}
use Rattle.at_event.specs.declared.Report.{Report}
use Rattle.at_event.specs.declared.Report.TheVariants as report
use Rattle.at_event.specs.declared.streams.StreamReport.TheVariants as adsp_report
use Rattle.at_event.specs.declared.Timer.{Timer}
use Rattle.at_event.specs.declared.Timer.TheVariants as timer
use Rattle.at_event.specs.declared.streams.StreamTimer.TheVariants as adsp_timer
use Rattle.at_node.specs.Nodes.{NodeState, timed, with_streams}
use Rattle.at_stream_socket.specs.Calls as sockets
use Rattle.at_stream_socket.specs.Sockets.{told_by}
use Rattle.at_steps.specs.Acts.{Fires}
use Rattle.at_steps.specs.StreamHappenings.{IsOf, Stands, is_adsp}
use Rattle.at_steps.specs.StreamSteps.{IsStep, is_plain, named_by}
use Rattle.at_steps.proofs.Protocols.Streams.Below.{AllChange, AllPaired}
use Rattle.at_steps.proofs.Protocols.Streams.Ends.{finds_it, found_id}
use Rattle.at_steps.proofs.Protocols.Streams.Moves.{Becomes, IsIts, becomes_called, before, changed, fits, happens}
use Rattle.at_steps.proofs.Protocols.Streams.Moves.{its_own, own}
use Rattle.at_steps.proofs.Protocols.Streams.Moves.{plain_step, refused_step, NamesEnd}

module _ (A : Type 0) (changes : AllChange) (paired : AllPaired) (setting : Setting) (history : List Happening)
    (n : NodeState) (st : Stands setting history n.seat.net n.seat.number n) where
  abbrev old : Network
  old = before A setting history n st

  abbrev at : Address
  at = own A setting history n st

  abbrev StepTo : Timer → Report A → Network → Type 0
  StepTo time r now = IsStep (changed A setting history n st (Fires time) r (streams now))

  abbrev told : Result (Done EndChange) StreamFault → Report A
  told r = (sockets.called {A = A} n.seat n.streams told_by r).report

  refusing : (time : Timer) (fault : StreamFault) (now : Network) → streams now ≡ streams old
      → StepTo time (told (Err fault)) now
  refusing time fault now same = refused_step A setting history n st paired (Fires time) (number_of fault)
      (streams now) same

  plain : (time : Timer) (r : Report A) (now : Network) → is_plain (Fires time) r ≡ true
      → NamesEnd A setting history n st (named_by r) → streams now ≡ streams old → StepTo time r now
  plain time r now is names same = plain_step A setting history n st paired (Fires time) r (streams now) is names same

  -- what is not acknowledged goes again
  resent : (id : ℕ) (now : Network) (o : Option EndState) → streams now ≡ streams old
      → StepTo (timer.Streams (adsp_timer.Resend id)) (told (ticked_at wire n.streams tick.Retransmit o)) now
  resent id now None same = refusing (timer.Streams (adsp_timer.Resend id)) NoSuchEnd now same
  resent id now (Some e) same = go (is_closed e.phase)
    where
      again : (b : Bool) → StepTo (timer.Streams (adsp_timer.Resend id)) (told_by (cond b step.Idle step.Again)) now
      again true = plain (timer.Streams (adsp_timer.Resend id)) (report.Streams adsp_report.Idle) now refl tt same
      again false = plain (timer.Streams (adsp_timer.Resend id)) report.Again now refl tt same

      go : (b : Bool) → StepTo (timer.Streams (adsp_timer.Resend id))
          (told (cond b (Err NotOpen) (Ok (settled n.streams (ticked wire e tick.Retransmit))))) now
      go true = refusing (timer.Streams (adsp_timer.Resend id)) NotOpen now same
      go false = again (is_idle e)

  -- the other end is asked whether it is there, or given up
  asked : (id : ℕ) (now : Network) (o : Option EndState) → by_id n.streams id ≡ o → streams now ≡ streams old
      → StepTo (timer.Streams (adsp_timer.Probe id)) (told (ticked_at wire n.streams tick.Probe o)) now
  asked id now None is same = refusing (timer.Streams (adsp_timer.Probe id)) NoSuchEnd now same
  asked id now (Some e) is same = go (is_closed e.phase) (frees e tick.Probe)
    where
      stays : (b : Bool) → StepTo (timer.Streams (adsp_timer.Probe id)) (told_by (probed wire e b).step) now
      stays true =
          plain (timer.Streams (adsp_timer.Probe id)) (report.Streams (adsp_report.Closed e.id)) now
          (found_id n.streams id e is)
          (finds_it n.streams (has_id id) e is) same
      stays false = plain (timer.Streams (adsp_timer.Probe id)) report.Again now refl tt same

      go : (b c : Bool) → StepTo (timer.Streams (adsp_timer.Probe id))
          (told (cond b (Err NotOpen)
          (cond c (Ok (freed n.streams (step.Freed e.id) e)) (Ok (settled n.streams (ticked wire e tick.Probe)))))) now
      go true c = refusing (timer.Streams (adsp_timer.Probe id)) NotOpen now same
      go false true =
          plain (timer.Streams (adsp_timer.Probe id)) (report.Streams (adsp_report.Freed e.id)) now
          (found_id n.streams id e is)
          (finds_it n.streams (has_id id) e is) same
      go false false = stays (is_last e tick.Probe)

  ticking : (time : Timer) (id : ℕ) (x : Tick) → ((r : Report A) → IsOf n.session at (Fires time) r (Ticks at id x))
      → StepTo time (told (ticked_at wire n.streams x (by_id n.streams id))) (done setting old (Ticks at id x))
      → IsIts A setting history n (Fires time) (over (with_streams n) (sockets.tick_fired n.seat n.streams id x))
  ticking time id x is_of step =
      let r = ticked_at wire n.streams x (by_id n.streams id) in
      let same : ticked_at setting.numbers (old.tables at) x (by_id (old.tables at) id)
      ≡ r = λ i. ticked_at (st.numbers i) (st.stands i) x (by_id (st.stands i) id) in
      let c = sockets.called {A = A} n.seat n.streams told_by r in
      happens A setting history n st (Fires time) c (Ticks at id x) tt (fits A setting history n st)
      (its_own A setting history n st) (is_of c.report)
      (subst (λ (d : Result (Done EndChange) StreamFault). Becomes old (calls setting old at d) at c.state c.out)
      (sym same)
      (becomes_called {A = A} setting old n.seat n.streams (λ answer. Nothing) told_by r st.stands)) step

  pub timer_happens : (time : Timer) → is_adsp (speaker_of_timer time) ≡ true
      → IsIts A setting history n (Fires time) (timed n time)
  timer_happens (timer.Streams (adsp_timer.Resend id)) its =
      ticking (timer.Streams (adsp_timer.Resend id)) id tick.Retransmit (λ r. inl refl)
      (resent id (done setting old (Ticks at id tick.Retransmit)) (by_id n.streams id)
      (changes setting history (Ticks at id tick.Retransmit) st.timely))
  timer_happens (timer.Streams (adsp_timer.Probe id)) its =
      ticking (timer.Streams (adsp_timer.Probe id)) id tick.Probe (λ r. inl refl)
      (asked id (done setting old (Ticks at id tick.Probe)) (by_id n.streams id) refl
      (changes setting history (Ticks at id tick.Probe) st.timely))
  timer_happens other its = absurd (true≢false (sym its))
