-- The protocols of a node, a row each: which numbers its calls, its timers and its datagrams draw, and that none of
-- them moves the node. All else that is said of every event goes by these rows.
use Rattle.std.proofs.Common.{◌≡◌, ℕ, Bool, true, false, List, None, refl, ap, arith}
use Rattle.at_ddp.specs.Datagram.{Content as Datagram}
use Rattle.at_ddp.specs.declared.datagram.Datagram.{Datagram as Came}
use Rattle.at_event.specs.Kinds as kinds
use Rattle.at_event.specs.Kinds.{Speaker, Adsp, Atp, Nbp, Nobody}
use Rattle.at_event.specs.Outcomes.{Outcome}
use Rattle.at_event.specs.declared.Call.{Call}
use Rattle.at_event.specs.declared.Call.TheVariants as protocol
use Rattle.at_event.specs.declared.Timer.{Timer}
use Rattle.at_event.specs.declared.Timer.TheVariants as timer
use Rattle.at_event.specs.declared.session.SessionCall.TheVariants.{Pick}
use Rattle.at_event.specs.declared.service.Reply.{Reply}
use Rattle.at_session.specs.Sessions.{SessionState, is_listed}
use Rattle.at_packet.specs.Bodies.{IsBody}
use Rattle.at_packet.specs.declared.Body.TheVariants as body
use Rattle.at_node.specs.Nodes.{HearsBy, HearsMine, KeepsSeat, NodeState, called, speaker_of, timed}
use Rattle.at_node.specs.Numbers.{draw_of, drawn_by}
use Rattle.at_node.specs.SessionCalls.{picked_as}
use Rattle.at_node.proofs.Drawn.{By, IsDrawn, silent}
use Rattle.at_node.proofs.Protocols.Names.{name_call_stays, name_draws, name_timer_draws, name_timer_stays}
use Rattle.at_node.proofs.Protocols.Names.{names_drawn}
use Rattle.at_node.proofs.Protocols.Streams.{MakingLaw, segment_drawn, stream_draws, stream_timer_draws}
use Rattle.at_node.proofs.Protocols.Streams.{stream_timer_stays}
use Rattle.at_node.proofs.Protocols.Transactions.{BeginningLaw, packet_drawn, transaction_draws}
use Rattle.at_node.proofs.Protocols.Transactions.{transaction_timer_draws, transaction_timer_stays, zone_draws}
pub mod Names
pub mod Streams
pub mod Transactions

module _ (A : Type 0) where
  -- ---- calls and timers

  picks : (s : SessionState) (zone : List ℕ) (b : Bool) → By A (picked_as s zone b) None
  picks s zone true = refl
  picks s zone false = refl

  pub call_draws : (n : NodeState) (call : Call A) → By A (called n call) (draw_of n call)
  call_draws n (protocol.Transactions call) = transaction_draws A n call
  call_draws n (protocol.Zones call) = zone_draws A n call
  call_draws n (protocol.Names call) = name_draws A n call
  call_draws n (protocol.Streams call) = stream_draws A n call
  call_draws n (protocol.Session (Pick zone)) = picks n.session zone (is_listed n.session zone)

  pub call_stays : (n : NodeState) (call : Call A) → KeepsSeat n (called n call)
  call_stays n (protocol.Names call) = name_call_stays A n call
  call_stays n other = refl

  pub timer_draws : (n : NodeState) (time : Timer) → By A (timed n time) None
  timer_draws n (timer.Transactions time) = transaction_timer_draws A n time
  timer_draws n (timer.Names time) = name_timer_draws A n time
  timer_draws n (timer.Streams time) = stream_timer_draws A n time

  pub timer_stays : (n : NodeState) (time : Timer) → KeepsSeat {A = A} n (timed n time)
  timer_stays n (timer.Transactions time) = transaction_timer_stays A n time
  timer_stays n (timer.Names time) = name_timer_stays A n time
  timer_stays n (timer.Streams time) = stream_timer_stays A n time

  -- ---- datagrams

  module _ (said : Reply A) (n : NodeState) (d : Datagram) (o : Outcome A NodeState) where
    -- which number is drawn, by the part that hears it
    drawn_as : MakingLaw → BeginningLaw A → (whose : Speaker) → speaker_of d.kind ≡ whose → HearsBy said n d o whose
        → IsDrawn A n d o
    drawn_as making beginning Atp its h = packet_drawn A beginning said n d o its h
    drawn_as making beginning Nbp its h = names_drawn A n d o h
    drawn_as making beginning Adsp its h = segment_drawn A making n d o its h
    drawn_as making beginning other its h = silent A n d o (ap (λ (x : Outcome A NodeState). drawn_by x.report) h)

    pub mine_drawn : MakingLaw → BeginningLaw A → HearsMine said n d o → IsDrawn A n d o
    mine_drawn making beginning = drawn_as making beginning (speaker_of d.kind) refl

    pub mine_stays : HearsMine said n d o → KeepsSeat n o
    mine_stays = stays (speaker_of d.kind)
      where
        stays : (whose : Speaker) → HearsBy said n d o whose → KeepsSeat n o
        stays Nobody h = ap (λ (x : Outcome A NodeState). x.state.seat) h
        stays kinds.Session h = ap (λ (x : Outcome A NodeState). x.state.seat) h
        stays other h = ap (λ (x : Outcome A NodeState). x.state.seat) h.2

-- a datagram that is decoded by no protocol is nobody's
pub nobodys : (d : Came) → IsBody (body.Other d) → speaker_of d.kind ≡ Nobody
nobodys d other = grind arith
