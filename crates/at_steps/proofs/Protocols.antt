-- The protocols of a node, a row each: its part, the type of its datagrams, what comes of its calls, of its timers and
-- of what is heard, and that this is safe. All else that is said of every event goes by these rows.
use Rattle.std.proofs.Common.{◌≡◌, inl, inr, ℕ, Bool, true, false, List, refl, sym, ap, subst, arith}
use Rattle.std.specs.Prelude.{MatchBool, ◌||◌}
use Rattle.at_ddp.specs.Datagram.{Content as Datagram, BeginsWith, canonical}
use Rattle.at_ddp.specs.declared.address.Address.{Address}
use Rattle.at_ddp.specs.Protocols.{atp_kind, nbp_kind, adsp_kind}
use Rattle.at_event.specs.Kinds as kinds
use Rattle.at_event.specs.Kinds.{Speaker, Nobody, Session, speaker_of_call, speaker_of_timer, reporter_of}
use Rattle.at_event.specs.Outcomes.{Outcome, idle, over}
use Rattle.at_event.specs.Seats.{is_for_all, is_mine}
use Rattle.at_event.specs.declared.Call.{Call}
use Rattle.at_event.specs.declared.Call.TheVariants as protocol
use Rattle.at_event.specs.declared.Reason.TheVariants.{OfNodes}
use Rattle.at_event.specs.declared.fault.NodeFault.TheVariants as nodes
use Rattle.at_event.specs.declared.session.SessionCall.TheVariants.{Pick}
use Rattle.at_event.specs.declared.Report.{Report}
use Rattle.at_event.specs.declared.Report.TheVariants as report
use Rattle.at_event.specs.declared.Timer.{Timer}
use Rattle.at_event.specs.declared.Timer.TheVariants as timer
use Rattle.at_event.specs.declared.service.Reply.{Reply}
use Rattle.at_node.specs.Hearing.{Hears, HearsIt}
use Rattle.at_node.specs.Limits.{IsWithin}
use Rattle.at_node.specs.Nodes.{HearsBy, HearsMine, NodeState, called, speaker_of, timed, with_session}
use Rattle.at_node.specs.SessionCalls.{picked_as}
use Rattle.at_session.specs.Sessions.{SessionState, is_listed, list_kept}
use Rattle.at_steps.specs.Acts.{Act, Calls, Fires, Gets, IsSaid}
use Rattle.at_steps.specs.Safety.{IsTableOfCall, IsSafe, TransactionTable, Records}
use Rattle.at_steps.specs.SessionSteps.{MayPick}
use Rattle.at_steps.proofs.Coming.{ComesBy, IsOf, may_pick}
use Rattle.at_steps.proofs.Safety.By.{by, quiet, refused, through}
use Rattle.at_steps.proofs.Protocols.Atp.Hearing.{atp_heard}
use Rattle.at_steps.proofs.Protocols.Atp.SafeEvents.{atp_over, transaction_timer_safe, transactions_safe}
use Rattle.at_steps.proofs.Protocols.Atp.SafeEvents.{zone_lists_safe}
use Rattle.at_steps.proofs.Protocols.Atp.SafeRecords.{RecordLaws}
use Rattle.at_steps.proofs.Protocols.Atp.SafeRequests.{NumbersAreFree}
use Rattle.at_steps.proofs.Protocols.Atp.Outcomes.{take_atp, transactions_called, transactions_timed, zone_lists_called}
use Rattle.at_steps.proofs.Protocols.Names.Outcomes.{names_called, names_heard, names_timed, take_names}
use Rattle.at_steps.proofs.Protocols.Names.Safe.{NameLaws, name_call_safe, name_timer_safe, names_over}
use Rattle.at_steps.proofs.Protocols.Streams.Safe.{StreamLaws, stream_call_safe, stream_timer_safe, streams_over}
use Rattle.at_steps.proofs.Protocols.Streams.Outcomes.{streams_called, streams_heard, streams_timed, take_streams}
pub mod Atp
pub mod Names
pub mod Streams

-- the node with the part of another state for a protocol; nobody has one, and the session is kept apart
abbrev pub take_part : Speaker → NodeState → NodeState → NodeState
take_part kinds.Atp = take_atp
take_part kinds.Nbp = take_names
take_part kinds.Adsp = take_streams
take_part other = λ n now. n

-- no protocol has type 0
abbrev pub type_of : Speaker → ℕ
type_of kinds.Atp = atp_kind
type_of kinds.Nbp = nbp_kind
type_of kinds.Adsp = adsp_kind
type_of other = 0

-- what comes of an event comes of this protocol, or of the session or of nobody
pub record Comes (A : Type 0) (n : NodeState) (act : Act A) (o : Outcome A NodeState) (whose : Speaker) : Type 0 where
  pub by : ComesBy A (take_part whose) (type_of whose) whose n act o
  pub picks : MayPick n.session act o.report (reporter_of o.report)

-- a datagram of this type is this protocol's; any may be nobody's
abbrev pub IsTyped : Speaker → ℕ → Type 0
IsTyped Nobody kind = Unit {0}
IsTyped whose kind = speaker_of kind ≡ whose

pub record ComesByType (A : Type 0) (n : NodeState) (which : ℕ) (o : Outcome A NodeState) (kind : ℕ) : Type 0 where
  pub whose : Speaker
  pub typed : IsTyped whose kind
  pub comes : Comes A n (Gets which) o whose

module _ (A : Type 0) (n : NodeState) where
  -- what a protocol reports is not the session's
  of_protocol : (act : Act A) (o : Outcome A NodeState) (whose : Speaker) → MayPick n.session act o.report whose
      → ComesBy A (take_part whose) (type_of whose) whose n act o → Comes A n act o whose
  of_protocol act o whose picks by = record {
    by = by;
    picks = may_pick A n.session act o.report whose (reporter_of o.report) picks by.its.1.0;
  }

  -- ---- calls and timers

  picking : (zone : List ℕ) (listed : Bool) → is_listed n.session zone ≡ listed
      → Comes A n (Calls (protocol.Session (Pick zone)))
      (over (with_session n) (picked_as n.session zone listed)) Session
  picking zone true listed = record { by = record { state = refl; its = (tt, (refl, tt)) }; picks = listed }
  picking zone false listed = record { by = record { state = refl; its = (tt, (tt, tt)) }; picks = tt }

  pub call_comes : (call : Call A) → Comes A n (Calls call) (called n call) (speaker_of_call call)
  call_comes (protocol.Transactions call) =
      of_protocol (Calls (protocol.Transactions call)) (called n (protocol.Transactions call)) kinds.Atp tt
      (transactions_called A n call)
  call_comes (protocol.Zones call) =
      of_protocol (Calls (protocol.Zones call)) (called n (protocol.Zones call)) kinds.Atp tt
      (zone_lists_called A n call)
  call_comes (protocol.Names call) =
      of_protocol (Calls (protocol.Names call)) (called n (protocol.Names call)) kinds.Nbp tt (names_called A n call)
  call_comes (protocol.Streams call) =
      of_protocol (Calls (protocol.Streams call)) (called n (protocol.Streams call)) kinds.Adsp tt
      (streams_called A n call)
  call_comes (protocol.Session (Pick zone)) = picking zone (is_listed n.session zone) refl

  pub timer_comes : (time : Timer) → Comes A n (Fires time) (timed n time) (speaker_of_timer time)
  timer_comes (timer.Transactions time) =
      of_protocol (Fires (timer.Transactions time)) (timed n (timer.Transactions time)) kinds.Atp tt
      (transactions_timed A n time)
  timer_comes (timer.Names time) =
      of_protocol (Fires (timer.Names time)) (timed n (timer.Names time)) kinds.Nbp tt (names_timed A n time)
  timer_comes (timer.Streams time) =
      of_protocol (Fires (timer.Streams time)) (timed n (timer.Streams time)) kinds.Adsp tt (streams_timed A n time)

-- ---- datagrams

module _ (A : Type 0) (n : NodeState) (which : ℕ) (said : Reply A) (o : Outcome A NodeState) where
  of_type : (kind : ℕ) (whose : Speaker) → IsTyped whose kind → MayPick n.session (Gets which) o.report whose
      → ComesBy A (take_part whose) (type_of whose) whose n (Gets which) o → ComesByType A n which o kind
  of_type kind whose typed picks by =
      record { whose = whose; typed = typed; comes = of_protocol A n (Gets which) o whose picks by }

  nothing_comes : (kind : ℕ) (r : Report A) → o ≡ idle n r → n.session ≡ list_kept n.session r
      → IsOf Nobody (reporter_of r) → IsSaid (Gets which) r → ComesByType A n which o kind
  nothing_comes kind r is keeps its may = of_type kind Nobody tt tt
      (subst (ComesBy A (take_part Nobody) (type_of Nobody) Nobody n (Gets which)) (sym is)
      (record { state = ap (λ (s : SessionState). record n { session = s }) keeps; its = (tt, (its, may)) }))

  mine_comes : (d : Datagram) (whose : Speaker) → speaker_of d.kind ≡ whose → HearsBy said n d o whose
      → ComesByType A n which o d.kind
  mine_comes d kinds.Atp is h = of_type d.kind kinds.Atp is tt (atp_heard A n which said d o h)
  mine_comes d kinds.Nbp is h = of_type d.kind kinds.Nbp is tt (names_heard A n which d o h)
  mine_comes d kinds.Adsp is h = of_type d.kind kinds.Adsp is tt (streams_heard A n which d o h)
  mine_comes d other is h = nothing_comes d.kind report.Ignored h refl tt tt

  it_comes : (d : Datagram) → HearsIt said n d o → ComesByType A n which o d.kind
  it_comes d = go (is_for_all n.seat d.kind d.to || is_mine n.seat d.to)
    where
      go : (b : Bool) → MatchBool b (HearsMine said n d o) (o ≡ idle n report.Ignored) → ComesByType A n which o d.kind
      go true h = mine_comes d (speaker_of d.kind) refl h
      go false h = nothing_comes d.kind report.Ignored h refl tt tt

  -- whatever is heard
  pub bytes_come : (bytes : List ℕ) → Hears said n bytes o → (kind : ℕ) × ComesByType A n which o kind
  bytes_come bytes (inl h) = ((h.datagram).kind, it_comes h.datagram h.outcome)
  bytes_come bytes (inr h) = (0, nothing_comes 0 (report.Refused h.number) h.outcome refl tt tt)

  pub datagram_comes : ((to from : Address) (kind : ℕ) (bytes rest : List ℕ) (d : Datagram)
      → BeginsWith (canonical to from kind bytes) d rest → d.kind ≡ kind) →
      (to from : Address) (kind : ℕ) (bytes : List ℕ) → Hears said n (canonical to from kind bytes) o
      → ComesByType A n which o kind
  datagram_comes reads to from kind bytes (inl h) =
      subst (ComesByType A n which o) (reads to from kind bytes h.rest h.datagram h.begins)
      (it_comes h.datagram h.outcome)
  datagram_comes reads to from kind bytes (inr h) = nothing_comes kind (report.Refused h.number) h.outcome refl tt tt

-- ---- safe events

-- what the layers below promise
pub record SafetyLaws : Type 0 where
  pub numbers : NumbersAreFree
  pub records : RecordLaws
  pub names : NameLaws
  pub streams : StreamLaws

module _ (A : Type 0) (laws : SafetyLaws) (n : NodeState) (within : IsWithin n) where
  picking_safe : (zone : List ℕ) (listed : Bool)
      → IsSafe {A = A} IsTableOfCall n n.session (picked_as n.session zone listed)
  picking_safe zone true = quiet A IsTableOfCall n n.session (picked_as n.session zone true) refl (omega arith)
  picking_safe zone false = refused A IsTableOfCall n n.session (OfNodes nodes.ZoneNotListed) tt

  pub call_safe : (call : Call A) → IsSafe IsTableOfCall n n (called n call)
  call_safe (protocol.Transactions call) = transactions_safe A n laws.numbers laws.records call
  call_safe (protocol.Zones call) = zone_lists_safe A n laws.numbers call
  call_safe (protocol.Names call) = name_call_safe A n IsTableOfCall laws.names within call
  call_safe (protocol.Streams call) = stream_call_safe A n IsTableOfCall laws.streams within call
  call_safe (protocol.Session (Pick zone)) =
      through A IsTableOfCall n (with_session n) n.session (picked_as n.session zone (is_listed n.session zone)) refl
      (picking_safe zone (is_listed n.session zone))

  pub timer_safe : (time : Timer) → IsSafe {A = A} IsTableOfCall n n (timed n time)
  timer_safe (timer.Transactions time) = transaction_timer_safe A n time
  timer_safe (timer.Names time) = name_timer_safe A n IsTableOfCall laws.names within time
  timer_safe (timer.Streams time) = stream_timer_safe A n IsTableOfCall laws.streams within time

  module _ (Wants : TransactionTable → Type 0) (said : Reply A) (d : Datagram) (o : Outcome A NodeState) where
    pub ignored_safe : o ≡ idle n report.Ignored → IsSafe Wants n n o
    ignored_safe is =
        by A Wants n n o (idle n report.Ignored) is (quiet A Wants n n (idle n report.Ignored) refl (omega arith))

    heard_safe : Wants (Records d.to.socket) → (whose : Speaker) → HearsBy said n d o whose → IsSafe Wants n n o
    heard_safe here kinds.Atp h = atp_over A n Wants laws.records said d o here h
    heard_safe here kinds.Nbp h = names_over A n Wants laws.names within d o h
    heard_safe here kinds.Adsp h = streams_over A n Wants laws.streams within d o h
    heard_safe here other h = ignored_safe h

    pub mine_safe : Wants (Records d.to.socket) → HearsMine said n d o → IsSafe Wants n n o
    mine_safe here = heard_safe here (speaker_of d.kind)
