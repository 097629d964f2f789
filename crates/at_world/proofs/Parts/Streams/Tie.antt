-- What ties a world to what the machine knows of streams, through a history of the network of its ends.
use Rattle.std.proofs.Common.{◌≡◌, ℕ, ◌<◌, ◌≤◌, Bool, true, false, List, [], ◌∷◌, length, Some, None}
use Rattle.std.proofs.Common.{sym, subst}
use Rattle.std.specs.Prelude.{is_some, ◌==◌, ◌&&◌}
use Rattle.std.specs.List.{AllByRecursion}
use Rattle.at_ddp.specs.Address.{same_address}
use Rattle.at_ddp.specs.Datagram.{canonical}
use Rattle.at_ddp.specs.declared.address.Address.{Address}
use Rattle.at_adsp_frame.specs.Segments.{spelled}
use Rattle.at_adsp_end.specs.Ends.{EndState, has_opened}
use Rattle.at_adsp_end.specs.Positions.{wire as wire_numbers}
use Rattle.at_adsp_end.specs.declared.item.Item.{Item}
use Rattle.at_adsp_ends.specs.Tables.{by_id, by_remote}
use Rattle.at_adsp.specs.Cables.{few_segments, wire_numbered}
use Rattle.at_adsp.specs.Connections.{streams}
use Rattle.at_adsp.specs.Lawfully.{IsInRange, IsLawfulSetting, IsLawfullySent}
use Rattle.at_adsp.specs.Nearness.{AllNear, HasWindows}
use Rattle.at_adsp.specs.Meetings.{NamesPeer, ReadsWith}
use Rattle.at_ddp.specs.Posts.{AllSent, packet_at}
use Rattle.at_ddp.specs.Protocols.{adsp_kind}
use Rattle.at_world.proofs.Entries.{Entries}
use Rattle.at_adsp.specs.Network.{AllTimely, Happening, NoneNames, Reads, Sent, Setting, after, dest_of, is_fresh}
use Rattle.at_adsp.specs.Orders.{ReadsInOrder}
use Rattle.at_event.specs.Kinds.{IsCall}
use Rattle.at_event.specs.Kinds.{speaker_of_call, speaker_of_timer}
use Rattle.at_event.specs.Outcomes.{Outcome}
use Rattle.at_event.specs.declared.Call.{Call}
use Rattle.at_event.specs.declared.Call.TheVariants.{Streams}
use Rattle.at_event.specs.declared.streams.StreamCall.TheVariants.{Read}
use Rattle.at_event.specs.declared.Report.TheVariants as report
use Rattle.at_event.specs.declared.streams.StreamReport.TheVariants as adsp_report
use Rattle.at_event.specs.declared.Report.{Report}
use Rattle.at_event.specs.declared.Timer.{Timer}
use Rattle.at_event.specs.declared.service.Reply.{Reply}
use Rattle.at_node.specs.Numbers.{Carries, drawn_by, holds}
use Rattle.at_node.specs.Hearing.{Hears}
use Rattle.at_node.specs.Nodes.{NodeState, called, called as node_called, timed}
use Rattle.at_node.specs.declared.numbers.Draw.TheVariants.{Conn}
use Rattle.at_steps.specs.Acts.{Act, Calls, Fires, Gets}
use Rattle.at_steps.specs.StreamHappenings.{IsForeign, IsHappening, IsHere, Passes, Stands, identifiers, is_adsp}
use Rattle.at_steps.specs.StreamHappenings.{is_streams_socket, stream_coding}
use Rattle.at_stream_socket.specs.Sockets.{streams_at}
use Rattle.at_world.specs.Cables.{Cable}
use Rattle.at_world.specs.Machine.StreamGuards.{StreamMachine}
use Rattle.at_world.specs.Worlds.{WorldState, node_at}
use Rattle.at_world.proofs.CableTie.{Wire}
use Rattle.at_world.proofs.Parts.Streams.Times.{IsNoted}

-- an end that this node's event makes gets a number that no end has as its remote
abbrev pub DrawsFree : {A : Type 0} → Setting → List Happening → ℕ → ℕ → Report A → Type 0
DrawsFree setting history net number r = (id : ℕ) → drawn_by r ≡ Some (Conn id)
    → NoneNames (after setting history) (streams_at net number) id

-- what the layers below promise
pub record StreamLaws (A : Type 0) : Type 0 where
  pub foreign_call : (n : NodeState) (call : Call A) → is_adsp (speaker_of_call call) ≡ false
      → IsForeign n (Calls call) (called n call)
  pub foreign_timer : (n : NodeState) (time : Timer) → is_adsp (speaker_of_timer time) ≡ false
      → IsForeign {A = A} n (Fires time) (timed n time)
  pub foreign_datagram : (n : NodeState) (which : ℕ) (to from : Address) (kind : ℕ) (bytes : List ℕ) (said : Reply A)
      (o : Outcome A NodeState) → (kind == adsp_kind) ≡ false → Hears said n (canonical to from kind bytes) o
      → IsForeign n (Gets which) o
  pub called : (setting : Setting) (history : List Happening) (n : NodeState) (call : Call A)
      → Stands setting history n.seat.net n.seat.number n → IsCall call → is_adsp (speaker_of_call call) ≡ true
      → DrawsFree setting history n.seat.net n.seat.number (called n call).report
      → IsHappening setting history n.seat.net n.seat.number n (Calls call) (called n call)
  pub timed : (setting : Setting) (history : List Happening) (n : NodeState) (time : Timer)
      → Stands setting history n.seat.net n.seat.number n → is_adsp (speaker_of_timer time) ≡ true
      → IsHappening {A = A} setting history n.seat.net n.seat.number n (Fires time) (timed n time)
  pub heard : (setting : Setting) (history : List Happening) (n : NodeState) (which : ℕ) (s : Sent) (said : Reply A)
      (o : Outcome A NodeState) → Stands setting history n.seat.net n.seat.number n
      → packet_at (after setting history).sent which ≡ Some s
      → is_fresh (after setting history).made s ≡ true → DrawsFree setting history n.seat.net n.seat.number o.report
      → Hears said n (canonical s.to s.from adsp_kind (spelled s.packet)) o
      → IsHappening setting history n.seat.net n.seat.number n (Gets which) o
  pub passes : (setting : Setting) (history : List Happening) (n : NodeState) (act : Act A) (o : Outcome A NodeState)
      → Stands setting history n.seat.net n.seat.number n → IsForeign n act o
      → Passes setting history n.seat.net n.seat.number n act o
  pub carries_source : (s : Sent) → IsLawfullySent s → ((s.packet.source ≡ 0) → ⊥)
      → Carries (canonical s.to s.from adsp_kind (spelled s.packet)) s.from.node (Conn s.packet.source)
  pub carries_dest : (s : Sent) → IsLawfullySent s → ((dest_of s.packet.body ≡ 0) → ⊥)
      → Carries (canonical s.to s.from adsp_kind (spelled s.packet)) s.to.node (Conn (dest_of s.packet.body))
  pub lawful_sent : (setting : Setting) (history : List Happening) → IsLawfulSetting setting
      → AllByRecursion IsInRange history → AllSent IsLawfullySent (after setting history).sent
  pub unheld : (n : NodeState) (k id : ℕ) (at : Address) → holds n k (Conn id) ≡ false → at.node ≡ k
      → by_remote n.streams (record { address = at; id = id }) ≡ None
  pub reads : (setting : Setting) (history : List Happening) (n : NodeState) (id count : ℕ) (items : List Item)
      → Stands setting history n.seat.net n.seat.number n → (node_called {A = A} n (Streams (Read id count))).report
      ≡ report.Streams (adsp_report.Read items)
      → ReadsInOrder (after setting (Reads (streams_at n.seat.net n.seat.number) id count ∷ history))
      → ReadsWith (streams (after setting history)) (streams_at n.seat.net n.seat.number) id items
  pub names : (setting : Setting) (history : List Happening) (n : NodeState) (id : ℕ) (e : EndState)
      → Stands setting history n.seat.net n.seat.number n → by_id n.streams id ≡ Some e → has_opened e.phase ≡ true
      → NamesPeer (streams (after setting history)) (streams_at n.seat.net n.seat.number) e
  pub in_order : (setting : Setting) (history : List Happening) → setting.numbers ≡ wire_numbers → HasWindows setting
      → AllTimely setting history → length (after setting history).sent ≤ few_segments
      → ReadsInOrder (after setting history)

-- ---- what is known of a world

-- a node's ends are those of the network at its address
pub record HasEnds (net : ℕ) (setting : Setting) (history : List Happening) (k : ℕ) (n : NodeState) : Type 0 where
  pub some : 0 < k
  pub small : k < 255
  pub stands : (after setting history).tables (streams_at net k) ≡ n.streams

-- the socket for streams of a node of this world
abbrev pub is_nodes_socket : WorldState → ℕ → Address → Bool
is_nodes_socket w net at = same_address (streams_at net at.node) at && is_some (node_at w at.node)

pub record StreamTie (w : WorldState) (c : Cable) (wires : List Wire) (m : StreamMachine) : Type 0 where
  pub setting : Setting
  pub history : List Happening
  pub lawful : IsLawfulSetting setting
  pub numbers : setting.numbers ≡ wire_numbers
  pub ours : setting.ours ≡ is_streams_socket c.net
  pub timely : AllTimely setting history
  pub in_range : AllByRecursion IsInRange history
  pub here : AllByRecursion (IsHere c.net) history
  pub events : w.events ≡ (after setting history).event
  pub ends : (k : ℕ) (n : NodeState) → node_at w k ≡ Some n → HasEnds c.net setting history k n
  pub elsewhere : (at : Address) → is_nodes_socket w c.net at ≡ false → ((after setting history).tables at).ends ≡ []
  pub sent : Entries stream_coding wires (after setting history).sent
  pub drawn : AllByRecursion (IsNoted w.last w.events) (identifiers (streams (after setting history)))
  pub streams_are : m.streams ≡ streams (after setting history)
  pub count : m.events ≡ (after setting history).event

-- ---- what a node sends

-- what is read is in order where numbers are those of the cable, and few segments were sent
pub read_in_order : ((setting : Setting) (history : List Happening) → HasWindows setting
    → AllTimely (wire_numbered setting) history → AllNear (wire_numbered setting) history
    → ReadsInOrder (after (wire_numbered setting) history)) →
    ((setting : Setting) (history : List Happening) → HasWindows setting → AllTimely (wire_numbered setting) history
    → length (after (wire_numbered setting) history).sent ≤ few_segments → AllNear (wire_numbered setting) history) →
    (setting : Setting) (history : List Happening) → setting.numbers ≡ wire_numbers → HasWindows setting
    → AllTimely setting history → length (after setting history).sent ≤ few_segments
    → ReadsInOrder (after setting history)
read_in_order law near setting history numbers windows timely few =
    let same : wire_numbered setting ≡ setting = λ i. record setting { numbers = sym numbers i } in
    subst (λ (x : Setting). AllTimely x history → length (after x history).sent ≤ few_segments
    → ReadsInOrder (after x history)) same
    (λ on_time sent. law setting history windows on_time (near setting history windows on_time sent)) timely few
