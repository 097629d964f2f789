-- What ties a world to what the machine knows of names and lookups, through a history of the network of its sockets for
-- names.
use Rattle.std.proofs.Common.{◌≡◌, ℕ, ◌<◌, true, false, cond, List, [], length, Option, Some}
use Rattle.std.specs.Prelude.{IfSome, ◌==◌}
use Rattle.std.specs.List.{AllByRecursion}
use Rattle.at_ddp.specs.Datagram.{canonical}
use Rattle.at_ddp.specs.declared.address.Address.{Address}
use Rattle.at_nbp.specs.Askers.{IsAskedBy}
use Rattle.at_nbp.specs.Lawfully.{IsInRange, IsLawfulSetting, IsLawfullySent, IsNamed}
use Rattle.at_ddp.specs.Posts.{packet_at}
use Rattle.at_ddp.specs.Protocols.{nbp_kind}
use Rattle.at_world.proofs.Entries.{Entries}
use Rattle.at_nbp.specs.Network.{AllAsk, AllTimely, FindsStood, Happening, Sent, Setting, after, is_fresh}
use Rattle.at_nbp.specs.Packets.{spelling}
use Rattle.at_nbp.specs.Tuples.{IsString}
use Rattle.at_nbp.specs.declared.function.Function.TheVariants as function
use Rattle.at_name_socket.specs.NameSockets as sockets
use Rattle.at_name_socket.specs.NameSockets.{names_of, own_zone}
use Rattle.at_name_socket.specs.Sockets.{Change, IsSocket, changed, open_at}
use Rattle.at_name_socket.specs.Steps as socket_steps
use Rattle.at_name_socket.specs.declared.neighbour.Neighbour.{Neighbour}
use Rattle.at_event.specs.Kinds.{IsCall}
use Rattle.at_node.specs.Numbers.{Carries, drawn_by}
use Rattle.at_node.specs.Hearing.{Hears}
use Rattle.at_event.specs.Kinds.{speaker_of_call, speaker_of_timer, reporter_of}
use Rattle.at_node.specs.Nodes.{NodeState, called, timed}
use Rattle.at_event.specs.Outcomes.{Outcome}
use Rattle.at_node.specs.declared.numbers.Draw.TheVariants.{Lookup as Identifier}
use Rattle.at_event.specs.declared.Call.{Call}
use Rattle.at_event.specs.declared.Report.{Report}
use Rattle.at_event.specs.declared.Timer.{Timer}
use Rattle.at_event.specs.declared.service.Reply.{Reply}
use Rattle.at_steps.specs.Acts.{Act, Calls, Fires, Gets}
use Rattle.at_steps.specs.NameHappenings.{Happens, IsForeign, IsHappening, Stands, is_names_socket, name_coding, is_nbp}
use Rattle.at_world.specs.Cables.{Cable}
use Rattle.at_world.specs.Events.{node_of}
use Rattle.at_world.specs.Machine.NameGuards.{Directory, NameMachine, StepBy, next}
use Rattle.at_world.specs.Machine.SessionGuards.{Sessions}
use Rattle.at_world.specs.Worlds.{WorldState, node_at}
use Rattle.at_setup.specs.declared.event.Event.{Event}
use Rattle.at_world.proofs.CableTie.{Wire}
use Rattle.at_world.proofs.Parts.Names.Lookups.{IsDrawn, Known, lookups_after}
use Rattle.at_world.proofs.Parts.Names.Moments.{Past}
use Rattle.at_world.proofs.Parts.Names.Times.{IsNoted}

-- what the layers below promise
pub record NameLaws (A : Type 0) : Type 0 where
  pub foreign_call : (n : NodeState) (call : Call A) → is_nbp (speaker_of_call call) ≡ false
      → IsForeign n (Calls call) (called n call)
  pub foreign_timer : (n : NodeState) (time : Timer) → is_nbp (speaker_of_timer time) ≡ false
      → IsForeign {A = A} n (Fires time) (timed n time)
  pub foreign_datagram : (n : NodeState) (which : ℕ) (to from : Address) (kind : ℕ) (bytes : List ℕ) (said : Reply A)
      (o : Outcome A NodeState) → (kind == nbp_kind) ≡ false → Hears said n (canonical to from kind bytes) o
      → IsForeign n (Gets which) o
  pub called : (setting : Setting) (history : List Happening) (n : NodeState) (call : Call A)
      → Stands setting history n.seat.net n.seat.number n → IsCall call → is_nbp (speaker_of_call call) ≡ true
      → IsHappening setting history n.seat.net n.seat.number n (Calls call) (called n call)
  pub timed : (setting : Setting) (history : List Happening) (n : NodeState) (time : Timer)
      → Stands setting history n.seat.net n.seat.number n → is_nbp (speaker_of_timer time) ≡ true
      → IsHappening {A = A} setting history n.seat.net n.seat.number n (Fires time) (timed n time)
  pub heard : (setting : Setting) (history : List Happening) (n : NodeState) (which : ℕ) (s : Sent) (said : Reply A)
      (o : Outcome A NodeState) → Stands setting history n.seat.net n.seat.number n
      → packet_at (after setting history).sent which ≡ Some s
      → (s.packet.function ≡ function.Reply → is_fresh (after setting history).begun s ≡ true)
      → Hears said n (canonical s.to s.from nbp_kind (spelling s.packet)) o
      → IsHappening setting history n.seat.net n.seat.number n (Gets which) o
  pub passes : (setting : Setting) (history : List Happening) (n : NodeState) (act : Act A) (o : Outcome A NodeState)
      → Stands setting history n.seat.net n.seat.number n → IsForeign n act o
      → Happens setting history n.seat.net n.seat.number n act o
  pub carries : (s : Sent) → IsLawfullySent s → s.packet.function ≡ function.Reply
      → Carries (canonical s.to s.from nbp_kind (spelling s.packet)) s.to.node (Identifier s.packet.id)
  pub lawful_sent : (setting : Setting) (history : List Happening) → IsLawfulSetting setting
      → AllTimely setting history → AllByRecursion IsInRange history
      → AllByRecursion (λ o. IfSome o IsLawfullySent) (after setting history).sent
  pub named : (setting : Setting) (history : List Happening) → IsLawfulSetting setting → AllTimely setting history
      → AllByRecursion IsInRange history → (at : Address)
      → AllByRecursion IsNamed ((after setting history).tables at).names
  pub found : (setting : Setting) (history : List Happening) → AllAsk setting → AllTimely setting history
      → FindsStood setting history
  pub opens : (net node : ℕ) (router : Option ℕ) (zone : Option (List ℕ)) (neighbours : Option (List Neighbour))
      → IsString (own_zone zone)
      → ((ns : List Neighbour) → neighbours ≡ Some ns → AllByRecursion (λ n. IsString n.zone) ns)
      → IsSocket (sockets.opening net node router zone neighbours)

-- ---- what is known of a world

-- a node's socket is that of the network at its address
pub record HasSocket (net : ℕ) (setting : Setting) (history : List Happening) (lookups : NameMachine) (k : ℕ)
    (n : NodeState) : Type 0 where
  pub small : k < 255
  pub stands : socket_steps.Stands (after setting history) (names_of net k) n.names
  pub socket : IsSocket n.names
  pub own : n.names.table.own ≡ names_of net k
  pub known : (id : ℕ) → Known net lookups.lookups (after setting history).begun k id (open_at n.names id)

pub record NameTie (w : WorldState) (c : Cable) (wires : List Wire) (m : NameMachine) : Type 0 where
  pub setting : Setting
  pub history : List Happening
  pub all_ask : AllAsk setting
  pub lawful : IsLawfulSetting setting
  pub timely : AllTimely setting history
  pub in_range : AllByRecursion IsInRange history
  pub asked : AllByRecursion (IsAskedBy (is_names_socket c.net)) history
  pub events : w.events ≡ (after setting history).event
  pub count : (after setting history).event ≡ length history
  pub sockets : (k : ℕ) (n : NodeState) → node_at w k ≡ Some n → HasSocket c.net setting history m k n
  pub sent : Entries name_coding wires (after setting history).sent
  pub begun : AllByRecursion (IsNoted w.last w.events) (after setting history).begun
  pub now : (k : ℕ) → (after setting history).tables (names_of c.net k) ≡ m.names k
  pub elsewhere : (at : Address) → is_names_socket c.net at ≡ false → ((after setting history).tables at).names ≡ []
  pub past : Past c.net setting history m.past

-- the machine a moment later, with these names, and with the lookups after a change at a node
abbrev pub moved : NameMachine → Directory → ℕ → Change → NameMachine
moved m names k change = next (record m { names = names; lookups = lookups_after m.lookups (length m.past) k change })

-- What a step does to what the machine knows. The step is of node k, which becomes x.
pub record Becomes (A : Type 0) (ss : Sessions) (m : NameMachine) (e : Event A) (n x : NodeState)
    (r : Report A) : Type 0 where
  pub names : Directory
  pub change : Change
  pub allows : StepBy ss m e r (moved m names (node_of e) change) (reporter_of r)
  pub tables : (k : ℕ) → names k ≡ cond (node_of e == k) x.names.table (m.names k)
  pub opened : (id : ℕ) → open_at x.names id ≡ changed change (open_at n.names) id
  pub drawn : IsDrawn change (drawn_by r)

-- ---- what a node sends
