-- Which happening of the network of names and lookups a step of a node is (Inside AppleTalk, NBP, "Name lookup").
use Rattle.std.specs.Prelude.{◌≡◌, ℕ, ◌^◌, ◌<◌, ◌==◌, ◌&&◌, ◌++◌, nat_lt, Bool, true, false, List, ◌∷◌, Option, Some}
use Rattle.std.specs.List.{AllByRecursion}
use Rattle.at_ddp.specs.declared.address.Address.{Address}
use Rattle.at_nbp.specs.Askers.{IsAskedBy}
use Rattle.at_nbp.specs.Lawfully.{IsInRange, IsLawfulSetting}
use Rattle.at_nbp.specs.Network.{AllAsk, AllTimely, Begun, Happening, IsAnswered, IsTimely, Sent, Setting, after, done}
use Rattle.at_ddp.specs.Posts.{put}
use Rattle.at_ddp.specs.Protocols.{nbp_kind}
use Rattle.at_steps.specs.Entries.{Coding, AreEntries}
use Rattle.at_nbp.specs.Packets.{spelling, Content}
use Rattle.at_nbp.specs.declared.name.Name.{Name}
use Rattle.at_name_socket.specs.NameSockets.{names_of}
use Rattle.at_name_socket.specs.Sockets.{IsSocket}
use Rattle.at_name_socket.specs.Steps as sockets
use Rattle.at_node.specs.Numbers.{drawn_by}
use Rattle.at_event.specs.Kinds.{Speaker, Nbp}
use Rattle.at_event.specs.Kinds.Names.{IsZone}
use Rattle.at_node.specs.Nodes.{NodeState}
use Rattle.at_event.specs.Outcomes.{Outcome}
use Rattle.at_node.specs.declared.numbers.Draw.{Draw}
use Rattle.at_node.specs.declared.numbers.Draw.TheVariants.{Lookup}
use Rattle.at_steps.specs.Acts.{Act}
use Rattle.at_steps.specs.Foreign.{IsAnothers}
use Rattle.at_steps.specs.NameSteps.{IsStep}

-- is it NBP's?
abbrev pub is_nbp : Speaker → Bool
is_nbp Nbp = true
is_nbp other = false

-- ---- a node in a network

-- is this the socket for names of a node on this AppleTalk network?
abbrev pub is_names_socket : ℕ → Address → Bool
is_names_socket net at = (at.net == net) && (nat_lt at.node 255 && (at.socket == 2))

-- After this history the node's socket for names is that of its part. No reply outlived its identifier, all that was
-- asked, answered and registered is in range, and only sockets for names asked. The zone that the node's user picked is
-- in range too.
pub record Stands (setting : Setting) (history : List Happening) (net number : ℕ) (n : NodeState) : Type 0 where
  pub all_ask : AllAsk setting
  pub lawful : IsLawfulSetting setting
  pub timely : AllTimely setting history
  pub in_range : AllByRecursion IsInRange history
  pub asked : AllByRecursion (IsAskedBy (is_names_socket net)) history
  pub small_net : net < 2 ^ 16
  pub small_number : number < 255
  pub stands : sockets.Stands (after setting history) (names_of net number) n.names
  pub socket : IsSocket n.names
  pub own : n.names.table.own ≡ names_of net number
  pub picked : IsZone n.session.picked

-- ---- what is sent and drawn

-- how a datagram carries an NBP packet: by DDP type 2, spelled as NBP has it
abbrev pub name_coding : Coding Content
name_coding = record { kind = nbp_kind; bytes = spelling }

-- the lookups that ever began, newest first: one more, if an event drew its identifier
abbrev pub BeginsBy : ℕ → Address → Option Draw → List Begun → List Begun → Type 0
BeginsBy event who (Some (Lookup id)) before now =
    (pattern : Name) × (now ≡ record { event = event; who = who; id = id; pattern = pattern } ∷ before)
BeginsBy event who other before now = now ≡ before

-- ---- a step of this protocol

-- A node's step with this outcome is one happening of the network. The node's socket becomes what its part becomes, and
-- all others stay.
pub record Happens {A : Type 0} (setting : Setting) (history : List Happening) (net number : ℕ) (n : NodeState)
    (act : Act A) (o : Outcome A NodeState) : Type 0 where
  pub happening : Happening
  pub timely : IsTimely (after setting history) happening
  pub answered : IsAnswered (after setting history) happening
  pub in_range : IsInRange happening
  pub asked : IsAskedBy (is_names_socket net) happening
  pub same_event : (done (after setting history) happening).event ≡ (after setting history).event
  pub tables : (at : Address) → (done (after setting history) happening).tables at
      ≡ put (after setting history).tables (names_of net number) o.state.names.table at
  pub lookups : (who : Address) → (done (after setting history) happening).lookups who
      ≡ put (after setting history).lookups (names_of net number) o.state.names.lookups who
  pub more : List (Option Sent)
  pub sent : (done (after setting history) happening).sent ≡ (after setting history).sent ++ more
  pub posts : AreEntries name_coding (after setting history).event o.out more
  pub begun : BeginsBy (after setting history).event (names_of net number) (drawn_by o.report)
      (after setting history).begun (done (after setting history) happening).begun
  pub socket : IsSocket o.state.names
  pub own : o.state.names.table.own ≡ names_of net number

-- such a happening, which is a step in words of names and lookups
abbrev pub IsHappening : {A : Type 0} → Setting → List Happening → ℕ → ℕ → NodeState → Act A → Outcome A NodeState
    → Type 0
IsHappening {A} setting history net number n act o = Happens setting history net number n act o
    × IsStep {A = A} (record {
      part = n.names;
      now = o.state.names;
      session = n.session;
      act = act;
      report = o.report;
    })

-- ---- steps of other protocols

-- the step is another protocol's
abbrev pub IsForeign : {A : Type 0} → NodeState → Act A → Outcome A NodeState → Type 0
IsForeign n act o = IsAnothers is_nbp nbp_kind (λ (m : NodeState). m.names) n act o
