-- What the machine knows of names and lookups, and which reports of them it allows (Inside AppleTalk, NBP, "Name
-- registration", "Name lookup").
use Rattle.std.specs.Prelude.{◌≡◌, ℕ, ◌≤◌, ◌==◌, ◌&&◌, ◌⊎◌, not, if◌then◌else◌, Bool, List, [], ◌∷◌, ◌++◌}
use Rattle.std.specs.Prelude.{length, filter, find, slice_get, Contains, Option, Some, None}
use Rattle.std.specs.List.{AllByRecursion}
use Rattle.at_ddp.specs.Tables.{without_first}
use Rattle.at_nbp.specs.Lookups.{IsSearch, asked, find_of}
use Rattle.at_nbp.specs.NameTables.{IsRegistered, Table, is_called, own_find, register_fault}
use Rattle.at_nbp.specs.Replies.{entry_in}
use Rattle.at_nbp.specs.declared.find.Find.{Find as Found}
use Rattle.at_nbp.specs.declared.name.Name.{Name}
use Rattle.at_nbp.specs.declared.names.Registered.{Registered}
use Rattle.at_name_socket.specs.NameSockets.{any_pattern, names_of, own_zone}
use Rattle.at_name_socket.specs.declared.claim.Claim.{Claim as Claimed}
use Rattle.at_event.specs.Kinds.{Speaker, Nbp}
use Rattle.at_event.specs.declared.Call.TheVariants.{Names}
use Rattle.at_event.specs.declared.names.NameCall.TheVariants.{Find, Claim, Finish, Register, Unregister}
use Rattle.at_event.specs.declared.Report.{Report}
use Rattle.at_event.specs.declared.Report.TheVariants as report
use Rattle.at_event.specs.declared.names.NameReport.TheVariants as nbp_report
use Rattle.at_session.specs.Sessions.{pattern_asked}
use Rattle.at_world.specs.Machine.SessionGuards.{Sessions}
use Rattle.at_setup.specs.declared.event.Event.{Event}
use Rattle.at_setup.specs.declared.event.Event.TheVariants as event
use Rattle.at_setup.specs.declared.setup.NodeSetup.{NodeSetup}
use Rattle.at_setup.specs.declared.setup.Setup.{Setup}

-- an open lookup of a node, with what it asks for, the claim that it is, if it is one, and the moment of its beginning
pub record OpenLookup : Type 0 where
  pub node : ℕ
  pub id : ℕ
  pub pattern : Name
  pub claim : Option Claimed
  pub since : ℕ

-- the names of each node
abbrev pub Directory : Type 0
Directory = ℕ → Table

-- A moment is the state after an event. The first moment is the opening state.
pub record NameMachine : Type 0 where
  pub names : Directory
  pub past : List Directory  -- the names at each moment so far, this one included
  pub lookups : List OpenLookup  -- newest first

-- the zone of a node's names: `*` for a node without a zone, as for a number that no node has
abbrev pub zone_at : List NodeSetup → ℕ → List ℕ
zone_at [] node = own_zone None
zone_at (n ∷ ns) node = if n.node == node then own_zone n.zone else zone_at ns node

-- no node has a name
abbrev pub no_names : {A : Type 0} → Setup A → Directory
no_names s node = record { own = names_of s.net node; zone = zone_at s.nodes node; names = [] }

abbrev pub opening : {A : Type 0} → Setup A → NameMachine
opening s = record { names = no_names s; past = no_names s ∷ []; lookups = [] }

-- the same one moment later
abbrev pub next : NameMachine → NameMachine
next m = record m { past = m.past ++ m.names ∷ [] }

-- a node's names become these
abbrev pub with_names : NameMachine → ℕ → Table → NameMachine
with_names m node table = record m { names = λ k. if node == k then table else m.names k }

-- ---- lookups

abbrev pub is_lookup : ℕ → ℕ → OpenLookup → Bool
is_lookup node id l = (l.node == node) && (l.id == id)

-- the lookup of a node that is open under this identifier
abbrev pub lookup_of : List OpenLookup → ℕ → ℕ → Option OpenLookup
lookup_of ls node id = find (is_lookup node id) ls

-- all others
abbrev pub without_lookup : List OpenLookup → ℕ → ℕ → List OpenLookup
without_lookup ls node id = filter (λ l. not (is_lookup node id l)) ls

-- what is found was a name of some node at some moment since then, as a lookup with this pattern reads it
pub record Stood (past : List Directory) (since : ℕ) (pattern : Name) (f : Found) : Type 0 where
  pub moment : ℕ
  pub later : since ≤ moment
  pub directory : Directory
  pub stands : slice_get past moment ≡ Some directory
  pub node : ℕ
  pub name : Registered
  pub there : Contains (directory node).names name
  pub is : f ≡ find_of pattern (entry_in (directory node) name)

-- what a lookup may have found: at most 256 names that differ and match its pattern, each of which stood since it began
pub record Finds (past : List Directory) (l : OpenLookup) (finds : List Found) : Type 0 where
  pub lawful : IsSearch (record { id = l.id; pattern = l.pattern; finds = finds })
  pub stood : AllByRecursion (Stood past l.since l.pattern) finds

-- who may have the name of a claim: one that its lookup may have found, or the node itself, which has such a name now
abbrev pub IsTaken : NameMachine → ℕ → OpenLookup → Claimed → Found → Type 0
IsTaken m node l claim owner = Finds m.past l (owner ∷ [])
    ⊎ ((name : Registered) × (find (is_called claim.object claim.kind) (m.names node).names ≡ Some name)
    × (owner ≡ own_find (m.names node) name))

-- ---- the steps, one for each report

-- a lookup begins
pub record BeginsLookup (m : NameMachine) (node id : ℕ) (pattern : Name) (claim : Option Claimed) (m' : NameMachine)
    : Type 0 where
  pub becomes : m' ≡ next (record m {
    lookups = record { node = node; id = id; pattern = asked pattern; claim = claim; since = length m.past }
        ∷ m.lookups;
  })

-- a lookup ends, which is no claim
pub record EndsLookup (m : NameMachine) (node id : ℕ) (finds : List Found) (m' : NameMachine) : Type 0 where
  pub lookup : OpenLookup
  pub stands : lookup_of m.lookups node id ≡ Some lookup
  pub claims : lookup.claim ≡ None
  pub tells : Finds m.past lookup finds
  pub becomes : m' ≡ next (record m { lookups = without_lookup m.lookups node id })

-- a name is registered, if no such name stands here
pub record RegistersName (m : NameMachine) (node : ℕ) (object kind : List ℕ) (socket : ℕ) (m' : NameMachine)
    : Type 0 where
  pub allowed : register_fault (m.names node).names object kind ≡ None
  pub table : Table
  pub joins : IsRegistered object kind socket (m.names node) table
  pub becomes : m' ≡ next (with_names m node table)

-- a claim ends, and its name is registered
pub record EndsClaim (m : NameMachine) (node id : ℕ) (m' : NameMachine) : Type 0 where
  pub lookup : OpenLookup
  pub stands : lookup_of m.lookups node id ≡ Some lookup
  pub claim : Claimed
  pub claims : lookup.claim ≡ Some claim
  pub registers : RegistersName (record m { lookups = without_lookup m.lookups node id }) node claim.object claim.kind
      claim.socket m'

-- a claim ends: its name is taken
pub record LosesClaim (m : NameMachine) (node id : ℕ) (owner : Found) (m' : NameMachine) : Type 0 where
  pub lookup : OpenLookup
  pub stands : lookup_of m.lookups node id ≡ Some lookup
  pub claim : Claimed
  pub claims : lookup.claim ≡ Some claim
  pub taken : IsTaken m node lookup claim owner
  pub becomes : m' ≡ next (record m { lookups = without_lookup m.lookups node id })

-- a name is taken away
pub record TakesAway (m : NameMachine) (node : ℕ) (object kind : List ℕ) (m' : NameMachine) : Type 0 where
  pub name : Registered
  pub stood : find (is_called object kind) (m.names node).names ≡ Some name
  pub becomes : m' ≡ next (with_names m node (record (m.names node) {
    names = without_first (is_called object kind) (m.names node).names;
  }))

-- The reports of this protocol, row by row. A lookup asks in the zone that was picked if its call names none.
abbrev pub Says : {A : Type 0} → Sessions → NameMachine → Event A → Report A → NameMachine → Type 0
Says ss m (event.Call node (Names (Find object kind wanted))) (report.Names (nbp_report.Looking id)) m' =
    BeginsLookup m node id (pattern_asked (ss node) object kind wanted) None m'
Says ss m (event.Call node (Names (Claim object kind socket))) (report.Names (nbp_report.Looking id)) m' =
    BeginsLookup m node id (any_pattern object kind)
    (Some (record { id = id; object = object; kind = kind; socket = socket })) m'
Says ss m (event.Call node (Names (Finish id))) (report.Names (nbp_report.Found finds)) m' =
    EndsLookup m node id finds m'
Says ss m (event.Call node (Names (Finish id))) (report.Names nbp_report.Claimed) m' = EndsClaim m node id m'
Says ss m (event.Call node (Names (Finish id))) (report.Names (nbp_report.Taken owner)) m' =
    LosesClaim m node id owner m'
Says ss m (event.Call node (Names (Register object kind socket))) (report.Names nbp_report.Registered) m' =
    RegistersName m node object kind socket m'
Says ss m (event.Call node (Names (Unregister object kind))) (report.Names nbp_report.Unregistered) m' =
    TakesAway m node object kind m'
Says ss m (event.Deliver which node) (report.Names nbp_report.Relayed) m' = m' ≡ next m
Says ss m (event.Deliver which node) (report.Names (nbp_report.Matched count)) m' = m' ≡ next m
Says ss m (event.Deliver which node) (report.Names (nbp_report.Added count)) m' = m' ≡ next m
Says ss m e r m' = ⊥

-- at a report of another protocol, or of nobody, a moment passes
abbrev pub StepBy : {A : Type 0} → Sessions → NameMachine → Event A → Report A → NameMachine → Speaker → Type 0
StepBy ss m e r m' Nbp = Says ss m e r m'
StepBy ss m e r m' other = m' ≡ next m
