-- The socket of a node for names, and what each call and each packet does there (Inside AppleTalk, NBP, "Name
-- registration", "Name lookup").
use Rattle.std.specs.Prelude.{◌≡◌, ℕ, ◌==◌, if◌then◌else◌, Bool, List, [], ◌∷◌, ◌++◌, length, map, find}
use Rattle.std.specs.Prelude.{option_map, Option, Some, None}
use Rattle.at_ddp.specs.Tables.{without_first}
use Rattle.at_ddp.specs.declared.address.Address.{Address}
use Rattle.at_name_socket.specs.declared.claim.Claim.{Claim}
use Rattle.at_name_socket.specs.declared.neighbour.Neighbour.{Neighbour}
use Rattle.at_name_socket.specs.declared.step.Finished.{Finished}
use Rattle.at_name_socket.specs.declared.step.Finished.TheVariants as finished
use Rattle.at_name_socket.specs.declared.step.Heard.{Heard}
use Rattle.at_name_socket.specs.declared.step.Heard.TheVariants as heard
use Rattle.at_nbp.specs.Lookups as lookups
use Rattle.at_nbp.specs.Lookups.{Lookups, Search, beginning, begun, closed, search_of}
use Rattle.at_nbp.specs.NameTables.{Table, is_called, own_find, register_fault, registered}
use Rattle.at_nbp.specs.Packets.{BeginsWith, Content, spelling}
use Rattle.at_nbp.specs.Relays.{relayed}
use Rattle.at_nbp.specs.Replies.{AreReplies, matching, pattern_of, sent_reply}
use Rattle.at_nbp.specs.Tuples.{Entry}
use Rattle.at_nbp.specs.declared.fault.NbpFault.{NbpFault}
use Rattle.at_nbp.specs.declared.fault.NbpFault.TheVariants.{NoSuchLookup}
use Rattle.at_nbp.specs.declared.find.Find.{Find}
use Rattle.at_nbp.specs.declared.function.Function.{Function}
use Rattle.at_nbp.specs.declared.function.Function.TheVariants.{BroadcastRequest, LookUp, Reply}
use Rattle.at_nbp.specs.declared.name.Name.{Name}
use Rattle.at_nbp.specs.declared.names.Registered.{Registered}

-- a node's own names, its open lookups, which of these are claims, and the nodes of the cable, if it is the router
pub record SocketState : Type 0 where
  pub table : Table
  pub lookups : Lookups
  pub claims : List Claim
  pub neighbours : Option (List Neighbour)

-- the zone of the node's names: `*` if there are no zones
abbrev pub own_zone : Option (List ℕ) → List ℕ
own_zone None = 0x2A ∷ []
own_zone (Some zone) = zone

-- a lookup asks the router, or every node if there is none
abbrev pub asked_node : Option ℕ → ℕ
asked_node None = 255
asked_node (Some router) = router

abbrev pub asked_by : Option ℕ → Function
asked_by None = LookUp
asked_by (Some router) = BroadcastRequest

-- every node has socket 2 for names
abbrev pub names_of : ℕ → ℕ → Address
names_of net node = record { net = net; node = node; socket = 2 }

abbrev pub opening : ℕ → ℕ → Option ℕ → Option (List ℕ) → Option (List Neighbour) → SocketState
opening net node router zone neighbours = record {
  table = record { own = names_of net node; zone = own_zone zone; names = [] };
  lookups =
      record {
        own = names_of net node;
        to = names_of net (asked_node router);
        function = asked_by router;
        next = 0;
        searches = [];
      };
  claims = [];
  neighbours = neighbours;
}

-- ---- claims

abbrev pub is_claim : ℕ → Claim → Bool
is_claim id c = c.id == id

-- a claim looks for its object and type in every zone
abbrev pub any_pattern : List ℕ → List ℕ → Name
any_pattern object kind = record { object = object; kind = kind; zone = 0x2A ∷ [] }

abbrev pub claim_begun : SocketState → ℕ → List ℕ → List ℕ → ℕ → SocketState
claim_begun s id object kind socket = record s {
  lookups = begun s.lookups (beginning id (any_pattern object kind));
  claims = s.claims ++ record { id = id; object = object; kind = kind; socket = socket } ∷ [];
}

-- ---- the end of a lookup

abbrev pub closing : SocketState → ℕ → SocketState
closing s id = record s { lookups = closed s.lookups id; claims = without_first (is_claim id) s.claims }

-- the name of a claim, if it stands here already
abbrev pub standing : SocketState → Claim → Option Registered
standing s claim = find (is_called claim.object claim.kind) s.table.names

-- who has the name of a claim: the first find, or a name of the node's own
abbrev pub taker : SocketState → List Find → Claim → Option Find
taker s (f ∷ fs) claim = Some f
taker s [] claim = option_map (own_find s.table) (standing s claim)

-- what a lookup ends with, and the socket after it
pub record Ending (A : Type 0) : Type 0 where
  pub finished : Finished A
  pub state : SocketState

-- a claim ends with the name that is taken, or by registering its own
abbrev pub claim_ended : {A : Type 0} → SocketState → ℕ → Claim → Option Find → Ending A
claim_ended s id claim (Some f) = record { finished = finished.Taken f; state = closing s id }
claim_ended s id claim None = record {
  finished = finished.Claimed;
  state = record (closing s id) { table = registered s.table claim.object claim.kind claim.socket };
}

-- any other lookup ends with its finds
abbrev pub ended : {A : Type 0} → SocketState → ℕ → List Find → Option Claim → Ending A
ended s id finds None = record { finished = finished.Found finds; state = closing s id }
ended s id finds (Some claim) = claim_ended s id claim (taker s finds claim)

-- without such a lookup there is nothing to end
abbrev pub ending : {A : Type 0} → SocketState → ℕ → Option Search → Ending A
ending s id None = record { finished = finished.Found []; state = s }
ending s id (Some search) = ended s id search.finds (find (is_claim id) s.claims)

abbrev pub finish : {A : Type 0} → SocketState → ℕ → Ending A
finish s id = ending s id (search_of s.lookups id)

-- what the end of a lookup tells: its finds, if it is open and no claim
abbrev pub told_at_end : Option Search → Option Claim → Option (List Find)
told_at_end None claim = None
told_at_end (Some search) (Some claim) = None
told_at_end (Some search) None = Some search.finds

abbrev pub finds_told : SocketState → ℕ → Option (List Find)
finds_told s id = told_at_end (search_of s.lookups id) (find (is_claim id) s.claims)

-- these are the end of a lookup and the socket after it
pub record IsEnding {A : Type 0} (e : Ending A) (r : Finished A) (new : SocketState) : Type 0 where
  pub finished : r ≡ e.finished
  pub state : new ≡ e.state

-- why a claim cannot be finished: its name cannot be registered
abbrev pub claim_fault : SocketState → Claim → Option Find → Option NbpFault
claim_fault s claim None = register_fault s.table.names claim.object claim.kind
claim_fault s claim (Some f) = None

-- why a lookup cannot be finished
abbrev pub fault_of : SocketState → Option Search → Option Claim → Option NbpFault
fault_of s None claim = Some NoSuchLookup
fault_of s (Some search) None = None
fault_of s (Some search) (Some claim) = claim_fault s claim (taker s search.finds claim)

abbrev pub finish_fault : SocketState → ℕ → Option NbpFault
finish_fault s id = fault_of s (search_of s.lookups id) (find (is_claim id) s.claims)

-- ---- packets

-- the zone of a node, or the router's own for a node that it does not know
abbrev pub zone_or : List ℕ → Option Neighbour → List ℕ
zone_or own None = own
zone_or own (Some n) = n.zone

abbrev pub is_node : ℕ → Neighbour → Bool
is_node node n = n.node == node

abbrev pub zone_of : List ℕ → List Neighbour → ℕ → List ℕ
zone_of own neighbours node = zone_or own (find (is_node node) neighbours)

-- the router asks every node, with the zone of the node that asks
abbrev pub relayed_in : SocketState → List Neighbour → Content → List (Address × List ℕ)
relayed_in s neighbours p =
    map (λ t. (
      record s.table.own { node = 255 },
      spelling (relayed (zone_of s.table.zone neighbours t.address.node) p),
    )) p.tuples

-- a request is relayed by the router, and ignored by any other node
abbrev pub Relays : SocketState → Content → Option (List Neighbour) → Heard → List (Address × List ℕ) → Type 0
Relays s p None h pushes = (h ≡ heard.Ignored) × (pushes ≡ [])
Relays s p (Some neighbours) h pushes = (h ≡ heard.Relayed) × (pushes ≡ relayed_in s neighbours p)

-- the report of a number of names or finds: without any, the packet is ignored
abbrev pub counted : (ℕ → Heard) → ℕ → Heard
counted some count = if count == 0 then heard.Ignored else some count

-- a lookup is answered by full replies with the names that match, to the address in its tuple
abbrev pub AnswersTo : SocketState → ℕ → List Entry → Heard → List (Address × List ℕ) → Type 0
AnswersTo s id [] h pushes = (h ≡ heard.Ignored) × (pushes ≡ [])
AnswersTo s id (t ∷ ts) h pushes =
    (h ≡ counted heard.Answered (length (matching s.table (pattern_of t))))
    × ((replies : List (List Entry)) × AreReplies (matching s.table (pattern_of t)) replies
    × (pushes ≡ map (sent_reply id t.address) replies))

-- what a packet does, by its function: the step, the state after it, and what is sent
abbrev pub Takes : SocketState → Content → Function → Heard → SocketState → List (Address × List ℕ) → Type 0
Takes s p LookUp h new pushes = AnswersTo s p.id p.tuples h pushes × (new ≡ s)
Takes s p Reply h new pushes =
    (h ≡ counted heard.Kept (lookups.heard s.lookups p).count)
    × (new ≡ record s { lookups = (lookups.heard s.lookups p).after }) × (pushes ≡ [])
Takes s p _ h new pushes = Relays s p s.neighbours h pushes × (new ≡ s)

-- the bytes begin with a packet, and this is what it does
pub record Hears (s : SocketState) (bytes : List ℕ) (h : Heard) (new : SocketState)
    (pushes : List (Address × List ℕ)) : Type 0 where
  pub packet : Content
  pub rest : List ℕ
  pub begins : BeginsWith bytes packet rest
  pub takes : Takes s packet packet.function h new pushes
