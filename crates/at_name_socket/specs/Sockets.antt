-- What is open at a node's socket for names, and what holds of every such socket (Inside AppleTalk, NBP, "Name
-- registration", "Name lookup").
use Rattle.std.specs.Prelude.{◌≡◌, ℕ, ◌<◌, ◌==◌, if◌then◌else◌, find, option_map, IsSome, List, Option, Some, None}
use Rattle.std.specs.List.{AllByRecursion, IsDistinct}
use Rattle.at_name_socket.specs.NameSockets.{SocketState, is_claim}
use Rattle.at_name_socket.specs.declared.claim.Claim.{Claim}
use Rattle.at_name_socket.specs.declared.neighbour.Neighbour.{Neighbour}
use Rattle.at_nbp.specs.Lookups.{asked, search_of}
use Rattle.at_nbp.specs.Tuples.{IsString}
use Rattle.at_nbp.specs.declared.name.Name.{Name}

-- ---- what is open

-- an open lookup: what it asks for, and the claim that it is, if it is one
pub record Open : Type 0 where
  pub pattern : Name
  pub claim : Option Claim

-- the claim under this identifier
abbrev pub claim_of : SocketState → ℕ → Option Claim
claim_of s id = find (is_claim id) s.claims

-- the lookup that is open under this identifier
abbrev pub open_at : SocketState → ℕ → Option Open
open_at s id = option_map (λ l. record { pattern = l.pattern; claim = claim_of s id }) (search_of s.lookups id)

-- what an event does to the open lookups: nothing; one more under an identifier; or one less
pub data Change : Type 0 where
  Stays : Change
  Opens : (id : ℕ) (pattern : Name) (claim : Option Claim) → Change
  Closes : (id : ℕ) → Change

abbrev pub changed : Change → (ℕ → Option Open) → ℕ → Option Open
changed Stays opened id = opened id
changed (Opens drawn pattern claim) opened id =
    if drawn == id then Some (record { pattern = asked pattern; claim = claim }) else opened id
changed (Closes ended) opened id = if ended == id then None else opened id

-- ---- what holds of every socket

-- a claim is in range, and its lookup is open
pub record IsClaim (s : SocketState) (c : Claim) : Type 0 where
  pub object : IsString c.object
  pub kind : IsString c.kind
  pub socket : c.socket < 256
  pub stands : IsSome (search_of s.lookups c.id)

-- claims differ in their identifiers, and all zones are in range
pub record IsSocket (s : SocketState) : Type 0 where
  pub differ : IsDistinct (λ a b. is_claim a.id b) s.claims
  pub claims : AllByRecursion (IsClaim s) s.claims
  pub zone : IsString s.table.zone
  pub neighbours : (ns : List Neighbour) → s.neighbours ≡ Some ns → AllByRecursion (λ n. IsString n.zone) ns
