-- A cable of UDP sockets: its ports, and what comes of a call. R says what may come of a send or a receive of a socket.
use Rattle.std.specs.Prelude.{◌≡◌, ℕ, ◌+◌, ◌<◌, ◌==◌, nat_lt, min, if◌then◌else◌, List, [], ◌∷◌, slice_get, slice_set}
use Rattle.std.specs.Prelude.{Option, Some, None, Result, Ok, Err, IsErr}
use Rattle.std.specs.List.{position_from}
use Rattle.std.specs.declared.io.Error.{Error}
use Rattle.at_cable.specs.Calls.{IsCounted, last_count}
use Rattle.at_cable.specs.declared.fault.CableFault.{CableFault}
use Rattle.at_udp.specs.Answers.{IsHeard, IsSent}

pub record UdpState (S : Type 0) : Type 0 where
  pub first : ℕ  -- node n is at the port that is n above this one
  pub nodes : List ℕ  -- whose sockets these are, in the order of the setup
  pub sockets : List S  -- of each node its own, in the same order
  pub failed : ℕ  -- how many calls failed

abbrev pub counted : {S : Type 0} → UdpState S → UdpState S
counted c = record c { failed = min (c.failed + 1) last_count }

-- the port of a node; there are 65,536
abbrev pub port_of : ℕ → ℕ → Option ℕ
port_of first node = if nat_lt (first + node) 65536 then Some (first + node) else None

-- the place of a node among those of a cable
abbrev pub place_of : List ℕ → ℕ → Option ℕ
place_of nodes node = position_from (λ n. n == node) 0 nodes

-- whom a payload is for: 255 is every node (Inside AppleTalk, DDP)
abbrev pub destinations : List ℕ → ℕ → List ℕ
destinations nodes to = if to == 255 then nodes else to ∷ []

-- A payload is sent once to this port. What goes to a node that has no port is lost, though no call fails for it.
abbrev pub SendsAt : {S : Type 0} → (S → List ℕ → ℕ → Result ℕ Error → S → Type 0) → List ℕ → Option ℕ → S
    → Result (Unit {0}) CableFault → S → Type 0
SendsAt R bytes None s answer s' = (answer ≡ Ok tt) × (s' ≡ s)
SendsAt R bytes (Some port) s answer s' = (taken : Result ℕ Error) × R s bytes port taken s' × IsSent taken answer

-- after a send that failed nothing more is done
abbrev pub GoesOn : {S : Type 0} → Result (Unit {0}) CableFault → (Result (Unit {0}) CableFault → S → Type 0) → S
    → Result (Unit {0}) CableFault → S → Type 0
GoesOn (Ok u) more mid answer s' = more answer s'
GoesOn (Err fault) more mid answer s' = (answer ≡ Err fault) × (s' ≡ mid)

-- A payload is sent to each of these nodes in order, up to the first send that fails.
abbrev pub SendsEach : {S : Type 0} → (S → List ℕ → ℕ → Result ℕ Error → S → Type 0) → ℕ → List ℕ → List ℕ → S
    → Result (Unit {0}) CableFault → S → Type 0
SendsEach R first bytes [] s answer s' = (answer ≡ Ok tt) × (s' ≡ s)
SendsEach {S} R first bytes (n ∷ ns) s answer s' =
    (one : Result (Unit {0}) CableFault) × (mid : S) × SendsAt R bytes (port_of first n) s one mid
    × GoesOn one (SendsEach R first bytes ns mid) mid answer s'

-- a socket is asked once for what waits, and the answer is what it got
abbrev pub Hears : {S : Type 0} → (S → ℕ → Result (List ℕ) Error → S → Type 0) → ℕ → S
    → Result (Option (List ℕ)) CableFault → S → Type 0
Hears R room s answer s' = (got : Result (List ℕ) Error) × R s room got s' × IsHeard got answer

-- The socket at this place does a step T, and all others stay. Without a place the call fails, and all stay.
abbrev pub AsksOwn : {S V : Type 0} → (S → S → Type 0) → List S → Option ℕ → Result V CableFault → List S → Type 0
AsksOwn T sockets None answer sockets' = IsErr answer × (sockets' ≡ sockets)
AsksOwn {S} T sockets (Some place) answer sockets' =
    (before : S) × (after : S) × (slice_get sockets place ≡ Some before) × T before after
    × (sockets' ≡ slice_set sockets place after)

-- A call of a node is counted, and its own socket does a step T. At the end of the count no socket is asked.
pub record Calls {S V : Type 0} (T : S → S → Type 0) (c : UdpState S) (node : ℕ) (answer : Result V CableFault)
    (c' : UdpState S) : Type 0 where
  pub counted : IsCounted c.failed answer c'.failed
  pub first : c'.first ≡ c.first
  pub nodes : c'.nodes ≡ c.nodes
  pub over : c.failed ≡ last_count → c'.sockets ≡ c.sockets
  pub own : c.failed < last_count → AsksOwn T c.sockets (place_of c.nodes node) answer c'.sockets

-- a send of a node
abbrev pub Sends : {S : Type 0} → (S → List ℕ → ℕ → Result ℕ Error → S → Type 0) → UdpState S → ℕ → ℕ → List ℕ
    → Result (Unit {0}) CableFault → UdpState S → Type 0
Sends R c sender to bytes answer c' =
    Calls (λ s s'. SendsEach R c.first bytes (destinations c.nodes to) s answer s') c sender answer c'

-- a receive of a node
abbrev pub Receives : {S : Type 0} → (S → ℕ → Result (List ℕ) Error → S → Type 0) → UdpState S → ℕ → ℕ
    → Result (Option (List ℕ)) CableFault → UdpState S → Type 0
Receives R c node room answer c' = Calls (λ s s'. Hears R room s answer s') c node answer c'
