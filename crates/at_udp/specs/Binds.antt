-- How the sockets of a cable are bound. B says what may come of binding one at a port.
use Rattle.std.specs.Prelude.{◌≡◌, ℕ, ◌+◌, List, take, slice_get, Option, Some, None, Result, Ok, Err, IsErr}
use Rattle.std.specs.List.{AllZip}
use Rattle.std.specs.Net.Addr.{IsV4And, ipv4_octets}
use Rattle.std.specs.Net.Socket.{socket_ip}
use Rattle.std.specs.declared.io.Error.{Error}
use Rattle.std.specs.declared.net.socket_addr.SocketAddr.{SocketAddr}
use Rattle.at_udp.specs.Sockets.{UdpState, port_of}
use Rattle.at_udp.specs.declared.bind.BindFault.{BindFault}
use Rattle.at_udp.specs.declared.bind.BindFault.TheVariants as fault

-- an address of these four octets
abbrev pub HasOctets : List ℕ → SocketAddr → Type 0
HasOctets octets address = IsV4And (socket_ip address) (λ a. ipv4_octets a ≡ octets)

-- what may come of binding at this port; a node that has none gets no socket
abbrev pub BindsAt : {S : Type 0} → (ℕ → Result S Error → Type 0) → Option ℕ → Result S Error → Type 0
BindsAt B None answer = IsErr answer
BindsAt B (Some port) answer = B port answer

-- a node's socket is one that may come of binding at its port
abbrev pub Has : {S : Type 0} → (ℕ → Result S Error → Type 0) → ℕ → ℕ → S → Type 0
Has B first node socket = BindsAt B (port_of first node) (Ok socket)

-- each node has its socket, and no call has failed
abbrev pub IsBound : {S : Type 0} → (ℕ → Result S Error → Type 0) → ℕ → List ℕ → UdpState S → Type 0
IsBound B first nodes c =
    (c.first ≡ first) × (c.nodes ≡ nodes) × AllZip (Has B first) nodes c.sockets × (c.failed ≡ 0)

-- this node's socket could not be bound
abbrev pub IsOf : {S : Type 0} → (ℕ → Result S Error → Type 0) → ℕ → ℕ → BindFault → Type 0
IsOf B first node (fault.NoSocket n port why) =
    (n ≡ node) × (port ≡ first + node) × BindsAt B (port_of first node) (Err why)
IsOf B first node fault.NoMemory = ⊥

-- Memory ran out. Or the socket of one of these nodes could not be bound, though those of the nodes before it were.
abbrev pub IsUnbound : {S : Type 0} → (ℕ → Result S Error → Type 0) → ℕ → List ℕ → BindFault → Type 0
IsUnbound {S} B first nodes (fault.NoSocket n port why) =
    (place : ℕ) × (sockets : List S) × (slice_get nodes place ≡ Some n)
    × AllZip (Has B first) (take place nodes) sockets × IsOf B first n (fault.NoSocket n port why)
IsUnbound B first nodes fault.NoMemory = Unit {0}
