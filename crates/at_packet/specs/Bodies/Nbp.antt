-- What the data of a datagram of NBP is decoded as.
use Rattle.std.specs.Prelude.{◌≡◌, ℕ, List, length, Result, IfOk, IfErr, IsErrOf, IsOkAnd}
use Rattle.at_nbp.specs.Fault as nbp
use Rattle.at_nbp.specs.Packets.{BeginsWith, Content, HasCount, packet_content}
use Rattle.at_nbp.specs.declared.fault.NbpFault.{NbpFault}
use Rattle.at_nbp.specs.declared.packet.Packet.{Packet}

-- this packet of NBP is at the front of the data, or this is the first fault of the data
pub record IsNames (bytes : List ℕ) (decoded : Result Packet NbpFault) : Type 0 where
  pub found : IfOk decoded (λ p. (rest : List ℕ) × BeginsWith bytes (packet_content p) rest)
  pub counted : IfOk decoded (λ p. HasCount p.function (length p.tuples))
  pub only : (p : Content) (rest : List ℕ) → BeginsWith bytes p rest → IsOkAnd decoded (λ q. packet_content q ≡ p)
  pub fault : IfErr decoded (λ fault. nbp.IsFirstFault fault bytes)
  pub refused : (fault : NbpFault) → nbp.IsFirstFault fault bytes → IsErrOf decoded fault
