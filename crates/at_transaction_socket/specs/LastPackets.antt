-- A packet with the transaction that it ends.
use Rattle.at_atp_frame.specs.Frames.{content}
use Rattle.at_atp_requester.specs.Endings.{Ends}
use Rattle.at_atp_requester.specs.Requests.{Requests}
use Rattle.at_transaction_socket.specs.declared.users.LastPacket.{LastPacket}

-- the packet ends that transaction of this requester
abbrev pub IsLast : (A : Type 0) → Requests → LastPacket → Type 0
IsLast A r l = Ends A r l.packet.from (content l.packet.frame) l.ending
