-- What comes of received bytes: the first fault that they have, or what their datagram does to the node.
use Rattle.std.specs.Prelude.{MatchBool, ◌≡◌, ℕ, ◌||◌, List, Some, ◌⊎◌}
use Rattle.at_ddp.specs.Datagram.{Content as Datagram, BeginsWith}
use Rattle.at_ddp.specs.Fault as ddp
use Rattle.at_ddp.specs.declared.address.Address.{Address}
use Rattle.at_ddp.specs.declared.fault.DdpFault.{DdpFault}
use Rattle.at_atp_frame.specs.Frames.{Content}
use Rattle.at_event.specs.declared.Report.TheVariants as report
use Rattle.at_event.specs.declared.service.Reply.{Reply}
use Rattle.at_zone_socket.specs.AtpHearing.{AtSocket, atp_socket}
use Rattle.at_node.specs.Nodes.{HearsMine, NodeState, over_atp}
use Rattle.at_event.specs.Outcomes.{Outcome, Through, idle}
use Rattle.at_event.specs.Seats.{is_for_all, is_mine}

-- what is for another node is ignored
abbrev pub HearsIt : {A : Type 0} → Reply A → NodeState → Datagram → Outcome A NodeState → Type 0
HearsIt said n d o =
    MatchBool (is_for_all n.seat d.kind d.to || is_mine n.seat d.to) (HearsMine said n d o) (o ≡ idle n report.Ignored)

pub record HearsDatagram {A : Type 0} (said : Reply A) (n : NodeState) (bytes : List ℕ)
    (o : Outcome A NodeState) : Type 0 where
  pub datagram : Datagram
  pub rest : List ℕ
  pub begins : BeginsWith bytes datagram rest
  pub outcome : HearsIt said n datagram o

pub record HearsDdpFault {A : Type 0} (n : NodeState) (bytes : List ℕ) (o : Outcome A NodeState) : Type 0 where
  pub fault : DdpFault
  pub number : ℕ
  pub first : ddp.IsFirstFault fault bytes
  pub numbered : ddp.number_of fault ≡ Some number
  pub outcome : o ≡ idle n (report.Refused number)

-- what comes of received bytes, if the service would reply this to a new request
abbrev pub Hears : {A : Type 0} → Reply A → NodeState → List ℕ → Outcome A NodeState → Type 0
Hears said n bytes o = HearsDatagram said n bytes o ⊎ HearsDdpFault n bytes o

-- what an ATP packet that was sent to an address does to a node
abbrev pub HearsSent : {A : Type 0} → Reply A → NodeState → Address → Address → Content → Outcome A NodeState → Type 0
HearsSent said n to from f o =
    MatchBool (is_mine n.seat to)
    (Through (over_atp n) (AtSocket said n.seat n.atp from (atp_socket n.atp to.socket) f) o)
    (o ≡ idle n report.Ignored)
