-- What an NBP datagram does to the socket of a node for names (Inside AppleTalk, NBP, "Name lookup").
use Rattle.std.specs.Prelude.{MatchBool, ◌≡◌, ℕ, ◌==◌, List, Some, ◌⊎◌}
use Rattle.at_ddp.specs.Datagram.{Content as Datagram}
use Rattle.at_ddp.specs.declared.address.Address.{Address}
use Rattle.at_nbp.specs.Fault as nbp
use Rattle.at_nbp.specs.declared.fault.NbpFault.{NbpFault}
use Rattle.at_name_socket.specs.NameSockets.{Hears as SocketHears, SocketState}
use Rattle.at_name_socket.specs.declared.step.Heard.{Heard}
use Rattle.at_name_socket.specs.declared.step.Heard.TheVariants as heard
use Rattle.at_event.specs.declared.Report.{Report}
use Rattle.at_event.specs.declared.Report.TheVariants as report
use Rattle.at_event.specs.declared.names.NameReport.TheVariants as nbp_report
use Rattle.at_event.specs.declared.seat.Seat.{Seat}
use Rattle.at_node.specs.NameCalls.{sent_of}
use Rattle.at_event.specs.Outcomes.{Outcome, idle}

-- the report of what came of a packet
abbrev pub told_by : {A : Type 0} → Heard → Report A
told_by heard.Ignored = report.Ignored
told_by heard.Relayed = report.Names nbp_report.Relayed
told_by (heard.Answered count) = report.Names (nbp_report.Matched count)
told_by (heard.Kept count) = report.Names (nbp_report.Added count)

-- the data begins with a packet, and this is what it does
pub record HearsName {A : Type 0} (s : Seat) (n : SocketState) (bytes : List ℕ) (o : Outcome A SocketState)
    : Type 0 where
  pub step : Heard
  pub new : SocketState
  pub pushes : List (Address × List ℕ)
  pub hears : SocketHears n bytes step new pushes
  pub outcome : o ≡ record { report = told_by step; state = new; out = sent_of s pushes }

-- the data begins with no packet
pub record HearsNbpFault {A : Type 0} (n : SocketState) (bytes : List ℕ) (o : Outcome A SocketState) : Type 0 where
  pub fault : NbpFault
  pub number : ℕ
  pub first : nbp.IsFirstFault fault bytes
  pub numbered : nbp.number_of fault ≡ Some number
  pub outcome : o ≡ idle n (report.Refused number)

-- what a datagram does; at another socket it is ignored, whatever its data
abbrev pub HearsNames : {A : Type 0} → Seat → SocketState → Datagram → Outcome A SocketState → Type 0
HearsNames s n d o =
    MatchBool (d.to.socket == 2)
    (HearsName s n d.data_ o ⊎ HearsNbpFault n d.data_ o)
    (o ≡ idle n report.Ignored)
