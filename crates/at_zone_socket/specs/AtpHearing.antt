-- What an ATP datagram does to its part of a node, by the socket that it is for.
use Rattle.std.specs.Prelude.{MatchBool, ◌≡◌, ℕ, ◌==◌, if◌then◌else◌, option_map, Option, Some, None, ◌⊎◌}
use Rattle.at_ddp.specs.Datagram.{Content as Datagram}
use Rattle.at_ddp.specs.declared.address.Address.{Address}
use Rattle.at_atp_frame.specs.Fault as atp
use Rattle.at_atp_frame.specs.Frames.{Content, Spells, number_of}
use Rattle.at_atp_frame.specs.declared.fault.AtpFault.{AtpFault}
use Rattle.at_atp_requester.specs.Requests.{heard}
use Rattle.at_zip.specs.Tables.{Tables}
use Rattle.at_event.specs.declared.Report.TheVariants as report
use Rattle.at_event.specs.declared.seat.Seat.{Seat}
use Rattle.at_event.specs.declared.service.Reply.{Reply}
use Rattle.at_event.specs.Outcomes.{Outcome, Over, idle, over}
use Rattle.at_transaction_socket.specs.TransactionSockets.{packet_in}
use Rattle.at_transaction_socket.specs.RequesterSocket.{hears_other}
use Rattle.at_transaction_socket.specs.ServiceSocket.{service_heard}
use Rattle.at_zone_socket.specs.AtpParts.{AtpState, with_transactions, with_zones}
use Rattle.at_zone_socket.specs.ZoneReading.{ReadsPage, is_page, names_read}
use Rattle.at_zone_socket.specs.ZoneSocket.{AtZones}

-- the sockets of the part that speaks ATP
pub data AtpSocket : Type 0 where
  Requester : AtpSocket
  Service : AtpSocket
  Zones : (tables : Tables) → AtpSocket

-- only a router has a zone socket
abbrev pub atp_socket : AtpState → ℕ → Option AtpSocket
atp_socket a socket =
    if socket == 128 then Some Requester
    else (if socket == 129 then Some Service else (if socket == 6 then option_map Zones a.zones.tables else None))

-- a packet for the socket that asks: the page that a reading asked for, or any other
abbrev pub AtRequester : {A : Type 0} → Seat → AtpState → Address → Content → Outcome A AtpState → Type 0
AtRequester {A} s a from f o =
    MatchBool (is_page A a from f)
    (ReadsPage s a (heard a.transactions.requester from f) from (names_read a.zones.reading) (packet_in f) o)
    (o
    ≡ over (with_transactions a) (hears_other s a.transactions (number_of f) (heard a.transactions.requester from f)))

-- what a packet does at a socket; at a socket of nobody it is ignored
abbrev pub AtSocket : {A : Type 0} → Reply A → Seat → AtpState → Address → Option AtpSocket → Content
    → Outcome A AtpState → Type 0
AtSocket said s a from None f o = o ≡ idle a report.Ignored
AtSocket said s a from (Some Requester) f o = AtRequester s a from f o
AtSocket said s a from (Some Service) f o = o ≡ over (with_transactions a) (service_heard said s a.transactions from f)
AtSocket said s a from (Some (Zones tables)) f o = Over (with_zones a) (AtZones s a.zones from tables f) o

pub record HearsPacket {A : Type 0} (said : Reply A) (s : Seat) (a : AtpState) (d : Datagram) (socket : AtpSocket)
    (o : Outcome A AtpState) : Type 0 where
  pub packet : Content
  pub spelled : Spells d.data_ packet
  pub outcome : AtSocket said s a d.from (Some socket) packet o

pub record HearsAtpFault {A : Type 0} (a : AtpState) (d : Datagram) (o : Outcome A AtpState) : Type 0 where
  pub fault : AtpFault
  pub number : ℕ
  pub first : atp.IsFirstFault fault d.data_
  pub numbered : atp.number_of fault ≡ Some number
  pub outcome : o ≡ idle a (report.Refused number)

-- what a datagram does at a socket; at a socket of nobody it is ignored, whatever its data
abbrev pub HearsAt : {A : Type 0} → Reply A → Seat → AtpState → Datagram → Option AtpSocket → Outcome A AtpState
    → Type 0
HearsAt said s a d None o = o ≡ idle a report.Ignored
HearsAt said s a d (Some socket) o = HearsPacket said s a d socket o ⊎ HearsAtpFault a d o

abbrev pub HearsAtp : {A : Type 0} → Reply A → Seat → AtpState → Datagram → Outcome A AtpState → Type 0
HearsAtp said s a d o = HearsAt said s a d (atp_socket a d.to.socket) o
