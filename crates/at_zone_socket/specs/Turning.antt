-- The page of a zone table after which the next one is asked for, and the number of that request (Inside AppleTalk,
-- ZIP, "GetZoneList", "GetLocalZones").
use Rattle.std.specs.Prelude.{◌≡◌, ℕ, ◌+◌, ◌≤◌, ◌==◌, Bool, true, false, length, find, is_some, Some}
use Rattle.at_ddp.specs.Datagram.{Content as Datagram}
use Rattle.at_ddp.specs.Tables.{without_first}
use Rattle.at_ddp.specs.declared.address.Address.{Address}
use Rattle.at_atp_frame.specs.Frames.{Content, Response, Spells}
use Rattle.at_atp_frame.specs.Packets.{Packet}
use Rattle.at_atp_requester.specs.Answers.{AnswerPart, is_wanted, whole, with_part}
use Rattle.at_atp_requester.specs.Requests.{Requests, Transaction, is_of, next_number}
use Rattle.at_zip.specs.Page.{Page, Spells as SpellsPage}
use Rattle.at_zone_socket.specs.AtpParts.{AtpState}
use Rattle.at_zone_socket.specs.ZoneSockets.{Reading}

-- with a packet for this place, the answer to an open at-least-once transaction is whole
pub record Completes (r : Requests) (from : Address) (tid place : ℕ) (part : AnswerPart) : Type 0 where
  pub transaction : Transaction
  pub stands : find (is_of tid from) r.standing ≡ Some transaction
  pub at_least_once : transaction.xo ≡ false
  pub wanted : is_wanted transaction.parts place ≡ true
  pub all : is_some (whole (with_part transaction.parts place part)) ≡ true

-- A packet from an address ends the transaction that reads a zone table, by a page after which the next one is asked
-- for under this number: it is not the last page, and with it there are not too many names.
pub record TurnsPage (a : AtpState) (from : Address) (f : Content) (tid : ℕ) : Type 0 where
  pub reading : Reading
  pub reads : a.zones.reading ≡ Some reading
  pub place : ℕ
  pub ends : Bool
  pub status : Bool
  pub packet : Packet
  pub answers : f ≡ Response place ends status reading.tid packet.user packet.data_
  pub completes : Completes a.transactions.requester from reading.tid place (record { eom = ends; packet = packet })
  pub page : Page
  pub has_page : SpellsPage packet.user packet.data_ page
  pub goes_on : page.last ≡ false
  pub few : length reading.names + length page.names ≤ 1024
  pub next : next_number (record a.transactions.requester {
    standing = without_first (is_of reading.tid from) a.transactions.requester.standing;
  }) ≡ Some tid

-- the datagram has such a packet, for the socket that asks
pub record HasTurn (a : AtpState) (d : Datagram) (tid : ℕ) : Type 0 where
  pub socket : (d.to.socket == 128) ≡ true
  pub packet : Content
  pub spelled : Spells d.data_ packet
  pub turns : TurnsPage a d.from packet tid
