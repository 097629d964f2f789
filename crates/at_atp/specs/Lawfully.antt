-- Networks in which all that is asked and answered is in range (Inside AppleTalk, ATP, "Packet format").
use Rattle.std.specs.Prelude.{ℕ, ◌≤◌, List, []}
use Rattle.std.specs.List.{AllByRecursion}
use Rattle.at_ddp.specs.Datagram.{IsAddress}
use Rattle.at_ddp.specs.declared.address.Address.{Address}
use Rattle.at_atp_frame.specs.Frames.{IsLawful}
use Rattle.at_atp.specs.Network.{Happening, Begins, Answers, Turns, Serves, Retries, Sent}
use Rattle.at_atp_frame.specs.Packets.{IsPacket}

-- what a transaction is to ask, and whom
pub record IsAsking (who to : Address) (user bytes : List ℕ) (wanted : ℕ) : Type 0 where
  pub who_fits : IsAddress who
  pub to_fits : IsAddress to
  pub asks : IsPacket (record { user = user; data_ = bytes })
  pub few : wanted ≤ 8

-- what is asked or answered by it is in range; a turn has its addresses from a packet that was sent
abbrev pub IsInRange : Happening → Type 0
IsInRange (Begins who to user bytes wanted xo times) = IsAsking who to user bytes wanted
IsInRange (Answers at key packets) = IsAddress at × AllByRecursion IsPacket packets
IsInRange (Turns datagram user times) = IsPacket (record { user = user; data_ = [] })
IsInRange (Serves datagram packets) = AllByRecursion IsPacket packets
IsInRange (Retries who tid) = IsAddress who
IsInRange other = Unit {0}

-- a packet that was sent can be spelled, and so can its addresses
pub record IsLawfullySent (s : Sent) : Type 0 where
  pub from_fits : IsAddress s.from
  pub to_fits : IsAddress s.to
  pub lawful : IsLawful s.packet
