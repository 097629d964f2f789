-- Networks of ends of streams in which all that is written is bytes, and all numbers are in range (Inside AppleTalk,
-- ADSP, "Packet format").
use Rattle.std.specs.Prelude.{ℕ, ◌^◌, ◌<◌}
use Rattle.std.specs.List.{AllByRecursion}
use Rattle.at_ddp.specs.Datagram.{IsAddress}
use Rattle.at_ddp.specs.declared.address.Address.{Address}
use Rattle.at_adsp_frame.specs.Segments.{IsLawful}
use Rattle.at_adsp_end.specs.Items.{IsItem}
use Rattle.at_adsp.specs.Network.{Setting, Sent, Happening, Connects, Closes, Writes, Reads, Resets, Ticks, Strange}

-- the numbers of segments have four bytes, and a window has two
pub record IsLawfulSetting (setting : Setting) : Type 0 where
  pub numbers : (p : ℕ) → setting.numbers.at p < 2 ^ 32
  pub rooms : (at : Address) → (setting.rooms at).receive < 2 ^ 16

-- what is asked, written or called by it is in range, and so is the sender of a segment from another address
abbrev pub IsInRange : Happening → Type 0
IsInRange (Connects at to) = IsAddress at × IsAddress to
IsInRange (Closes at id) = IsAddress at
IsInRange (Writes at id items) = IsAddress at × AllByRecursion IsItem items
IsInRange (Reads at id count) = IsAddress at
IsInRange (Resets at id) = IsAddress at
IsInRange (Ticks at id tick) = IsAddress at
IsInRange (Strange at from segment) = IsAddress at × IsAddress from × IsLawful segment
IsInRange other = Unit {0}

-- a segment that was sent can be spelled, and so can its addresses
pub record IsLawfullySent (s : Sent) : Type 0 where
  pub from_fits : IsAddress s.from
  pub to_fits : IsAddress s.to
  pub lawful : IsLawful s.packet
