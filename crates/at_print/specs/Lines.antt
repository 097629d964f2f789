-- The lines of datagrams and packets, and bytes as digits.
use Rattle.std.specs.Prelude.{ℕ, ◌+◌, ◌/◌, ◌%◌, ◌==◌, if◌then◌else◌, true, List, [], ◌∷◌, ◌++◌, length, codes}
use Rattle.std.specs.Fmt.{decimal, digit_glyph}
use Rattle.std.specs.List.{concat}
use Rattle.std.specs.Int.{from_bool, to_be_bytes, w16}
use Rattle.at_ddp.specs.declared.address.Address.{Address}
use Rattle.at_ddp.specs.Datagram.{Content}
use Rattle.at_atp_frame.specs.Frames.{Content as Packet, Request, Response, Release}

-- two digits for each byte
abbrev pub pairs : List ℕ → List ℕ
pairs [] = []
pairs (b ∷ bytes) = digit_glyph true (b / 16) ∷ digit_glyph true (b % 16) ∷ pairs bytes

-- the same, or `-` for no bytes
abbrev pub hex_text : List ℕ → List ℕ
hex_text [] = codes "-"
hex_text (b ∷ bytes) = pairs (b ∷ bytes)

-- four digits, or that no sum was computed
abbrev pub sum_text : ℕ → List ℕ
sum_text sum = if sum == 0 then codes "none" else pairs (to_be_bytes w16 sum)

abbrev pub address_text : Address → List ℕ
address_text address =
    decimal address.net ++ (codes "." ++ (decimal address.node ++ (codes "." ++ decimal address.socket)))

-- the line of a datagram's header; so many bytes follow the datagram
abbrev pub header_line : Content → ℕ → List ℕ
header_line d rest = concat (
    codes "ddp length " ∷ decimal (13 + length d.data_) ∷ codes " hops " ∷ decimal d.hops
    ∷ codes " sum " ∷ sum_text d.sum ∷ codes " from " ∷ address_text d.from ∷ codes " to " ∷ address_text d.to
    ∷ codes " type " ∷ decimal d.kind ∷ codes " rest " ∷ decimal rest ∷ codes "\n" ∷ [])

-- the line of data that is not read
abbrev pub raw_line : List ℕ → List ℕ
raw_line bytes = codes "raw " ++ hex_text bytes ++ codes "\n"

-- what ends the line of a packet: the user bytes and the data
abbrev pub parts : List ℕ → List ℕ → List (List ℕ)
parts user bytes = codes " user " ∷ hex_text user ∷ codes " data " ∷ hex_text bytes ∷ codes "\n" ∷ []

-- the line of an ATP packet
abbrev pub packet_line : Packet → List ℕ
packet_line (Request mask xo timer tid user bytes) = concat (
    codes "atp request mask " ∷ pairs (mask ∷ []) ∷ codes " xo " ∷ decimal (from_bool xo)
    ∷ codes " timer " ∷ decimal timer ∷ codes " id " ∷ decimal tid ∷ parts user bytes)
packet_line (Response place eom sts tid user bytes) = concat (
    codes "atp response place " ∷ decimal place ∷ codes " eom " ∷ decimal (from_bool eom)
    ∷ codes " sts " ∷ decimal (from_bool sts) ∷ codes " id " ∷ decimal tid ∷ parts user bytes)
packet_line (Release tid) = codes "atp release id " ++ (decimal tid ++ codes "\n")
