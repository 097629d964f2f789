-- The blocks of pcapng (the standard's "General Block Structure" and "Section Header Block" to "Simple Packet Block").
-- Each says what its bytes are, in their order, or which rule is the first that they break.
use Rattle.std.specs.Prelude.{ℕ, zero, suc, ◌+◌, ◌-◌, ◌*◌, ◌/◌, ◌%◌, ◌^◌, ◌==◌, not, nat_lt, nat_le, ◌&&◌, min, Bool}
use Rattle.std.specs.Prelude.{List, [], ◌∷◌, ◌++◌, length, take, drop, slice_get, slice_index}
use Rattle.std.specs.Prelude.{Option, Some, None, Result, Ok, Err, if◌then◌else◌}
use Rattle.at_pcap.specs.Frames.{Frame, time_of}
use Rattle.at_pcap.specs.Orders.{number_in}
use Rattle.at_pcap.specs.declared.order.Order.{Order}
use Rattle.at_pcap.specs.declared.order.Order.TheVariants.{Big, Little}
use Rattle.at_pcap.specs.declared.interface.Interface.{Interface}
use Rattle.at_pcap.specs.declared.interface.Resolution.{Resolution}
use Rattle.at_pcap.specs.declared.interface.Resolution.TheVariants.{Binary, Decimal}
use Rattle.at_pcap.specs.declared.fault.CaptureFault.{CaptureFault}
use Rattle.at_pcap.specs.declared.fault.CaptureFault.TheVariants.{CutCapture, BadVersion, RecordTooLong}
use Rattle.at_pcap.specs.declared.fault.CaptureFault.TheVariants.{BadBlock, NoInterface, BadResolution}

-- what was read of a section: the order of its numbers, and its interfaces so far
pub record Section : Type 0 where
  pub order : Order
  pub interfaces : List Interface

-- what a block leaves: the section behind it, and the frame in it, if it has one
pub record Block : Type 0 where
  pub section : Section
  pub found : Option Frame

-- ---- numbers and rules

-- the numbers of 4 and of 2 bytes at an offset
abbrev pub four_at : Order → ℕ → List ℕ → ℕ
four_at o offset bytes = number_in o 4 (drop offset bytes)

abbrev pub two_at : Order → ℕ → List ℕ → ℕ
two_at o offset bytes = number_in o 2 (drop offset bytes)

-- what is read if so many bytes are there; else the file ends too early
abbrev pub needs : {A : Type 0} → ℕ → List ℕ → Result A CaptureFault → Result A CaptureFault
needs count bytes next = if nat_lt (length bytes) count then Err CutCapture else next

-- what is read unless this rule is broken
abbrev pub refuse : {A : Type 0} → Bool → CaptureFault → Result A CaptureFault → Result A CaptureFault
refuse broken fault next = if broken then Err fault else next

-- the total length, at offset 4, is a multiple of 4, and at least this
abbrev pub sized : {A : Type 0} → Order → ℕ → List ℕ → Result A CaptureFault → Result A CaptureFault
sized o least bytes next =
    refuse (not (four_at o 4 bytes % 4 == 0)) BadBlock (refuse (nat_lt (four_at o 4 bytes) least) BadBlock next)

-- the block goes on to its total length, and its last 4 bytes are that length again
abbrev pub closed : {A : Type 0} → Order → List ℕ → A → Result A CaptureFault
closed o bytes whole =
    needs (four_at o 4 bytes) bytes
    (refuse (not (four_at o (four_at o 4 bytes - 4) bytes == four_at o 4 bytes)) BadBlock (Ok whole))

-- ---- a section header: 28 bytes and options

-- the type 0A0D0D0A, which is the same in either order, and the byte-order magic 1A2B3C4D at offset 8
abbrev pub is_section : List ℕ → Bool
is_section bytes = number_in Big 4 bytes == 168627466

abbrev pub order_of : List ℕ → Option Order
order_of bytes =
    if four_at Big 8 bytes == 439041101 then Some Big else
    (if four_at Little 8 bytes == 439041101 then Some Little else None)

-- in its own order: the major version 1 at offset 12; a new section has no interfaces
abbrev pub section_by : Option Order → List ℕ → Result Block CaptureFault
section_by None bytes = Err BadBlock
section_by (Some o) bytes =
    sized o 28 bytes (needs 14 bytes (refuse (not (two_at o 12 bytes == 1)) BadVersion
    (closed o bytes (record { section = record { order = o; interfaces = [] }; found = None }))))

unfoldable pub section_in : List ℕ → Result Block CaptureFault
section_in bytes = needs 12 bytes (section_by (order_of bytes) bytes)

-- ---- an interface: the link type at offset 8, the most bytes of a frame at 12, and options from 16 on

-- the value of if_tsresol: a power of ten, or with the top bit a power of two
abbrev pub resolution_of : ℕ → Option Resolution
resolution_of value =
    if nat_le value 9 then Some (Decimal value) else
    (if nat_le 128 value && nat_le value 158 then Some (Binary (value - 128)) else None)

-- what an option leaves: the resolution, and how many bytes the option has
pub record Setting : Type 0 where
  pub resolution : Resolution
  pub size : ℕ

abbrev pub resolved : Option Resolution → List ℕ → Result (Option Setting) CaptureFault
resolved None bytes = Err BadResolution
resolved (Some resolution) bytes = needs 8 bytes (Ok (Some (record { resolution = resolution; size = 8 })))

-- the value of if_tsresol is one byte
unfoldable pub resolution_in : Order → List ℕ → Result (Option Setting) CaptureFault
resolution_in o bytes =
    refuse (not (two_at o 2 bytes == 1)) BadResolution
    (needs 5 bytes (resolved (resolution_of (slice_index bytes 4)) bytes))

-- any other value is passed over, with what fills it up to a multiple of 4
unfoldable pub passed_in : Order → Resolution → List ℕ → Result (Option Setting) CaptureFault
passed_in o resolution bytes =
    needs (4 + (two_at o 2 bytes + 3) / 4 * 4) bytes
    (Ok (Some (record { resolution = resolution; size = 4 + (two_at o 2 bytes + 3) / 4 * 4 })))

-- an option, where so many bytes are left for options: its code, the length of its value at offset 2, and the value.
-- Code 0 ends the options, and code 9 is if_tsresol.
unfoldable pub option_in : Order → ℕ → Resolution → List ℕ → Result (Option Setting) CaptureFault
option_in o left resolution bytes =
    needs 4 bytes
    (if number_in o 2 bytes == 0 then Ok None else
    (refuse (nat_lt left (4 + two_at o 2 bytes)) BadResolution
    (if number_in o 2 bytes == 9 then resolution_in o bytes else passed_in o resolution bytes)))

abbrev pub follow : Result (Option Setting) CaptureFault → Resolution → (Setting → Result Resolution CaptureFault)
    → Result Resolution CaptureFault
follow (Err fault) resolution next = Err fault
follow (Ok None) resolution next = Ok resolution
follow (Ok (Some setting)) resolution next = next setting

-- the resolution behind the options in so many bytes, of which there are at most `more`
unfoldable pub options : ℕ → Order → ℕ → Resolution → List ℕ → Result Resolution CaptureFault
options zero o left resolution bytes = Ok resolution
options (suc more) o left resolution bytes =
    if left == 0 then Ok resolution else
    (follow (option_in o left resolution bytes) resolution
    (λ s. options more o (left - s.size) s.resolution (drop s.size bytes)))

abbrev pub with_resolution : Result Resolution CaptureFault → (Resolution → Result Block CaptureFault)
    → Result Block CaptureFault
with_resolution (Err fault) next = Err fault
with_resolution (Ok resolution) next = next resolution

-- the section with one interface more
abbrev pub with_interface : Section → List ℕ → Resolution → Section
with_interface s bytes resolution = record s {
  interfaces = s.interfaces
      ++ record {
        link_type = two_at s.order 8 bytes;
        resolution = resolution;
        longest = four_at s.order 12 bytes;
      } ∷ [];
}

-- without if_tsresol, a tick is a microsecond
unfoldable pub interface_in : Section → List ℕ → Result Block CaptureFault
interface_in s bytes =
    sized s.order 20 bytes
    (with_resolution
    (options (four_at s.order 4 bytes - 20) s.order (four_at s.order 4 bytes - 20) (Decimal 6) (drop 16 bytes))
    (λ resolution. closed s.order bytes (record { section = with_interface s bytes resolution; found = None })))

-- ---- packets

-- so many captured bytes from an offset on, in front of the last 4
abbrev pub captured_in : Section → ℕ → ℕ → List ℕ → Frame → Result Block CaptureFault
captured_in s offset count bytes f =
    refuse (nat_lt 262144 count) RecordTooLong (refuse (nat_lt (four_at s.order 4 bytes) (offset + count + 4)) BadBlock
    (closed s.order bytes (record { section = s; found = Some f })))

-- behind the interface: the time in ticks at offset 12, its high half first, then the captured and the original length
abbrev pub packet_frame : Interface → Section → List ℕ → Frame
packet_frame i s bytes = record {
  link_type = i.link_type;
  time = Some (time_of i.resolution (four_at s.order 12 bytes * 2 ^ 32 + four_at s.order 16 bytes));
  original = four_at s.order 24 bytes;
  captured = take (four_at s.order 20 bytes) (drop 28 bytes);
}

abbrev pub packet_from : Option Interface → Section → List ℕ → Result Block CaptureFault
packet_from None s bytes = Err NoInterface
packet_from (Some i) s bytes =
    needs 24 bytes (captured_in s 28 (four_at s.order 20 bytes) bytes (packet_frame i s bytes))

-- a packet that has the number of its interface at offset 8, in so many bytes: 4 if it is enhanced, 2 if it is obsolete
unfoldable pub numbered_in : ℕ → Section → List ℕ → Result Block CaptureFault
numbered_in width s bytes =
    sized s.order 32 bytes
    (needs (8 + width) bytes
    (packet_from (slice_get s.interfaces (number_in s.order width (drop 8 bytes))) s bytes))

-- a simple packet is of the first interface, has no time, and has the frame up to the most bytes of that interface
abbrev pub simple_count : Interface → ℕ → ℕ
simple_count i original = if i.longest == 0 then original else min original i.longest

abbrev pub simple_frame : Interface → Section → List ℕ → Frame
simple_frame i s bytes = record {
  link_type = i.link_type;
  time = None;
  original = four_at s.order 8 bytes;
  captured = take (simple_count i (four_at s.order 8 bytes)) (drop 12 bytes);
}

abbrev pub simple_from : Option Interface → Section → List ℕ → Result Block CaptureFault
simple_from None s bytes = Err NoInterface
simple_from (Some i) s bytes =
    captured_in s 12 (simple_count i (four_at s.order 8 bytes)) bytes (simple_frame i s bytes)

unfoldable pub simple_in : Section → List ℕ → Result Block CaptureFault
simple_in s bytes = sized s.order 16 bytes (needs 12 bytes (simple_from (slice_get s.interfaces 0) s bytes))

-- ---- any block

-- any other block is passed over
unfoldable pub other_in : Section → List ℕ → Result Block CaptureFault
other_in s bytes = sized s.order 12 bytes (closed s.order bytes (record { section = s; found = None }))

-- a block by its type: an interface, an enhanced packet, an obsolete one, a simple one, or any other block
abbrev pub by_kind : ℕ → Section → List ℕ → Result Block CaptureFault
by_kind kind s bytes =
    if kind == 1 then interface_in s bytes else
    (if kind == 6 then numbered_in 4 s bytes else
    (if kind == 2 then numbered_in 2 s bytes else (if kind == 3 then simple_in s bytes else other_in s bytes)))

-- what the bytes begin with, read in this section
unfoldable pub block_in : Section → List ℕ → Result Block CaptureFault
block_in s bytes =
    needs 8 bytes (if is_section bytes then section_in bytes else by_kind (number_in s.order 4 bytes) s bytes)
