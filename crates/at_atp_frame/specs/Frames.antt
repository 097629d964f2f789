-- ATP packets and their spellings (Inside AppleTalk, ATP, "Packet format").
use Rattle.std.specs.Prelude.{◌≡◌, ℕ, ◌+◌, ◌*◌, ◌^◌, ◌<◌, ◌≤◌, Bool, true, false, nat_le, if◌then◌else◌, List, [], ◌∷◌}
use Rattle.std.specs.Prelude.{◌++◌, length, map}
use Rattle.std.specs.Int.{to_be_bytes, w16}
use Rattle.at_ddp.specs.Datagram.{AreBytes}
use Rattle.at_ddp.specs.declared.address.Address.{Address}
use Rattle.at_ddp.specs.Bits.{bit}
use Rattle.at_atp_frame.specs.declared.frame.Frame.{Frame}
use Rattle.at_atp_frame.specs.declared.frame.Frame.TheVariants as frame

-- the fields of a packet, wherever its data lies in memory
pub data Content : Type 0 where
  -- asks for the packets whose bits are set in the mask; `xo` means exactly-once
  Request : (mask : ℕ) (xo : Bool) (timer tid : ℕ) (user bytes : List ℕ) → Content
  -- one packet of an answer: its place, end of message, and send transaction status
  Response : (sequence_number : ℕ) (eom sts : Bool) (tid : ℕ) (user bytes : List ℕ) → Content
  Release : (tid : ℕ) → Content

abbrev pub content : Frame → Content
content (frame.Request mask xo timer tid user bytes) = Request mask xo timer tid user bytes.now
content (frame.Response place eom sts tid user bytes) = Response place eom sts tid user bytes.now
content (frame.Release tid) = Release tid

-- the data that a packet carries
abbrev pub data_of : Content → List ℕ
data_of (Request mask xo timer tid user bytes) = bytes
data_of (Response place eom sts tid user bytes) = bytes
data_of (Release tid) = []

-- the requester whose number a packet carries
abbrev pub owner : Address → Address → Content → Address
owner from to (Request mask xo timer tid user bytes) = from
owner from to (Response place eom sts tid user bytes) = to
owner from to (Release tid) = from

-- the number of the transaction that a packet is of
abbrev pub number_of : Content → ℕ
number_of (Request mask xo timer tid user bytes) = tid
number_of (Response place eom sts tid user bytes) = tid
number_of (Release tid) = tid

-- the release timer in the three lowest bits: 5 to 7 are read as 0, and without exactly-once every value is
abbrev pub read_timer : Bool → ℕ → ℕ
read_timer true low = if nat_le low 4 then low else 0
read_timer false low = 0

-- a timer is 0 to 4, and 0 without exactly-once
abbrev pub IsTimer : Bool → ℕ → Type 0
IsTimer true timer = timer ≤ 4
IsTimer false timer = timer ≡ 0

-- the number, the four user bytes and the data are in range
pub record AreParts (tid : ℕ) (user bytes : List ℕ) : Type 0 where
  pub tid_fits : tid < 2 ^ 16
  pub four : length user ≡ 4
  pub user_bytes : AreBytes user
  pub data_bytes : AreBytes bytes
  pub data_fits : length bytes ≤ 578

-- a packet whose fields are in range
abbrev pub IsLawful : Content → Type 0
IsLawful (Request mask xo timer tid user bytes) = (mask < 256) × IsTimer xo timer × AreParts tid user bytes
IsLawful (Response place eom sts tid user bytes) = (place ≤ 7) × AreParts tid user bytes
IsLawful (Release tid) = tid < 2 ^ 16

-- the control byte, a byte, the transaction number, and what follows
abbrev pub packet : ℕ → ℕ → ℕ → List ℕ → List ℕ
packet control second tid rest = (control ∷ second ∷ []) ++ to_be_bytes w16 tid ++ rest

-- a request: two free bits (end of message and status), and the timer's bits
pub record SpellsRequest (bytes : List ℕ) (mask : ℕ) (xo : Bool) (timer tid : ℕ) (user more : List ℕ) : Type 0 where
  pub mask_fits : mask < 256
  pub parts : AreParts tid user more
  pub free : ℕ
  pub in_two_bits : free < 4
  pub low : ℕ
  pub in_three_bits : low < 8
  pub is_timer : read_timer xo low ≡ timer
  pub fields : bytes ≡ packet (64 + 32 * bit xo + 8 * free + low) mask tid (user ++ more)

-- a response: a free bit (exactly-once), and three that a request has the timer in
pub record SpellsResponse (bytes : List ℕ) (place : ℕ) (eom sts : Bool) (tid : ℕ) (user more : List ℕ) : Type 0 where
  pub place_fits : place ≤ 7
  pub parts : AreParts tid user more
  pub free : ℕ
  pub in_one_bit : free < 2
  pub low : ℕ
  pub in_three_bits : low < 8
  pub fields : bytes ≡ packet (128 + 32 * free + 16 * bit eom + 8 * bit sts + low) place tid (user ++ more)

-- a release: all is free but the function and the number, and its data is ignored
pub record SpellsRelease (bytes : List ℕ) (tid : ℕ) : Type 0 where
  pub tid_fits : tid < 2 ^ 16
  pub free : ℕ
  pub in_six_bits : free < 64
  pub second : ℕ
  pub is_byte : second < 256
  pub rest : List ℕ
  pub rest_bytes : AreBytes rest
  pub whole_header : 4 ≤ length rest
  pub rest_fits : length rest ≤ 4 + 578
  pub fields : bytes ≡ packet (192 + free) second tid rest

-- the bytes spell the packet, with any content of its free bits
abbrev pub Spells : List ℕ → Content → Type 0
Spells input (Request mask xo timer tid user bytes) = SpellsRequest input mask xo timer tid user bytes
Spells input (Response place eom sts tid user bytes) = SpellsResponse input place eom sts tid user bytes
Spells input (Release tid) = SpellsRelease input tid

-- the canonical spelling, with 0 in the free bits
unfoldable pub spelled : Content → List ℕ
spelled (Request mask xo timer tid user bytes) = packet (64 + 32 * bit xo + timer) mask tid (user ++ bytes)
spelled (Response place eom sts tid user bytes) = packet (128 + 16 * bit eom + 8 * bit sts) place tid (user ++ bytes)
spelled (Release tid) = packet 192 0 tid (0 ∷ 0 ∷ 0 ∷ 0 ∷ [])

-- packets with their destinations, as they are sent
abbrev pub spelled_all : List (Address × Content) → List (Address × List ℕ)
spelled_all sent = map (λ (s : Address × Content). (s.0, spelled s.1)) sent

-- a packet can be written, apart from the length of its data
abbrev pub CanBeWritten : Content → Type 0
CanBeWritten (Request mask xo timer tid user bytes) = IsTimer xo timer
CanBeWritten (Response place eom sts tid user bytes) = place ≤ 7
CanBeWritten (Release tid) = Unit {0}
