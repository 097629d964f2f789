-- The frames and the records of a recording.
use Rattle.std.proofs.Common.{◌≡◌, inl, inr, ℕ, suc, ◌+◌, ◌/◌, ◌%◌, ◌^◌, ◌<◌, ◌≤◌, List, [], ◌∷◌, ◌++◌, length}
use Rattle.std.proofs.Common.{get_or, refl, arith}
use Rattle.std.specs.Prelude.{All, Bool, true, false, ◌==◌, if◌then◌else◌, Option, Some, None}
use Rattle.std.specs.Int.{to_be_bytes, w16}
use Rattle.std.proofs.lemmas.Bool.{cases_lt}
use Rattle.std.proofs.lemmas.List.{get_or_past, length-append, length-take}
use Rattle.std.proofs.lemmas.List.Elements.{All-append, All-cons, All-get_or, All-nil, All-take}
use Rattle.at_ddp.specs.Datagram.{AreBytes}
use Rattle.at_frames.specs.Llc.{datagram_snap}
use Rattle.at_pcap.specs.Captures.{IsRecord}
use Rattle.at_recording.specs.Frames.{IsSending, Sending, all_nodes, carried, frame_of, node_address, receiver, sender}
use Rattle.at_recording.specs.Moments.{moment_after, place_after, place_in}
use Rattle.at_recording.specs.Recordings.{record_at, records_after}
use Rattle.at_recording.specs.declared.moment.Moment.{Moment}

-- ---- lengths

address_len : (b : Bool) (node : ℕ) → length (if b then all_nodes else node_address node) ≡ 6
address_len true node = refl
address_len false node = refl

pub receiver_len : (node : ℕ) → length (receiver node) ≡ 6
receiver_len node = address_len (node == 255) node

pub carried_len : (bytes : List ℕ) → length (carried bytes) ≤ 1492
carried_len bytes = omega (arith, length-take 1492 bytes)

pub frame_len : (to : ℕ) (bytes : List ℕ) → length (frame_of to bytes) ≡ 22 + length (carried bytes)
frame_len to bytes =
    let part = carried bytes in
    let a = receiver to in
    let b = sender bytes in
    let c = to_be_bytes w16 (8 + length part) in
    omega (
      arith,
      receiver_len to,
      length-append a b,
      length-append (a ++ b) c,
      length-append (a ++ b ++ c) datagram_snap,
      length-append (a ++ b ++ c ++ datagram_snap) part,
    )

-- ---- bytes

more : (b : ℕ) (bytes : List ℕ) → b < 256 → AreBytes bytes → AreBytes (b ∷ bytes)
more b bytes fits rest = All-cons (λ n. n < 256) b bytes fits rest

six : (a b c d e f : ℕ) → a < 256 → b < 256 → c < 256 → d < 256 → e < 256 → f < 256
    → AreBytes (a ∷ b ∷ c ∷ d ∷ e ∷ f ∷ [])
six a b c d e f p q r s u v =
    more a (b ∷ c ∷ d ∷ e ∷ f ∷ []) p (more b (c ∷ d ∷ e ∷ f ∷ []) q (more c (d ∷ e ∷ f ∷ []) r
    (more d (e ∷ f ∷ []) s (more e (f ∷ []) u (more f [] v (All-nil (λ n. n < 256)))))))

node_bytes : (node : ℕ) → node < 256 → AreBytes (node_address node)
node_bytes node fits =
    six 2 0 0 0 0 node (omega arith) (omega arith) (omega arith) (omega arith) (omega arith) fits

all_bytes : AreBytes all_nodes
all_bytes =
    six 9 0 7 255 255 255 (omega arith) (omega arith) (omega arith) (omega arith) (omega arith) (omega arith)

address_bytes : (b : Bool) (node : ℕ) → node < 256 → AreBytes (if b then all_nodes else node_address node)
address_bytes true node fits = all_bytes
address_bytes false node fits = node_bytes node fits

byte_at : (bytes : List ℕ) (i : ℕ) → AreBytes bytes → get_or bytes i 0 < 256
byte_at bytes i fit = elim (cases_lt i (length bytes)) [
  | inl within ↦ All-get_or (λ n. n < 256) bytes i 0 within fit
  | inr past ↦ omega (arith, get_or_past bytes i 0 past)
]

word_bytes : (n : ℕ) → AreBytes (to_be_bytes w16 n)
word_bytes n = more (n / 256 % 256) (n % 256 ∷ []) (omega arith)
    (more (n % 256) [] (omega arith) (All-nil (λ b. b < 256)))

snap_bytes : AreBytes datagram_snap
snap_bytes =
    more 170 (170 ∷ 3 ∷ 8 ∷ 0 ∷ 7 ∷ 128 ∷ 155 ∷ []) (omega arith)
    (more 170 (3 ∷ 8 ∷ 0 ∷ 7 ∷ 128 ∷ 155 ∷ []) (omega arith)
    (six 3 8 0 7 128 155 (omega arith) (omega arith) (omega arith) (omega arith) (omega arith) (omega arith)))

frame_bytes : (to : ℕ) (bytes : List ℕ) → to < 256 → AreBytes bytes → AreBytes (frame_of to bytes)
frame_bytes to bytes to_fits fit =
    let byte = λ (n : ℕ). n < 256 in
    let part = carried bytes in
    let a = receiver to in
    let b = sender bytes in
    let c = to_be_bytes w16 (8 + length part) in
    All-append byte (a ++ b ++ c ++ datagram_snap) part
    (All-append byte (a ++ b ++ c) datagram_snap
    (All-append byte (a ++ b) c
    (All-append byte a b (address_bytes (to == 255) to to_fits) (node_bytes (get_or bytes 9 0) (byte_at bytes 9 fit)))
    (word_bytes (8 + length part)))
    snap_bytes)
    (All-take byte 1492 bytes fit)

-- ---- records

record_fits : (m : Moment) (to : ℕ) (bytes : List ℕ) → m.event < 2 ^ 32 → m.place < 2 ^ 32 → to < 256
    → AreBytes bytes → IsRecord (record_at m to bytes)
record_fits m to bytes event place to_fits fit =
    let len = frame_len to bytes in
    let few = carried_len bytes in
    record {
      seconds = event;
      fraction = place;
      original = omega (arith, len, few);
      few = omega (arith, len, few);
      captured = frame_bytes to bytes to_fits fit;
    }

-- the place of a moment fits
abbrev pub HasPlace : Option Moment → Type 0
HasPlace None = 0 < 2 ^ 32
HasPlace (Some m) = m.place < 2 ^ 32

behind : (b : Bool) (n : ℕ) → n < 2 ^ 32 → (if b then place_after n else 0) < 2 ^ 32
behind true n fits = omega arith
behind false n fits = omega arith

place_fits : (last : Option Moment) (event : ℕ) → HasPlace last → place_in last event < 2 ^ 32
place_fits None event h = omega arith
place_fits (Some m) event h = behind (event == m.event) m.place h

pub records_fit : (last : Option Moment) (sent : List Sending) → HasPlace last → All IsSending sent
    → All IsRecord (records_after last sent)
records_fit last [] place fit = All-nil IsRecord
records_fit last (s ∷ ss) place fit =
    let m = moment_after last s.event in
    let first : IsSending s = All-get_or IsSending (s ∷ ss) 0 s (omega arith) fit in
    let rest : All IsSending ss = λ k d low. fit (suc k) d (omega (arith, low)) in
    let there = place_fits last s.event place in
    All-cons IsRecord (record_at m s.to s.bytes) (records_after (Some m) ss)
    (record_fits m s.to s.bytes first.event there first.to first.bytes)
    (records_fit (Some m) ss there rest)
