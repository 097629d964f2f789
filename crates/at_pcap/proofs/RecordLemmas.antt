-- Records, read and at fault.
use Rattle.std.proofs.Common.{◌≡◌, inl, inr, ℕ, ◌^◌, ◌<◌, ◌≤◌, List, [], ◌∷◌, ◌++◌, length}
use Rattle.std.proofs.Common.{take, drop, refl, sym, ap, subst, ◌∙◌, arith, append_assoc, append-nil}
use Rattle.std.specs.Prelude.{Option, None, Some}
use Rattle.std.specs.Io.KnownBytes.{Consumes, IsAtEnd}
use Rattle.std.proofs.lemmas.List.{length-append, length-take-le, drop-drop, length-drop}
use Rattle.std.proofs.lemmas.Bool.{cases_lt}
use Rattle.at_ddp.proofs.Octets.{InBytes}
use Rattle.at_pcap.specs.Captures.{IsRecordHeader, header_bytes}
use Rattle.at_pcap.specs.Faults.{AreAll, FailsRecord, stated_at}
use Rattle.at_pcap.specs.Orders.{bytes_in, number_in}
use Rattle.at_pcap.specs.declared.order.Order.{Order}
use Rattle.at_pcap.specs.declared.order.Order.TheVariants.{Big, Little}
use Rattle.at_pcap.specs.declared.records.RecordHeader.{RecordHeader}
use Rattle.at_pcap.specs.declared.fault.CaptureFault.{CaptureFault}
use Rattle.at_pcap.specs.declared.fault.CaptureFault.TheVariants.{NoCapture, CutCapture, BadVersion, RecordTooLong}
use Rattle.at_pcap.specs.declared.fault.CaptureFault.TheVariants.{BadBlock, NoInterface, BadResolution}
use Rattle.at_pcap.proofs.FileHeaderLemmas.{nil_of}
use Rattle.at_pcap.proofs.Numbers.{InBytes-drop, four_spelled}

-- the fields of 16 bytes
abbrev pub fields_of : Order → List ℕ → RecordHeader
fields_of o bytes = record {
  seconds = number_in o 4 bytes;
  fraction = number_in o 4 (drop 4 bytes);
  captured = number_in o 4 (drop 8 bytes);
  original = number_in o 4 (drop 12 bytes);
}

assoc : (a b c d : List ℕ) → a ++ (b ++ (c ++ d)) ≡ a ++ b ++ c ++ d
assoc a b c d = sym (append_assoc (a ++ b) c d ∙ append_assoc a b (c ++ d))

pub header_spelled : (o : Order) (bytes : List ℕ) → InBytes bytes → length bytes ≡ 16
    → bytes ≡ header_bytes o (fields_of o bytes)
unfolding header_bytes
header_spelled o bytes fits len =
    let b1 = drop 4 bytes in
    let b2 = drop 8 bytes in
    let b3 = drop 12 bytes in
    let n0 = bytes_in o 4 (number_in o 4 bytes) in
    let n1 = bytes_in o 4 (number_in o 4 b1) in
    let n2 = bytes_in o 4 (number_in o 4 b2) in
    let n3 = bytes_in o 4 (number_in o 4 b3) in
    let e0 : bytes ≡ n0 ++ b1 = four_spelled o bytes fits (omega arith) in
    let e1 : b1 ≡ n1 ++ b2 =
    four_spelled o b1 (InBytes-drop 4 bytes fits) (omega (arith, length-drop 4 bytes))
    ∙ ap (λ l. n1 ++ l) (drop-drop 4 4 bytes) in
    let e2 : b2 ≡ n2 ++ b3 =
    four_spelled o b2 (InBytes-drop 8 bytes fits) (omega (arith, length-drop 8 bytes))
    ∙ ap (λ l. n2 ++ l) (drop-drop 4 8 bytes) in
    let none : drop 16 bytes ≡ [] = nil_of (drop 16 bytes) (omega (arith, length-drop 16 bytes)) in
    let e3 : b3 ≡ n3 =
    four_spelled o b3 (InBytes-drop 12 bytes fits) (omega (arith, length-drop 12 bytes))
    ∙ ap (λ l. n3 ++ l) (drop-drop 4 12 bytes ∙ none) ∙ append-nil n3 in
    e0 ∙ ap (λ l. n0 ++ l) (e1 ∙ ap (λ l. n1 ++ l) (e2 ∙ ap (λ l. n2 ++ l) e3)) ∙ assoc n0 n1 n2 n3

stated_before : (o : Order) (bytes more : List ℕ) → 12 ≤ length bytes
    → stated_at o (bytes ++ more) ≡ stated_at o bytes
stated_before Big (a ∷ b ∷ c ∷ d ∷ e ∷ f ∷ g ∷ h ∷ i ∷ j ∷ k ∷ l ∷ bytes) more long = refl
stated_before Little (a ∷ b ∷ c ∷ d ∷ e ∷ f ∷ g ∷ h ∷ i ∷ j ∷ k ∷ l ∷ bytes) more long = refl
stated_before _ _ more long = absurd (omega arith)

pub stated_in : (o : Order) (s : RecordHeader) (more : List ℕ) → s.captured < 2 ^ 32
    → stated_at o (header_bytes o s ++ more)
    ≡ s.captured
unfolding header_bytes
stated_in Big s more fits = omega arith
stated_in Little s more fits = omega arith

pub header_len : (o : Order) (s : RecordHeader) → length (header_bytes o s) ≡ 16
unfolding header_bytes
header_len Big s = refl
header_len Little s = refl

fails_more : (o : Order) (f : CaptureFault) (bytes more : List ℕ) → 16 ≤ length bytes → ¬ (f ≡ CutCapture)
    → FailsRecord o f bytes → FailsRecord o f (bytes ++ more)
fails_more o NoCapture bytes more long other h = h
fails_more o BadVersion bytes more long other h = h
fails_more o BadBlock bytes more long other h = h
fails_more o NoInterface bytes more long other h = h
fails_more o BadResolution bytes more long other h = h
fails_more o CutCapture bytes more long other h = absurd (other refl)
fails_more o RecordTooLong bytes more long other h =
    (omega (arith, length-append bytes more), rw (stated_before o bytes more h.0) h.1)

pub fails_known : (o : Order) (known left : Option (List ℕ)) (buffer : List ℕ) (n : ℕ) (f : CaptureFault)
    → length buffer ≡ 16 → n ≤ length buffer → Consumes known left (take n buffer) → (n < length buffer
    → IsAtEnd left)
    → FailsRecord o f (take n buffer) → (f ≡ CutCapture → length (take n buffer) < 16)
    → (bytes : List ℕ) × AreAll known bytes × FailsRecord o f bytes
fails_known o None left buffer n f len fits read over fails short = (take n buffer, tt, fails)
fails_known o (Some xs) None buffer n f len fits read over fails short = absurd read
fails_known o (Some xs) (Some ys) buffer n f len fits read over fails short = (
  xs,
  refl,
  elim (cases_lt n (length buffer)) [
    | inl less ↦ subst (FailsRecord o f)
        (sym (read ∙ ap (λ l. take n buffer ++ l) (over less) ∙ append-nil (take n buffer))) fails
    | inr whole ↦ subst (FailsRecord o f) (sym read)
        (fails_more o f (take n buffer) ys (omega (arith, length-take-le n buffer fits))
        (λ e. omega (arith, short e, length-take-le n buffer fits)) fails)
  ],
)

-- so few bytes follow the header
few_follow : (o : Order) (s : RecordHeader) (bytes : List ℕ) → IsRecordHeader s → length bytes < s.captured
    → FailsRecord o CutCapture (header_bytes o s ++ bytes)
few_follow o s bytes ok few =
    let small = ok.captured in
    let stated = stated_in o s bytes (omega arith) in
    let len = length-append (header_bytes o s) bytes in
    let front = header_len o s in
    (omega (arith, len, front), λ long. omega (arith, long.1, stated), omega (arith, len, front, few, stated))

pub all_of : (known left : Option (List ℕ)) (front bytes : List ℕ) → Consumes known left front → AreAll left bytes
    → AreAll known (front ++ bytes)
all_of None left front bytes read is = tt
all_of (Some xs) None front bytes read is = absurd read
all_of (Some xs) (Some ys) front bytes read is = read ∙ ap (λ l. front ++ l) is

-- fewer bytes follow the header than it says
pub cut_known : (o : Order) (known left : Option (List ℕ)) (s : RecordHeader) (bytes : List ℕ) → IsRecordHeader s
    → Consumes known left (header_bytes o s) → length bytes < s.captured → AreAll left bytes
    → (all : List ℕ) × AreAll known all × FailsRecord o CutCapture all
cut_known o known left s bytes ok read few is =
    (header_bytes o s ++ bytes, all_of known left (header_bytes o s) bytes read is, few_follow o s bytes ok few)

-- a read that ended before the buffer was full read all that there was
pub ended : (known left : Option (List ℕ)) (front : List ℕ) → Consumes known left front → IsAtEnd left
    → AreAll known front
ended None left front read over = tt
ended (Some xs) None front read over = absurd read
ended (Some xs) (Some ys) front read over = read ∙ ap (λ l. front ++ l) over ∙ append-nil front
