-- Headings, read and at fault.
use Rattle.std.proofs.Common.{◌≡◌, inl, inr, ℕ, ◌+◌, ◌*◌, ◌/◌, ◌%◌, ◌^◌, ◌<◌, ◌≤◌, List, [], ◌∷◌, ◌++◌, length}
use Rattle.std.proofs.Common.{take, drop, refl, sym, ap, subst, ◌∙◌, arith, append_assoc, append-nil}
use Rattle.std.specs.Prelude.{Option, None, Some}
use Rattle.std.specs.Io.KnownBytes.{Consumes, IsAtEnd}
use Rattle.std.proofs.lemmas.List.{take-append-drop, length-append, length-take-le, drop-drop, length-drop}
use Rattle.std.proofs.lemmas.List.Elements.{All-take, All-drop}
use Rattle.std.proofs.lemmas.Bool.{cases_lt}
use Rattle.at_ddp.proofs.Octets.{InBytes, append_parts, bytes_of}
use Rattle.at_pcap.specs.Captures.{HasMagic, IsFileHeader, file_header_bytes, magic_of}
use Rattle.at_pcap.specs.Faults.{AreAll, FailsFileHeader}
use Rattle.at_pcap.specs.Orders.{bytes_in, number_in}
use Rattle.at_pcap.specs.declared.order.Order.{Order}
use Rattle.at_pcap.specs.declared.order.Order.TheVariants.{Big, Little}
use Rattle.at_pcap.specs.declared.file_header.Precision.{Precision}
use Rattle.at_pcap.specs.declared.file_header.Precision.TheVariants.{Microseconds, Nanoseconds}
use Rattle.at_pcap.specs.declared.fault.CaptureFault.{CaptureFault}
use Rattle.at_pcap.specs.declared.fault.CaptureFault.TheVariants.{NoCapture, CutCapture, BadVersion, RecordTooLong}
use Rattle.at_pcap.specs.declared.fault.CaptureFault.TheVariants.{BadBlock, NoInterface, BadResolution}
use Rattle.at_pcap.proofs.Numbers.{InBytes-drop, four_spelled, two_fit, two_spelled}

pub spelled_as : (bytes : List ℕ) (n : ℕ) → InBytes bytes → 4 ≤ length bytes → number_in Big 4 bytes ≡ n
    → bytes ≡ bytes_in Big 4 n ++ drop 4 bytes
spelled_as bytes n fits long is = four_spelled Big bytes fits long ∙ ap (λ m. bytes_in Big 4 m ++ drop 4 bytes) is

pub assoc : (a b c d e : List ℕ) → a ++ (b ++ (c ++ (d ++ e))) ≡ a ++ b ++ c ++ d ++ e
assoc a b c d e =
    sym (append_assoc (a ++ b ++ c) d e ∙ append_assoc (a ++ b) c (d ++ e) ∙ append_assoc a b (c ++ (d ++ e)))

pub magic_len : (o : Order) (p : Precision) → length (bytes_in o 4 (magic_of p)) ≡ 4
magic_len Big Microseconds = refl
magic_len Big Nanoseconds = refl
magic_len Little Microseconds = refl
magic_len Little Nanoseconds = refl

pub after_magic : (o : Order) (p : Precision) (rest : List ℕ) → drop 4 (bytes_in o 4 (magic_of p) ++ rest) ≡ rest
after_magic Big Microseconds rest = refl
after_magic Big Nanoseconds rest = refl
after_magic Little Microseconds rest = refl
after_magic Little Nanoseconds rest = refl

pub nil_of : (l : List ℕ) → length l ≡ 0 → l ≡ []
nil_of [] e = refl
nil_of (x ∷ xs) e = absurd (omega arith)

pub is_file_header : (o : Order) (p : Precision) (bytes : List ℕ) → InBytes bytes → length bytes ≡ 24
    → HasMagic o p bytes
    → number_in o 2 (drop 4 bytes) ≡ 2 → number_in o 4 (drop 20 bytes) < 2 ^ 32
    → IsFileHeader bytes (record { order = o; precision = p; link_type = number_in o 4 (drop 20 bytes) % 65536 })
unfolding file_header_bytes
is_file_header o p bytes fits len magic version low =
    let b1 = drop 4 bytes in
    let b2 = drop 6 bytes in
    let b3 = drop 8 bytes in
    let b4 = drop 20 bytes in
    let minor = number_in o 2 b2 in
    let word = number_in o 4 b4 in
    let e0 : bytes ≡ bytes_in o 4 (magic_of p) ++ b1 =
    magic.1 ∙ ap (λ l. bytes_in o 4 (magic_of p) ++ l) (sym (ap (drop 4) magic.1 ∙ after_magic o p magic.0)) in
    let e1 : b1 ≡ bytes_in o 2 2 ++ b2 =
    two_spelled o b1 (InBytes-drop 4 bytes fits) (omega (arith, length-drop 4 bytes))
    ∙ ap (λ n. bytes_in o 2 n ++ drop 2 b1) version ∙ ap (λ l. bytes_in o 2 2 ++ l) (drop-drop 2 4 bytes) in
    let e2 : b2 ≡ bytes_in o 2 minor ++ b3 =
    two_spelled o b2 (InBytes-drop 6 bytes fits) (omega (arith, length-drop 6 bytes))
    ∙ ap (λ l. bytes_in o 2 minor ++ l) (drop-drop 2 6 bytes) in
    let e3 : b3 ≡ take 12 b3 ++ b4 =
    sym (take-append-drop 12 b3) ∙ ap (λ l. take 12 b3 ++ l) (drop-drop 12 8 bytes) in
    let e5 : drop 24 bytes ≡ [] = nil_of (drop 24 bytes) (omega (arith, length-drop 24 bytes)) in
    let e4 : b4 ≡ bytes_in o 4 word =
    four_spelled o b4 (InBytes-drop 20 bytes fits) (omega (arith, length-drop 20 bytes))
    ∙ ap (λ l. bytes_in o 4 word ++ l) (drop-drop 4 20 bytes ∙ e5) ∙ append-nil (bytes_in o 4 word) in
    let parts : word ≡ word / 65536 * 2 ^ 16 + word % 65536 = omega arith in
    record {
      minor = minor;
      ignored = take 12 b3;
      upper = word / 65536;
      minor_fits = two_fit o b2 (InBytes-drop 6 bytes fits);
      ignored_len = length-take-le 12 b3 (omega (arith, length-drop 8 bytes));
      ignored_fits = All-take (λ b. b < 256) 12 b3 (All-drop (λ b. b < 256) 8 bytes (bytes_of bytes fits));
      upper_fits = omega arith;
      link_fits = omega arith;
      fields = e0 ∙ ap (λ l. bytes_in o 4 (magic_of p) ++ l) (e1 ∙ ap (λ l. bytes_in o 2 2 ++ l) (e2
          ∙ ap (λ l. bytes_in o 2 minor ++ l) (e3 ∙ ap (λ l. take 12 b3 ++ l) (e4 ∙ ap (bytes_in o 4) parts))))
          ∙ assoc (bytes_in o 4 (magic_of p)) (bytes_in o 2 2) (bytes_in o 2 minor) (take 12 b3)
          (bytes_in o 4 (word / 65536 * 2 ^ 16 + word % 65536));
    }

-- ---- faults, whatever follows

magic_before : (o : Order) (p : Precision) (bytes more : List ℕ) → 4 ≤ length bytes → HasMagic o p (bytes ++ more)
    → HasMagic o p bytes
magic_before o p (a ∷ b ∷ c ∷ d ∷ bytes) more long h =
    let both = append_parts (a ∷ b ∷ c ∷ d ∷ []) (bytes_in o 4 (magic_of p)) (bytes
    ++ more) h.0 (sym (magic_len o p)) h.1 in
    (bytes, ap (λ l. l ++ bytes) both.0)
magic_before o p [] more long h = absurd (omega arith)
magic_before o p (a ∷ []) more long h = absurd (omega arith)
magic_before o p (a ∷ b ∷ []) more long h = absurd (omega arith)
magic_before o p (a ∷ b ∷ c ∷ []) more long h = absurd (omega arith)

version_before : (o : Order) (bytes more : List ℕ) → 6 ≤ length bytes → number_in o 2 (drop 4 (bytes ++ more))
    ≡ number_in o 2 (drop 4 bytes)
version_before Big (a ∷ b ∷ c ∷ d ∷ e ∷ f ∷ bytes) more long = refl
version_before Little (a ∷ b ∷ c ∷ d ∷ e ∷ f ∷ bytes) more long = refl
version_before _ _ more long = absurd (omega arith)

fails_more : (f : CaptureFault) (bytes more : List ℕ) → 24 ≤ length bytes → FailsFileHeader f bytes
    → FailsFileHeader f (bytes ++ more)
fails_more NoCapture bytes more long h = λ m. h (m.0, m.1, magic_before m.0 m.1 bytes more (omega arith) m.2)
fails_more BadVersion bytes more long h = (
  h.0,
  h.1,
  (h.2.0 ++ more, ap (λ l. l ++ more) h.2.1 ∙ append_assoc (bytes_in h.0 4 (magic_of h.1)) h.2.0 more),
  omega (arith, length-append bytes more),
  λ e. h.4 (sym (version_before h.0 bytes more h.3) ∙ e),
)
fails_more CutCapture bytes more long h = absurd (omega (arith, h.2))
fails_more RecordTooLong bytes more long h = absurd h
fails_more BadBlock bytes more long h = absurd h
fails_more NoInterface bytes more long h = absurd h
fails_more BadResolution bytes more long h = absurd h

pub fails_known : (known left : Option (List ℕ)) (buffer : List ℕ) (n : ℕ) (f : CaptureFault) → length buffer ≡ 24
    → n ≤ length buffer → Consumes known left (take n buffer) → (n < length buffer → IsAtEnd left)
    → FailsFileHeader f (take n buffer) → (bytes : List ℕ) × AreAll known bytes × FailsFileHeader f bytes
fails_known None left buffer n f len fits read over fails = (take n buffer, tt, fails)
fails_known (Some xs) None buffer n f len fits read over fails = absurd read
fails_known (Some xs) (Some ys) buffer n f len fits read over fails = (
  xs,
  refl,
  elim (cases_lt n (length buffer)) [
    | inl short ↦ subst (FailsFileHeader f)
        (sym (read ∙ ap (λ l. take n buffer ++ l) (over short) ∙ append-nil (take n buffer))) fails
    | inr whole ↦ subst (FailsFileHeader f) (sym read)
        (fails_more f (take n buffer) ys (omega (arith, length-take-le n buffer fits)) fails)
  ],
)

-- the fault of a front is the fault of all that follows it, where what follows is known
pub fails_all : (front more : List ℕ) (f : CaptureFault) → (length front < 24 → more ≡ []) → FailsFileHeader f front
    → FailsFileHeader f (front ++ more)
fails_all front more f over fails = elim (cases_lt (length front) 24) [
  | inl short ↦ subst (FailsFileHeader f) (sym (append-nil front) ∙ ap (λ l. front ++ l) (sym (over short))) fails
  | inr whole ↦ fails_more f front more whole fails
]
