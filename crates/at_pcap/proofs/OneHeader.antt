-- A file header has one reading, and where one is there is no fault.
use Rattle.std.proofs.Common.{◌≡◌, ℕ, ◌+◌, ◌*◌, ◌^◌, List, [], ◌++◌, length, drop, refl, sym, ap, ◌∙◌, arith}
use Rattle.std.proofs.Common.{append_assoc}
use Rattle.std.proofs.lemmas.List.{length-append}
use Rattle.at_ddp.proofs.Octets.{append_parts}
use Rattle.at_pcap.specs.Captures.{HasMagic, IsFileHeader, Record, file_header_bytes, magic_of}
use Rattle.at_pcap.specs.Faults.{FailsFileHeader}
use Rattle.at_pcap.specs.Orders.{bytes_in, number_in}
use Rattle.at_pcap.specs.Readings.{BeginsWith, records_bytes}
use Rattle.at_pcap.specs.declared.order.Order.{Order}
use Rattle.at_pcap.specs.declared.order.Order.TheVariants.{Big, Little}
use Rattle.at_pcap.specs.declared.file_header.FileHeader.{FileHeader}
use Rattle.at_pcap.specs.declared.file_header.Precision.{Precision}
use Rattle.at_pcap.specs.declared.file_header.Precision.TheVariants.{Microseconds, Nanoseconds}
use Rattle.at_pcap.specs.declared.fault.CaptureFault.{CaptureFault}
use Rattle.at_pcap.specs.declared.fault.CaptureFault.TheVariants.{NoCapture, CutCapture, BadVersion, RecordTooLong}
use Rattle.at_pcap.specs.declared.fault.CaptureFault.TheVariants.{BadBlock, NoInterface, BadResolution}
use Rattle.at_pcap.proofs.FileHeaderLemmas.{after_magic as dropped, assoc, magic_len}
use Rattle.at_pcap.proofs.Numbers.{four_read, two_read}
use Rattle.at_pcap.proofs.ReadingLemmas.{file_header_len}

magic_alone : (o q : Order) (p r : Precision) → bytes_in o 4 (magic_of p) ≡ bytes_in q 4 (magic_of r)
    → (o ≡ q) × (p ≡ r)
magic_alone Big Big Microseconds Microseconds e = (refl, refl)
magic_alone Big Big Nanoseconds Nanoseconds e = (refl, refl)
magic_alone Little Little Microseconds Microseconds e = (refl, refl)
magic_alone Little Little Nanoseconds Nanoseconds e = (refl, refl)
magic_alone Big Big Microseconds Nanoseconds e = absurd (omega (arith, ap (number_in Big 4) e))
magic_alone Big Big Nanoseconds Microseconds e = absurd (omega (arith, ap (number_in Big 4) e))
magic_alone Little Little Microseconds Nanoseconds e = absurd (omega (arith, ap (number_in Big 4) e))
magic_alone Little Little Nanoseconds Microseconds e = absurd (omega (arith, ap (number_in Big 4) e))
magic_alone Big Little Microseconds Microseconds e = absurd (omega (arith, ap (number_in Big 4) e))
magic_alone Big Little Microseconds Nanoseconds e = absurd (omega (arith, ap (number_in Big 4) e))
magic_alone Big Little Nanoseconds Microseconds e = absurd (omega (arith, ap (number_in Big 4) e))
magic_alone Big Little Nanoseconds Nanoseconds e = absurd (omega (arith, ap (number_in Big 4) e))
magic_alone Little Big Microseconds Microseconds e = absurd (omega (arith, ap (number_in Big 4) e))
magic_alone Little Big Microseconds Nanoseconds e = absurd (omega (arith, ap (number_in Big 4) e))
magic_alone Little Big Nanoseconds Microseconds e = absurd (omega (arith, ap (number_in Big 4) e))
magic_alone Little Big Nanoseconds Nanoseconds e = absurd (omega (arith, ap (number_in Big 4) e))

two_len : (o q : Order) (m n : ℕ) → length (bytes_in o 2 m) ≡ length (bytes_in q 2 n)
two_len Big Big m n = refl
two_len Big Little m n = refl
two_len Little Big m n = refl
two_len Little Little m n = refl

-- the file header without its first four bytes
abbrev after_magic : (front : List ℕ) (h : FileHeader) → IsFileHeader front h → List ℕ
after_magic front h is =
    bytes_in h.order 2 2 ++ (bytes_in h.order 2 is.minor ++ (is.ignored
    ++ bytes_in h.order 4 (is.upper * 2 ^ 16 + h.link_type)))

spelled : (front : List ℕ) (h : FileHeader) (is : IsFileHeader front h)
    → front ≡ bytes_in h.order 4 (magic_of h.precision) ++ after_magic front h is
unfolding file_header_bytes
spelled front h is =
    is.fields ∙ sym (assoc (bytes_in h.order 4 (magic_of h.precision)) (bytes_in h.order 2 2)
    (bytes_in h.order 2 is.minor) is.ignored (bytes_in h.order 4 (is.upper * 2 ^ 16 + h.link_type)))

pub same_file_header : (a b : List ℕ) (h g : FileHeader) → IsFileHeader a h → IsFileHeader b g → a ≡ b → h ≡ g
same_file_header a b h g p q e =
    let first = append_parts (bytes_in h.order 4 (magic_of h.precision)) (bytes_in g.order 4 (magic_of g.precision))
    (after_magic a h p) (after_magic b g q) (magic_len h.order h.precision ∙ sym (magic_len g.order g.precision))
    (sym (spelled a h p) ∙ e ∙ spelled b g q) in
    let same = magic_alone h.order g.order h.precision g.precision first.0 in
    let second = append_parts (bytes_in h.order 2 2) (bytes_in g.order 2 2) _ _
    (two_len h.order g.order 2 2) first.1 in
    let third = append_parts (bytes_in h.order 2 p.minor) (bytes_in g.order 2 q.minor) _ _
    (two_len h.order g.order p.minor q.minor) second.1 in
    let last = append_parts p.ignored q.ignored _ _ (p.ignored_len ∙ sym q.ignored_len) third.1 in
    let mine = p.upper * 2 ^ 16 + h.link_type in
    let other = q.upper * 2 ^ 16 + g.link_type in
    let fit = p.upper_fits in
    let fit2 = q.upper_fits in
    let low = p.link_fits in
    let low2 = q.link_fits in
    let words : mine ≡ other =
    sym (four_read h.order mine [] (omega arith))
    ∙ ap (λ l. number_in h.order 4 (l ++ [])) (last.1 ∙ ap (λ o. bytes_in o 4 other) (sym same.0))
    ∙ four_read h.order other [] (omega arith) in
    let link_type : h.link_type ≡ g.link_type = omega (arith, words) in
    λ i. record { order = same.0 i; precision = same.1 i; link_type = link_type i }

-- ---- no fault where a file header is

magic_of_front : (all rest : List ℕ) (h : FileHeader) (ps : List Record) (b : BeginsWith all h ps rest)
    → all ≡ bytes_in h.order 4 (magic_of h.precision) ++ (after_magic b.front h b.file_header
    ++ (records_bytes h.order ps ++ rest))
magic_of_front all rest h ps b =
    b.parts ∙ append_assoc b.front (records_bytes h.order ps) rest
    ∙ ap (λ l. l ++ (records_bytes h.order ps ++ rest)) (spelled b.front h b.file_header)
    ∙ append_assoc (bytes_in h.order 4 (magic_of h.precision)) (after_magic b.front h b.file_header)
    (records_bytes h.order ps ++ rest)

pub magic_in : (all rest : List ℕ) (h : FileHeader) (ps : List Record) → BeginsWith all h ps rest
    → HasMagic h.order h.precision all
magic_in all rest h ps b =
    (after_magic b.front h b.file_header ++ (records_bytes h.order ps ++ rest), magic_of_front all rest h ps b)

pub faultless : (all rest : List ℕ) (h : FileHeader) (ps : List Record) → BeginsWith all h ps rest
    → (fault : CaptureFault) → ¬ FailsFileHeader fault all
faultless all rest h ps b NoCapture fails =
    fails (h.order, h.precision, magic_in all rest h ps b)
faultless all rest h ps b CutCapture fails =
    absurd (omega (
      arith,
      fails.2,
      ap length b.parts,
      length-append (b.front ++ records_bytes h.order ps) rest,
      length-append b.front (records_bytes h.order ps),
      file_header_len b.front h b.file_header,
    ))
faultless all rest h ps b RecordTooLong fails = fails
faultless all rest h ps b BadBlock fails = fails
faultless all rest h ps b NoInterface fails = fails
faultless all rest h ps b BadResolution fails = fails
faultless all rest h ps b BadVersion fails =
    let more = records_bytes h.order ps ++ rest in
    let o = h.order in
    let tail = bytes_in o 2 b.file_header.minor ++ (b.file_header.ignored
    ++ bytes_in o 4 (b.file_header.upper * 2 ^ 16 + h.link_type)) in
    let is = magic_of_front all rest h ps b in
    let first = append_parts (bytes_in fails.0 4 (magic_of fails.1)) (bytes_in o 4 (magic_of h.precision)) _ _
    (magic_len fails.0 fails.1 ∙ sym (magic_len o h.precision)) (sym fails.2.1 ∙ is) in
    let same = magic_alone fails.0 o fails.1 h.precision first.0 in
    let version : number_in o 2 (drop 4 all) ≡ 2 =
    ap (λ l. number_in o 2 (drop 4 l)) is ∙ ap (number_in o 2) (dropped o h.precision
    (after_magic b.front h b.file_header ++ more))
    ∙ ap (number_in o 2) (append_assoc (bytes_in o 2 2) tail more) ∙ two_read o 2 (tail ++ more) (omega arith) in
    fails.4 (ap (λ p. number_in p 2 (drop 4 all)) same.0 ∙ version)
