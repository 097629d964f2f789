-- The records of a classic capture have one reading.
use Rattle.std.proofs.Common.{◌≡◌, ℕ, suc, ◌+◌, ◌^◌, ◌<◌, List, [], ◌∷◌, ◌++◌, length, drop, refl, sym, ap, subst, ◌∙◌}
use Rattle.std.proofs.Common.{arith, append_assoc}
use Rattle.std.specs.Prelude.{All, Option, None, Some}
use Rattle.std.proofs.lemmas.List.{length-append}
use Rattle.at_ddp.proofs.Octets.{append_parts}
use Rattle.at_pcap.specs.Captures.{IsRecord, Record, record_bytes, header_bytes, header_of}
use Rattle.at_pcap.specs.Faults.{stated_at}
use Rattle.at_pcap.specs.Orders.{number_in}
use Rattle.at_pcap.specs.Readings.{Ends, IsCapture, records_bytes}
use Rattle.at_pcap.specs.declared.order.Order.{Order}
use Rattle.at_pcap.specs.declared.order.Order.TheVariants.{Big, Little}
use Rattle.at_pcap.specs.declared.file_header.FileHeader.{FileHeader}
use Rattle.at_pcap.specs.declared.records.RecordHeader.{RecordHeader}
use Rattle.at_pcap.specs.declared.fault.CaptureFault.{CaptureFault}
use Rattle.at_pcap.specs.declared.fault.CaptureFault.TheVariants.{NoCapture, CutCapture, BadVersion, RecordTooLong}
use Rattle.at_pcap.specs.declared.fault.CaptureFault.TheVariants.{BadBlock, NoInterface, BadResolution}
use Rattle.at_pcap.proofs.OneHeader.{same_file_header}
use Rattle.at_pcap.proofs.ReadingLemmas.{file_header_len}
use Rattle.at_pcap.proofs.RecordLemmas.{header_len, stated_in}

seconds_in : (o : Order) (s : RecordHeader) → s.seconds < 2 ^ 32 → number_in o 4 (header_bytes o s) ≡ s.seconds
unfolding header_bytes
seconds_in Big s fits = omega arith
seconds_in Little s fits = omega arith

fraction_in : (o : Order) (s : RecordHeader) → s.fraction < 2 ^ 32
    → number_in o 4 (drop 4 (header_bytes o s)) ≡ s.fraction
unfolding header_bytes
fraction_in Big s fits = omega arith
fraction_in Little s fits = omega arith

captured_in : (o : Order) (s : RecordHeader) → s.captured < 2 ^ 32
    → number_in o 4 (drop 8 (header_bytes o s)) ≡ s.captured
unfolding header_bytes
captured_in Big s fits = omega arith
captured_in Little s fits = omega arith

original_in : (o : Order) (s : RecordHeader) → s.original < 2 ^ 32
    → number_in o 4 (drop 12 (header_bytes o s)) ≡ s.original
unfolding header_bytes
original_in Big s fits = omega arith
original_in Little s fits = omega arith

-- the first record is the same, and so is what follows it
same_record : (o : Order) (p q : Record) (x y : List ℕ) → IsRecord p → IsRecord q
    → record_bytes o p ++ x ≡ record_bytes o q ++ y → (p ≡ q) × (x ≡ y)
same_record o p q x y ok good e =
    let s = header_of p in
    let t = header_of q in
    let few = ok.few in
    let less = good.few in
    let first = append_parts (header_bytes o s) (header_bytes o t) (p.captured ++ x) (q.captured ++ y)
    (header_len o s ∙ sym (header_len o t))
    (sym (append_assoc (header_bytes o s) p.captured x) ∙ e ∙ append_assoc (header_bytes o t) q.captured y) in
    let seconds : p.seconds ≡ q.seconds =
    sym (seconds_in o s ok.seconds) ∙ ap (number_in o 4) first.0 ∙ seconds_in o t good.seconds in
    let fraction : p.fraction ≡ q.fraction =
    sym (fraction_in o s ok.fraction) ∙ ap (λ l. number_in o 4 (drop 4 l)) first.0 ∙ fraction_in o t good.fraction in
    let len : length p.captured ≡ length q.captured =
    sym (captured_in o s (omega (arith, few))) ∙ ap (λ l. number_in o 4 (drop 8 l)) first.0
    ∙ captured_in o t (omega (arith, less)) in
    let original : p.original ≡ q.original =
    sym (original_in o s ok.original) ∙ ap (λ l. number_in o 4 (drop 12 l)) first.0 ∙ original_in o t good.original in
    let rest = append_parts p.captured q.captured x y len first.1 in
    (λ i. record { seconds = seconds i; fraction = fraction i; original = original i; captured = rest.0 i }, rest.1)

-- where a record begins, no end is
no_end : (o : Order) (p : Record) (more x : List ℕ) (e : Option CaptureFault) → IsRecord p → Ends o e x
    → x ≡ record_bytes o p ++ more → ⊥
no_end o p more x None ok ends e =
    let len : length x ≡ 16 + length p.captured + length more = ap length e ∙ omega (
      arith,
      length-append (record_bytes o p) more,
      length-append (header_bytes o (header_of p)) p.captured,
      header_len o (header_of p),
    ) in
    absurd (omega (arith, len, ap length ends))
no_end o p more x (Some NoCapture) ok ends e = ends
no_end o p more x (Some BadVersion) ok ends e = ends
no_end o p more x (Some BadBlock) ok ends e = ends
no_end o p more x (Some NoInterface) ok ends e = ends
no_end o p more x (Some BadResolution) ok ends e = ends
no_end o p more x (Some RecordTooLong) ok ends e =
    let few = ok.few in
    let stated : stated_at o x ≡ length p.captured =
    ap (stated_at o) (e ∙ append_assoc (header_bytes o (header_of p)) p.captured more)
    ∙ stated_in o (header_of p) (p.captured ++ more) (omega (arith, few)) in
    absurd (omega (arith, ends.1, stated, few))
no_end o p more x (Some CutCapture) ok ends e =
    let few = ok.few in
    let stated : stated_at o x ≡ length p.captured =
    ap (stated_at o) (e ∙ append_assoc (header_bytes o (header_of p)) p.captured more)
    ∙ stated_in o (header_of p) (p.captured ++ more) (omega (arith, few)) in
    let len : length x ≡ 16 + length p.captured + length more = ap length e ∙ omega (
      arith,
      length-append (record_bytes o p) more,
      length-append (header_bytes o (header_of p)) p.captured,
      header_len o (header_of p),
    ) in
    absurd (omega (arith, ends.2, stated, len))

same_end : (o : Order) (x : List ℕ) (e f : Option CaptureFault) → Ends o e x → Ends o f x → e ≡ f
same_end o x None None p q = refl
same_end o x None (Some NoCapture) p q = absurd q
same_end o x None (Some BadVersion) p q = absurd q
same_end o x None (Some BadBlock) p q = absurd q
same_end o x None (Some NoInterface) p q = absurd q
same_end o x None (Some BadResolution) p q = absurd q
same_end o x None (Some CutCapture) p q = absurd (omega (arith, q.0, ap length p))
same_end o x None (Some RecordTooLong) p q = absurd (omega (arith, q.0, ap length p))
same_end o x (Some NoCapture) f p q = absurd p
same_end o x (Some BadVersion) f p q = absurd p
same_end o x (Some BadBlock) f p q = absurd p
same_end o x (Some NoInterface) f p q = absurd p
same_end o x (Some BadResolution) f p q = absurd p
same_end o x (Some CutCapture) None p q = absurd (omega (arith, p.0, ap length q))
same_end o x (Some CutCapture) (Some NoCapture) p q = absurd q
same_end o x (Some CutCapture) (Some BadVersion) p q = absurd q
same_end o x (Some CutCapture) (Some BadBlock) p q = absurd q
same_end o x (Some CutCapture) (Some NoInterface) p q = absurd q
same_end o x (Some CutCapture) (Some BadResolution) p q = absurd q
same_end o x (Some CutCapture) (Some CutCapture) p q = refl
same_end o x (Some CutCapture) (Some RecordTooLong) p q = absurd (p.1 q)
same_end o x (Some RecordTooLong) None p q = absurd (omega (arith, p.0, ap length q))
same_end o x (Some RecordTooLong) (Some NoCapture) p q = absurd q
same_end o x (Some RecordTooLong) (Some BadVersion) p q = absurd q
same_end o x (Some RecordTooLong) (Some BadBlock) p q = absurd q
same_end o x (Some RecordTooLong) (Some NoInterface) p q = absurd q
same_end o x (Some RecordTooLong) (Some BadResolution) p q = absurd q
same_end o x (Some RecordTooLong) (Some CutCapture) p q = absurd (q.1 p)
same_end o x (Some RecordTooLong) (Some RecordTooLong) p q = refl

head_all : (p : Record) (ps : List Record) → All IsRecord (p ∷ ps) → IsRecord p
head_all p ps each = each 0 p (omega arith)

tail_all : (p : Record) (ps : List Record) → All IsRecord (p ∷ ps) → All IsRecord ps
tail_all p ps each k d low = each (suc k) d (omega (arith, low))

same_records : (o : Order) (ps qs : List Record) (x y : List ℕ) (e f : Option CaptureFault) → All IsRecord ps
    → All IsRecord qs → Ends o e x → Ends o f y → records_bytes o ps ++ x ≡ records_bytes o qs ++ y
    → (ps ≡ qs) × (x ≡ y) × (e ≡ f)
same_records o [] [] x y e f each all end over same = (refl, same, same_end o y e f (subst (Ends o e) same end) over)
same_records o [] (q ∷ qs) x y e f each all end over same =
    absurd (no_end o q (records_bytes o qs ++ y) x e (head_all q qs all) end
    (same ∙ append_assoc (record_bytes o q) (records_bytes o qs) y))
same_records o (p ∷ ps) [] x y e f each all end over same =
    absurd (no_end o p (records_bytes o ps ++ x) y f (head_all p ps each) over
    (sym same ∙ append_assoc (record_bytes o p) (records_bytes o ps) x))
same_records o (p ∷ ps) (q ∷ qs) x y e f each all end over same =
    let first = same_record o p q (records_bytes o ps ++ x) (records_bytes o qs
    ++ y) (head_all p ps each) (head_all q qs all)
    (sym (append_assoc (record_bytes o p) (records_bytes o ps) x) ∙ same
    ∙ append_assoc (record_bytes o q) (records_bytes o qs) y) in
    let rest = same_records o ps qs x y e f (tail_all p ps each) (tail_all q qs all) end over first.1 in
    ((λ i. first.0 i ∷ rest.0 i), rest.1, rest.2)

pub one_reading : (all rest more : List ℕ) (h g : FileHeader) (ps qs : List Record) (e f : Option CaptureFault)
    → IsCapture all h ps rest e → IsCapture all g qs more f → (h ≡ g) × (ps ≡ qs) × (rest ≡ more) × (e ≡ f)
one_reading all rest more h g ps qs e f p q =
    let a = p.begins in
    let b = q.begins in
    let x = records_bytes h.order ps ++ rest in
    let y = records_bytes g.order qs ++ more in
    let first = append_parts a.front b.front x y (file_header_len a.front h a.file_header
    ∙ sym (file_header_len b.front g b.file_header))
    (sym (append_assoc a.front (records_bytes h.order ps) rest) ∙ sym a.parts ∙ b.parts
    ∙ append_assoc b.front (records_bytes g.order qs) more) in
    let same = same_file_header a.front b.front h g a.file_header b.file_header first.0 in
    let back : g.order ≡ h.order = ap (λ (k : FileHeader). k.order) (sym same) in
    let found = same_records h.order ps qs rest more e f a.each b.each p.ends
    (subst (λ o. Ends o f more) back q.ends)
    (first.1 ∙ ap (λ o. records_bytes o qs ++ more) back) in
    (same, found.0, found.1, found.2)
