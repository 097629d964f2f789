-- A file has one reading, in either form.
use Rattle.std.proofs.Common.{◌≡◌, ℕ, List, [], ◌∷◌, ◌++◌, length, map, refl, sym, ap, subst, ◌∙◌, arith}
use Rattle.std.proofs.Common.{append_assoc, append-nil, Result, Ok, Err, true, false}
use Rattle.std.specs.Prelude.{Option, Some, None}
use Rattle.std.proofs.lemmas.Bool.{false≢true}
use Rattle.std.proofs.lemmas.List.{length-append}
use Rattle.at_ddp.proofs.Octets.{append_parts}
use Rattle.at_pcap.specs.Blocks.{Block, Section, block_in, four_at, is_section}
use Rattle.at_pcap.specs.Captures.{Record, magic_of}
use Rattle.at_pcap.specs.Faults.{FailsFileHeader}
use Rattle.at_pcap.specs.Files.{Classic, IsFile, Neither, Pcapng}
use Rattle.at_pcap.specs.Frames.{Frame, frame_of}
use Rattle.at_pcap.specs.Orders.{bytes_in}
use Rattle.at_pcap.specs.Readings.{BeginsWith}
use Rattle.at_pcap.specs.Sections.{AreBlocks, EndsSection, IsBlock, IsPcapng, NoBlocks, OneMore, with_found}
use Rattle.at_pcap.specs.declared.file_header.FileHeader.{FileHeader}
use Rattle.at_pcap.specs.declared.file_header.Precision.{Precision}
use Rattle.at_pcap.specs.declared.file_header.Precision.TheVariants.{Microseconds, Nanoseconds}
use Rattle.at_pcap.specs.declared.order.Order.{Order}
use Rattle.at_pcap.specs.declared.order.Order.TheVariants.{Big, Little}
use Rattle.at_pcap.specs.declared.fault.CaptureFault.{CaptureFault}
use Rattle.at_pcap.specs.declared.fault.CaptureFault.TheVariants.{NoCapture, CutCapture, BadVersion, RecordTooLong}
use Rattle.at_pcap.specs.declared.fault.CaptureFault.TheVariants.{BadBlock, NoInterface, BadResolution}
use Rattle.at_pcap.proofs.LongerBlocks.{block_some, goes_block, section_any}
use Rattle.at_pcap.proofs.OneHeader.{faultless, magic_in}
use Rattle.at_pcap.proofs.OneReading.{one_reading}
use Rattle.at_pcap.proofs.RuleLemmas.{four_before}

-- ---- blocks from the first one on

-- each is read in the section that those before it leave
abbrev Run : Section → List (List ℕ × Block) → Type 0
Run s [] = Unit {0}
Run s (p ∷ ps) = IsBlock s p.0 p.1 × Run p.1.section ps

abbrev bytes_of : List (List ℕ × Block) → List ℕ
bytes_of [] = []
bytes_of (p ∷ ps) = p.0 ++ bytes_of ps

abbrev found_before : Option Frame → List Frame → List Frame
found_before None frames = frames
found_before (Some f) frames = f ∷ frames

abbrev frames_of : List (List ℕ × Block) → List Frame
frames_of [] = []
frames_of (p ∷ ps) = found_before p.1.found (frames_of ps)

abbrev last_of : Section → List (List ℕ × Block) → Section
last_of s [] = s
last_of s (p ∷ ps) = last_of p.1.section ps

run_more : (s : Section) (ps : List (List ℕ × Block)) (p : List ℕ × Block) → Run s ps → IsBlock (last_of s ps) p.0 p.1
    → Run s (ps ++ p ∷ [])
run_more s [] p run is = (is, tt)
run_more s (q ∷ ps) p run is = (run.0, run_more q.1.section ps p run.1 is)

bytes_more : (ps : List (List ℕ × Block)) (p : List ℕ × Block) → bytes_of (ps ++ p ∷ []) ≡ bytes_of ps ++ p.0
bytes_more [] p = append-nil p.0
bytes_more (q ∷ ps) p = ap (λ l. q.0 ++ l) (bytes_more ps p) ∙ sym (append_assoc q.0 (bytes_of ps) p.0)

one_found : (o : Option Frame) → found_before o [] ≡ with_found [] o
one_found None = refl
one_found (Some f) = refl

both_found : (a : Option Frame) (frames : List Frame) (b : Option Frame)
    → found_before a (with_found frames b) ≡ with_found (found_before a frames) b
both_found None frames b = refl
both_found (Some f) frames None = refl
both_found (Some f) frames (Some g) = refl

frames_more : (ps : List (List ℕ × Block)) (p : List ℕ × Block)
    → frames_of (ps ++ p ∷ []) ≡ with_found (frames_of ps) p.1.found
frames_more [] p = one_found p.1.found
frames_more (q ∷ ps) p =
    ap (found_before q.1.found) (frames_more ps p) ∙ both_found q.1.found (frames_of ps) p.1.found

last_more : (s : Section) (ps : List (List ℕ × Block)) (p : List ℕ × Block) → last_of s (ps ++ p ∷ []) ≡ p.1.section
last_more s [] p = refl
last_more s (q ∷ ps) p = last_more q.1.section ps p

-- blocks one behind the other, from the first one on
record Reading (bytes : List ℕ) (frames : List Frame) (t : Section) : Type 0 where
  first : Section
  blocks : List (List ℕ × Block)
  run : Run first blocks
  are : bytes ≡ bytes_of blocks
  have : frames ≡ frames_of blocks
  leave : t ≡ last_of first blocks

reading_of : {bytes : List ℕ} {frames : List Frame} {t : Section} → AreBlocks bytes frames t → Reading bytes frames t
reading_of (NoBlocks s) = record { first = s; blocks = []; run = tt; are = refl; have = refl; leave = refl }
reading_of (OneMore bytes frames s block b before is) =
    let r = reading_of before in
    let p : List ℕ × Block = (block, b) in
    record {
      first = r.first;
      blocks = r.blocks ++ p ∷ [];
      run = run_more r.first r.blocks p r.run (subst (λ u. IsBlock u block b) r.leave is);
      are = ap (λ l. l ++ block) r.are ∙ sym (bytes_more r.blocks p);
      have = ap (λ fs. with_found fs b.found) r.have ∙ sym (frames_more r.blocks p);
      leave = sym (last_more r.first r.blocks p);
    }

-- ---- two such lists

some_fault : (a b : CaptureFault) → a ≡ b → Some a ≡ Some b
some_fault a b e = λ i. Some (e i)

same_fault : (a b : CaptureFault) → ◌≡◌ {A = Result Block CaptureFault} (Err a) (Err b) → a ≡ b
same_fault a b e = cc

same_block : (a b : Block) → ◌≡◌ {A = Result Block CaptureFault} (Ok a) (Ok b) → a ≡ b
same_block a b e = cc

no_both : (a : Block) (f : CaptureFault) → ◌≡◌ {A = Result Block CaptureFault} (Ok a) (Err f)
    → ⊥
no_both a f e = cc

same_end : (s u : Section) (x : List ℕ) (e f : Option CaptureFault) → EndsSection s e x → EndsSection u f x
    → block_in s x ≡ block_in u x → e ≡ f
same_end s u x None None p q same = refl
same_end s u x None (Some g) p q same = absurd (omega (arith, q.0, ap length p))
same_end s u x (Some f) None p q same = absurd (omega (arith, p.0, ap length q))
same_end s u x (Some f) (Some g) p q same = some_fault f g (same_fault f g (sym p.1 ∙ same ∙ q.1))

-- where a block begins, no end is
no_end : (s u : Section) (block more x : List ℕ) (b : Block) (e : Option CaptureFault) → IsBlock s block b
    → EndsSection u e x → x ≡ block ++ more → block_in s x ≡ block_in u x → ⊥
no_end s u block more x b None is ends at same =
    let some = block_some s block b is.is in
    absurd (omega (arith, ap length ends, ap length at, length-append block more))
no_end s u block more x b (Some f) is ends at same =
    no_both b f (sym ((goes_block s block more).goes b is.is) ∙ sym (ap (block_in s) at) ∙ same ∙ ends.1)

same_runs : (ps qs : List (List ℕ × Block)) (s u : Section) (x y : List ℕ) (e f : Option CaptureFault) → Run s ps
    → Run u qs → EndsSection (last_of s ps) e x → EndsSection (last_of u qs) f y
    → bytes_of ps ++ x ≡ bytes_of qs ++ y → block_in s (bytes_of ps ++ x) ≡ block_in u (bytes_of ps ++ x)
    → (frames_of ps ≡ frames_of qs) × (x ≡ y) × (e ≡ f)
same_runs [] [] s u x y e f run other ends over at same =
    (refl, at, same_end s u x e f ends (subst (EndsSection u f) (sym at) over) same)
same_runs [] (q ∷ qs) s u x y e f run other ends over at same =
    absurd (no_end u s q.0 (bytes_of qs ++ y) x q.1 e other.0 ends (at ∙ append_assoc q.0 (bytes_of qs) y) (sym same))
same_runs (p ∷ ps) [] s u x y e f run other ends over at same =
    absurd (no_end s u p.0 (bytes_of ps ++ x) y p.1 f run.0 over
    (sym at ∙ append_assoc p.0 (bytes_of ps) x) (subst (λ l. block_in s l ≡ block_in u l) at same))
same_runs (p ∷ ps) (q ∷ qs) s u x y e f run other ends over at same =
    let more = bytes_of ps ++ x in
    let rest = bytes_of qs ++ y in
    let mine : (p.0 ++ bytes_of ps) ++ x ≡ p.0 ++ more = append_assoc p.0 (bytes_of ps) x in
    let its : (q.0 ++ bytes_of qs) ++ y ≡ q.0 ++ rest = append_assoc q.0 (bytes_of qs) y in
    let whole : p.0 ++ more ≡ q.0 ++ rest = sym mine ∙ at ∙ its in
    let one = same_block p.1 q.1 (sym ((goes_block s p.0 more).goes p.1 run.0.is)
    ∙ subst (λ l. block_in s l ≡ block_in u l) mine same ∙ ap (block_in u) whole
    ∙ (goes_block u q.0 rest).goes q.1 other.0.is) in
    let long = block_some s p.0 p.1 run.0.is in
    let far = block_some u q.0 q.1 other.0.is in
    let stated : four_at p.1.section.order 4 (p.0 ++ more) ≡ four_at q.1.section.order 4 (q.0 ++ rest) =
    λ i. four_at ((one i).section.order) 4 (whole i) in
    let len : length p.0 ≡ length q.0 =
    run.0.whole ∙ sym (four_before p.1.section.order 4 p.0 more (omega arith)) ∙ stated
    ∙ four_before q.1.section.order 4 q.0 rest (omega arith) ∙ sym other.0.whole in
    let parts = append_parts p.0 q.0 more rest len whole in
    let found = same_runs ps qs p.1.section q.1.section x y e f run.1 other.1 ends over parts.1
    (ap (λ b. block_in b.section more) one) in
    ((λ i. found_before ((one i).found) (found.0 i)), found.1, found.2)

one_pcapng : (all : List ℕ) (frames others : List Frame) (rest more : List ℕ) (e f : Option CaptureFault)
    → IsPcapng all frames rest e → IsPcapng all others more f → (frames ≡ others) × (rest ≡ more) × (e ≡ f)
one_pcapng all frames others rest more e f p q =
    let a = reading_of p.blocks in
    let b = reading_of q.blocks in
    let mine : all ≡ bytes_of a.blocks ++ rest = p.parts ∙ ap (λ l. l ++ rest) a.are in
    let its : all ≡ bytes_of b.blocks ++ more = q.parts ∙ ap (λ l. l ++ more) b.are in
    let found = same_runs a.blocks b.blocks a.first b.first rest more e f a.run b.run
    (subst (λ t. EndsSection t e rest) a.leave p.ends) (subst (λ t. EndsSection t f more) b.leave q.ends)
    (sym mine ∙ its) (section_any a.first b.first (bytes_of a.blocks ++ rest)
    (ap is_section (sym mine) ∙ p.begins)) in
    (a.have ∙ found.0 ∙ sym b.have, found.1, found.2)

-- ---- the forms exclude each other

no_section : (o : Order) (p : Precision) (rest : List ℕ) → is_section (bytes_in o 4 (magic_of p) ++ rest) ≡ false
no_section Big Microseconds rest = refl
no_section Big Nanoseconds rest = refl
no_section Little Microseconds rest = refl
no_section Little Nanoseconds rest = refl

classic_is_no_section : (all rest : List ℕ) (h : FileHeader) (ps : List Record) → BeginsWith all h ps rest
    → is_section all ≡ true → ⊥
classic_is_no_section all rest h ps b is =
    let magic = magic_in all rest h ps b in
    false≢true (sym (no_section h.order h.precision magic.0) ∙ ap is_section (sym magic.1) ∙ is)

one_fault : (bytes : List ℕ) (a b : CaptureFault) → FailsFileHeader a bytes → FailsFileHeader b bytes → a ≡ b
one_fault bytes RecordTooLong b p q = absurd p
one_fault bytes BadBlock b p q = absurd p
one_fault bytes NoInterface b p q = absurd p
one_fault bytes BadResolution b p q = absurd p
one_fault bytes NoCapture RecordTooLong p q = absurd q
one_fault bytes NoCapture BadBlock p q = absurd q
one_fault bytes NoCapture NoInterface p q = absurd q
one_fault bytes NoCapture BadResolution p q = absurd q
one_fault bytes NoCapture NoCapture p q = refl
one_fault bytes NoCapture BadVersion p q = absurd (p (q.0, q.1, q.2))
one_fault bytes NoCapture CutCapture p q = absurd (p q.0)
one_fault bytes BadVersion RecordTooLong p q = absurd q
one_fault bytes BadVersion BadBlock p q = absurd q
one_fault bytes BadVersion NoInterface p q = absurd q
one_fault bytes BadVersion BadResolution p q = absurd q
one_fault bytes BadVersion NoCapture p q = absurd (q (p.0, p.1, p.2))
one_fault bytes BadVersion BadVersion p q = refl
one_fault bytes BadVersion CutCapture p q = absurd (q.1 p)
one_fault bytes CutCapture RecordTooLong p q = absurd q
one_fault bytes CutCapture BadBlock p q = absurd q
one_fault bytes CutCapture NoInterface p q = absurd q
one_fault bytes CutCapture BadResolution p q = absurd q
one_fault bytes CutCapture NoCapture p q = absurd (q p.0)
one_fault bytes CutCapture BadVersion p q = absurd (p.1 q)
one_fault bytes CutCapture CutCapture p q = refl

pub one_file : (all : List ℕ) {rest more : List ℕ} {frames others : List Frame} {e f : Option CaptureFault}
    → IsFile all frames rest e → IsFile all others more f → (frames ≡ others) × (rest ≡ more) × (e ≡ f)
one_file all (Classic h ps rest e is) (Classic g qs more f also) =
    let one = one_reading all rest more h g ps qs e f is also in
    ((λ i. map (frame_of (one.0 i)) (one.1 i)), one.2, one.3)
one_file all (Classic h ps rest e is) (Pcapng others more f also) =
    absurd (classic_is_no_section all rest h ps is.begins also.begins)
one_file all (Classic h ps rest e is) (Neither fault fails other) =
    absurd (faultless all rest h ps is.begins fault fails)
one_file all (Pcapng frames rest e is) (Classic g qs more f also) =
    absurd (classic_is_no_section all more g qs also.begins is.begins)
one_file all (Pcapng frames rest e is) (Pcapng others more f also) =
    one_pcapng all frames others rest more e f is also
one_file all (Pcapng frames rest e is) (Neither fault fails other) =
    absurd (false≢true (sym other ∙ is.begins))
one_file all (Neither fault fails other) (Classic g qs more f also) =
    absurd (faultless all more g qs also.begins fault fails)
one_file all (Neither fault fails other) (Pcapng others more f also) =
    absurd (false≢true (sym other ∙ also.begins))
one_file all (Neither fault fails other) (Neither wrong breaks also) =
    (refl, refl, some_fault fault wrong (one_fault all fault wrong fails breaks))
