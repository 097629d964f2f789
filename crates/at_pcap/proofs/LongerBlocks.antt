-- A block that is read is read so whatever follows it.
use Rattle.std.proofs.Common.{◌≡◌, inl, inr, ℕ, ◌+◌, ◌-◌, ◌*◌, ◌^◌, ◌≤◌, ◌==◌, not, nat_lt}
use Rattle.std.proofs.Common.{true, List, [], ◌∷◌, ◌++◌, length, take, drop, refl, sym, ap, ◌∙◌, arith, Result, Ok, Err}
use Rattle.std.proofs.Common.{if◌then◌else◌}
use Rattle.std.specs.Prelude.{Option, Some, None, slice_get}
use Rattle.std.proofs.lemmas.Bool.{cases_lt, cond-true, ltb-false}
use Rattle.std.proofs.lemmas.List.{drop-append-le, length-drop, take-append-le}
use Rattle.at_pcap.specs.Blocks.{Block, Section, block_in, by_kind, captured_in, closed}
use Rattle.at_pcap.specs.Blocks.{four_at, interface_in, is_section, needs, numbered_in, options, order_of}
use Rattle.at_pcap.specs.Blocks.{other_in, packet_frame, packet_from, refuse}
use Rattle.at_pcap.specs.Blocks.{section_by, section_in, simple_count, simple_frame, simple_from, simple_in}
use Rattle.at_pcap.specs.Blocks.{two_at, with_interface, with_resolution}
use Rattle.at_pcap.specs.Frames.{Frame, time_of}
use Rattle.at_pcap.specs.Orders.{number_in}
use Rattle.at_pcap.specs.declared.interface.Interface.{Interface}
use Rattle.at_pcap.specs.declared.interface.Resolution.{Resolution}
use Rattle.at_pcap.specs.declared.interface.Resolution.TheVariants.{Decimal}
use Rattle.at_pcap.specs.declared.order.Order.{Order}
use Rattle.at_pcap.specs.declared.fault.CaptureFault.{CaptureFault}
use Rattle.at_pcap.specs.declared.fault.CaptureFault.TheVariants.{BadBlock, BadVersion, CutCapture}
use Rattle.at_pcap.specs.declared.fault.CaptureFault.TheVariants.{NoInterface, RecordTooLong}
use Rattle.at_pcap.proofs.SectionLemmas.{order_before, section_block}
use Rattle.at_pcap.proofs.FrontLemmas.{section_before}
use Rattle.at_pcap.proofs.RuleLemmas.{closed_cut, four_before, four_front, needs_cut, number_before, two_before}
use Rattle.at_pcap.proofs.LongerLemmas.{Goes, failing, goes_by, goes_closed, goes_if, goes_needs, goes_options}
use Rattle.at_pcap.proofs.LongerLemmas.{goes_sized, moved, no_ok, same_total}

-- ---- a resolution and what follows from it

goes_with : (x y : Result Resolution CaptureFault) (f g : Resolution → Result Block CaptureFault) → Goes x y
    → ((r : Resolution) → Goes (f r) (g r)) → Goes (with_resolution x f) (with_resolution y g)
goes_with (Err e) y f g h k = failing e (with_resolution y g)
goes_with (Ok r) y f g h k =
    moved (f r) (g r) (with_resolution y g) (sym (ap (λ w. with_resolution w g) (h.goes r refl))) (k r)

cut_with : (x : Result Resolution CaptureFault) (f : Resolution → Result Block CaptureFault)
    (y : Result Block CaptureFault) → ((r : Resolution) → f r ≡ Err CutCapture) → Goes (with_resolution x f) y
cut_with (Err e) f y cut = failing e y
cut_with (Ok r) f y cut = record { goes = λ v h. absurd (no_ok CutCapture v (sym (cut r) ∙ h)) }

module _ (s : Section) (a more : List ℕ) (long : 8 ≤ length a) where
  goes_other : Goes (other_in s a) (other_in s (a ++ more))
  unfolding other_in
  goes_other = goes_sized s.order a more long 12 _ _ (λ enough. goes_closed s.order a more long _ _ (λ fits. refl))

  goes_ordered : (o : Option Order) → Goes (section_by o a) (section_by o (a ++ more))
  goes_ordered None = failing BadBlock (section_by None (a ++ more))
  goes_ordered (Some o) = goes_sized o a more long 28 _ _ (λ enough. goes_needs 14 a more _ _ (λ there.
      goes_by (not (two_at o 12 a == 1)) (not (two_at o 12 (a ++ more) == 1)) BadVersion
      (closed o a (section_block o)) (closed o (a ++ more) (section_block o))
      (ap (λ k. not (k == 1)) (sym (two_before o 12 a more (omega arith))))
      (λ one. goes_closed o a more long (section_block o) (section_block o) (λ fits. refl))))

  goes_section : Goes (section_in a) (section_in (a ++ more))
  unfolding section_in
  goes_section = goes_needs 12 a more (section_by (order_of a) a) (section_by (order_of (a ++ more)) (a ++ more))
      (λ there. moved (section_by (order_of a) a) (section_by (order_of a) (a ++ more))
      (section_by (order_of (a ++ more)) (a ++ more))
      (ap (λ w. section_by w (a ++ more)) (sym (order_before a more there))) (goes_ordered (order_of a)))

  -- ---- an interface

  abbrev leaves : List ℕ → Resolution → Block
  leaves bytes r = record { section = with_interface s bytes r; found = None }

  abbrev said : List ℕ → List ℕ → ℕ → Result Block CaptureFault
  said bytes tail n =
      with_resolution (options (n - 20) s.order (n - 20) (Decimal 6) tail)
      (λ r. closed s.order bytes (leaves bytes r))

  one_interface : ℕ → ℕ → Resolution → Block
  one_interface kind longest r = record {
    section = record s {
      interfaces = s.interfaces ++ record { link_type = kind; resolution = r; longest = longest } ∷ [];
    };
    found = None;
  }

  same_leaves : (r : Resolution) → 16 ≤ length a → leaves a r ≡ leaves (a ++ more) r
  unfolding one_interface
  same_leaves r there =
      ap (λ k. one_interface k (four_at s.order 12 a) r) (sym (two_before s.order 8 a more (omega arith)))
      ∙ ap (λ k. one_interface (two_at s.order 8 (a ++ more)) k r) (sym (four_before s.order 12 a more (omega arith)))

  goes_said : 20 ≤ four_at s.order 4 a
      → Goes (said a (drop 16 a) (four_at s.order 4 a))
      (said (a ++ more) (drop 16 (a ++ more)) (four_at s.order 4 (a ++ more)))
  goes_said enough =
      let n = four_at s.order 4 a in
      elim (cases_lt (length a) n) [
        | inl short ↦ cut_with (options (n - 20) s.order (n - 20) (Decimal 6) (drop 16 a))
            (λ r. closed s.order a (leaves a r))
            (said (a ++ more) (drop 16 (a ++ more)) (four_at s.order 4 (a ++ more)))
            (λ r. closed_cut s.order a (leaves a r) short)
        | inr there ↦ moved (said a (drop 16 a) n) (said (a ++ more) (drop 16 a ++ more) n)
            (said (a ++ more) (drop 16 (a ++ more)) (four_at s.order 4 (a ++ more)))
            (ap (λ l. said (a ++ more) l n) (sym (drop-append-le 16 a more (omega arith)))
            ∙ ap (said (a ++ more) (drop 16 (a ++ more))) (same_total s.order a more long))
            (goes_with (options (n - 20) s.order (n - 20) (Decimal 6) (drop 16 a))
            (options (n - 20) s.order (n - 20) (Decimal 6) (drop 16 a ++ more))
            (λ r. closed s.order a (leaves a r)) (λ r. closed s.order (a ++ more) (leaves (a ++ more) r))
            (goes_options (n - 20) s.order (n - 20) (Decimal 6) (drop 16 a) more)
            (λ r. goes_closed s.order a more long (leaves a r) (leaves (a ++ more) r)
            (λ fits. same_leaves r (omega arith))))
      ]

  goes_interface : Goes (interface_in s a) (interface_in s (a ++ more))
  unfolding interface_in
  goes_interface = goes_sized s.order a more long 20 (said a (drop 16 a) (four_at s.order 4 a))
      (said (a ++ more) (drop 16 (a ++ more)) (four_at s.order 4 (a ++ more))) goes_said

  -- ---- packets

  same_data : (n i : ℕ) → i + n ≤ length a → take n (drop i a) ≡ take n (drop i (a ++ more))
  same_data n i there =
      sym (ap (take n) (drop-append-le i a more (omega arith))
      ∙ take-append-le n (drop i a) more (omega (arith, length-drop i a)))

  abbrev framed : Frame → Block
  framed f = record { section = s; found = Some f }

  goes_captured : (offset count n : ℕ) (f g : Frame) → count ≡ n → (offset + count + 4 ≤ length a → f ≡ g)
      → Goes (captured_in s offset count a f) (captured_in s offset n (a ++ more) g)
  goes_captured offset count n f g is same_frame =
      let t = four_at s.order 4 a in
      let u = four_at s.order 4 (a ++ more) in
      let last : t ≡ u = same_total s.order a more long in
      goes_by (nat_lt 262144 count) (nat_lt 262144 n) RecordTooLong
      (refuse (nat_lt t (offset + count + 4)) BadBlock (closed s.order a (framed f)))
      (refuse (nat_lt u (offset + n + 4)) BadBlock (closed s.order (a ++ more) (framed g)))
      (ap (nat_lt 262144) is)
      (λ few. goes_by (nat_lt t (offset + count + 4)) (nat_lt u (offset + n + 4)) BadBlock
      (closed s.order a (framed f)) (closed s.order (a ++ more) (framed g))
      (λ i. nat_lt (last i) (offset + is i + 4))
      (λ room. goes_closed s.order a more long (framed f) (framed g)
      (λ fits. let within = ltb-false t (offset + count + 4) room in
      ap framed (same_frame (omega arith)))))

  same_packet : (i : Interface) → 28 + four_at s.order 20 a + 4 ≤ length a
      → packet_frame i s a ≡ packet_frame i s (a ++ more)
  same_packet i there =
      let high : four_at s.order 12 a ≡ four_at s.order 12 (a ++ more) =
      sym (four_before s.order 12 a more (omega arith)) in
      let low : four_at s.order 16 a ≡ four_at s.order 16 (a ++ more) =
      sym (four_before s.order 16 a more (omega arith)) in
      let count : four_at s.order 20 a ≡ four_at s.order 20 (a ++ more) =
      sym (four_before s.order 20 a more (omega arith)) in
      let original : four_at s.order 24 a ≡ four_at s.order 24 (a ++ more) =
      sym (four_before s.order 24 a more (omega arith)) in
      let held : take (four_at s.order 20 a) (drop 28 a)
      ≡ take (four_at s.order 20 (a ++ more)) (drop 28 (a ++ more)) =
      same_data (four_at s.order 20 a) 28 (omega arith) ∙ ap (λ k. take k (drop 28 (a ++ more))) count in
      λ j. record {
        link_type = i.link_type;
        time = Some (time_of i.resolution (high j * 2 ^ 32 + low j));
        original = original j;
        captured = held j;
      }

  goes_packet : (i : Option Interface) → Goes (packet_from i s a) (packet_from i s (a ++ more))
  goes_packet None = failing NoInterface (packet_from None s (a ++ more))
  goes_packet (Some i) = goes_needs 24 a more _ _ (λ there. goes_captured 28 (four_at s.order 20 a)
      (four_at s.order 20 (a ++ more)) (packet_frame i s a) (packet_frame i s (a ++ more))
      (sym (four_before s.order 20 a more (omega arith))) (same_packet i))

  goes_numbered : (width : ℕ) → Goes (numbered_in width s a) (numbered_in width s (a ++ more))
  unfolding numbered_in
  goes_numbered width = goes_sized s.order a more long 32 _ _ (λ enough. goes_needs (8 + width) a more _ _ (λ there.
      let number = number_in s.order width (drop 8 a) in
      moved (packet_from (slice_get s.interfaces number) s a)
      (packet_from (slice_get s.interfaces number) s (a ++ more)) _
      (ap (λ k. packet_from (slice_get s.interfaces k) s (a ++ more))
      (sym (number_before s.order width 8 a more there)))
      (goes_packet (slice_get s.interfaces number))))

  goes_simple_from : (i : Option Interface) → 12 ≤ length a → Goes (simple_from i s a) (simple_from i s (a ++ more))
  goes_simple_from None there = failing NoInterface (simple_from None s (a ++ more))
  goes_simple_from (Some i) there =
      let n = four_at s.order 8 a in
      let m = four_at s.order 8 (a ++ more) in
      let original : n ≡ m = sym (four_before s.order 8 a more (omega arith)) in
      goes_captured 12 (simple_count i n) (simple_count i m) (simple_frame i s a) (simple_frame i s (a ++ more))
      (ap (simple_count i) original)
      (λ room.
      let held : take (simple_count i n) (drop 12 a) ≡ take (simple_count i m) (drop 12 (a ++ more)) =
      same_data (simple_count i n) 12 (omega arith)
      ∙ ap (λ k. take (simple_count i k) (drop 12 (a ++ more))) original in
      λ j. record { link_type = i.link_type; time = None; original = original j; captured = held j })

  goes_simple : Goes (simple_in s a) (simple_in s (a ++ more))
  unfolding simple_in
  goes_simple = goes_sized s.order a more long 16 _ _ (λ enough. goes_needs 12 a more _ _ (λ there.
      goes_simple_from (slice_get s.interfaces 0) there))

  -- ---- any block

  goes_kind : (kind : ℕ) → Goes (by_kind kind s a) (by_kind kind s (a ++ more))
  goes_kind kind =
      goes_if (kind == 1) (kind == 1) (interface_in s a) _ (interface_in s (a ++ more)) _ refl goes_interface
      (goes_if (kind == 6) (kind == 6) (numbered_in 4 s a) _ (numbered_in 4 s (a ++ more)) _ refl (goes_numbered 4)
      (goes_if (kind == 2) (kind == 2) (numbered_in 2 s a) _ (numbered_in 2 s (a ++ more)) _ refl (goes_numbered 2)
      (goes_if (kind == 3) (kind == 3) (simple_in s a) _ (simple_in s (a ++ more)) _ refl goes_simple goes_other)))

abbrev any_of : Section → List ℕ → Result Block CaptureFault
any_of s bytes = if is_section bytes then section_in bytes else by_kind (number_in s.order 4 bytes) s bytes

pub goes_block : (s : Section) (a more : List ℕ) → Goes (block_in s a) (block_in s (a ++ more))
unfolding block_in
goes_block s a more = goes_needs 8 a more (any_of s a) (any_of s (a ++ more)) (λ long.
    goes_if (is_section a) (is_section (a ++ more)) (section_in a) (by_kind (number_in s.order 4 a) s a)
    (section_in (a ++ more)) (by_kind (number_in s.order 4 (a ++ more)) s (a ++ more))
    (sym (section_before a more (omega arith))) (goes_section s a more long)
    (moved (by_kind (number_in s.order 4 a) s a) (by_kind (number_in s.order 4 a) s (a ++ more))
    (by_kind (number_in s.order 4 (a ++ more)) s (a ++ more))
    (ap (λ k. by_kind k s (a ++ more)) (sym (four_front s.order a more (omega arith))))
    (goes_kind s a more long (number_in s.order 4 a))))

-- a block has 8 bytes at least
pub block_some : (s : Section) (a : List ℕ) (b : Block) → block_in s a ≡ Ok b → 8 ≤ length a
unfolding block_in
block_some s a b is = elim (cases_lt (length a) 8) [
  | inl short ↦ absurd (no_ok CutCapture b (sym (needs_cut 8 a (any_of s a) short) ∙ is))
  | inr long ↦ long
]

-- a section header is read so in every section
pub section_any : (s u : Section) (bytes : List ℕ) → is_section bytes ≡ true → block_in s bytes ≡ block_in u bytes
unfolding block_in
section_any s u bytes is =
    let front : any_of s bytes ≡ section_in bytes =
    cond-true (is_section bytes) (section_in bytes) (by_kind (number_in s.order 4 bytes) s bytes) is in
    let back : any_of u bytes ≡ section_in bytes =
    cond-true (is_section bytes) (section_in bytes) (by_kind (number_in u.order 4 bytes) u bytes) is in
    ap (needs 8 bytes) (front ∙ sym back)
