-- What is read is spelled so, what is spelled has no fault and is one segment, and what is written is spelled.
use Rattle.std.proofs.Common.{lit≤, ◌≡◌, inl, inr, ℕ, ◌+◌, ◌*◌, ◌/◌, ◌%◌, ◌^◌, ◌<◌, ◌≤◌, Bool}
use Rattle.std.proofs.Common.{cond, List, [], ◌∷◌, ◌++◌, length, get_or, drop, refl}
use Rattle.std.proofs.Common.{sym, ap, ◌∙◌, arith}
use Rattle.std.specs.Prelude.{◌==◌}
use Rattle.std.specs.Int.{to_be_bytes, w16, w32}
use Rattle.std.proofs.lemmas.List.Elements.{All-drop}
use Rattle.at_ddp.proofs.Octets.{InBytes, bytes_of, same_number}
use Rattle.at_ddp.proofs.BitLemmas.{bit-eqb, bit-lt, bit_inj}
use Rattle.at_ddp.specs.Bits.{bit}
use Rattle.at_adsp_frame.specs.Fault.{IsFirstFault, IsPartFault}
use Rattle.at_adsp_frame.specs.Openings.{SpellsOpening, code_of, opening, read_dest}
use Rattle.at_adsp_frame.specs.Reading.{bits_beside_ack}
use Rattle.at_adsp_frame.specs.Segments.{Content, Part, Data, Probe, Open, Close, Reset, ResetAck, Advice}
use Rattle.at_adsp_frame.specs.Segments.{Names, Spells, SpellsPart, header}
use Rattle.at_adsp_frame.specs.declared.fault.AdspFault.{AdspFault}
use Rattle.at_adsp_frame.specs.declared.fault.AdspFault.TheVariants.{ShortAdsp, BadControl, BadVersion, Attention}
use Rattle.at_adsp_frame.specs.declared.fault.AdspFault.TheVariants.{AdspTooLong, NoMemory}
use Rattle.at_adsp_frame.specs.declared.segment.OpenKind.{OpenKind}
use Rattle.at_adsp_frame.specs.declared.segment.OpenKind.TheVariants.{Request, Acknowledgement}
use Rattle.at_adsp_frame.specs.declared.segment.OpenKind.TheVariants.{RequestAndAcknowledgement, Denial}

-- ---- masks of the descriptor

-- ---- numbers of four bytes

unfoldable pub four : ℕ → ℕ → ℕ → ℕ → ℕ
four a b c d = 16777216 * a + 65536 * b + 256 * c + d

pub four-lt : (a b c d : ℕ) → a < 256 → b < 256 → c < 256 → d < 256 → four a b c d < 2 ^ 32
unfolding four
four-lt a b c d ha hb hc hd = omega arith

pub four_back : (a b c d : ℕ) → a < 256 → b < 256 → c < 256 → d < 256 → to_be_bytes w32 (four a b c d)
    ≡ a ∷ b ∷ c ∷ d ∷ []
unfolding four
four_back a b c d ha hb hc hd =
    let n = 16777216 * a + 65536 * b + 256 * c + d in
    let first : n / 16777216 % 256 ≡ a = omega arith in
    let second : n / 65536 % 256 ≡ b = omega arith in
    let third : n / 256 % 256 ≡ c = omega arith in
    let last : n % 256 ≡ d = omega arith in
    λ i. first i ∷ second i ∷ third i ∷ last i ∷ []

pub two_back : (a b : ℕ) → a < 256 → b < 256 → to_be_bytes w16 (256 * a + b) ≡ a ∷ b ∷ []
two_back a b ha hb =
    let first : (256 * a + b) / 256 % 256 ≡ a = omega arith in
    let last : (256 * a + b) % 256 ≡ b = omega arith in
    λ i. first i ∷ last i ∷ []

same_four : (m n : ℕ) → m < 2 ^ 32 → n < 2 ^ 32 → m / 16777216 % 256 ≡ n / 16777216 % 256 → m / 65536 % 256
    ≡ n / 65536 % 256 → m / 256 % 256 ≡ n / 256 % 256 → m % 256 ≡ n % 256 → m ≡ n
same_four m n hm hn a b c d = omega arith

-- ---- what is read is spelled so

pub opening_is_spelled : (rest : List ℕ) → InBytes rest → 8 ≤ length rest → 256 * get_or rest 0 0 + get_or rest 1 0
    ≡ 256 → (kind : OpenKind) → SpellsOpening rest kind (read_dest kind (256 * get_or rest 2 0 + get_or rest 3 0))
opening_is_spelled (b0 ∷ b1 ∷ b2 ∷ b3 ∷ b4 ∷ b5 ∷ b6 ∷ b7 ∷ more) fits long version kind =
    let one : b0 ≡ 1 = omega (arith, fits 0, fits 1, version) in
    let none : b1 ≡ 0 = omega (arith, fits 0, fits 1, version) in
    record {
      field = 256 * b2 + b3;
      field_fits = omega (arith, fits 2, fits 3);
      says = refl;
      attention = four b4 b5 b6 b7;
      attention_fits = four-lt b4 b5 b6 b7 (fits 4) (fits 5) (fits 6) (fits 7);
      more = more;
      fields = λ i. one i ∷ none
          i ∷ (sym (two_back b2 b3 (fits 2) (fits 3)) i ++ sym
          (four_back b4 b5 b6 b7 (fits 4) (fits 5) (fits 6) (fits 7)) i ++ more);
    }
opening_is_spelled _ fits long version kind = absurd (omega arith)

pub data_is_spelled : (d : ℕ) (rest : List ℕ) (end : Bool) (p : Part) → d < 256 → d / 16 % 2 ≡ 0 → d / 128 ≡ 0 → end
    ≡ (d / 32 % 2 == 1) → p ≡ Data end rest → length rest ≤ 572 → SpellsPart (bits_beside_ack d) rest p
data_is_spelled d rest end p byte plain low is says fits =
    let flag : bit end ≡ d / 32 % 2 = ap bit is ∙ bit-eqb (d / 32 % 2) (omega arith) in
    inl (record {
      end = end;
      free = d % 16;
      in_four_bits = omega arith;
      fields = omega (arith, flag);
      says = says;
      fits = fits;
    })

pub control_is_spelled : (d : ℕ) (rest : List ℕ) (p : Part) → d < 256 → d / 16 % 2 ≡ 0 → d / 128 ≡ 1
    → Names (d % 16) rest p → SpellsPart (bits_beside_ack d) rest p
control_is_spelled d rest p byte plain high names =
    inr (record { free = d / 32 % 2; in_one_bit = omega arith; code = d % 16; fields = omega arith; names = names })

-- the numbers of a header as they stand
abbrev pub number_at : List ℕ → ℕ → ℕ
number_at input i = 256 * get_or input i 0 + get_or input (i + 1) 0

abbrev pub long_at : List ℕ → ℕ → ℕ
long_at input i = four (get_or input i 0) (get_or input (i + 1) 0) (get_or input (i + 2) 0) (get_or input (i + 3) 0)

pub segment_is_spelled : (input : List ℕ) (p : Part) (ack : Bool) → InBytes input → 13 ≤ length input → ack
    ≡ (get_or input 12 0 / 64 % 2 == 1) → SpellsPart (bits_beside_ack (get_or input 12 0)) (drop 13 input) p →
    Spells input (record {
      source = number_at input 0;
      first = long_at input 2;
      next = long_at input 6;
      window = number_at input 10;
      ack = ack;
      body = p;
    })
segment_is_spelled (b0 ∷ b1 ∷ b2 ∷ b3 ∷ b4 ∷ b5 ∷ b6 ∷ b7 ∷ b8 ∷ b9 ∷ b10 ∷ b11 ∷ b12 ∷ more) p ack fits long asks
    says =
    let all : List ℕ = b0 ∷ b1 ∷ b2 ∷ b3 ∷ b4 ∷ b5 ∷ b6 ∷ b7 ∷ b8 ∷ b9 ∷ b10 ∷ b11 ∷ b12 ∷ more in
    let byte = fits 12 in
    let flag : bit ack ≡ b12 / 64 % 2 = ap bit asks ∙ bit-eqb (b12 / 64 % 2) (omega arith) in
    let descriptor : b12 ≡ 64 * bit ack + bits_beside_ack b12 = omega (arith, flag) in
    record {
      numbers = record {
        source = omega (arith, fits 0, fits 1);
        first = four-lt b2 b3 b4 b5 (fits 2) (fits 3) (fits 4) (fits 5);
        next = four-lt b6 b7 b8 b9 (fits 6) (fits 7) (fits 8) (fits 9);
        window = omega (arith, fits 10, fits 11);
      };
      bits = bits_beside_ack b12;
      rest = more;
      are_bytes = All-drop (λ b. b < 256) 13 all (bytes_of all fits);
      fields = λ i. sym (two_back b0 b1 (fits 0) (fits 1)) i ++ sym
          (four_back b2 b3 b4 b5 (fits 2) (fits 3) (fits 4) (fits 5)) i
          ++ sym (four_back b6 b7 b8 b9 (fits 6) (fits 7) (fits 8) (fits 9)) i ++ sym
          (two_back b10 b11 (fits 10) (fits 11)) i ++ (descriptor i ∷ []) ++ more;
      says = says;
    }
segment_is_spelled _ p ack fits long asks says = absurd (omega arith)

pub first_fault : (fault : AdspFault) (input : List ℕ) → 13 ≤ length input → get_or input 12 0 / 16 % 2 ≡ 0
    → IsPartFault fault (get_or input 12 0) (drop 13 input) → IsFirstFault fault input
first_fault ShortAdsp input long plain stands = inr (record { whole = long; plain = plain; stands = stands })
first_fault Attention input long plain stands = absurd stands.1.1
first_fault BadControl input long plain stands = record { whole = long; plain = plain; stands = stands }
first_fault BadVersion input long plain stands = record { whole = long; plain = plain; stands = stands }
first_fault AdspTooLong input long plain stands = record { whole = long; plain = plain; stands = stands }
first_fault NoMemory input long plain stands = record { whole = long; plain = plain; stands = stands }

-- ---- no bytes spell two segments

abbrev kind_of : ℕ → OpenKind
kind_of code = cond (code == 1) Request
    (cond (code == 2) Acknowledgement (cond (code == 3) RequestAndAcknowledgement Denial))

abbrev opened : OpenKind → List ℕ → Part
opened kind rest = Open kind (read_dest kind (number_at rest 2))

-- what a control code with what follows it says
abbrev part_from : ℕ → List ℕ → Part
part_from code rest = cond (code == 0) Probe
    (cond (code == 5) Close (cond (code == 6) Reset
    (cond (code == 7) ResetAck (cond (code == 8) Advice (opened (kind_of code) rest)))))

from_kind : (kind : OpenKind) (rest : List ℕ) → opened kind rest ≡ part_from (code_of kind) rest
from_kind Request rest = refl
from_kind Acknowledgement rest = refl
from_kind RequestAndAcknowledgement rest = refl
from_kind Denial rest = refl

field_there : (rest : List ℕ) (kind : OpenKind) (dest : ℕ) (s : SpellsOpening rest kind dest) → s.field
    ≡ number_at rest 2
field_there rest kind dest s =
    let at : (i : ℕ) → get_or rest i 0 ≡ get_or (opening s.field s.attention ++ s.more) i 0 =
    λ i. ap (λ (l : List ℕ). get_or l i 0) s.fields in
    let fits = s.field_fits in
    let high : get_or rest 2 0 ≡ s.field / 256 % 256 = at 2 in
    let low : get_or rest 3 0 ≡ s.field % 256 = at 3 in
    omega (arith, fits, high, low)

named : (code : ℕ) (rest : List ℕ) (p : Part) → Names code rest p → p ≡ part_from code rest
named code rest (Data end bytes) h = absurd h
named code rest Probe h = ap (λ c. part_from c rest) (sym h)
named code rest (Open kind dest) h =
    ap (λ d. Open kind d) (h.1.says ∙ ap (read_dest kind) (field_there rest kind dest h.1)) ∙ from_kind kind rest
    ∙ ap (λ c. part_from c rest) (sym h.0)
named code rest Close h = ap (λ c. part_from c rest) (sym h)
named code rest Reset h = ap (λ c. part_from c rest) (sym h)
named code rest ResetAck h = ap (λ c. part_from c rest) (sym h)
named code rest Advice h = ap (λ c. part_from c rest) (sym h)

pub code_small : (kind : OpenKind) → code_of kind ≤ 8
code_small Request = lit≤ tt
code_small Acknowledgement = lit≤ tt
code_small RequestAndAcknowledgement = lit≤ tt
code_small Denial = lit≤ tt

pub code_fits : (code : ℕ) (rest : List ℕ) (p : Part) → Names code rest p → code ≤ 8
code_fits code rest (Data end bytes) h = absurd h
code_fits code rest Probe h = omega (arith, h)
code_fits code rest (Open kind dest) h = omega (arith, h.0, code_small kind)
code_fits code rest Close h = omega (arith, h)
code_fits code rest Reset h = omega (arith, h)
code_fits code rest ResetAck h = omega (arith, h)
code_fits code rest Advice h = omega (arith, h)

one_part : (a a' : Bool) (bits bits' : ℕ) (rest rest' : List ℕ) (p q : Part) → 64 * bit a + bits ≡ 64 * bit a' + bits'
    → rest ≡ rest' → SpellsPart bits rest p → SpellsPart bits' rest' q → (a ≡ a') × (p ≡ q)
one_part a a' bits bits' rest rest' p q e same (inl x) (inl y) =
    let f = x.in_four_bits in
    let g = y.in_four_bits in
    let ack : bit a ≡ bit a' =
    omega (arith, e, x.fields, y.fields, f, g, bit-lt a, bit-lt a', bit-lt x.end, bit-lt y.end) in
    let end : bit x.end ≡ bit y.end =
    omega (arith, e, x.fields, y.fields, f, g, bit-lt a, bit-lt a', bit-lt x.end, bit-lt y.end) in
    (bit_inj a a' ack, x.says ∙ (λ i. Data (bit_inj x.end y.end end i) (same i)) ∙ sym y.says)
one_part a a' bits bits' rest rest' p q e same (inr x) (inr y) =
    let f = x.in_one_bit in
    let g = y.in_one_bit in
    let ack : bit a ≡ bit a' =
    omega (
      arith,
      e,
      x.fields,
      y.fields,
      f,
      g,
      bit-lt a,
      bit-lt a',
      code_fits x.code rest p x.names,
      code_fits
          y.code rest' q y.names,
    ) in
    let code : x.code ≡ y.code =
    omega (
      arith,
      e,
      x.fields,
      y.fields,
      f,
      g,
      bit-lt a,
      bit-lt a',
      code_fits x.code rest p x.names,
      code_fits
          y.code rest' q y.names,
    ) in (
      bit_inj a a' ack,
      named x.code rest p x.names ∙ (λ i. part_from (code i) (same i))
          ∙ sym (named y.code rest' q y.names),
    )
one_part a a' bits bits' rest rest' p q e same (inl x) (inr y) =
    let f = x.in_four_bits in
    absurd (omega (arith, e, x.fields, y.fields, f, bit-lt a, bit-lt a', bit-lt x.end))
one_part a a' bits bits' rest rest' p q e same (inr x) (inl y) =
    let f = y.in_four_bits in
    absurd (omega (arith, e, x.fields, y.fields, f, bit-lt a, bit-lt a', bit-lt y.end))

pub one_segment : (input : List ℕ) (s t : Content) → Spells input s → Spells input t → s ≡ t
one_segment input s t x y =
    let e = sym x.fields ∙ y.fields in
    let at : (i : ℕ) → get_or (header s (64 * bit s.ack + x.bits) ++ x.rest) i 0
    ≡ get_or (header t (64 * bit t.ack + y.bits) ++ y.rest) i 0 = λ i. ap (λ (l : List ℕ). get_or l i 0) e in
    let source = same_number s.source t.source x.numbers.source y.numbers.source (at 0) (at 1) in
    let first = same_four s.first t.first x.numbers.first y.numbers.first (at 2) (at 3) (at 4) (at 5) in
    let next = same_four s.next t.next x.numbers.next y.numbers.next (at 6) (at 7) (at 8) (at 9) in
    let window = same_number s.window t.window x.numbers.window y.numbers.window (at 10) (at 11) in
    let both = one_part s.ack t.ack x.bits y.bits x.rest y.rest s.body t.body (at 12) (ap (drop 13) e) x.says y.says in
    λ i. record {
      source = source i;
      first = first i;
      next = next i;
      window = window i;
      ack = both.0 i;
      body = both.1 i;
    }
