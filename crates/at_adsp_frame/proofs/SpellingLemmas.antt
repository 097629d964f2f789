-- What is spelled has no fault, and what is written is spelled and fits a datagram.
use Rattle.std.proofs.Common.{lit<, lit≤, ◌≡◌, inl, inr, ℕ, zero, suc, ◌+◌, ◌-◌, ◌*◌, ◌/◌, ◌%◌, ◌^◌, ◌<◌, ◌≤◌, Bool}
use Rattle.std.proofs.Common.{List, [], ◌∷◌, ◌++◌, length, get_or, take, drop, refl}
use Rattle.std.proofs.Common.{sym, ap, subst, ◌∙◌, arith}
use Rattle.std.specs.Prelude.{bit_and}
use Rattle.std.specs.Int.{to_be_bytes, w16, w32}
use Rattle.std.proofs.Math.Nat.{add-zero}
use Rattle.std.proofs.lemmas.List.{append-nil, get_or-drop, take_rest}
use Rattle.byteorder.specs.Endian.{big_number}
use Rattle.std.proofs.lemmas.List.Elements.{All-nil, All-cons, All-replicate}
use Rattle.std.proofs.lemmas.Nat.{pow_pos}
use Rattle.std.proofs.lemmas.Nat.Bits.{and_pow}
use Rattle.at_ddp.specs.Datagram.{AreBytes}
use Rattle.at_ddp.proofs.BitLemmas.{bit-lt}
use Rattle.at_ddp.specs.Bits.{bit}
use Rattle.at_adsp_frame.specs.Fault.{IsFirstFault, IsPartFault, IsControlFault, IsOpening, IsOpeningFault}
use Rattle.at_adsp_frame.specs.Fault.{StandsBehindHeader}
use Rattle.at_adsp_frame.specs.Openings.{SpellsOpening, code_of, opening, read_dest}
use Rattle.at_adsp_frame.specs.Segments.{Content, Part, Data, Probe, Open, Close, Reset, ResetAck, Advice, IsLawful}
use Rattle.at_adsp_frame.specs.Segments.{IsLawfulPart, Names, Spells, SpellsPart, bits_of, fields_of, spelled}
use Rattle.at_adsp_frame.specs.declared.fault.AdspFault.{AdspFault}
use Rattle.at_adsp_frame.specs.declared.fault.AdspFault.TheVariants.{ShortAdsp, BadControl, BadVersion, Attention}
use Rattle.at_adsp_frame.specs.declared.fault.AdspFault.TheVariants.{AdspTooLong, NoMemory}
use Rattle.at_adsp_frame.specs.declared.segment.OpenKind.{OpenKind}
use Rattle.at_adsp_frame.proofs.SegmentLemmas.{four, long_at, code_small, code_fits}

opening_long : (rest : List ℕ) (kind : OpenKind) (dest : ℕ) (s : SpellsOpening rest kind dest) → (8 ≤ length rest)
    × (take 2 rest ≡ 1 ∷ 0 ∷ [])
opening_long rest kind dest s = (let len = ap (length {A = ℕ}) s.fields in omega (arith, len), ap (take 2) s.fields)

no_opening_fault : (code : ℕ) (rest : List ℕ) (p : Part) → Names code rest p → IsOpening code → (fault : AdspFault)
    → IsOpeningFault fault rest → ⊥
no_opening_fault code rest (Data end bytes) h is fault f = absurd h
no_opening_fault code rest (Open kind dest) h is ShortAdsp f = let long = (opening_long rest kind dest h.1).0 in
    omega (arith, f, long)
no_opening_fault code rest (Open kind dest) h is BadVersion f = f.1 (opening_long rest kind dest h.1).1
no_opening_fault code rest (Open kind dest) h is BadControl f = f
no_opening_fault code rest (Open kind dest) h is Attention f = f
no_opening_fault code rest (Open kind dest) h is AdspTooLong f = f
no_opening_fault code rest (Open kind dest) h is NoMemory f = f
no_opening_fault code rest Probe h is fault f = let low = is.least in omega (arith, h, low)
no_opening_fault code rest Close h is fault f = let high = is.most in omega (arith, h, high)
no_opening_fault code rest Reset h is fault f = let high = is.most in omega (arith, h, high)
no_opening_fault code rest ResetAck h is fault f = let high = is.most in omega (arith, h, high)
no_opening_fault code rest Advice h is fault f = let high = is.most in omega (arith, h, high)

no_control_fault : (code : ℕ) (rest : List ℕ) (p : Part) → Names code rest p → (fault : AdspFault)
    → IsControlFault fault code rest → ⊥
no_control_fault code rest p h BadControl f = let fits = code_fits code rest p h in omega (arith, fits, f)
no_control_fault code rest p h ShortAdsp f = no_opening_fault code rest p h f.0 ShortAdsp f.1
no_control_fault code rest p h BadVersion f = no_opening_fault code rest p h f.0 BadVersion f.1
no_control_fault code rest p h Attention f = f.1
no_control_fault code rest p h AdspTooLong f = f.1
no_control_fault code rest p h NoMemory f = f.1

-- the control bit and the code of a descriptor that spells a control packet
bits_back : (a : Bool) (bits free code : ℕ) → free < 2 → code ≤ 8 → bits ≡ 128 + 32 * free + code
    → ((64 * bit a + bits) / 128 ≡ 1) × ((64 * bit a + bits) % 16 ≡ code) × ((64 * bit a + bits) / 16 % 2 ≡ 0)
bits_back a bits free code f c is =
    (omega (arith, is, bit-lt a), omega (arith, is, bit-lt a), omega (arith, is, bit-lt a))

data_back : (a end : Bool) (bits free : ℕ) → free < 16 → bits ≡ 32 * bit end + free → ((64 * bit a + bits) / 128 ≡ 0)
    × ((64 * bit a + bits) / 16 % 2 ≡ 0)
data_back a end bits free f is = (omega (arith, is, bit-lt a, bit-lt end), omega (arith, is, bit-lt a, bit-lt end))

no_part_fault : (a : Bool) (bits : ℕ) (rest : List ℕ) (p : Part) → SpellsPart bits rest p → (fault : AdspFault)
    → IsPartFault fault (64 * bit a + bits) rest → ⊥
no_part_fault a bits rest p (inr x) AdspTooLong f =
    let b = bits_back a bits x.free x.code x.in_one_bit (code_fits x.code rest p x.names) x.fields in
    omega (arith, b.0, f.0)
no_part_fault a bits rest p (inr x) ShortAdsp f =
    let b = bits_back a bits x.free x.code x.in_one_bit (code_fits x.code rest p x.names) x.fields in
    no_control_fault x.code rest p x.names ShortAdsp (subst (λ c. IsControlFault ShortAdsp c rest) b.1 f.1)
no_part_fault a bits rest p (inr x) BadControl f =
    let b = bits_back a bits x.free x.code x.in_one_bit (code_fits x.code rest p x.names) x.fields in
    no_control_fault x.code rest p x.names BadControl (subst (λ c. IsControlFault BadControl c rest) b.1 f.1)
no_part_fault a bits rest p (inr x) BadVersion f =
    let b = bits_back a bits x.free x.code x.in_one_bit (code_fits x.code rest p x.names) x.fields in
    no_control_fault x.code rest p x.names BadVersion (subst (λ c. IsControlFault BadVersion c rest) b.1 f.1)
no_part_fault a bits rest p (inr x) Attention f = f.1.1
no_part_fault a bits rest p (inr x) NoMemory f = f.1.1
no_part_fault a bits rest p (inl x) AdspTooLong f = let fits = x.fits in omega (arith, fits, f.1)
no_part_fault a bits rest p (inl x) ShortAdsp f = let b = data_back a x.end bits x.free x.in_four_bits x.fields in
    omega (arith, b.0, f.0)
no_part_fault a bits rest p (inl x) BadControl f = let b = data_back a x.end bits x.free x.in_four_bits x.fields in
    omega (arith, b.0, f.0)
no_part_fault a bits rest p (inl x) BadVersion f = let b = data_back a x.end bits x.free x.in_four_bits x.fields in
    omega (arith, b.0, f.0)
no_part_fault a bits rest p (inl x) Attention f = f.1.1
no_part_fault a bits rest p (inl x) NoMemory f = f.1.1

plain_bit : (a : Bool) (bits : ℕ) (rest : List ℕ) (p : Part) → SpellsPart bits rest p → (64 * bit a + bits) / 16 % 2 ≡ 0
plain_bit a bits rest p (inl x) = (data_back a x.end bits x.free x.in_four_bits x.fields).1
plain_bit a bits rest p (inr x) =
    (bits_back a bits x.free x.code x.in_one_bit (code_fits x.code rest p x.names) x.fields).2

pub no_fault : (input : List ℕ) (s : Content) → Spells input s → (fault : AdspFault) → ¬ IsFirstFault fault input
no_fault input s x fault h = go fault h
  where
    d : ℕ
    d = 64 * bit s.ack + x.bits

    there : get_or input 12 0 ≡ 64 * bit s.ack + x.bits
    there = ap (λ (l : List ℕ). get_or l 12 0) x.fields

    behind : drop 13 input ≡ x.rest
    behind = ap (drop 13) x.fields

    long : length input ≡ 13 + length x.rest
    long = let len = ap (length {A = ℕ}) x.fields in omega (arith, len)

    stands : (fault : AdspFault) → StandsBehindHeader fault input → ⊥
    stands fault h = no_part_fault s.ack x.bits x.rest s.body x.says fault
        (subst (IsPartFault fault (64 * bit s.ack + x.bits)) behind
        (subst (λ n. IsPartFault fault n (drop 13 input)) there h.stands))

    go : (fault : AdspFault) → IsFirstFault fault input → ⊥
    go ShortAdsp (inl h) = omega (arith, long, h)
    go ShortAdsp (inr h) = stands ShortAdsp h
    go Attention h = let plain = plain_bit s.ack x.bits x.rest s.body x.says in let set = ap (λ n. n / 16 % 2) there in
        omega (arith, plain, set, h.1)
    go BadControl h = stands BadControl h
    go BadVersion h = stands BadVersion h
    go AdspTooLong h = stands AdspTooLong h
    go NoMemory h = stands NoMemory h

-- ---- what is written is spelled, and fits a datagram

control_written : (rest : List ℕ) (code : ℕ) (p : Part) → Names code rest p → SpellsPart (128 + code) rest p
control_written rest code p names = inr
    (record { free = 0; in_one_bit = lit< tt; code = code; fields = omega arith; names = names })

part_written : (p : Part) → IsLawfulPart p → SpellsPart (bits_of p) (fields_of p) p
part_written (Data end bytes) ok = inl
    (record { end = end; free = 0; in_four_bits = lit< tt; fields = omega arith; says = refl; fits = ok.1 })
part_written Probe ok = control_written [] 0 Probe refl
part_written (Open kind dest) ok =
    control_written (opening (read_dest kind dest) 0) (code_of kind) (Open kind dest) (
      refl,
      record {
        field = read_dest kind dest;
        field_fits = subst (λ n. n < 2 ^ 16) ok.1 ok.0;
        says = ok.1 ∙ ap (read_dest kind) ok.1;
        attention = 0;
        attention_fits = lit< tt;
        more = [];
        fields = sym (append-nil (opening (read_dest kind dest) 0));
      },
    )
part_written Close ok = control_written [] 5 Close refl
part_written Reset ok = control_written [] 6 Reset refl
part_written ResetAck ok = control_written [] 7 ResetAck refl
part_written Advice ok = control_written [] 8 Advice refl

opening_bytes : (dest : ℕ) → AreBytes (opening dest 0)
opening_bytes dest =
    let b : ℕ → Type 0 = λ n. n < 256 in
    let zeros = All-replicate (λ n. n < 256) 4 0 (lit< tt) in
    All-cons (λ n. n < 256) 1 (0 ∷ dest / 256 % 256 ∷ dest % 256 ∷ 0 ∷ 0 ∷ 0 ∷ 0 ∷ []) (lit< tt)
    (All-cons (λ n. n < 256) 0 (dest / 256 % 256 ∷ dest % 256 ∷ 0 ∷ 0 ∷ 0 ∷ 0 ∷ []) (lit< tt)
    (All-cons (λ n. n < 256) (dest / 256 % 256) (dest % 256 ∷ 0 ∷ 0 ∷ 0 ∷ 0 ∷ []) (omega arith)
    (All-cons (λ n. n < 256) (dest % 256) (0 ∷ 0 ∷ 0 ∷ 0 ∷ []) (omega arith) zeros)))

fields_bytes : (p : Part) → IsLawfulPart p → AreBytes (fields_of p) × (length (fields_of p) ≤ 572)
fields_bytes (Data end bytes) ok = ok
fields_bytes Probe ok = (All-nil (λ n. n < 256), lit≤ tt)
fields_bytes (Open kind dest) ok = (opening_bytes (read_dest kind dest), lit≤ tt)
fields_bytes Close ok = (All-nil (λ n. n < 256), lit≤ tt)
fields_bytes Reset ok = (All-nil (λ n. n < 256), lit≤ tt)
fields_bytes ResetAck ok = (All-nil (λ n. n < 256), lit≤ tt)
fields_bytes Advice ok = (All-nil (λ n. n < 256), lit≤ tt)

bits_small : (p : Part) → bits_of p ≤ 136
bits_small (Data end bytes) = omega (arith, bit-lt end)
bits_small Probe = lit≤ tt
bits_small (Open kind dest) = omega (arith, code_small kind)
bits_small Close = lit≤ tt
bits_small Reset = lit≤ tt
bits_small ResetAck = lit≤ tt
bits_small Advice = lit≤ tt

pub written_is_read : (s : Content) → IsLawful s → Spells (spelled s) s
unfolding spelled
written_is_read s ok = record {
  numbers = ok.numbers;
  bits = bits_of s.body;
  rest = fields_of s.body;
  are_bytes = (fields_bytes s.body ok.body).0;
  fields = refl;
  says = part_written s.body ok.body;
}

long_bytes : (n : ℕ) (more : List ℕ) → AreBytes more → AreBytes (to_be_bytes w32 n ++ more)
long_bytes n more ok =
    All-cons (λ b. b < 256) (n / 16777216 % 256) (n / 65536 % 256 ∷ n / 256 % 256 ∷ n % 256 ∷ more) (omega arith)
    (All-cons (λ b. b < 256) (n / 65536 % 256) (n / 256 % 256 ∷ n % 256 ∷ more) (omega arith)
    (All-cons (λ b. b < 256) (n / 256 % 256) (n % 256 ∷ more) (omega arith)
    (All-cons (λ b. b < 256) (n % 256) more (omega arith) ok)))

short_bytes : (n : ℕ) (more : List ℕ) → AreBytes more → AreBytes (to_be_bytes w16 n ++ more)
short_bytes n more ok = All-cons (λ b. b < 256) (n / 256 % 256) (n % 256 ∷ more) (omega arith)
    (All-cons (λ b. b < 256) (n % 256) more (omega arith) ok)

pub written_fits : (s : Content) → IsLawful s → AreBytes (spelled s) × (length (spelled s) ≤ 586)
unfolding spelled
written_fits s ok =
    let fields = fields_bytes s.body ok.body in
    let descriptor : 64 * bit s.ack + bits_of s.body < 256 = omega (arith, bit-lt s.ack, bits_small s.body) in
    let last = (64 * bit s.ack + bits_of s.body) ∷ fields_of s.body in
    let window = to_be_bytes w16 s.window ++ last in
    let next = to_be_bytes w32 s.next ++ window in
    let tail = All-cons (λ b. b < 256) (64 * bit s.ack + bits_of s.body) (fields_of s.body) descriptor fields.0 in (
      short_bytes s.source (to_be_bytes w32 s.first ++ next)
          (long_bytes s.first next (long_bytes s.next window (short_bytes s.window last tail))),
      omega (arith, fields.1),
    )

pub spelled_length : (s : Content) → length (spelled s) ≡ 13 + length (fields_of s.body)
unfolding spelled
spelled_length s = omega arith

-- ---- bits that are set

pub set_bit : (n k : ℕ) → (bit_and n (2 ^ k) ≡ 0 → ⊥) → n / 2 ^ k % 2 ≡ 1
set_bit n k some = go (n / 2 ^ k % 2) refl (and_pow n k)
  where
    go : (b : ℕ) → n / 2 ^ k % 2 ≡ b → bit_and n (2 ^ k) ≡ n / 2 ^ k % 2 * 2 ^ k → n / 2 ^ k % 2 ≡ 1
    go zero e is = let none : 0 * 2 ^ k ≡ 0 = omega arith in absurd (some (is ∙ ap (λ b. b * 2 ^ k) e ∙ none))
    go (suc zero) e is = e
    go (suc (suc b)) e is = absurd (omega (arith, e))

pub unset_bit : (n k : ℕ) → bit_and n (2 ^ k) ≡ 0 → n / 2 ^ k % 2 ≡ 0
unset_bit n k none = go (n / 2 ^ k % 2) refl (and_pow n k)
  where
    go : (b : ℕ) → n / 2 ^ k % 2 ≡ b → bit_and n (2 ^ k) ≡ n / 2 ^ k % 2 * 2 ^ k → n / 2 ^ k % 2 ≡ 0
    go zero e is = e
    go (suc b) e is = let high : n / 2 ^ k % 2 ≡ 1 = omega (arith, e) in let one : 1 * 2 ^ k
        ≡ 2 ^ k = omega arith in let some = pow_pos k in let all : 2 ^ k ≡ 0 = sym one ∙ ap (λ c. c * 2 ^ k) (sym high)
        ∙ sym is ∙ none in absurd (omega (arith, all, some))

-- the number that `read_u32` returns at a place
pub long_in : (i : ℕ) (input : List ℕ) (n : ℕ) → n ≡ big_number 4 (take (length input - i) (drop i input)) → n
    ≡ long_at input i
unfolding four
long_in i input n e =
    let first : get_or (drop i input) 0 0 ≡ get_or input i 0 = rw (get_or-drop i input 0 0, add-zero i) refl in
    let second : get_or (drop i input) 1 0 ≡ get_or input (i + 1) 0 = get_or-drop i input 1 0 in
    let third : get_or (drop i input) 2 0 ≡ get_or input (i + 2) 0 = get_or-drop i input 2 0 in
    let fourth : get_or (drop i input) 3 0 ≡ get_or input (i + 3) 0 = get_or-drop i input 3 0 in
    let whole : n ≡ big_number 4 (drop i input) = e ∙ ap (big_number 4) (take_rest input i) in
    omega arith
