-- Packets in bytes: an input begins with one packet, or has one first fault.
use Rattle.std.proofs.Common.{◌≡◌, inl, inr, ℕ, suc, zero, ◌+◌, ◌*◌, ◌/◌, ◌%◌, ◌<◌, ◌≤◌, List, [], ◌∷◌, ◌++◌, length}
use Rattle.std.proofs.Common.{get_or, drop, Result, Ok, Err, Bor, refl, sym, ap, subst, ◌∙◌, append_assoc, append-nil}
use Rattle.std.proofs.Common.{arith}
use Rattle.std.specs.Prelude.{All, IfOk, IfErr, IsOkAnd, IsErrOf}
use Rattle.std.specs.List.{flat_map}
use Rattle.at_nbp.specs.Fault.{IsTupleFault, IsFirstFault, StandsAfterTuples, StandsInTuples, HasFunction, HasBadCount}
use Rattle.at_nbp.specs.Fault.{HasNoFunction}
use Rattle.at_nbp.specs.Packets.{Content, IsLawful, HasCount, BeginsWith, code, spelling}
use Rattle.at_nbp.specs.Tuples.{Entry, IsTuple, tuple_spelling}
use Rattle.at_nbp.specs.declared.fault.NbpFault.{NbpFault}
use Rattle.at_nbp.specs.declared.fault.NbpFault.TheVariants.{ShortNbp, BadNbpFunction, BadCount, BadString}
use Rattle.at_nbp.specs.declared.function.Function.{Function}
use Rattle.at_nbp.specs.declared.function.Function.TheVariants.{BroadcastRequest, LookUp, Reply, ForwardRequest}
use Rattle.at_nbp.proofs.CodeLemmas.{same_fronts, no_bad_before, same_bad}
use Rattle.at_nbp.proofs.TupleLemmas.{HasTupleFault, tuples, one_tuple_fault}

-- ---- headers

-- the function with a number; any other number stands for the last
abbrev function_of : ℕ → Function
function_of (suc zero) = BroadcastRequest
function_of (suc (suc zero)) = LookUp
function_of (suc (suc (suc zero))) = Reply
function_of _ = ForwardRequest

function_of_code : (f : Function) → function_of (code f) ≡ f
function_of_code BroadcastRequest = refl
function_of_code LookUp = refl
function_of_code Reply = refl
function_of_code ForwardRequest = refl

same_function : (f g : Function) → code f ≡ code g → f ≡ g
same_function f g e = sym (function_of_code f) ∙ ap function_of e ∙ function_of_code g

pub count_fits : (f : Function) (count : ℕ) → HasCount f count → count < 16
count_fits Reply count h = omega (arith, h)
count_fits BroadcastRequest count h = omega (arith, h)
count_fits LookUp count h = omega (arith, h)
count_fits ForwardRequest count h = omega (arith, h)

first_of : (a b c d : ℕ) (xs ys : List ℕ) → a ∷ b ∷ xs ≡ c ∷ d ∷ ys → (a ≡ c) × ((b ≡ d) × (xs ≡ ys))
first_of a b c d xs ys e = (cc, (cc, cc))

-- an input has one header
same_header : (input : List ℕ) (f g : Function) (m n i j : ℕ) (xs ys : List ℕ) → HasFunction input f m i xs
    → HasFunction input g n j ys →
    (f ≡ g) × ((m ≡ n) × ((i ≡ j) × (xs ≡ ys)))
same_header input f g m n i j xs ys h k =
    let parts = first_of (16 * code f + m) i (16 * code g + n) j xs ys (sym h.header ∙ k.header) in
    let first : 16 * code f + m ≡ 16 * code g + n = parts.0 in
    let codes : code f ≡ code g = omega (arith, first, h.fits, k.fits) in
    (same_function f g codes, (omega (arith, first, codes), (parts.1.0, parts.1.1)))

header_of : (input : List ℕ) (p : Content) (rest : List ℕ) → BeginsWith input p rest
    → HasFunction input p.function (length p.tuples) p.id (flat_map tuple_spelling p.tuples ++ rest)
unfolding spelling
header_of input p rest b = record { fits = count_fits p.function (length p.tuples) b.lawful.count; header = b.follows }

has_header : (input : List ℕ) (f : Function) (n i : ℕ) (xs : List ℕ) → HasFunction input f n i xs → 2 ≤ length input
has_header input f n i xs h = omega (arith, ap (length {A = ℕ}) h.header)

-- ---- one packet

pub one_packet : (input : List ℕ) (p q : Content) (rest other : List ℕ) → BeginsWith input p rest
    → BeginsWith input q other → (p ≡ q) × (rest ≡ other)
one_packet input p q rest other b c =
    let heads = same_header input p.function q.function (length p.tuples) (length q.tuples) p.id q.id _ _
    (header_of input p rest b) (header_of input q other c) in
    let lists = same_fronts tuple_spelling IsTuple HasTupleFault tuples p.tuples q.tuples rest other b.lawful.each
    c.lawful.each heads.1.0 heads.1.1.1 in
    ((λ i. record { function = heads.0 i; id = heads.1.1.0 i; tuples = lists.0 i }), lists.1)

pub is_written : (p : Content) (rest : List ℕ) → IsLawful p → BeginsWith (spelling p ++ rest) p rest
is_written p rest ok = record { lawful = ok; follows = refl }

pub begins_none : (p q : Content) (rest : List ℕ) → IsLawful p → IsLawful q → spelling p ≡ spelling q ++ rest → (p ≡ q)
    × (rest ≡ [])
begins_none p q rest ok ok' e =
    let same = one_packet (spelling p) p q [] rest (record { lawful = ok; follows = sym (append-nil (spelling p)) })
    (record { lawful = ok'; follows = e }) in
    (same.0, sym same.1)

-- ---- no fault in a packet

no_fault_in_tuples : (fault : NbpFault) (input : List ℕ) (p : Content) (rest : List ℕ) → BeginsWith input p rest
    → ¬ StandsInTuples fault input
no_fault_in_tuples fault input p rest b h =
    let heads = same_header input h.function p.function h.count (length p.tuples) h.id p.id h.bytes _ h.named
    (header_of input p rest b) in
    let s = h.stands in
    no_bad_before tuple_spelling IsTuple HasTupleFault tuples s.tuples p.tuples s.rest rest s.each b.lawful.each
    (omega (arith, s.fewer, heads.1.0))
    (sym s.follows ∙ heads.1.1.1) (fault, s.stands)

pub no_fault : (input : List ℕ) (p : Content) (rest : List ℕ) → BeginsWith input p rest → (fault : NbpFault)
    → ¬ IsFirstFault fault input
no_fault input p rest b ShortNbp h = elim h [
  | inl short ↦ omega (arith, short, has_header input p.function (length p.tuples) p.id _ (header_of input p rest b))
  | inr stands ↦ no_fault_in_tuples ShortNbp input p rest b stands
]
no_fault input p rest b BadNbpFunction h =
    h.none p.function (length p.tuples) p.id (flat_map tuple_spelling p.tuples ++ rest) (header_of input p rest b)
no_fault input p rest b BadCount h =
    let heads = same_header input h.function p.function h.count (length p.tuples) h.id p.id h.bytes _ h.named
    (header_of input p rest b) in
    h.bad (subst (λ f. HasCount f h.count) (sym heads.0) (subst (HasCount p.function) (sym heads.1.0) b.lawful.count))
no_fault input p rest b BadString h = no_fault_in_tuples BadString input p rest b h
no_fault input p rest b _ h = h

-- ---- one fault

one_in_tuples : (fault other : NbpFault) (input : List ℕ) → StandsInTuples fault input → StandsInTuples other input
    → fault ≡ other
one_in_tuples fault other input h k =
    let heads = same_header input h.function k.function h.count k.count h.id k.id h.bytes k.bytes h.named k.named in
    let s = h.stands in
    let t = k.stands in
    let rest : s.rest ≡ t.rest =
    same_bad tuple_spelling IsTuple HasTupleFault tuples s.tuples t.tuples s.rest t.rest s.each t.each
    (fault, s.stands) (other, t.stands)
    (sym s.follows ∙ heads.1.1.1 ∙ t.follows) in
    one_tuple_fault fault other t.rest (subst (IsTupleFault fault) rest s.stands) t.stands

pub named_or_none : (input : List ℕ) (f : Function) (n i : ℕ) (xs : List ℕ) → HasFunction input f n i xs
    → ¬ HasNoFunction input
named_or_none input f n i xs h none = none.none f n i xs h

one_count : (fault : NbpFault) (input : List ℕ) → StandsInTuples fault input → ¬ HasBadCount input
one_count fault input h k =
    let heads = same_header input h.function k.function h.count k.count h.id k.id h.bytes k.bytes h.named k.named in
    k.bad (subst (λ f. HasCount f k.count) heads.0 (subst (HasCount h.function) heads.1.0 h.counted))

not_short : (input : List ℕ) → length input < 2 → 2 ≤ length input → ⊥
not_short input short long = omega (arith, short, long)

named_long : (fault : NbpFault) (input : List ℕ) → StandsInTuples fault input → 2 ≤ length input
named_long fault input h = has_header input h.function h.count h.id h.bytes h.named

counted_long : (input : List ℕ) → HasBadCount input → 2 ≤ length input
counted_long input h = has_header input h.function h.count h.id h.bytes h.named

-- a fault beside one of a header that is too short
short_alone : (other : NbpFault) (input : List ℕ) → length input < 2 → IsFirstFault other input → ShortNbp ≡ other
short_alone ShortNbp input short k = refl
short_alone BadNbpFunction input short k = absurd (not_short input short k.whole)
short_alone BadCount input short k = absurd (not_short input short (counted_long input k))
short_alone BadString input short k = absurd (not_short input short (named_long BadString input k))
short_alone _ input short k = absurd k

-- a fault beside one in a tuple
in_tuples_alone : (fault other : NbpFault) (input : List ℕ) → StandsInTuples fault input → IsFirstFault other input
    → fault ≡ other
in_tuples_alone fault ShortNbp input h k = elim k [
  | inl short ↦ absurd (not_short input short (named_long fault input h))
  | inr stands ↦ one_in_tuples fault ShortNbp input h stands
]
in_tuples_alone fault BadNbpFunction input h k = absurd (named_or_none input h.function h.count h.id h.bytes h.named k)
in_tuples_alone fault BadCount input h k = absurd (one_count fault input h k)
in_tuples_alone fault BadString input h k = one_in_tuples fault BadString input h k
in_tuples_alone fault _ input h k = absurd k

pub one_fault : (fault other : NbpFault) (input : List ℕ) → IsFirstFault fault input → IsFirstFault other input → fault
    ≡ other
one_fault ShortNbp other input h k =
    elim h [ inl short ↦ short_alone other input short k | inr stands ↦ in_tuples_alone ShortNbp other input stands k ]
one_fault BadString other input h k = in_tuples_alone BadString other input h k
one_fault BadNbpFunction ShortNbp input h k = elim k [
  | inl short ↦ absurd (not_short input short h.whole)
  | inr stands ↦ absurd (named_or_none input stands.function stands.count stands.id stands.bytes stands.named h)
]
one_fault BadNbpFunction BadNbpFunction input h k = refl
one_fault BadNbpFunction BadCount input h k = absurd (named_or_none input k.function k.count k.id k.bytes k.named h)
one_fault BadNbpFunction BadString input h k = absurd (named_or_none input k.function k.count k.id k.bytes k.named h)
one_fault BadNbpFunction _ input h k = absurd k
one_fault BadCount ShortNbp input h k = elim k [
  | inl short ↦ absurd (not_short input short (counted_long input h))
  | inr stands ↦ absurd (one_count ShortNbp input stands h)
]
one_fault BadCount BadNbpFunction input h k = absurd (named_or_none input h.function h.count h.id h.bytes h.named k)
one_fault BadCount BadCount input h k = refl
one_fault BadCount BadString input h k = absurd (one_count BadString input k h)
one_fault BadCount _ input h k = absurd k
one_fault _ other input h k = absurd h

-- ---- what a header says

-- the function and the number of tuples that the first byte names
pub has_function : (input : List ℕ) (f : Function) (high low : ℕ) → 2 ≤ length input → high ≡ get_or input 0 0 / 16
    → low ≡ get_or input 0 0 % 16 → high ≡ code f →
    HasFunction input f low (get_or input 1 0) (drop 2 input)
has_function (first ∷ id ∷ bytes) f high low whole is_high is_low named =
    let parts : first ≡ 16 * code f + low = omega (arith, is_high, is_low, named) in
    record { fits = omega (arith, is_low); header = λ i. parts i ∷ id ∷ bytes }
has_function _ f high low whole is_high is_low named = absurd (omega (arith, whole))

pub begins_with : (input bytes rest : List ℕ) (f : Function) (count id : ℕ) (entries : List Entry)
    → HasFunction input f count id bytes → HasCount f count → id < 256 → All IsTuple entries →
    length entries ≡ count → bytes ≡ flat_map tuple_spelling entries ++ rest
    → BeginsWith input (record { function = f; id = id; tuples = entries }) rest
unfolding spelling
begins_with input bytes rest f count id entries h counted in_byte each len follows = record {
  lawful = record { id = in_byte; count = subst (HasCount f) (sym len) counted; each = each };
  follows = h.header ∙ (λ i. (16 * code f + sym len i) ∷ id ∷ follows i);
}

pub first_in_tuples : (fault : NbpFault) (input bytes : List ℕ) (f : Function) (count id : ℕ)
    → HasFunction input f count id bytes → HasCount f count → StandsAfterTuples fault count bytes →
    IsFirstFault fault input
first_in_tuples ShortNbp input bytes f count id h counted s = inr
    (record { function = f; count = count; id = id; bytes = bytes; named = h; counted = counted; stands = s })
first_in_tuples BadString input bytes f count id h counted s =
    record { function = f; count = count; id = id; bytes = bytes; named = h; counted = counted; stands = s }
first_in_tuples _ input bytes f count id h counted s = absurd s.stands

-- ---- what a call answers

-- the packet that stands there is read
pub only_packet : (P : Type 0) (content : P → Content) (r : Result (P × Bor (List ℕ)) NbpFault) (input : List ℕ)
    → IfOk r (λ x. BeginsWith input (content x.0) x.1.now) →
    IfErr r (λ fault. IsFirstFault fault input) → (p : Content) (rest : List ℕ) → BeginsWith input p rest
    → IsOkAnd r (λ x. (content x.0 ≡ p) × (x.1.now ≡ rest))
only_packet P content (Ok x) input found fault p rest b = one_packet input (content x.0) p x.1.now rest found b
only_packet P content (Err e) input found fault p rest b = absurd (no_fault input p rest b e fault)

-- an input with a fault is refused
pub refused : (P : Type 0) (content : P → Content) (r : Result (P × Bor (List ℕ)) NbpFault) (input : List ℕ)
    → IfOk r (λ x. BeginsWith input (content x.0) x.1.now) →
    IfErr r (λ fault. IsFirstFault fault input) → (fault : NbpFault) → IsFirstFault fault input → IsErrOf r fault
refused P content (Ok x) input found fault other h = absurd (no_fault input (content x.0) x.1.now found other h)
refused P content (Err e) input found fault other h = ap (λ (f : NbpFault). Err f) (one_fault e other input fault h)

-- ---- what is written

pub length_spelling : (p : Content) → length (spelling p) ≡ 2 + length (flat_map tuple_spelling p.tuples)
unfolding spelling
length_spelling p = omega arith

-- the header and the tuples are the packet
pub is_spelling : (old first second items : List ℕ) (f : Function) (count id : ℕ) (entries : List Entry) → first
    ≡ old ++ (code f * 16 + count) ∷ [] → second ≡ first ++ id ∷ [] →
    items ≡ second ++ flat_map tuple_spelling entries → count ≡ length entries → items
    ≡ old ++ spelling (record { function = f; id = id; tuples = entries })
unfolding spelling
is_spelling old first second items f count id entries one two all is =
    let head : code f * 16 + count ≡ 16 * code f + length entries = omega (arith, is) in
    let front : second ≡ old ++ (16 * code f + length entries) ∷ id ∷ [] =
    two ∙ ap (λ l. l ++ id ∷ []) (one ∙ ap (λ n. old ++ n ∷ []) head)
    ∙ append_assoc old ((16 * code f + length entries) ∷ []) (id ∷ []) in
    all ∙ ap (λ l. l ++ flat_map tuple_spelling entries) front
    ∙ append_assoc old ((16 * code f + length entries) ∷ id ∷ []) (flat_map tuple_spelling entries)
