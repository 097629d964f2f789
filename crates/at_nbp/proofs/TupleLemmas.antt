-- Strings and tuples in bytes: no spelling of one begins another, and one fault at most stands at a place.
use Rattle.std.proofs.Common.{◌≡◌, inl, inr, ℕ, ◌+◌, ◌*◌, ◌/◌, ◌%◌, ◌<◌, ◌≤◌, List, [], ◌∷◌, ◌++◌, length, get_or, take}
use Rattle.std.proofs.Common.{drop, refl, sym, ap, subst, ◌∙◌, arith, rules}
use Rattle.std.specs.List.{flat_map}
use Rattle.std.proofs.lemmas.List.{length-append, length-take-le, take-append-drop}
use Rattle.std.proofs.lemmas.List.Elements.{All-take, All-tail}
use Rattle.at_ddp.specs.Datagram.{AreBytes}
use Rattle.at_ddp.proofs.Octets.{InBytes, bytes_of, append_parts, same_number, high_byte, low_byte, head_of, tail_of}
use Rattle.at_ddp.specs.Fault.{number_at}
use Rattle.at_nbp.specs.Fault.{IsBadString, IsTupleFault}
use Rattle.at_nbp.specs.Tuples.{Entry, IsString, IsTuple, strings_of, string_spelling, tuple_spelling}
use Rattle.at_nbp.specs.declared.fault.NbpFault.{NbpFault}
use Rattle.at_nbp.specs.declared.fault.NbpFault.TheVariants.{ShortNbp, BadString}
use Rattle.at_nbp.proofs.CodeLemmas.{IsCode, flat_front, same_fronts, no_bad_before}

-- ---- strings

same_string : (a b x y : List ℕ) → IsString a → IsString b → string_spelling a ++ x ≡ string_spelling b ++ y → (a ≡ b)
    × (x ≡ y)
same_string a b x y ok ok' e = append_parts a b x y (head_of (length a) (length b) (a ++ x) (b ++ y) e)
    (tail_of (length a) (length b) (a ++ x) (b ++ y) e)

string_whole : (text rest : List ℕ) → IsString text → ¬ IsBadString (string_spelling text ++ rest)
string_whole text rest ok bad = let fits = ok.fits in
    elim bad [ inl long ↦ omega arith | inr cut ↦ omega (arith, cut, length-append text rest) ]

pub strings : IsCode string_spelling IsString IsBadString
strings = record { same = same_string; whole = string_whole }

-- what is read after a length byte is a string
pub is_string_front : (bytes rest front back : List ℕ) (len : ℕ) → InBytes bytes → bytes ≡ len ∷ rest → len ≤ 32
    → len ≤ length rest → front ≡ take len rest → back ≡ drop len rest →
    IsString front × (bytes ≡ string_spelling front ++ back)
is_string_front bytes rest front back len fits is short enough taken left =
    let size : length front ≡ len = ap (length {A = ℕ}) taken ∙ length-take-le len rest enough in
    let each : AreBytes (len ∷ rest) = subst AreBytes is (bytes_of bytes fits) in
    let octets : AreBytes front =
    subst AreBytes (sym taken) (All-take (λ b. b < 256) len rest (All-tail (λ b. b < 256) len rest each)) in
    let whole : rest ≡ front ++ back = sym ((λ i. taken i ++ left i) ∙ take-append-drop len rest) in
    (record { fits = omega arith; bytes = octets }, is ∙ (λ i. sym size i ∷ whole i))

-- ---- tuples

-- some fault stands at the front
abbrev pub HasTupleFault : List ℕ → Type 0
HasTupleFault bytes = (fault : NbpFault) × IsTupleFault fault bytes

same_head : (a b c d e a' b' c' d' e' : ℕ) (x y : List ℕ) → a ∷ b ∷ c ∷ d ∷ e ∷ x ≡ a' ∷ b' ∷ c' ∷ d' ∷ e' ∷ y →
    (a ≡ a') × ((b ≡ b') × ((c ≡ c') × ((d ≡ d') × ((e ≡ e') × (x ≡ y)))))
same_head a b c d e a' b' c' d' e' x y same = (cc, (cc, (cc, (cc, (cc, cc)))))

same_strings : (t u : Entry) → strings_of t ≡ strings_of u → (t.object ≡ u.object)
    × ((t.kind ≡ u.kind) × (t.zone ≡ u.zone))
same_strings t u e = (cc, (cc, cc))

same_tuple : (t u : Entry) (x y : List ℕ) → IsTuple t → IsTuple u → tuple_spelling t ++ x ≡ tuple_spelling u ++ y
    → (t ≡ u) × (x ≡ y)
same_tuple t u x y ok ok' e =
    let parts = same_head (t.address.net / 256 % 256) (t.address.net % 256) t.address.node t.address.socket t.enumerator
    (u.address.net / 256 % 256) (u.address.net % 256) u.address.node u.address.socket u.enumerator
    (flat_map string_spelling (strings_of t) ++ x) (flat_map string_spelling (strings_of u) ++ y) e in
    let texts = same_fronts string_spelling IsString IsBadString strings (strings_of t)
    (strings_of u) x y ok.each ok'.each refl parts.1.1.1.1.1 in
    let net : t.address.net ≡ u.address.net =
    same_number t.address.net u.address.net ok.address.net ok'.address.net parts.0 parts.1.0 in
    let named = same_strings t u texts.0 in (
      λ i. record {
        address = record { net = net i; node = parts.1.1.0 i; socket = parts.1.1.1.0 i };
        enumerator = parts.1.1.1.1.0 i;
        object = named.0 i;
        kind = named.1.0 i;
        zone = named.1.1 i;
      },
      texts.1,
    )

no_fault_at_tuple : (fault : NbpFault) (t : Entry) (x : List ℕ) → IsTuple t
    → ¬ IsTupleFault fault (tuple_spelling t ++ x)
no_fault_at_tuple ShortNbp t x ok h = absurd (omega arith)
no_fault_at_tuple BadString t x ok h =
    no_bad_before string_spelling IsString IsBadString strings h.1.strings
    (strings_of t) h.1.rest x h.1.each ok.each h.1.fewer (sym h.1.follows) h.1.bad
no_fault_at_tuple _ t x ok h = h

pub tuples : IsCode tuple_spelling IsTuple HasTupleFault
tuples = record { same = same_tuple; whole = λ t x ok h. no_fault_at_tuple h.0 t x ok h.1 }

-- bytes have at most one fault at a place
pub one_tuple_fault : (fault other : NbpFault) (bytes : List ℕ) → IsTupleFault fault bytes → IsTupleFault other bytes
    → fault ≡ other
one_tuple_fault ShortNbp ShortNbp bytes h k = refl
one_tuple_fault ShortNbp BadString bytes h k = absurd (omega (arith, h, k.0))
one_tuple_fault ShortNbp _ bytes h k = absurd k
one_tuple_fault BadString BadString bytes h k = refl
one_tuple_fault BadString ShortNbp bytes h k = absurd (omega (arith, k, h.0))
one_tuple_fault BadString _ bytes h k = absurd k
one_tuple_fault _ other bytes h k = absurd h

-- ---- what is read of a tuple

-- the three strings of a tuple, one after the other
pub joined : (bytes object kind zone after_object after_kind rest : List ℕ) → bytes
    ≡ string_spelling object ++ after_object → after_object ≡ string_spelling kind ++ after_kind →
    after_kind ≡ string_spelling zone ++ rest → bytes ≡ flat_map string_spelling (object ∷ kind ∷ zone ∷ []) ++ rest
joined bytes object kind zone after_object after_kind rest first second third =
    first ∙ ap (λ l. string_spelling object ++ l)
    (second ∙ ap (λ l. string_spelling kind ++ l) (third ∙ sym (flat_front string_spelling zone [] rest))
    ∙ sym (flat_front string_spelling kind (zone ∷ []) rest))
    ∙ sym (flat_front string_spelling object (kind ∷ zone ∷ []) rest)

-- the tuple in bytes that are so long, with these strings
abbrev pub read_as : List ℕ → ℕ → List ℕ → List ℕ → List ℕ → Entry
read_as bytes net object kind zone = record {
  address = record { net = net; node = get_or bytes 2 0; socket = get_or bytes 3 0 };
  enumerator = get_or bytes 4 0;
  object = object;
  kind = kind;
  zone = zone;
}

pub is_read_tuple : (bytes object kind zone rest : List ℕ) (net : ℕ) → InBytes bytes → 5 ≤ length bytes → net
    ≡ number_at 0 bytes → IsString object → IsString kind → IsString zone →
    drop 5 bytes ≡ flat_map string_spelling (object ∷ kind ∷ zone ∷ []) ++ rest →
    IsTuple (read_as bytes net object kind zone) × (bytes ≡ tuple_spelling (read_as bytes net object kind zone) ++ rest)
is_read_tuple (a ∷ b ∷ node ∷ socket ∷ enumerator ∷ bytes) object kind zone rest net fits enough is first second third
    follows =
    let number : net ≡ 256 * a + b = omega (arith, is) in (
      record {
        address = record { net = omega (arith, fits 0, fits 1); node = fits 2; socket = fits 3 };
        enumerator = fits 4;
        each = search (rules, first, second, third);
      },
      rw (number, high_byte a b (fits 0) (fits 1), low_byte a b (fits 1))
          (λ i. a ∷ b ∷ node ∷ socket ∷ enumerator ∷ follows i),
    )
is_read_tuple _ object kind zone rest net fits enough is first second third follows = absurd (omega (arith, enough))

pub bad_second : (bytes object after : List ℕ) → 5 ≤ length bytes → IsString object → drop 5 bytes
    ≡ string_spelling object ++ after → IsBadString after → IsTupleFault BadString bytes
bad_second bytes object after enough ok is bad = (
  enough,
  record {
    strings = object ∷ [];
    each = search (rules, ok);
    fewer = omega arith;
    rest = after;
    follows = is ∙ sym (flat_front string_spelling object [] after);
    bad = bad;
  },
)

pub bad_third : (bytes object kind after_object after : List ℕ) → 5 ≤ length bytes → IsString object → IsString kind
    → drop 5 bytes ≡ string_spelling object ++ after_object →
    after_object ≡ string_spelling kind ++ after → IsBadString after → IsTupleFault BadString bytes
bad_third bytes object kind after_object after enough ok ok' is is' bad = (
  enough,
  record {
    strings = object ∷ kind ∷ [];
    each = search (rules, ok, ok');
    fewer = omega arith;
    rest = after;
    follows = is ∙ ap (λ l. string_spelling object ++ l) (is' ∙ sym (flat_front string_spelling kind [] after))
        ∙ sym (flat_front string_spelling object (kind ∷ []) after);
    bad = bad;
  },
)
