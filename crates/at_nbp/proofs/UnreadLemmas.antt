-- Tuples that stay in their bytes: what is cut at the front is what was spelled there.
use Rattle.std.proofs.Common.{◌≡◌, ℕ, zero, suc, ◌+◌, ◌-◌, ◌*◌, ◌/◌, ◌%◌, ◌≤◌, List, [], ◌∷◌, ◌++◌, length, Result}
use Rattle.std.proofs.Common.{Ok, Err, IsOk, refl, sym, ap, subst, ◌∙◌, append_assoc, append-nil, arith}
use Rattle.std.specs.Prelude.{All, IfErr}
use Rattle.std.specs.List.{flat_map}
use Rattle.std.proofs.Math.Seq.{take-append_seam, drop-append_seam}
use Rattle.std.proofs.lemmas.List.{length-append}
use Rattle.std.proofs.lemmas.List.Concat.{flat_map-append}
use Rattle.std.proofs.lemmas.List.Elements.{All-head, All-tail, All-push}
use Rattle.at_nbp.specs.Fault.{IsTupleFault}
use Rattle.at_nbp.specs.Tuples.{Entry, FitsStrings, IsTuple, string_spelling, strings_of, tuple_spelling}
use Rattle.at_nbp.specs.Unread.{AreUnread, after_entry, after_string, entries, entry_at, string_at}
use Rattle.at_nbp.specs.declared.fault.NbpFault.{NbpFault}
use Rattle.at_nbp.proofs.CodeLemmas.{flat_front}
use Rattle.at_nbp.proofs.TupleLemmas.{joined, tuples}

-- no string of a tuple is too long
pub fits_strings : (t : Entry) → IsTuple t → FitsStrings t
fits_strings t ok k d lt = (ok.each k d lt).fits

-- ---- what is cut at the front

cut_string : (text rest : List ℕ) → (string_at (string_spelling text ++ rest) ≡ text)
    × (after_string (string_spelling text ++ rest) ≡ rest)
cut_string text rest = (take-append_seam text rest, drop-append_seam text rest)

cut_tuple : (t : Entry) (rest : List ℕ) → IsTuple t → (entry_at (tuple_spelling t ++ rest) ≡ t)
    × (after_entry (tuple_spelling t ++ rest) ≡ rest)
cut_tuple t rest ok =
    let after_kind = string_spelling t.zone ++ rest in
    let after_object = string_spelling t.kind ++ after_kind in
    let strings = flat_map string_spelling (strings_of t) ++ rest in
    let parted : strings ≡ string_spelling t.object ++ after_object =
    sym (joined (string_spelling t.object ++ after_object) t.object t.kind t.zone after_object after_kind rest refl refl
    refl) in
    let first = cut_string t.object after_object in
    let second = cut_string t.kind after_kind in
    let third = cut_string t.zone rest in
    let object : string_at strings ≡ t.object = ap string_at parted ∙ first.0 in
    let behind : after_string strings ≡ after_object = ap after_string parted ∙ first.1 in
    let kind : string_at (after_string strings) ≡ t.kind = ap string_at behind ∙ second.0 in
    let further : after_string (after_string strings) ≡ after_kind = ap after_string behind ∙ second.1 in
    let zone : string_at (after_string (after_string strings)) ≡ t.zone = ap string_at further ∙ third.0 in
    let address = ok.address in
    let net : 256 * (t.address.net / 256 % 256) + t.address.net % 256 ≡ t.address.net = omega (arith, address.net) in (
      λ i. record {
        address = record { net = net i; node = t.address.node; socket = t.address.socket };
        enumerator = t.enumerator;
        object = object i;
        kind = kind i;
        zone = zone i;
      },
      ap after_string further ∙ third.1,
    )

cut_all : (ts : List Entry) (rest : List ℕ) → All IsTuple ts
    → entries (length ts) (flat_map tuple_spelling ts ++ rest) ≡ ts
cut_all [] rest ok = refl
cut_all (t ∷ ts) rest ok =
    let front = flat_front tuple_spelling t ts rest in
    let one = cut_tuple t (flat_map tuple_spelling ts ++ rest) (All-head IsTuple t ts ok) in
    let bytes = flat_map tuple_spelling (t ∷ ts) ++ rest in
    let head : entry_at bytes ≡ t = ap entry_at front ∙ one.0 in
    let behind : after_entry bytes ≡ flat_map tuple_spelling ts ++ rest = ap after_entry front ∙ one.1 in
    λ i. head i ∷ (ap (entries (length ts)) behind ∙ cut_all ts rest (All-tail IsTuple t ts ok)) i

pub length_entries : (n : ℕ) (bytes : List ℕ) → length (entries n bytes) ≡ n
length_entries zero bytes = refl
length_entries (suc n) bytes = omega (arith, length_entries n (after_entry bytes))

-- ---- tuples that are taken one after the other

-- so many tuples stand at the front of the bytes, and rest follows them
pub record AreTaken (count : ℕ) (bytes rest : List ℕ) : Type 0 where
  pub tuples : List Entry
  pub each : All IsTuple tuples
  pub counted : length tuples ≡ count
  pub follows : bytes ≡ flat_map tuple_spelling tuples ++ rest

spelled_push : (ts : List Entry) (t : Entry) (rest : List ℕ) → flat_map tuple_spelling (ts ++ t ∷ []) ++ rest
    ≡ flat_map tuple_spelling ts ++ (tuple_spelling t ++ rest)
spelled_push ts t rest =
    let spelled = flat_map tuple_spelling ts in
    ap (λ l. l ++ rest) (flat_map-append tuple_spelling ts (t ∷ [])
    ∙ ap (λ l. spelled ++ l) (append-nil (tuple_spelling t)))
    ∙ append_assoc spelled (tuple_spelling t) rest

pub taken_more : (count : ℕ) (bytes rest after : List ℕ) (t : Entry) → AreTaken count bytes rest → IsTuple t → rest
    ≡ tuple_spelling t ++ after → AreTaken (count + 1) bytes after
taken_more count bytes rest after t taken ok is = record {
  tuples = taken.tuples ++ t ∷ [];
  each = All-push IsTuple taken.tuples t taken.each ok;
  counted = omega (arith, length-append taken.tuples (t ∷ []), taken.counted);
  follows = taken.follows ∙ ap (λ l. flat_map tuple_spelling taken.tuples ++ l) is
      ∙ sym (spelled_push taken.tuples t after);
}

-- what is cut at the front is what was taken there
pub record AreCut (count : ℕ) (bytes rest : List ℕ) : Type 0 where
  pub each : All IsTuple (entries count bytes)
  pub counted : length (entries count bytes) ≡ count
  pub follows : bytes ≡ flat_map tuple_spelling (entries count bytes) ++ rest

pub are_cut : (taken count : ℕ) (bytes rest : List ℕ) → AreTaken taken bytes rest → taken ≡ count
    → AreCut count bytes rest
are_cut taken count bytes rest t all =
    let same : entries count bytes ≡ t.tuples = (λ i. entries (sym (t.counted ∙ all) i) (t.follows i))
    ∙ cut_all t.tuples rest t.each in
    record {
      each = subst (All IsTuple) (sym same) t.each;
      counted = length_entries count bytes;
      follows = t.follows ∙ ap (λ l. flat_map tuple_spelling l ++ rest) (sym same);
    }

pub are_unread : (taken count : ℕ) (bytes rest : List ℕ) → AreTaken taken bytes rest → taken ≡ count → count ≤ 15
    → AreUnread count bytes
are_unread taken count bytes rest t all few =
    let cut = are_cut taken count bytes rest t all in
    record { few = few; each = cut.each; rest = rest; follows = cut.follows }

-- ---- the next tuple

-- the first of the unread tuples, and those after it
pub record IsNext (count : ℕ) (bytes : List ℕ) (t : Entry) (rest : List ℕ) : Type 0 where
  pub first : entries count bytes ≡ t ∷ entries (count - 1) rest
  pub others : AreUnread (count - 1) rest

pub next_tuple : (count : ℕ) (bytes : List ℕ) (t : Entry) (rest : List ℕ) → AreUnread count bytes → (count ≡ 0 → ⊥)
    → IsTuple t → bytes ≡ tuple_spelling t ++ rest → IsNext count bytes t rest
next_tuple zero bytes t rest u some ok is = absurd (some refl)
next_tuple (suc n) bytes t rest u some ok is =
    let one = cut_tuple t rest ok in
    let here : entry_at bytes ≡ t = ap entry_at is ∙ one.0 in
    let behind : after_entry bytes ≡ rest = ap after_entry is ∙ one.1 in
    let less : suc n - 1 ≡ n = omega arith in
    let later = entries n (after_entry bytes) in
    let front = flat_front tuple_spelling (entry_at bytes) later u.rest in
    let first = cut_tuple (entry_at bytes) (flat_map tuple_spelling later ++ u.rest)
    (All-head IsTuple (entry_at bytes) later u.each) in
    let unread : AreUnread n (after_entry bytes) = record {
      few = omega (arith, u.few);
      each = All-tail IsTuple (entry_at bytes) later u.each;
      rest = u.rest;
      follows = ap after_entry (u.follows ∙ front) ∙ first.1;
    } in
    record {
      first = λ i. here i ∷ entries (sym less i) (behind i);
      others = subst (λ m. AreUnread m rest) (sym less) (subst (AreUnread n) behind unread);
    }

-- a whole tuple stands at the front of those that are unread
pub reads_one : {X : Type 0} (count : ℕ) (bytes : List ℕ) (r : Result X NbpFault) → AreUnread count bytes
    → (count ≡ 0 → ⊥) → IfErr r (λ fault. IsTupleFault fault bytes) → IsOk r
reads_one zero bytes r u some fault = absurd (some refl)
reads_one (suc n) bytes (Ok x) u some fault = refl
reads_one (suc n) bytes (Err f) u some fault =
    let later = entries n (after_entry bytes) in
    let front = u.follows ∙ flat_front tuple_spelling (entry_at bytes) later u.rest in
    absurd (tuples.whole (entry_at bytes) (flat_map tuple_spelling later ++ u.rest)
    (All-head IsTuple (entry_at bytes) later u.each) (f, subst (IsTupleFault f) front fault))
