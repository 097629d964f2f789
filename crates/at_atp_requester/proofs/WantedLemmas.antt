-- Which places are still wanted, in the words of the standard.
use Rattle.std.proofs.Common.{◌≡◌, ℕ, zero, suc, ◌+◌, ◌*◌, ◌/◌, ◌%◌, ◌<◌, ◌≤◌, Bool, true, false, cond, List, [], ◌∷◌}
use Rattle.std.proofs.Common.{Option, Some, None, refl, sym, ap, ◌∙◌, arith}
use Rattle.std.specs.Prelude.{is_none, nat_lt, ◌==◌}
use Rattle.std.proofs.lemmas.Bool.{false≢true, eq-eqb, ne_eqb}
use Rattle.std.proofs.lemmas.Bool.Decides.{nat_tests}
use Rattle.at_atp_frame.specs.Frames.{Request}
use Rattle.at_atp_requester.specs.Answers.{AnswerPart, is_wanted, bitmap_of, bit_is_set}
use Rattle.at_atp_requester.specs.Requests.{Transaction, request_by}
use Rattle.at_atp_requester.specs.Wholes.{Came}
use Rattle.at_atp_requester.specs.Wholes.{IsStillWanted, first_at, firsts_from, firsts}
use Rattle.at_atp_requester.proofs.ResponseLemmas.{none_first, first_none, earliest_first, first_earliest}

no_bit : (i : ℕ) → bit_is_set 0 i ≡ false
no_bit zero = refl
no_bit (suc i) = no_bit i

pub bit_wanted : (parts : List (Option AnswerPart)) (i : ℕ) → bit_is_set (bitmap_of parts) i ≡ is_wanted parts i
bit_wanted [] i = no_bit i
bit_wanted (None ∷ parts) zero = eq-eqb ((1 + 2 * bitmap_of parts) % 2) 1 (omega arith)
bit_wanted (None ∷ parts) (suc i) =
    let half : (1 + 2 * bitmap_of parts) / 2 ≡ bitmap_of parts = omega arith in
    ap (λ n. bit_is_set n i) half ∙ bit_wanted parts i
bit_wanted (Some a ∷ parts) zero = go a.eom
  where
    go : (b : Bool) → (cond b 0 (2 * bitmap_of parts) % 2 == 1) ≡ false
    go true = refl
    go false = ne_eqb (2 * bitmap_of parts % 2) 1 (λ e. absurd (omega (arith, e)))
bit_wanted (Some a ∷ parts) (suc i) = go (bit_wanted parts i) a.eom
  where
    half : 2 * bitmap_of parts / 2 ≡ bitmap_of parts
    half = omega arith

    go : bit_is_set (bitmap_of parts) i ≡ is_wanted parts i → (b : Bool)
        → bit_is_set (cond b 0 (2 * bitmap_of parts) / 2) i ≡ cond b false (is_wanted parts i)
    go ih true = no_bit i
    go ih false = ap (λ n. bit_is_set n i) half ∙ ih

pub request_bits : (t : Transaction) (mask : ℕ) (xo : Bool) (timer tid : ℕ) (user bytes : List ℕ) (place : ℕ)
    → request_by t ≡ Request mask xo timer tid user bytes → bit_is_set mask place ≡ is_wanted t.parts place
request_bits t mask xo timer tid user bytes place h = let same : mask ≡ bitmap_of t.parts = cc in
    ap (λ n. bit_is_set n place) same ∙ bit_wanted t.parts place

-- this place or a later one
this_or_later : (k j : ℕ) (X : Type 0) → k ≤ j → (j ≡ k → X) → (k + 1 ≤ j → X) → X
this_or_later k j X low this later = go (nat_lt k j) refl
  where
    go : (b : Bool) → nat_lt k j ≡ b → X
    go true e = later (let past : k < j = grind (arith, nat_tests, e) in omega (arith, past))
    go false e = this (let not_past : j ≤ k = grind (arith, nat_tests, e) in omega (arith, not_past, low))

abbrev pub GoesOn : List Came → ℕ → ℕ → Type 0
GoesOn all k m = (j : ℕ) (part : AnswerPart) → k ≤ j → j < m → first_at all j ≡ Some part → part.eom ≡ false

goes_on_next : (all : List Came) (k m : ℕ) → ((part : AnswerPart) → first_at all k ≡ Some part → part.eom ≡ false)
    → GoesOn all (k + 1) m → GoesOn all k m
goes_on_next all k m here rest j part low high some =
    this_or_later k j (part.eom ≡ false) low (λ same. here part (ap (first_at all) (sym same) ∙ some))
    (λ past. rest j part past high some)

wanted_missing : (n k i m : ℕ) (all : List Came) → m ≡ k + i → is_wanted (firsts_from k n all) i ≡ true → (i < n)
    × (first_at all m ≡ None) × GoesOn all k m
wanted_missing zero k i m all at h = absurd (false≢true h)
wanted_missing (suc n) k zero m all at h = go (first_at all k) refl h
  where
    here : m ≡ k
    here = omega (arith, at)

    go : (o : Option AnswerPart) → first_at all k ≡ o → is_none o ≡ true → (zero < suc n) × (first_at all m ≡ None)
        × GoesOn all k m
    go None e g = (
      omega arith,
      ap (first_at all) here
          ∙ e,
      λ j part low high some. absurd (omega (arith, low, high, here)),
    )
    go (Some a) e g = absurd (false≢true g)
wanted_missing (suc n) k (suc i) m all at h = go (λ g. wanted_missing n (k + 1) i m all (omega (arith, at)) g)
    (first_at all k) refl h
  where
    more : (i < n) × (first_at all m ≡ None) × GoesOn all (k + 1) m
        → ((part : AnswerPart) → first_at all k ≡ Some part → part.eom ≡ false) → (suc i < suc n)
        × (first_at all m ≡ None) × GoesOn all k m
    more r here = let few = r.0 in (omega (arith, few), r.1, goes_on_next all k m here r.2)

    ends : (is_wanted (firsts_from (k + 1) n all) i ≡ true → (i < n) × (first_at all m ≡ None) × GoesOn all (k + 1) m)
        → (a : AnswerPart) → first_at all k ≡ Some a → (b : Bool) → a.eom ≡ b
        → cond b false (is_wanted (firsts_from (k + 1) n all) i) ≡ true →
        (suc i < suc n) × (first_at all m ≡ None) × GoesOn all k m
    ends ih a e true end g = absurd (false≢true g)
    ends ih a e false end g =
        more (ih g) (λ part some. let both : Some a ≡ Some part = sym e ∙ some in let same : a
        ≡ part = cc in ap (λ (x : AnswerPart). x.eom) (sym same) ∙ end)

    go : (is_wanted (firsts_from (k + 1) n all) i ≡ true → (i < n) × (first_at all m ≡ None) × GoesOn all (k + 1) m)
        → (o : Option AnswerPart) → first_at all k ≡ o → is_wanted (o ∷ firsts_from (k + 1) n all) (suc i) ≡ true →
        (suc i < suc n) × (first_at all m ≡ None) × GoesOn all k m
    go ih None e g = more (ih g) (λ part some. let wrong : None ≡ Some part = sym e ∙ some in absurd (cc))
    go ih (Some a) e g = ends ih a e a.eom refl g

missing_wanted : (n k i m : ℕ) (all : List Came) → m ≡ k + i → i < n → first_at all m ≡ None → GoesOn all k m
    → is_wanted (firsts_from k n all) i ≡ true
missing_wanted zero k i m all at few none on = absurd (omega (arith, few))
missing_wanted (suc n) k zero m all at few none on = let here : k ≡ m = omega (arith, at) in
    ap is_none (ap (first_at all) here ∙ none)
missing_wanted (suc n) k (suc i) m all at few none on =
    go (missing_wanted n (k + 1) i m all (omega (arith, at)) (omega (arith, few)) none
    (λ j part low high some. on j part (omega (arith, low)) high some)) (first_at all k) refl
  where
    go : is_wanted (firsts_from (k + 1) n all) i ≡ true → (o : Option AnswerPart) → first_at all k ≡ o
        → is_wanted (firsts_from k (suc n) all) (suc i) ≡ true
    go ih None e = rw e ih
    go ih (Some a) e = rw (e, on k a (omega arith) (omega (arith, at)) e) ih

pub bit_still_wanted : (wanted : ℕ) (all : List Came) (place : ℕ)
    → (bit_is_set (bitmap_of (firsts wanted all)) place ≡ true → IsStillWanted wanted all place)
    × (IsStillWanted wanted all place → bit_is_set (bitmap_of (firsts wanted all)) place ≡ true)
bit_still_wanted wanted all place = (λ h. missing h, λ s. set_ s)
  where
    missing : bit_is_set (bitmap_of (firsts wanted all)) place ≡ true → IsStillWanted wanted all place
    missing h =
        let m = wanted_missing wanted 0 place place all (omega arith)
        (sym (bit_wanted (firsts wanted all) place) ∙ h) in
        record {
          asked_for = m.0;
          none_came = first_none all place m.1;
          goes_on = λ j part high is. m.2 j part (omega arith) high (earliest_first all j part is);
        }

    set_ : IsStillWanted wanted all place → bit_is_set (bitmap_of (firsts wanted all)) place ≡ true
    set_ s =
        bit_wanted (firsts wanted all) place
        ∙ missing_wanted wanted 0 place place all (omega arith) s.asked_for (none_first all place s.none_came)
        (λ j part low high some. s.goes_on j part high (first_earliest all j part some))
