-- The earliest packets of the places, in the words of the standard.
use Rattle.std.proofs.Common.{◌≡◌, ℕ, zero, suc, ◌+◌, ◌≤◌, Bool, true, false, cond, List, [], ◌∷◌}
use Rattle.std.proofs.Common.{◌++◌, length, map, Option, Some, None, ◌⊎◌, inl, inr, refl, sym, ap, ◌∙◌, arith}
use Rattle.std.specs.Prelude.{find, option_map, ◌==◌}
use Rattle.std.specs.List.{AllByRecursion}
use Rattle.std.proofs.lemmas.Bool.{true≢false, eq-eqb, eqb-true, ne_eqb}
use Rattle.at_atp_frame.specs.Packets.{Packet}
use Rattle.at_atp_requester.specs.Answers.{AnswerPart, whole}
use Rattle.at_atp_requester.specs.Wholes.{Came, NoneFor, IsEarliest, AreEarliest, IsResponseFrom, IsResponse}
use Rattle.at_atp_requester.specs.Wholes.{first_at, firsts_from, firsts}

-- ---- the earliest packet of a place

pub none_first : (all : List Came) (place : ℕ) → NoneFor place all → first_at all place ≡ None
none_first [] place h = refl
none_first (c ∷ all) place h = rw (ne_eqb c.place place h.0) (none_first all place h.1)

pub first_none : (all : List Came) (place : ℕ) → first_at all place ≡ None → NoneFor place all
first_none [] place h = tt
first_none (c ∷ all) place h = go (λ g. first_none all place g) (c.place == place) refl h
  where
    go : (first_at all place ≡ None → NoneFor place all) → (b : Bool) → (c.place == place) ≡ b
        → option_map (λ (x : Came). x.part) (cond b (Some c) (find (λ (x : Came). x.place == place) all)) ≡ None
        → NoneFor place (c ∷ all)
    go ih true e g = absurd (cc)
    go ih false e g = (λ same. true≢false (sym (eq-eqb c.place place same) ∙ e), ih g)

first_in : (before : List Came) (c : Came) (behind : List Came) (place : ℕ) → NoneFor place before → c.place ≡ place
    → first_at (before ++ c ∷ behind) place ≡ Some c.part
first_in [] c behind place none is = rw (eq-eqb c.place place is) refl
first_in (d ∷ before) c behind place none is =
    rw (ne_eqb d.place place none.0) (first_in before c behind place none.1 is)

pub earliest_first : (all : List Came) (place : ℕ) (part : AnswerPart) → IsEarliest all place part → first_at all place
    ≡ Some part
earliest_first all place part h = ap (λ l. first_at l place) h.is
    ∙ first_in h.before h.packet h.behind place h.none_before h.for_place ∙ ap Some h.brings

pub first_earliest : (all : List Came) (place : ℕ) (part : AnswerPart) → first_at all place ≡ Some part
    → IsEarliest all place part
first_earliest [] place part h = absurd (cc)
first_earliest (c ∷ all) place part h = go (λ g. first_earliest all place part g) (c.place == place) refl h
  where
    go : (first_at all place ≡ Some part → IsEarliest all place part) → (b : Bool) → (c.place == place) ≡ b
        → option_map (λ (x : Came). x.part) (cond b (Some c) (find (λ (x : Came). x.place == place) all)) ≡ Some part
        → IsEarliest (c ∷ all) place part
    go ih true e g = record {
      before = [];
      packet = c;
      behind = all;
      is = refl;
      none_before = tt;
      for_place = eqb-true c.place place e;
      brings = cc;
    }
    go ih false e g =
        let rest = ih g in
        record {
          before = c ∷ rest.before;
          packet = rest.packet;
          behind = rest.behind;
          is = ap (λ l. c ∷ l) rest.is;
          none_before = (λ same. true≢false (sym (eq-eqb c.place place same) ∙ e), rest.none_before);
          for_place = rest.for_place;
          brings = rest.brings;
        }

-- ---- the whole response

rest_of : (a : AnswerPart) (o : Option (List Packet)) (packets : List Packet) → option_map (λ ps. a.packet ∷ ps) o
    ≡ Some packets → (rest : List Packet) × (o ≡ Some rest) × (a.packet ∷ rest ≡ packets)
rest_of a None packets g = absurd (cc)
rest_of a (Some rest) packets g = (rest, refl, cc)

one_more_end : (m n : ℕ) (E : Type 0) → E ⊎ (m + 1 ≡ n) → E ⊎ (suc m + 1 ≡ suc n)
one_more_end m n E (inl e) = inl e
one_more_end m n E (inr e) = inr (omega (arith, e))

one_less_end : (m n : ℕ) (E : Type 0) → E ⊎ (suc m + 1 ≡ suc n) → E ⊎ (m + 1 ≡ n)
one_less_end m n E (inl e) = inl e
one_less_end m n E (inr e) = inr (omega (arith, e))

whole_response : (n k : ℕ) (all : List Came) (packets : List Packet) → 1 ≤ n → whole (firsts_from k n all)
    ≡ Some packets → IsResponseFrom k n all packets
whole_response zero k all packets some h = absurd (omega (arith, some))
whole_response (suc zero) k all packets some h = go (first_at all k) refl h
  where
    ends : (a : AnswerPart) → first_at all k ≡ Some a → (b : Bool) → a.eom ≡ b
        → cond b (Some (a.packet ∷ [])) (Some (a.packet ∷ [])) ≡ Some packets → IsResponseFrom k 1 all packets
    ends a e true end g = record {
      before = [];
      last = a;
      earliest = (first_earliest all k a e, tt);
      least = tt;
      ends = inl end;
      asked_for = omega arith;
      are = cc;
    }
    ends a e false end g = record {
      before = [];
      last = a;
      earliest = (first_earliest all k a e, tt);
      least = tt;
      ends = inr refl;
      asked_for = omega arith;
      are = cc;
    }

    go : (o : Option AnswerPart) → first_at all k ≡ o → whole (o ∷ []) ≡ Some packets → IsResponseFrom k 1 all packets
    go None e g = absurd (cc)
    go (Some a) e g = ends a e a.eom refl g
whole_response (suc (suc n)) k all packets some h =
    go (λ rest g. whole_response (suc n) (k + 1) all rest (omega arith) g) (first_at all k) refl h
  where
    ends : ((rest : List Packet) → whole (firsts_from (k + 1) (suc n) all) ≡ Some rest
        → IsResponseFrom (k + 1) (suc n) all rest) → (a : AnswerPart) → first_at all k ≡ Some a → (b : Bool)
        → a.eom ≡ b →
        cond b (Some (a.packet ∷ [])) (option_map (λ ps. a.packet ∷ ps) (whole (firsts_from (k + 1) (suc n) all)))
        ≡ Some packets → IsResponseFrom k (suc (suc n)) all packets
    ends ih a e true end g =
        record {
          before = [];
          last = a;
          earliest = (first_earliest all k a e, tt);
          least = tt;
          ends = inl end;
          asked_for = omega arith;
          are = cc;
        }
    ends ih a e false end g =
        let m = rest_of a (whole (firsts_from (k + 1) (suc n) all)) packets g in
        let r = ih m.0 m.1 in
        let few = r.asked_for in
        record {
          before = a ∷ r.before;
          last = r.last;
          earliest = (first_earliest all k a e, r.earliest);
          least = (end, r.least);
          ends = one_more_end (length r.before) (suc n) (r.last.eom ≡ true) r.ends;
          asked_for = omega (arith, few);
          are = sym m.2 ∙ ap (λ l. a.packet ∷ l) r.are;
        }

    go : ((rest : List Packet) → whole (firsts_from (k + 1) (suc n) all) ≡ Some rest
        → IsResponseFrom (k + 1) (suc n) all rest) → (o : Option AnswerPart) → first_at all k ≡ o
        → whole (o ∷ firsts_from (k + 1) (suc n) all) ≡ Some packets →
        IsResponseFrom k (suc (suc n)) all packets
    go ih None e g = absurd (cc)
    go ih (Some a) e g = ends ih a e a.eom refl g

one_packet : (last : AnswerPart) (b : Bool) → cond b (Some (last.packet ∷ [])) (Some (last.packet ∷ []))
    ≡ Some (last.packet ∷ [])
one_packet last true = refl
one_packet last false = refl

response_whole : (before : List AnswerPart) (last : AnswerPart) (n k : ℕ) (all : List Came)
    → AreEarliest all k (before ++ last ∷ []) → AllByRecursion (λ (part : AnswerPart). part.eom ≡ false) before
    → ((last.eom ≡ true) ⊎ (length before + 1 ≡ n)) → length before + 1 ≤ n →
    whole (firsts_from k n all) ≡ Some (map (λ (part : AnswerPart). part.packet) (before ++ last ∷ []))
response_whole before last zero k all are least ends few = absurd (omega (arith, few))
response_whole [] last (suc zero) k all are least ends few =
    rw (earliest_first all k last are.0) (one_packet last last.eom)
response_whole [] last (suc (suc n)) k all are least (inl end) few = rw (earliest_first all k last are.0, end) refl
response_whole [] last (suc (suc n)) k all are least (inr end) few = absurd (omega (arith, end))
response_whole (a ∷ before) last (suc n) k all are least ends few =
    let rest = response_whole before last n (k + 1) all are.1 least.1
    (one_less_end (length before) n (last.eom ≡ true) ends) (omega (arith, few)) in
    rw (earliest_first all k a are.0, least.0) (ap (option_map (λ ps. a.packet ∷ ps)) rest)

pub whole_is_response : (wanted : ℕ) (all : List Came) (packets : List Packet) → 1 ≤ wanted
    → (whole (firsts wanted all) ≡ Some packets → IsResponse wanted all packets)
    × (IsResponse wanted all packets → whole (firsts wanted all) ≡ Some packets)
whole_is_response wanted all packets some = (
  whole_response wanted 0 all packets some,
  λ r. response_whole r.before r.last wanted 0 all r.earliest r.least
      r.ends r.asked_for ∙ ap Some (sym r.are),
)
