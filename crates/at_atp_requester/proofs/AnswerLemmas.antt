-- What came for the places of a transaction.
use Rattle.std.proofs.Common.{◌≡◌, ℕ, zero, suc, ◌-◌, ◌<◌, Bool, true, false, cond, List, [], ◌∷◌, ◌++◌, length, get_or}
use Rattle.std.proofs.Common.{drop, Option, Some, None, refl, sym, ap, ◌∙◌, append_assoc, arith}
use Rattle.std.specs.Prelude.{is_some, option_map}
use Rattle.std.proofs.lemmas.List.{append-nil}
use Rattle.std.proofs.lemmas.Bool.{false≢true}
use Rattle.at_atp_frame.specs.Packets.{Packet}
use Rattle.at_atp_requester.specs.Answers.{AnswerPart, is_wanted, whole, with_part, gathered}

pub wanted-within : (parts : List (Option AnswerPart)) (place : ℕ) → is_wanted parts place ≡ true → place < length parts
wanted-within [] place h = absurd (false≢true h)
wanted-within (p ∷ parts) zero h = omega arith
wanted-within (None ∷ parts) (suc i) h = omega (arith, wanted-within parts i h)
wanted-within (Some p ∷ parts) (suc i) h = go (λ g. wanted-within parts i g) p.eom h
  where
    go : (is_wanted parts i ≡ true → i < length parts) → (b : Bool) → cond b false (is_wanted parts i) ≡ true
        → suc i < length (Some p ∷ parts)
    go ih true g = absurd (false≢true g)
    go ih false g = let rest = ih g in omega arith

is_some-map : {X Y : Type 0} (f : X → Y) (o : Option X) → is_some (option_map f o) ≡ is_some o
is_some-map f None = refl
is_some-map f (Some x) = refl

-- past a packet that does not end the answer, the rest decides
pub whole_past : (parts : List (Option AnswerPart)) (place : ℕ) (p part : AnswerPart) (d : Option AnswerPart)
    → 0 < length parts
    → d ≡ get_or parts 0 d → d ≡ Some p → p.eom ≡ false → (place ≡ 0 → ⊥) →
    is_some (whole (with_part parts place part)) ≡ is_some (whole (with_part (drop 1 parts) (place - 1) part))
whole_past [] place p part d some is is_some go_on far = absurd (omega arith)
whole_past (x ∷ parts) zero p part d some is is_some go_on far = absurd (far refl)
whole_past (x ∷ parts) (suc i) p part d some is first go_on far =
    let here : x ≡ Some p = sym is ∙ first in
    let less : suc i - 1 ≡ i = omega arith in
    let rest = is_some-map (λ (ps : List Packet). p.packet ∷ ps) (whole (with_part parts i part)) in
    rw (here, go_on, less) rest

-- once the answer is there, what is gathered is the answer
pub gathered-whole : (done : List Packet) (parts : List (Option AnswerPart)) (packets : List Packet) → whole parts
    ≡ Some packets → gathered done parts ≡ done ++ packets
gathered-whole done [] packets h = let none : [] ≡ packets = cc in sym (append-nil done) ∙ ap (λ l. done ++ l) none
gathered-whole done (None ∷ parts) packets h = absurd (cc)
gathered-whole done (Some p ∷ parts) packets h =
    go (λ rest g. gathered-whole (done ++ p.packet ∷ []) parts rest g) p.eom h
  where
    more : (o : Option (List Packet)) → option_map (λ ps. p.packet ∷ ps) o ≡ Some packets → (rest : List Packet)
        × (o ≡ Some rest) × (p.packet ∷ rest ≡ packets)
    more None g = absurd (cc)
    more (Some rest) g = (rest, refl, cc)

    go : ((rest : List Packet) → whole parts ≡ Some rest → gathered (done ++ p.packet ∷ []) parts
        ≡ (done ++ p.packet ∷ []) ++ rest) → (b : Bool)
        → cond b (Some (p.packet ∷ [])) (option_map (λ ps. p.packet ∷ ps) (whole parts)) ≡ Some packets →
        cond b (done ++ p.packet ∷ []) (gathered (done ++ p.packet ∷ []) parts) ≡ done ++ packets
    go ih true g = let one : p.packet ∷ [] ≡ packets = cc in ap (λ l. done ++ l) one
    go ih false g =
        let m = more (whole parts) g in
        ih m.0 m.1 ∙ append_assoc done (p.packet ∷ []) m.0 ∙ ap (λ l. done ++ l) m.2
