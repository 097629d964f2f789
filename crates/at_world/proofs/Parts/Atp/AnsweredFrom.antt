-- Which answer of the newest transaction of a number a response is from.
use Rattle.std.proofs.Common.{◌≡◌, ◌⊎◌, inl, inr, ℕ, Bool, true, false, cond, List, []}
use Rattle.std.proofs.Common.{◌∷◌, ◌++◌, Some, refl, sym, ap, subst, ◌∙◌, arith}
use Rattle.std.specs.Prelude.{◌==◌, ◌&&◌}
use Rattle.std.specs.List.{Contains}
use Rattle.std.proofs.lemmas.Bool.{false≢true, eq-eqb, eqb-true, and_parts}
use Rattle.std.proofs.lemmas.List.Elements.{Contains-append_cases}
use Rattle.at_ddp.specs.Address.{same_address}
use Rattle.at_ddp.specs.declared.address.Address.{Address}
use Rattle.at_ddp.proofs.Octets.{same_address-true, same_address_itself}
use Rattle.at_atp_frame.specs.Packets.{Packet}
use Rattle.at_atp_responder.specs.Once.{same_key}
use Rattle.at_atp_responder.specs.declared.reception.Key.{Key}
use Rattle.at_atp.specs.Askings.{ChangesAsked, Gives, JoinsOne, Leaves, Starts}
use Rattle.at_atp.specs.Askings.{Joins}
use Rattle.at_atp.specs.HandUps.{draws}
use Rattle.at_atp.specs.Network.{Network, Happening, done}
use Rattle.at_atp.specs.Transactions.{Transaction, is_transaction, transaction_of, answered}
use Rattle.at_world.proofs.Parts.Atp.Newest.{Changes}
use Rattle.at_world.proofs.Parts.Atp.Lists.{one_answer}

-- an answer of the newest transaction of a key
abbrev pub Has : List Transaction → Key → List Packet → Type 0
Has ts key answer = (t : Transaction) × (transaction_of ts key.from key.tid ≡ Some t) × Contains t.answers answer

pub same_keys : (from : Address) (tid : ℕ) (key : Key) (t : Transaction) → is_transaction from tid t ≡ true
    → is_transaction key.from key.tid t ≡ true → same_key (record { from = from; tid = tid }) key ≡ true
same_keys from tid key t a b =
    let x = and_parts (same_address t.requester from) (t.tid == tid) a in
    let y = and_parts (same_address t.requester key.from) (t.tid == key.tid) b in
    let where_from : from ≡ key.from = sym (same_address-true t.requester from x.0)
    ∙ same_address-true t.requester key.from y.0 in
    let number : tid ≡ key.tid = sym (eqb-true t.tid tid x.1) ∙ eqb-true t.tid key.tid y.1 in
    (λ i. same_address (where_from i) key.from && number i == key.tid)
    ∙ (λ i. same_address_itself key.from i && eq-eqb key.tid key.tid refl i)

pub answered_from : (ts : List Transaction) (from : Address) (tid : ℕ) (packets : List Packet) (key : Key)
    (answer : List Packet) → Has (answered ts from tid packets) key answer → Has ts key answer
    ⊎ ((same_key (record { from = from; tid = tid }) key ≡ true) × (packets ≡ answer))
answered_from [] from tid packets key answer h = let none = h.1 in absurd (cc)
answered_from (t ∷ ts) from tid packets key answer h = go (λ g. answered_from ts from tid packets key answer g)
    (is_transaction from tid t) (is_transaction key.from key.tid t) refl refl h.0 h.1 h.2
  where
    given : Transaction
    given = record t { answers = t.answers ++ packets ∷ [] }

    here : is_transaction from tid t ≡ true → is_transaction key.from key.tid t ≡ true → Contains t.answers answer
        ⊎ Contains (packets ∷ []) answer → Has (t ∷ ts) key answer
        ⊎ ((same_key (record { from = from; tid = tid }) key ≡ true) × (packets ≡ answer))
    here d e (inl old) = inl (t, ap (λ x. cond x (Some t) (transaction_of ts key.from key.tid)) e, old)
    here d e (inr new) = inr (same_keys from tid key t d e, one_answer packets answer new)

    there : is_transaction key.from key.tid t ≡ false → Has ts key answer
        ⊎ ((same_key (record { from = from; tid = tid }) key ≡ true) × (packets ≡ answer)) → Has (t ∷ ts) key answer
        ⊎ ((same_key (record { from = from; tid = tid }) key ≡ true) × (packets ≡ answer))
    there e (inl old) = inl (old.0, ap (λ x. cond x (Some t) (transaction_of ts key.from key.tid)) e ∙ old.1, old.2)
    there e (inr new) = inr new

    go : (Has (answered ts from tid packets) key answer → Has ts key answer
        ⊎ ((same_key (record { from = from; tid = tid }) key ≡ true) × (packets ≡ answer))) → (b c : Bool)
        → is_transaction from tid t ≡ b → is_transaction key.from key.tid t ≡ c → (u : Transaction) →
        transaction_of (cond b (record t { answers = t.answers ++ packets ∷ [] } ∷ ts)
        (t ∷ answered ts from tid packets)) key.from key.tid ≡ Some u → Contains u.answers answer
        → Has (t ∷ ts) key answer ⊎ ((same_key (record { from = from; tid = tid }) key ≡ true) × (packets ≡ answer))
    go later true true d e u is among =
        let same : given ≡ u = some_given given u
        (sym (ap (λ x. cond x (Some given) (transaction_of ts key.from key.tid)) e) ∙ is) in
        here d e (Contains-append_cases t.answers (packets ∷ []) answer
        (subst (λ (x : Transaction). Contains x.answers answer) (sym same) among))
      where
        some_given : (a b : Transaction) → Some a ≡ Some b → a ≡ b
        some_given a b h = cc
    go later true false d e u is among = inl (
      u,
      ap (λ x. cond x (Some t) (transaction_of ts key.from key.tid)) e
          ∙ sym (ap (λ x. cond x (Some given) (transaction_of ts key.from key.tid)) e) ∙ is,
      among,
    )
    go later false true d e u is among = inl (
      u,
      ap (λ x. cond x (Some t) (transaction_of ts key.from key.tid)) e
          ∙ sym (ap (λ x. cond x (Some t) (transaction_of (answered ts from tid packets) key.from key.tid)) e)
          ∙ is,
      among,
    )
    go later false false d e u is among =
        there e (later (
          u,
          sym (ap
              (λ x. cond x (Some t) (transaction_of (answered ts from tid packets) key.from key.tid)) e) ∙ is,
          among,
        ))

-- an answer of the newest transaction of a key was there, or was given now
pub had_or_gave : (A : Type 0) (changes : Changes A) (n : Network) (h : Happening) (key : Key) (answer : List Packet)
    → draws A n h key ≡ false → Has (done A n h).asked key answer → Has n.asked key answer ⊎ Gives n h key answer
had_or_gave A changes n h key answer apart has = go (changes n h)
  where
    given : (j : JoinsOne A n h) → Has n.asked key answer
        ⊎ ((same_key (record { from = (j.key).from; tid = (j.key).tid }) key ≡ true) × (j.packets ≡ answer))
        → Has n.asked key answer ⊎ Gives n h key answer
    given j (inl old) = inl old
    given j (inr new) = inr (subst (Gives n h key) new.1 (j.gives key new.0))

    go : ChangesAsked A n h → Has n.asked key answer ⊎ Gives n h key answer
    go (Leaves l) = inl (subst (λ ts. Has ts key answer) l.same has)
    go (Starts b) =
        let it : Has (b.transaction ∷ n.asked) key answer = subst (λ ts. Has ts key answer) b.asked has in
        inl (
          it.0,
          sym (ap (λ x. cond x (Some b.transaction) (transaction_of n.asked key.from key.tid))
              (sym (b.draws_its key) ∙ apart)) ∙ it.1,
          it.2,
        )
    go (Joins j) = given j (answered_from n.asked (j.key).from (j.key).tid j.packets key answer
        (subst (λ ts. Has ts key answer) j.asked has))

-- a transaction that begins has no answer
pub none_yet : (A : Type 0) (changes : Changes A) (n : Network) (h : Happening) (key : Key) (answer : List Packet)
    → draws A n h key ≡ true → Has (done A n h).asked key answer → ⊥
none_yet A changes n h key answer drawn has = go (changes n h)
  where
    empty : (new t : Transaction) → new.answers ≡ [] → Some new ≡ Some t → Contains t.answers answer → ⊥
    empty new t none is among =
        let same : new ≡ t = cc in
        let lt = (subst (λ (l : List (List Packet)). Contains l answer)
        (ap (λ (x : Transaction). x.answers) (sym same) ∙ none) among).1 in
        absurd (omega (arith, lt))

    go : ChangesAsked A n h → ⊥
    go (Leaves l) = false≢true (sym (l.draws_none key) ∙ drawn)
    go (Joins j) = false≢true (sym (j.draws_none key) ∙ drawn)
    go (Starts b) =
        let it : Has (b.transaction ∷ n.asked) key answer = subst (λ ts. Has ts key answer) b.asked has in
        empty b.transaction it.0 b.no_answers
        (sym (ap (λ x. cond x (Some b.transaction) (transaction_of n.asked key.from key.tid))
        (sym (b.draws_its key) ∙ drawn)) ∙ it.1) it.2
