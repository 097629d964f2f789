-- Tags of Ethernet, and types.
use Rattle.std.proofs.Common.{◌≡◌, ◌⊎◌, inl, inr, ℕ, ◌+◌, ◌*◌, Bool, true, false, cond, List, [], ◌∷◌}
use Rattle.std.proofs.Common.{◌++◌}
use Rattle.std.proofs.Common.{length, drop, Ok, Err, refl, sym, ap, ◌∙◌, arith, append_assoc}
use Rattle.std.specs.Prelude.{◌==◌, ◌&&◌, ◌||◌, nat_le}
use Rattle.std.specs.List.{AllByRecursion, flat_map}
use Rattle.std.proofs.lemmas.Bool.{and_parts, cond-true, eq-eqb, eqb-true, le-leb, leb-true}
use Rattle.std.proofs.lemmas.Bool.{lt-leb}
use Rattle.std.proofs.lemmas.Bool.{ne_eqb}
use Rattle.at_frames.specs.Carried.{Load}
use Rattle.at_frames.specs.Carries.{IsTag, TypeCarries}
use Rattle.at_frames.specs.Ethernet.{after_tags, by_type, is_tag, is_tagged}
use Rattle.at_frames.specs.declared.carried.Reason.TheVariants.{Aarp, Foreign}
use Rattle.at_frames.specs.declared.carried.Stations.{Stations}
use Rattle.at_frames.proofs.IpLemmas.{ip_carries, ip_told}
use Rattle.at_frames.proofs.LlapLemmas.{llap_carries, llap_told}
use Rattle.at_frames.proofs.LlcLemmas.{llc_carries, llc_told}
use Rattle.at_frames.proofs.Steps.{refused, went}

-- ---- tags

-- a tag is passed over
pub tagged_step : (bytes : List ℕ) → is_tagged bytes ≡ true → after_tags bytes ≡ after_tags (drop 4 bytes)
unfolding after_tags
tagged_step (a ∷ b ∷ c ∷ d ∷ rest) h =
    let both = and_parts (nat_le 4 (length (a ∷ b ∷ c ∷ d ∷ rest))) (is_tag (256 * a + b)) h in
    cond-true (is_tag (256 * a + b)) _ _ both.1
tagged_step [] h = absurd cc
tagged_step (a ∷ []) h = absurd cc
tagged_step (a ∷ b ∷ []) h = absurd cc
tagged_step (a ∷ b ∷ c ∷ []) h = absurd cc

second_false : (x y : Bool) → x ≡ true → (x && y) ≡ false → y ≡ false
second_false true y is h = h
second_false false y is h = absurd cc

cond_false : {X : Type 0} (b : Bool) (x y : X) → b ≡ false → cond b x y ≡ y
cond_false true x y h = absurd cc
cond_false false x y h = refl

-- without a tag all stays
pub untagged : (bytes : List ℕ) → is_tagged bytes ≡ false → after_tags bytes ≡ bytes
unfolding after_tags
untagged (a ∷ b ∷ c ∷ d ∷ rest) h =
    let long : nat_le 4 (length (a ∷ b ∷ c ∷ d ∷ rest)) ≡ true = le-leb 4 _ (omega arith) in
    cond_false (is_tag (256 * a + b)) _ _
    (second_false (nat_le 4 (length (a ∷ b ∷ c ∷ d ∷ rest))) (is_tag (256 * a + b)) long h)
untagged [] h = refl
untagged (a ∷ []) h = refl
untagged (a ∷ b ∷ []) h = refl
untagged (a ∷ b ∷ c ∷ []) h = refl

-- the tags that bytes begin with
pub record HasTags (bytes : List ℕ) : Type 0 where
  pub tags : List (List ℕ)
  pub each : AllByRecursion IsTag tags
  pub parts : bytes ≡ flat_map (λ tag. tag) tags ++ after_tags bytes

tag_kind : (kind : ℕ) → is_tag kind ≡ true → (kind ≡ 33024) ⊎ (kind ≡ 34984)
tag_kind kind h = go (kind == 33024) refl
  where
    go : (b : Bool) → (kind == 33024) ≡ b → (kind ≡ 33024) ⊎ (kind ≡ 34984)
    go true e = inl (eqb-true kind 33024 e)
    go false e = inr (eqb-true kind 34984 (ap (λ b. b || (kind == 34984)) (sym e) ∙ h))

one_tag : (a b c d : ℕ) → is_tag (256 * a + b) ≡ true → IsTag (a ∷ b ∷ c ∷ d ∷ [])
one_tag a b c d h = record { len = refl; kind = tag_kind (256 * a + b) h }

none : (bytes : List ℕ) → after_tags bytes ≡ bytes → HasTags bytes
none bytes is = record { tags = []; each = tt; parts = sym is }

one_more : (a b c d : ℕ) (rest : List ℕ) → HasTags rest → is_tag (256 * a + b) ≡ true
    → after_tags (a ∷ b ∷ c ∷ d ∷ rest) ≡ after_tags rest → HasTags (a ∷ b ∷ c ∷ d ∷ rest)
one_more a b c d rest has is same = record {
  tags = (a ∷ b ∷ c ∷ d ∷ []) ∷ has.tags;
  each = (one_tag a b c d is, has.each);
  parts = ap (λ l. a ∷ b ∷ c ∷ d ∷ l) has.parts
      ∙ ap (λ l. a ∷ b ∷ c ∷ d ∷ (flat_map (λ tag. tag) has.tags ++ l)) (sym same);
}

pub tags_of : (bytes : List ℕ) → HasTags bytes
unfolding after_tags
tags_of (a ∷ b ∷ c ∷ d ∷ rest) = go (tags_of rest) (is_tag (256 * a + b)) refl
  where
    go : HasTags rest → (t : Bool) → is_tag (256 * a + b) ≡ t → HasTags (a ∷ b ∷ c ∷ d ∷ rest)
    go has true is = one_more a b c d rest has is (cond-true (is_tag (256 * a + b)) _ _ is)
    go has false is = none (a ∷ b ∷ c ∷ d ∷ rest) (cond_false (is_tag (256 * a + b)) _ _ is)
tags_of [] = none [] refl
tags_of (a ∷ []) = none (a ∷ []) refl
tags_of (a ∷ b ∷ []) = none (a ∷ b ∷ []) refl
tags_of (a ∷ b ∷ c ∷ []) = none (a ∷ b ∷ c ∷ []) refl

tag_is : (kind : ℕ) → (kind ≡ 33024) ⊎ (kind ≡ 34984) → is_tag kind ≡ true
tag_is kind (inl is) = rw is refl
tag_is kind (inr is) = rw is refl

past_one : (tag more : List ℕ) → IsTag tag → after_tags (tag ++ more) ≡ after_tags more
unfolding after_tags
past_one (a ∷ b ∷ c ∷ d ∷ []) more is = cond-true (is_tag (256 * a + b)) _ _ (tag_is (256 * a + b) is.kind)
past_one (a ∷ b ∷ c ∷ d ∷ e ∷ tag) more is = absurd (omega (arith, is.len))
past_one [] more is = absurd (omega (arith, is.len))
past_one (a ∷ []) more is = absurd (omega (arith, is.len))
past_one (a ∷ b ∷ []) more is = absurd (omega (arith, is.len))
past_one (a ∷ b ∷ c ∷ []) more is = absurd (omega (arith, is.len))

-- all tags are passed over
pub past_tags : (tags : List (List ℕ)) (typed : List ℕ) → AllByRecursion IsTag tags → is_tagged typed ≡ false
    → after_tags (flat_map (λ tag. tag) tags ++ typed) ≡ typed
past_tags [] typed each end = untagged typed end
past_tags (tag ∷ tags) typed each end =
    ap after_tags (append_assoc tag (flat_map (λ t. t) tags) typed)
    ∙ past_one tag (flat_map (λ t. t) tags ++ typed) each.0 ∙ past_tags tags typed each.1 end

-- ---- types

-- what is told behind a type is carried
pub type_carries : (stations : Stations) (kind : ℕ) (rest : List ℕ) (d : Load) → by_type stations kind rest ≡ Ok d
    → TypeCarries stations kind rest d
unfolding by_type
type_carries stations kind rest d h =
    elim (went (nat_le kind 1500) _ _ d h) [
      | inl a ↦ inl (leb-true kind 1500 a.0, llc_carries stations kind rest d a.1)
      | inr b ↦ elim (went (kind == 2048) _ _ d b.1) [
        | inl a ↦ inr (inl (eqb-true kind 2048 a.0, ip_carries rest d a.1))
        | inr c ↦ elim (went (kind == 32923) _ _ d c.1) [
          | inl a ↦ inr (inr (eqb-true kind 32923 a.0, llap_carries _ rest d a.1))
          | inr e ↦ elim (went (kind == 33011) (Err Aarp) (Err Foreign) d e.1) [
            | inl a ↦ absurd (refused Aarp d a.1)
            | inr f ↦ absurd (refused Foreign d f.1)
          ]
        ]
      ]
    ]

-- what is carried behind a type is told
pub type_told : (stations : Stations) (kind : ℕ) (rest : List ℕ) (d : Load) → TypeCarries stations kind rest d
    → by_type stations kind rest ≡ Ok d
unfolding by_type
type_told stations kind rest d (inl c) =
    let few : nat_le kind 1500 ≡ true = le-leb kind 1500 c.0 in
    rw few (llc_told stations kind rest d c.1)
type_told stations kind rest d (inr (inl c)) =
    let is = c.0 in
    let many : nat_le kind 1500 ≡ false = lt-leb kind 1500 (omega arith) in
    let ip : (kind == 2048) ≡ true = eq-eqb kind 2048 is in
    rw (many, ip) (ip_told rest d c.1)
type_told stations kind rest d (inr (inr c)) =
    let is = c.0 in
    let many : nat_le kind 1500 ≡ false = lt-leb kind 1500 (omega arith) in
    let ip : (kind == 2048) ≡ false = ne_eqb kind 2048 (λ e. absurd (omega (arith, e))) in
    let llap : (kind == 32923) ≡ true = eq-eqb kind 32923 is in
    rw (many, ip, llap) (llap_told _ rest d c.1)

no_tag : (kind : ℕ) → (kind ≡ 33024 → ⊥) → (kind ≡ 34984 → ⊥) → is_tag kind ≡ false
no_tag kind a b = rw (ne_eqb kind 33024 a, ne_eqb kind 34984 b) refl

-- a type behind which a datagram is carried is no tag
pub type_is_no_tag : (stations : Stations) (kind : ℕ) (rest : List ℕ) (d : Load) → TypeCarries stations kind rest d
    → is_tag kind ≡ false
type_is_no_tag stations kind rest d (inl c) =
    let few = c.0 in no_tag kind (λ e. omega (arith, e)) (λ e. omega (arith, e))
type_is_no_tag stations kind rest d (inr (inl c)) =
    let is = c.0 in no_tag kind (λ e. omega (arith, e)) (λ e. omega (arith, e))
type_is_no_tag stations kind rest d (inr (inr c)) =
    let is = c.0 in no_tag kind (λ e. omega (arith, e)) (λ e. omega (arith, e))
