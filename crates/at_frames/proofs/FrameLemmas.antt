-- Frames of each type of link: what is told is carried, and the other way round.
use Rattle.std.proofs.Common.{◌≡◌, ◌⊎◌, inl, inr, ℕ, ◌≤◌, Bool, true, false, List, ◌++◌, length}
use Rattle.std.proofs.Common.{take}
use Rattle.std.proofs.Common.{drop, Result, Ok, Err, refl, sym, ap, ◌∙◌, arith}
use Rattle.std.specs.Prelude.{◌==◌, ◌||◌, IfOk, IsOkAnd, nat_le, nat_lt, slice_index}
use Rattle.std.specs.List.{flat_map}
use Rattle.std.proofs.lemmas.Bool.{eq-eqb, eqb-false, eqb-true, le-ltb, ltb-false, ne_eqb, and_right}
use Rattle.std.proofs.lemmas.List.{drop-drop, length-append, length-drop, length-take-le, take-append-drop}
use Rattle.at_ddp.specs.Fault.{number_at}
use Rattle.at_ddp.proofs.Octets.{append_parts}
use Rattle.at_frames.specs.Carried.{Load, load_of, told_of}
use Rattle.at_frames.specs.Carries.{Carries, Cooked1Carries, Cooked2Carries, CookedCarries, EthernetCarries}
use Rattle.at_frames.specs.Cooked.{by_protocol, in_cooked, in_cooked_2, sender, stations_from}
use Rattle.at_frames.specs.Ethernet.{after_tags, by_type, in_ethernet, is_tag, typed}
use Rattle.at_frames.specs.Frames.{told}
use Rattle.at_frames.specs.declared.carried.Carried.{Carried}
use Rattle.at_frames.specs.declared.carried.Carrier.TheVariants.{LocalTalk}
use Rattle.at_frames.specs.declared.carried.Reason.{Reason}
use Rattle.at_frames.specs.declared.carried.Reason.TheVariants.{Cut, OtherLink}
use Rattle.at_frames.specs.declared.carried.Station.{Station}
use Rattle.at_frames.specs.declared.carried.Station.TheVariants.{Ethernet as OfEthernet}
use Rattle.at_frames.specs.declared.carried.Stations.{Stations}
use Rattle.at_frames.proofs.IpLemmas.{ip_carries, ip_told}
use Rattle.at_frames.proofs.LlapLemmas.{llap_carries, llap_told}
use Rattle.at_frames.proofs.LlcLemmas.{llc_carries, llc_told}
use Rattle.at_frames.proofs.Steps.{ok_is, passed, refused, went}
use Rattle.at_frames.proofs.TagLemmas.{past_tags, tags_of, type_carries, type_is_no_tag, type_told}

-- ---- Ethernet

six_and_six : (frame : List ℕ) → frame ≡ take 6 frame ++ (take 6 (drop 6 frame) ++ drop 12 frame)
six_and_six frame =
    sym (take-append-drop 6 frame) ∙ ap (λ l. take 6 frame ++ l)
    (sym (take-append-drop 6 (drop 6 frame)) ∙ ap (λ l. take 6 (drop 6 frame) ++ l) (drop-drop 6 6 frame))

ethernet_carries : (frame : List ℕ) (d : Load) → in_ethernet frame ≡ Ok d → EthernetCarries frame d
unfolding in_ethernet typed
ethernet_carries frame d h =
    let bytes = after_tags (drop 12 frame) in
    let has = tags_of (drop 12 frame) in
    let long = passed (nat_lt (length frame) 14) Cut _ d h in
    let enough : 14 ≤ length frame = ltb-false (length frame) 14 long.0 in
    let there = passed (nat_lt (length bytes) 2) Cut _ d long.1 in
    let other = passed (is_tag (number_at 0 bytes)) Cut _ d there.1 in
    record {
      to = take 6 frame;
      from = take 6 (drop 6 frame);
      tags = has.tags;
      typed = bytes;
      to_len = length-take-le 6 frame (omega arith);
      from_len = length-take-le 6 (drop 6 frame) (omega (arith, length-drop 6 frame));
      each = has.each;
      parts = six_and_six frame ∙ ap (λ l. take 6 frame ++ (take 6 (drop 6 frame) ++ l)) has.parts;
      has_type = ltb-false (length bytes) 2 there.0;
      behind = type_carries (record { to = OfEthernet (take 6 frame); from = OfEthernet (take 6 (drop 6 frame)) })
          (number_at 0 bytes) (drop 2 bytes) d other.1;
    }

typed_told : (stations : Stations) (bytes : List ℕ) (d : Load) → 2 ≤ length bytes → is_tag (number_at 0 bytes) ≡ false
    → by_type stations (number_at 0 bytes) (drop 2 bytes) ≡ Ok d → typed stations bytes ≡ Ok d
unfolding typed
typed_told stations bytes d long other h =
    let there : nat_lt (length bytes) 2 ≡ false = le-ltb (length bytes) 2 long in
    rw (there, other) h

ethernet_told : (frame : List ℕ) (d : Load) → EthernetCarries frame d → in_ethernet frame ≡ Ok d
unfolding in_ethernet
ethernet_told frame d c =
    let tags = flat_map (λ tag. tag) c.tags ++ c.typed in
    let to = append_parts (take 6 frame) c.to (drop 6 frame) (c.from ++ tags) (length-take-le 6 frame (omega (
      arith,
      ap length c.parts,
      length-append c.to (c.from ++ tags),
      c.to_len,
    )) ∙ sym c.to_len) (take-append-drop 6 frame ∙ c.parts) in
    let from = append_parts (take 6 (drop 6 frame)) c.from (drop 12 frame) tags (length-take-le 6 (drop 6 frame)
    (omega (
      arith,
      ap length to.1,
      length-append c.from tags,
      c.from_len,
    )) ∙ sym c.from_len)
    (ap (λ l. take 6 (drop 6 frame) ++ l) (sym (drop-drop 6 6 frame)) ∙ take-append-drop 6 (drop 6 frame) ∙ to.1) in
    let has_type = c.has_type in
    let enough : 14 ≤ length frame = omega (
      arith,
      ap length c.parts,
      length-append c.to (c.from ++ tags),
      length-append c.from tags,
      length-append (flat_map (λ (tag : List ℕ). tag) c.tags) c.typed,
      c.to_len,
      c.from_len,
    ) in
    let stations : Stations = record { to = OfEthernet c.to; from = OfEthernet c.from } in
    let other = type_is_no_tag stations (number_at 0 c.typed) (drop 2 c.typed) d c.behind in
    let rest : after_tags (drop 12 frame) ≡ c.typed =
    ap after_tags from.1
    ∙ past_tags c.tags c.typed c.each (and_right (nat_le 4 (length c.typed)) (is_tag (number_at 0 c.typed)) other) in
    let there : nat_lt (length frame) 14 ≡ false = le-ltb (length frame) 14 enough in
    rw (there, rest, to.0, from.0)
    (typed_told stations c.typed d has_type other (type_told stations (number_at 0 c.typed)
    (drop 2 c.typed) d c.behind))

-- ---- cooked captures

protocol_carries : (from : Station) (kind : ℕ) (rest : List ℕ) (d : Load) → by_protocol from kind rest ≡ Ok d
    → CookedCarries from kind rest d
unfolding by_protocol
protocol_carries from kind rest d h =
    elim (went (kind == 4) _ _ d h) [
      | inl a ↦ inl (eqb-true kind 4 a.0, llc_carries (stations_from from) (length rest) rest d a.1)
      | inr a ↦ inr (eqb-false kind 4 a.0, type_carries (stations_from from) kind rest d a.1)
    ]

protocol_told : (from : Station) (kind : ℕ) (rest : List ℕ) (d : Load) → CookedCarries from kind rest d
    → by_protocol from kind rest ≡ Ok d
unfolding by_protocol
protocol_told from kind rest d (inl c) =
    let is : (kind == 4) ≡ true = eq-eqb kind 4 c.0 in
    rw is (llc_told (stations_from from) (length rest) rest d c.1)
protocol_told from kind rest d (inr c) =
    let is : (kind == 4) ≡ false = ne_eqb kind 4 c.0 in
    rw is (type_told (stations_from from) kind rest d c.1)

cooked_carries : (frame : List ℕ) (d : Load) → in_cooked frame ≡ Ok d → Cooked1Carries frame d
unfolding in_cooked
cooked_carries frame d h =
    let long = passed (nat_lt (length frame) 16) Cut _ d h in
    record {
      captured = ltb-false (length frame) 16 long.0;
      behind = protocol_carries (sender (number_at 4 frame) frame 6) (number_at 14 frame) (drop 16 frame) d long.1;
    }

cooked_told : (frame : List ℕ) (d : Load) → Cooked1Carries frame d → in_cooked frame ≡ Ok d
unfolding in_cooked
cooked_told frame d c =
    let there : nat_lt (length frame) 16 ≡ false = le-ltb (length frame) 16 c.captured in
    rw there (protocol_told (sender (number_at 4 frame) frame 6) (number_at 14 frame) (drop 16 frame) d c.behind)

cooked_2_carries : (frame : List ℕ) (d : Load) → in_cooked_2 frame ≡ Ok d → Cooked2Carries frame d
unfolding in_cooked_2
cooked_2_carries frame d h =
    let long = passed (nat_lt (length frame) 20) Cut _ d h in
    record {
      captured = ltb-false (length frame) 20 long.0;
      behind = protocol_carries (sender (slice_index frame 11) frame 12) (number_at 0 frame) (drop 20 frame) d long.1;
    }

cooked_2_told : (frame : List ℕ) (d : Load) → Cooked2Carries frame d → in_cooked_2 frame ≡ Ok d
unfolding in_cooked_2
cooked_2_told frame d c =
    let there : nat_lt (length frame) 20 ≡ false = le-ltb (length frame) 20 c.captured in
    rw there (protocol_told (sender (slice_index frame 11) frame 12) (number_at 0 frame) (drop 20 frame) d c.behind)

-- ---- every link

either : (a b : ℕ → Bool) (n : ℕ) → (a n || b n) ≡ true → (a n ≡ true) ⊎ (b n ≡ true)
either a b n h = go (a n) refl
  where
    go : (t : Bool) → a n ≡ t → (a n ≡ true) ⊎ (b n ≡ true)
    go true e = inl e
    go false e = inr (ap (λ t. t || b n) (sym e) ∙ h)

raw_link : (n : ℕ) → ((n == 101) || (n == 228)) ≡ true → (n ≡ 101) ⊎ (n ≡ 228)
raw_link n h =
    elim (either (λ m. m == 101) (λ m. m == 228) n h) [
      | inl a ↦ inl (eqb-true n 101 a)
      | inr a ↦ inr (eqb-true n 228 a)
    ]

-- what is told is carried
pub told_carries : (link_type : ℕ) (frame : List ℕ) (d : Load) → told link_type frame ≡ Ok d → Carries link_type frame d
unfolding told
told_carries n frame d h =
    elim (went (n == 1) _ _ d h) [
      | inl a ↦ inl (eqb-true n 1 a.0, ethernet_carries frame d a.1)
      | inr b ↦ elim (went (n == 113) _ _ d b.1) [
        | inl a ↦ inr (inl (eqb-true n 113 a.0, cooked_carries frame d a.1))
        | inr c ↦ elim (went (n == 276) _ _ d c.1) [
          | inl a ↦ inr (inr (inl (eqb-true n 276 a.0, cooked_2_carries frame d a.1)))
          | inr e ↦ elim (went ((n == 101) || (n == 228)) _ _ d e.1) [
            | inl a ↦ inr (inr (inr (inl (raw_link n a.0, ip_carries frame d a.1))))
            | inr f ↦ elim (went (n == 114) _ (Err OtherLink) d f.1) [
              | inl a ↦ inr (inr (inr (inr (eqb-true n 114 a.0, llap_carries LocalTalk frame d a.1))))
              | inr g ↦ absurd (refused OtherLink d g.1)
            ]
          ]
        ]
      ]
    ]

-- what is carried is told
pub carries_told : (link_type : ℕ) (frame : List ℕ) (d : Load) → Carries link_type frame d → told link_type frame ≡ Ok d
unfolding told
carries_told n frame d (inl (is, c)) = rw is (ethernet_told frame d c)
carries_told n frame d (inr (inl (is, c))) = rw is (cooked_told frame d c)
carries_told n frame d (inr (inr (inl (is, c)))) = rw is (cooked_2_told frame d c)
carries_told n frame d (inr (inr (inr (inl (inl is, c))))) = rw is (ip_told frame d c)
carries_told n frame d (inr (inr (inr (inl (inr is, c))))) = rw is (ip_told frame d c)
carries_told n frame d (inr (inr (inr (inr (is, c))))) = rw is (llap_told LocalTalk frame d c)

-- an answer that says what is told has what is carried, and nothing else
pub only_that : (link_type : ℕ) (frame : List ℕ) (r : Result Carried Reason) → told_of r ≡ told link_type frame
    → (d : Load) → Carries link_type frame d → IsOkAnd r (λ c. load_of c ≡ d)
only_that n frame (Ok c) is d carries = ok_is (load_of c) d (told n frame) (sym is) (carries_told n frame d carries)
only_that n frame (Err reason) is d carries = refused reason d (is ∙ carries_told n frame d carries)

pub found_there : (link_type : ℕ) (frame : List ℕ) (r : Result Carried Reason) → told_of r ≡ told link_type frame
    → IfOk r (λ c. Carries link_type frame (load_of c))
found_there n frame (Ok c) is = told_carries n frame (load_of c) (sym is)
found_there n frame (Err reason) is = tt

-- a frame carries one datagram
pub one_load : (link_type : ℕ) (frame : List ℕ) (d e : Load) → Carries link_type frame d → Carries link_type frame e
    → d ≡ e
one_load n frame d e c f = ok_is d e (told n frame) (carries_told n frame d c) (carries_told n frame e f)
