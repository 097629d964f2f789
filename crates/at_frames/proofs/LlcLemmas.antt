-- LLC: what is told is carried, and the other way round.
use Rattle.std.proofs.Common.{◌≡◌, inl, inr, ℕ, ◌≤◌, true, List, ◌++◌, length}
use Rattle.std.proofs.Common.{take}
use Rattle.std.proofs.Common.{drop, Ok, Err, refl, sym, ap, subst, ◌∙◌, arith}
use Rattle.std.specs.Prelude.{min, nat_eq, nat_lt}
use Rattle.std.specs.List.{starts_with}
use Rattle.std.specs.Cmp.Lexicographic.{same_text}
use Rattle.std.proofs.lemmas.Bool.{le-ltb}
use Rattle.std.proofs.lemmas.List.{length-append, take-append-drop, take_min}
use Rattle.at_frames.specs.Carried.{Load}
use Rattle.at_frames.specs.Carries.{LlcCarries}
use Rattle.at_frames.specs.Llc.{aarp_snap, datagram_snap, in_llc, in_snap, missing}
use Rattle.at_frames.specs.declared.carried.Carrier.TheVariants.{EtherTalk}
use Rattle.at_frames.specs.declared.carried.Header.TheVariants.{Long}
use Rattle.at_frames.specs.declared.carried.Reason.TheVariants.{Aarp, Foreign}
use Rattle.at_frames.specs.declared.carried.Stations.{Stations}
use Rattle.at_frames.proofs.Steps.{ok_is, passed, refused, same_load, went, when_false}

found : (stations : Stations) (stated : ℕ) (rest llc : List ℕ) (d : Load) → llc ≡ take stated rest
    → starts_with nat_eq llc datagram_snap ≡ true
    → record { carrier = EtherTalk; stations = stations; header = Long; bytes = drop 8 llc } ≡ d
    → LlcCarries stations stated rest d
found stations stated rest llc d is begins e =
    subst (LlcCarries stations stated rest) e (record {
      carried = refl;
      between = refl;
      long = refl;
      behind = sym is ∙ sym (take-append-drop 8 llc)
          ∙ ap (λ front. front ++ drop 8 llc) (sym (same_text datagram_snap (take 8 llc) (sym begins)));
    })

-- what is told is carried
pub llc_carries : (stations : Stations) (stated : ℕ) (rest : List ℕ) (d : Load) → in_llc stations stated rest ≡ Ok d
    → LlcCarries stations stated rest d
unfolding in_llc in_snap
llc_carries stations stated rest d h =
    let llc = take (min stated (length rest)) rest in
    let long = passed (nat_lt (length llc) 8) (missing stated (length rest)) _ d h in
    elim (went (starts_with nat_eq llc datagram_snap) _ _ d long.1) [
      | inl a ↦ found stations stated rest llc d (take_min stated rest) a.0 (ok_is _ d _ refl a.1)
      | inr b ↦ elim (went (starts_with nat_eq llc aarp_snap) (Err Aarp) (Err Foreign) d b.1) [
        | inl e ↦ absurd (refused Aarp d e.1)
        | inr e ↦ absurd (refused Foreign d e.1)
      ]
    ]

-- the headers and a datagram tell the datagram
snap_told : (stations : Stations) (d : Load) → d.carrier ≡ EtherTalk → d.stations ≡ stations → d.header ≡ Long
    → in_snap stations (datagram_snap ++ d.bytes) ≡ Ok d
unfolding in_snap
snap_told stations d carrier between long =
    ap Ok (same_load (record { carrier = EtherTalk; stations = stations; header = Long; bytes = d.bytes }) d
    (sym carrier) (sym between) (sym long) refl)

-- what is carried is told
pub llc_told : (stations : Stations) (stated : ℕ) (rest : List ℕ) (d : Load) → LlcCarries stations stated rest d
    → in_llc stations stated rest ≡ Ok d
unfolding in_llc
llc_told stations stated rest d c =
    let llc = take (min stated (length rest)) rest in
    let is : llc ≡ datagram_snap ++ d.bytes = take_min stated rest ∙ c.behind in
    let len : 8 ≤ length llc = omega (arith, ap length is, length-append datagram_snap d.bytes) in
    when_false (nat_lt (length llc) 8) (Err (missing stated (length rest))) (in_snap stations llc) (le-ltb _ 8 len)
    ∙ ap (in_snap stations) is ∙ snap_told stations d c.carried c.between c.long
