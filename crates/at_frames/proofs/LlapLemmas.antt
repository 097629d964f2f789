-- LLAP: what is told is carried, and the other way round.
use Rattle.std.proofs.Common.{◌≡◌, inl, inr, ℕ, List, [], ◌∷◌, length, Ok, Err, refl}
use Rattle.std.proofs.Common.{sym}
use Rattle.std.proofs.Common.{ap, subst, ◌∙◌, arith}
use Rattle.std.specs.Prelude.{◌==◌, nat_lt}
use Rattle.std.proofs.lemmas.Bool.{eqb-true, le-ltb}
use Rattle.at_frames.specs.Carried.{Load}
use Rattle.at_frames.specs.Carries.{LlapCarries}
use Rattle.at_frames.specs.Llap.{behind, in_llap, is_control}
use Rattle.at_frames.specs.declared.carried.Carrier.{Carrier}
use Rattle.at_frames.specs.declared.carried.Header.TheVariants.{Long, Short}
use Rattle.at_frames.specs.declared.carried.Reason.TheVariants.{Control, Cut, Foreign}
use Rattle.at_frames.proofs.Steps.{passed, refused, ok_is, same_load, went, when_false}

short_llap : (carrier : Carrier) (to from kind : ℕ) (rest : List ℕ) (d : Load) → kind ≡ 1
    → behind carrier (Short to from) (to ∷ from ∷ kind ∷ rest) ≡ d → LlapCarries carrier (to ∷ from ∷ kind ∷ rest) d
short_llap carrier to from kind rest d is e =
    subst (LlapCarries carrier (to ∷ from ∷ kind ∷ rest)) e (record {
      to = to;
      from = from;
      carried = refl;
      between = refl;
      behind = inl (refl, ap (λ k. to ∷ from ∷ k ∷ rest) is);
    })

long_llap : (carrier : Carrier) (to from kind : ℕ) (rest : List ℕ) (d : Load) → kind ≡ 2
    → behind carrier Long (to ∷ from ∷ kind ∷ rest) ≡ d → LlapCarries carrier (to ∷ from ∷ kind ∷ rest) d
long_llap carrier to from kind rest d is e =
    subst (LlapCarries carrier (to ∷ from ∷ kind ∷ rest)) e (record {
      to = to;
      from = from;
      carried = refl;
      between = refl;
      behind = inr (refl, ap (λ k. to ∷ from ∷ k ∷ rest) is);
    })

-- what is told is carried
pub llap_carries : (carrier : Carrier) (llap : List ℕ) (d : Load) → in_llap carrier llap ≡ Ok d
    → LlapCarries carrier llap d
unfolding in_llap
llap_carries carrier (to ∷ from ∷ kind ∷ rest) d h =
    let llap = to ∷ from ∷ kind ∷ rest in
    let long = passed (nat_lt (length llap) 3) Cut _ d h in
    elim (went (kind == 1) _ _ d long.1) [
      | inl a ↦ short_llap carrier to from kind rest d (eqb-true kind 1 a.0) (ok_is _ d _ refl a.1)
      | inr b ↦ elim (went (kind == 2) _ _ d b.1) [
        | inl e ↦ long_llap carrier to from kind rest d (eqb-true kind 2 e.0) (ok_is _ d _ refl e.1)
        | inr f ↦ elim (went (is_control kind) (Err Control) (Err Foreign) d f.1) [
          | inl g ↦ absurd (refused Control d g.1)
          | inr g ↦ absurd (refused Foreign d g.1)
        ]
      ]
    ]
llap_carries carrier [] d h = absurd (refused Cut d h)
llap_carries carrier (a ∷ []) d h = absurd (refused Cut d h)
llap_carries carrier (a ∷ b ∷ []) d h = absurd (refused Cut d h)

-- what is carried is told
pub llap_told : (carrier : Carrier) (llap : List ℕ) (d : Load) → LlapCarries carrier llap d
    → in_llap carrier llap ≡ Ok d
unfolding in_llap
llap_told carrier llap d c =
    elim c.behind [
      | inl s ↦ subst (λ l. in_llap carrier l ≡ Ok d) (sym s.1)
          (when_false (nat_lt (length (c.to ∷ c.from ∷ 1 ∷ d.bytes)) 3) _ _ (le-ltb _ 3 (omega arith))
          ∙ ap Ok (same_load (behind carrier (Short c.to c.from) (c.to ∷ c.from ∷ 1 ∷ d.bytes)) d
          (sym c.carried) (sym c.between) (sym s.0) refl))
      | inr s ↦ subst (λ l. in_llap carrier l ≡ Ok d) (sym s.1)
          (when_false (nat_lt (length (c.to ∷ c.from ∷ 2 ∷ d.bytes)) 3) _ _ (le-ltb _ 3 (omega arith))
          ∙ ap Ok (same_load (behind carrier Long (c.to ∷ c.from ∷ 2 ∷ d.bytes)) d
          (sym c.carried) (sym c.between) (sym s.0) refl))
    ]
