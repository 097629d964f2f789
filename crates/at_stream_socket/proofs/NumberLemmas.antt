-- The identifiers in a segment.
use Rattle.std.proofs.Common.{◌≡◌, ℕ, zero, suc, Bool, true, false, cond, List, [], ◌∷◌, Option, Some, None, inl, inr}
use Rattle.std.proofs.Common.{refl, ap, ◌∙◌, arith}
use Rattle.std.specs.Prelude.{◌==◌}
use Rattle.std.specs.List.{Contains}
use Rattle.std.proofs.lemmas.Bool.{ne_eqb}
use Rattle.at_ddp.specs.declared.address.Address.{Address}
use Rattle.at_adsp_frame.specs.Segments.{Content, Spells}
use Rattle.at_stream_socket.specs.Carrying.{Carries, Names, dest_of}
use Rattle.std.proofs.lemmas.Option.{same_Some}

abbrev pub numbered : ℕ → ℕ → Option (ℕ × ℕ)
numbered node id = cond (id == 0) None (Some (node, id))

is_numbered : (n i node id : ℕ) → numbered n i ≡ Some (node, id) → (n ≡ node) × (i ≡ id) × ((id ≡ 0) → ⊥)
is_numbered n i node id = go (i == 0) refl
  where
    go : (b : Bool) → (i == 0) ≡ b → ◌≡◌ {A = Option (ℕ × ℕ)} (cond b None (Some (n, i))) (Some (node, id))
        → (n ≡ node) × (i ≡ id) × ((id ≡ 0) → ⊥)
    go true e h = absurd (cc)
    go false e h =
        let same = same_Some (n, i) (node, id) h in
        let its : i ≡ id = ap (λ (p : ℕ × ℕ). p.1) same in
        (ap (λ (p : ℕ × ℕ). p.0) same, its, λ z. let no : (i == 0) ≡ true = ap (λ x. x == 0) (its ∙ z) in absurd (cc))

numbered_as : (n i node id : ℕ) → n ≡ node → i ≡ id → ((id ≡ 0) → ⊥) → numbered n i ≡ Some (node, id)
numbered_as n i node id same its some = rw (same, its, ne_eqb id 0 some) refl

module _ (from to : Address) (bytes : List ℕ) (s : Content) (spelled : Spells bytes s)
    (alone : (t : Content) → Spells bytes t → s ≡ t) (node id : ℕ) where
  abbrev ids : List (Option (ℕ × ℕ))
  ids = numbered from.node s.source ∷ numbered to.node (dest_of s.body) ∷ []

  pub found : Contains ids (Some (node, id)) → Carries from to bytes node id
  found (zero, within, is) = let n = is_numbered from.node s.source node id is in
      record { segment = s; spelled = spelled; names = (n.2, inl (n.0, n.1)) }
  found (suc zero, within, is) = let n = is_numbered to.node (dest_of s.body) node id is in
      record { segment = s; spelled = spelled; names = (n.2, inr (n.0, n.1)) }
  found (suc (suc k), within, is) = absurd (omega arith)

  there : (t : Content) → s ≡ t → Names from to t node id → Contains ids (Some (node, id))
  there t same (some, inl h) =
      (0, omega arith, numbered_as from.node s.source node id h.0 (ap (λ (x : Content). x.source) same ∙ h.1) some)
  there t same (some, inr h) = (
    1,
    omega arith,
    numbered_as to.node (dest_of s.body) node id h.0
        (ap (λ (x : Content). dest_of x.body) same ∙ h.1) some,
  )

  pub contained : Carries from to bytes node id → Contains ids (Some (node, id))
  contained c = there c.segment (alone c.segment c.spelled) c.names
