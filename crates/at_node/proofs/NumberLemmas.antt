-- The numbers that packets carry.
use Rattle.std.proofs.Common.{lit<, ◌≡◌, ℕ, zero, suc, [], ◌∷◌, Option, Some, None}
use Rattle.std.proofs.Common.{refl, sym, ap, subst, ◌∙◌, arith}
use Rattle.std.specs.Prelude.{◌↔◌}
use Rattle.std.specs.List.{Contains}
use Rattle.at_ddp.specs.Datagram.{Content as Datagram}
use Rattle.at_ddp.specs.Protocols.{atp_kind, nbp_kind, adsp_kind}
use Rattle.at_name_socket.specs.Carrying as names
use Rattle.at_node.specs.declared.numbers.Draw.{Draw}
use Rattle.at_node.specs.Numbers.{CarriesNumber, end_drawn}
use Rattle.at_node.specs.declared.numbers.Draw.TheVariants.{Conn, Lookup, Tid}
use Rattle.at_stream_socket.specs.Carrying as streams
use Rattle.std.proofs.lemmas.Option.{same_Some}

-- nothing stands in a list of two nothings
pub is_nowhere : {X : Type 0} (x : X) → ¬ Contains (None ∷ None ∷ []) (Some x)
is_nowhere x (zero, within, is) = absurd (cc)
is_nowhere x (suc zero, within, is) = absurd (cc)
is_nowhere x (suc (suc k), within, is) = absurd (omega arith)

-- what stands in a list of two of which the second is nothing
pub is_first : {X : Type 0} (o : Option X) (x : X) → Contains (o ∷ None ∷ []) (Some x) → o ≡ Some x
is_first o x (zero, within, is) = is
is_first o x (suc zero, within, is) = absurd (cc)
is_first o x (suc (suc k), within, is) = absurd (omega arith)

pub same_pair : (a b c d : ℕ) → ◌≡◌ {A = Option (ℕ × ℕ)} (Some (a, b)) (Some (c, d)) → (a ≡ c) × (b ≡ d)
same_pair a b c d h = let same = same_Some (a, b) (c, d) h in
    (ap (λ (p : ℕ × ℕ). p.0) same, ap (λ (p : ℕ × ℕ). p.1) same)

-- ---- the identifiers of ends

pub draw_same : (x y : Draw) → Some x ≡ Some y → x ≡ y
draw_same x y h = cc

pub nat_same : (x y : ℕ) → Some x ≡ Some y → x ≡ y
nat_same x y h = cc

pair_same : (x y : ℕ × Draw) → Some x ≡ Some y → x ≡ y
pair_same x y h = cc

end_is : (o : Option (ℕ × ℕ)) (node : ℕ) (draw : Draw) → end_drawn o ≡ Some (node, draw) → (id : ℕ)
    × (o ≡ Some (node, id)) × (draw ≡ Conn id)
end_is None node draw h = absurd (cc)
end_is (Some p) node draw h =
    let same = pair_same (p.0, Conn p.1) (node, draw) h in
    (p.1, ap (λ n. Some (n, p.1)) (ap (λ (x : ℕ × Draw). x.0) same), sym (ap (λ (x : ℕ × Draw). x.1) same))

-- by its protocol, which number a datagram carries
pub lookup_of : (d : Datagram) (node : ℕ) (draw : Draw) → d.kind ≡ nbp_kind → CarriesNumber d node draw → (id : ℕ)
    × names.Carries d.to d.data_ node id × (draw ≡ Lookup id)
lookup_of d node (Tid tid) its h = let both : nbp_kind ≡ atp_kind = sym its ∙ h.0 in absurd (cc)
lookup_of d node (Lookup id) its h = (id, h.1, refl)
lookup_of d node (Conn id) its h = let both : nbp_kind ≡ adsp_kind = sym its ∙ h.0 in absurd (cc)

conn_of : (d : Datagram) (node : ℕ) (draw : Draw) → d.kind ≡ adsp_kind → CarriesNumber d node draw → (id : ℕ)
    × streams.Carries d.from d.to d.data_ node id × (draw ≡ Conn id)
conn_of d node (Tid tid) its h = let both : adsp_kind ≡ atp_kind = sym its ∙ h.0 in absurd (cc)
conn_of d node (Lookup id) its h = let both : adsp_kind ≡ nbp_kind = sym its ∙ h.0 in absurd (cc)
conn_of d node (Conn id) its h = (id, h.1, refl)

module _ (source dest : Option (ℕ × ℕ)) (d : Datagram) (node : ℕ) (draw : Draw) (kind : d.kind ≡ adsp_kind)
    (both : (node id : ℕ) → Contains (source ∷ dest ∷ []) (Some (node, id)) ↔ streams.Carries d.from d.to d.data_ node
    id) where
  pub end_found : Contains (end_drawn source ∷ end_drawn dest ∷ []) (Some (node, draw)) → CarriesNumber d node draw
  end_found (zero, within, is) =
      let e = end_is source node draw is in
      subst (CarriesNumber d node) (sym e.2) (kind, (both node e.0).0 (0, lit< tt, e.1))
  end_found (suc zero, within, is) =
      let e = end_is dest node draw is in
      subst (CarriesNumber d node) (sym e.2) (kind, (both node e.0).0 (1, lit< tt, e.1))
  end_found (suc (suc k), within, is) = absurd (omega arith)

  end_at : (id : ℕ) → draw ≡ Conn id → Contains (source ∷ dest ∷ []) (Some (node, id))
      → Contains (end_drawn source ∷ end_drawn dest ∷ []) (Some (node, draw))
  end_at id is (zero, within, at) = (0, lit< tt, ap end_drawn at ∙ ap (λ x. Some (node, x)) (sym is))
  end_at id is (suc zero, within, at) = (1, lit< tt, ap end_drawn at ∙ ap (λ x. Some (node, x)) (sym is))
  end_at id is (suc (suc k), within, at) = absurd (omega arith)

  pub end_stands : CarriesNumber d node draw → Contains (end_drawn source ∷ end_drawn dest ∷ []) (Some (node, draw))
  end_stands h = let e = conn_of d node draw kind h in end_at e.0 e.2 ((both node e.0).1 e.1)
