-- An identifier that no end of a node is connected to is no remote of an end there.
use Rattle.std.proofs.Common.{◌≡◌, ℕ, Bool, true, false, cond, List, [], ◌∷◌, Option, Some, None, refl, sym, ap, ◌∙◌}
use Rattle.std.specs.Prelude.{find, ◌==◌, ◌&&◌}
use Rattle.std.specs.List.{list_any}
use Rattle.std.proofs.lemmas.Bool.{true≢false, and_parts, eq-eqb, eqb-true, or_parts}
use Rattle.at_ddp.specs.Address.{same_address}
use Rattle.at_ddp.specs.declared.address.Address.{Address}
use Rattle.at_ddp.proofs.Octets.{same_address-true}
use Rattle.at_adsp_end.specs.Ends.{EndState, has_remote, is_remote}
use Rattle.at_adsp_end.specs.declared.remote.Remote.{Remote}
use Rattle.at_adsp_ends.specs.Tables.{by_remote, has_remote_at, is_at}
use Rattle.at_node.specs.Numbers.{holds}
use Rattle.at_node.specs.Nodes.{NodeState}
use Rattle.at_node.specs.declared.numbers.Draw.TheVariants.{Conn}

module _ (k id : ℕ) (at : Address) (there : at.node ≡ k) where
  remote_at : (o : Option Remote) → is_remote (record { address = at; id = id }) o ≡ true → is_at k id o ≡ true
  remote_at None h = absurd (true≢false (sym h))
  remote_at (Some r) h =
      let both = and_parts (same_address at r.address) (id == r.id) h in
      let address : at ≡ r.address = same_address-true at r.address both.0 in
      λ i. eq-eqb r.address.node k (ap (λ (a : Address). a.node) (sym address) ∙ there) i
      && eq-eqb r.id id (sym (eqb_true both.1)) i
    where
      eqb_true : (id == r.id) ≡ true → id ≡ r.id
      eqb_true e = eqb-true id r.id e

  none_of : (es : List EndState) → list_any (has_remote_at k id) es ≡ false
      → find (has_remote (record { address = at; id = id })) es ≡ None
  none_of [] h = refl
  none_of (e ∷ es) h =
      let both = or_parts (has_remote_at k id e) (list_any (has_remote_at k id) es) h in
      go (has_remote (record { address = at; id = id }) e) refl both.0 (none_of es both.1)
    where
      go : (b : Bool) → has_remote (record { address = at; id = id }) e ≡ b → has_remote_at k id e ≡ false
          → find (has_remote (record { address = at; id = id })) es ≡ None
          → cond b (Some e) (find (has_remote (record { address = at; id = id })) es) ≡ None
      go false h apart ih = ih
      go true h apart ih = absurd (true≢false (sym (remote_at e.remote h) ∙ apart))

pub holds_no_end : (n : NodeState) (k id : ℕ) (at : Address) → holds n k (Conn id) ≡ false → at.node ≡ k
    → by_remote n.streams (record { address = at; id = id }) ≡ None
holds_no_end n k id at h there = none_of k id at there n.streams.ends h
