-- The list of last draws, as a map keeps it.
use Rattle.std.proofs.Common.{◌≡◌, ℕ, Bool, false, cond, [], ◌∷◌, Some, refl}
use Rattle.std.specs.Prelude.{◌==◌, ◌&&◌}
use Rattle.std.specs.Map.{lookup}
use Rattle.indexmap.specs.IndexMap.{insert_entry}
use Rattle.at_node.specs.contracts.numbers.DrawPartialEq.TheImpl as equality
use Rattle.at_node.specs.declared.numbers.Draw.{Draw}
use Rattle.at_node.specs.declared.numbers.Draw.TheVariants.{Conn, Lookup, Tid}
use Rattle.at_world.specs.Draws.{Draws, same_draw, is_number, last_of, drawn_at}

-- an equality of draws that tells numbers of one kind apart, and kinds
pub record TellsApart (eq : Draw → Draw → Bool) : Type 0 where
  pub tids : (a b : ℕ) → eq (Tid a) (Tid b) ≡ (a == b)
  pub lookups : (a b : ℕ) → eq (Lookup a) (Lookup b) ≡ (a == b)
  pub conns : (a b : ℕ) → eq (Conn a) (Conn b) ≡ (a == b)
  pub tid_lookup : (a b : ℕ) → eq (Tid a) (Lookup b) ≡ false
  pub tid_conn : (a b : ℕ) → eq (Tid a) (Conn b) ≡ false
  pub lookup_tid : (a b : ℕ) → eq (Lookup a) (Tid b) ≡ false
  pub lookup_conn : (a b : ℕ) → eq (Lookup a) (Conn b) ≡ false
  pub conn_tid : (a b : ℕ) → eq (Conn a) (Tid b) ≡ false
  pub conn_lookup : (a b : ℕ) → eq (Conn a) (Lookup b) ≡ false

-- as the equality of the code does
pub kinds_apart : TellsApart (equality.ghosts).eq
kinds_apart = record {
  tids = λ a b. refl;
  lookups = λ a b. refl;
  conns = λ a b. refl;
  tid_lookup = λ a b. refl;
  tid_conn = λ a b. refl;
  lookup_tid = λ a b. refl;
  lookup_conn = λ a b. refl;
  conn_tid = λ a b. refl;
  conn_lookup = λ a b. refl;
}

module _ (eq_node : ℕ → ℕ → Bool) (eq_draw : Draw → Draw → Bool) (nodes : (a b : ℕ) → eq_node a b ≡ (a == b))
    (tells : TellsApart eq_draw) where
  draws : (x y : Draw) → eq_draw x y ≡ same_draw x y
  draws (Tid a) (Tid b) = tells.tids a b
  draws (Lookup a) (Lookup b) = tells.lookups a b
  draws (Conn a) (Conn b) = tells.conns a b
  draws (Tid a) (Lookup b) = tells.tid_lookup a b
  draws (Tid a) (Conn b) = tells.tid_conn a b
  draws (Lookup a) (Tid b) = tells.lookup_tid a b
  draws (Lookup a) (Conn b) = tells.lookup_conn a b
  draws (Conn a) (Tid b) = tells.conn_tid a b
  draws (Conn a) (Lookup b) = tells.conn_lookup a b

  pub alike : (node : ℕ) (draw : Draw) (number : ℕ × Draw) → (eq_node node number.0 && eq_draw draw number.1)
      ≡ is_number node draw number
  alike node draw number = λ i. nodes node number.0 i && draws draw number.1 i

  pub inserted : (es : Draws) (node : ℕ) (draw : Draw) (event : ℕ)
      → insert_entry (λ (k l : ℕ × Draw). eq_node k.0 l.0 && eq_draw k.1 l.1) es (node, draw) event
      ≡ drawn_at es node draw event
  inserted [] node draw event = refl
  inserted (e ∷ es) node draw event = λ i. cond (alike node draw e.0 i) ((e.0, event) ∷ es)
      (e ∷ inserted es node draw event i)

  pub found : (es : Draws) (node : ℕ) (draw : Draw)
      → lookup (λ (l : ℕ × Draw). eq_node node l.0 && eq_draw draw l.1) es ≡ last_of es node draw
  found [] node draw = refl
  found (e ∷ es) node draw = λ i. cond (alike node draw e.0 i) (Some e.1) (found es node draw i)
