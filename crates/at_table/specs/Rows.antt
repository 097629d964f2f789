-- What a contract sees of a table: its keys and its values, as two lists in one order.
use Rattle.std.specs.Prelude.{◌≡◌, ℕ, Bool, if◌then◌else◌, List, [], ◌∷◌, Option, Some, None, map, refl, set}
use Rattle.std.specs.Coded.{Coded, code_by, coded×, coded_ℕ, coded_list}

-- the keys and the values, both in the order in which they were put in, and how many more fit with no allocation
pub record Rows (K V : Type 0) : Type 0 where
  pub keys : List K
  pub items : List V
  pub room : ℕ

-- rows are stored as the tuple of their fields
abbrev pub rows_code : {K V : Type 0} → Coded K → Coded V → Coded (Rows K V)
rows_code {K} {V} key value =
    code_by
    (List K × (List V × ℕ))
    (coded× (coded_list key) (coded× (coded_list value) coded_ℕ))
    (λ r. (r.keys, (r.items, r.room)))
    (λ p. record { keys = p.0; items = p.1.0; room = p.1.1 })
    (λ _. refl)

-- the rows after a write of one value
abbrev pub with_item : {K V : Type 0} → Rows K V → ℕ → V → Rows K V
with_item r index value = record r { items = set r.items index value }

-- the value beside the first key that passes a test
abbrev pub found : {K V : Type 0} → (K → Bool) → List K → List V → Option V
found test [] items = None
found test (k ∷ ks) [] = None
found test (k ∷ ks) (v ∷ vs) = if test k then Some v else found test ks vs

-- each value has its key in itself
abbrev pub AreKeyed : {K V : Type 0} → (V → K) → Rows K V → Type 0
AreKeyed key_of r = r.keys ≡ map key_of r.items

-- a test of keys, and a test of values that says the same of each value's key
abbrev pub IsSameTest : {K V : Type 0} → (V → K) → (K → Bool) → (V → Bool) → Type 0
IsSameTest {V = V} key_of of_keys of_values = (v : V) → of_keys (key_of v) ≡ of_values v
