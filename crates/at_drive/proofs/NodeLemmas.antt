-- The nodes of a drive: the one that takes a step stands among them, and they keep their numbers.
use Rattle.std.proofs.Common.{◌≡◌, ℕ, Bool, true, false, cond, List, [], ◌∷◌, Some, None, get_or, set, refl, sym, ap}
use Rattle.std.proofs.Common.{◌∙◌}
use Rattle.std.specs.Prelude.{find, map, is_some, ◌==◌, ◌||◌}
use Rattle.std.specs.List.{list_any, position_from}
use Rattle.std.proofs.lemmas.Bool.{eqb-true, true≢false}
use Rattle.at_ddp.specs.Tables.{replaced}
use Rattle.at_ddp.proofs.TableLemmas.{Found, found_by}
use Rattle.at_node.specs.Nodes.{NodeState}
use Rattle.at_setup.specs.declared.setup.NodeSetup.{NodeSetup}
use Rattle.at_setup.specs.declared.setup.Setup.{Setup}
use Rattle.at_nodes.specs.Openings.{opening_node}
use Rattle.at_nodes.specs.Nodes.{is_numbered}
use Rattle.at_drive.specs.Drives.{number_of}
use Rattle.at_drive.specs.Steps.{number_in, stands_in}

-- a number stands among those of some nodes if a node has it
pub stands_found : (k : ℕ) (ns : List NodeState) → stands_in (map number_of ns) k ≡ is_some (find (is_numbered k) ns)
stands_found k [] = refl
stands_found k (n ∷ ns) = go (stands_found k ns) (n.seat.number == k)
  where
    go : stands_in (map number_of ns) k ≡ is_some (find (is_numbered k) ns) → (b : Bool)
        → (b || list_any (λ m. m == k) (map number_of ns)) ≡ is_some (cond b (Some n) (find (is_numbered k) ns))
    go rest true = refl
    go rest false = rest

pub some_stands : (k : ℕ) (ns : List NodeState) → stands_in (map number_of ns) k ≡ true → find (is_numbered k) ns ≡ None
    → ⊥
some_stands k ns stands none = true≢false (sym stands ∙ stands_found k ns ∙ ap is_some none)

-- the place of the node of a number, which was looked for in a copy of the list
pub found_in : (k : ℕ) (nodes given : List NodeState) (place : ℕ) → given ≡ nodes
    → position_from (is_numbered k) 0 given ≡ Some place → Found (is_numbered k) nodes place
found_in k nodes given place same at = found_by (is_numbered k) nodes given (Some place) place same (sym at) refl

replaced_numbers : (k : ℕ) (y : NodeState) (ns : List NodeState) → number_of y ≡ k
    → map number_of (replaced (is_numbered k) y ns) ≡ map number_of ns
replaced_numbers k y [] same = refl
replaced_numbers k y (n ∷ ns) same = go (replaced_numbers k y ns same) (n.seat.number == k) refl
  where
    go : map number_of (replaced (is_numbered k) y ns) ≡ map number_of ns → (b : Bool) → (n.seat.number == k) ≡ b
        → map number_of (cond b (y ∷ ns) (n ∷ replaced (is_numbered k) y ns)) ≡ n.seat.number ∷ map number_of ns
    go rest true is = ap (λ m. m ∷ map number_of ns) (same ∙ sym (eqb-true n.seat.number k is))
    go rest false is = ap (λ l. n.seat.number ∷ l) rest

-- all nodes keep their numbers if the one that takes a step stays where it stands
pub numbers_stay : (k : ℕ) (nodes : List NodeState) (place : ℕ) (node after : NodeState)
    → Found (is_numbered k) nodes place → node ≡ get_or nodes place node → after.seat ≡ node.seat →
    map number_of (set nodes place after) ≡ map number_of nodes
numbers_stay k nodes place node after f here keeps =
    let is : number_of after ≡ k =
    ap (λ s. s.number) keeps ∙ ap number_of (here ∙ f.at node) ∙ eqb-true f.entry.seat.number k f.passes in
    ap (map number_of) (sym (f.set_is after)) ∙ replaced_numbers k after nodes is

opening_numbers : {A : Type 0} (s : Setup A) (ns : List NodeSetup) → map number_of (map (opening_node s) ns)
    ≡ map number_in ns
opening_numbers s [] = refl
opening_numbers s (n ∷ ns) = ap (λ l. n.node ∷ l) (opening_numbers s ns)

-- the nodes begin with the numbers of the setup
pub begin_numbers : {A : Type 0} (s : Setup A) → map number_of (map (opening_node s) s.nodes) ≡ map number_in s.nodes
begin_numbers s = opening_numbers s s.nodes

-- a number stands among those of a setup's nodes if a node has it
pub stands_by : (k : ℕ) (ns : List NodeSetup) → list_any (λ n. n.node == k) ns ≡ stands_in (map number_in ns) k
stands_by k [] = refl
stands_by k (n ∷ ns) = ap (λ b. (n.node == k) || b) (stands_by k ns)
