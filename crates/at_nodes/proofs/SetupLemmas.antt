-- The nodes that a router knows, node by node.
use Rattle.std.proofs.Common.{◌≡◌, ℕ, ◌+◌, ◌<◌, List, [], ◌∷◌, ◌++◌, length, get_or, take, Option, Some, None, refl, ap}
use Rattle.std.proofs.Common.{◌∙◌}
use Rattle.std.proofs.lemmas.List.{take_more}
use Rattle.at_name_socket.specs.declared.neighbour.Neighbour.{Neighbour}
use Rattle.at_nodes.specs.Openings.{joined, neighbours_of}
use Rattle.at_setup.specs.declared.setup.NodeSetup.{NodeSetup}

joined_all : (node : ℕ) (zone : Option (List ℕ)) (xs ys : List Neighbour) → joined node zone (xs ++ ys)
    ≡ joined node zone xs ++ ys
joined_all node None xs ys = refl
joined_all node (Some zone) xs ys = refl

neighbours_both : (ns ms : List NodeSetup) → neighbours_of (ns ++ ms) ≡ neighbours_of ns ++ neighbours_of ms
neighbours_both [] ms = refl
neighbours_both (n ∷ ns) ms = ap (joined n.node n.zone) (neighbours_both ns ms)
    ∙ joined_all n.node n.zone (neighbours_of ns) (neighbours_of ms)

-- one node more
pub neighbours_more : (ns : List NodeSetup) (i : ℕ) (d : NodeSetup) (area : Option (List ℕ)) → i < length ns
    → (get_or ns i d).zone ≡ area → neighbours_of (take (i + 1) ns)
    ≡ neighbours_of (take i ns) ++ joined (get_or ns i d).node area []
neighbours_more ns i d area lt is =
    ap neighbours_of (take_more ns i d lt) ∙ neighbours_both (take i ns) (get_or ns i d ∷ [])
    ∙ ap (λ z. neighbours_of (take i ns) ++ joined (get_or ns i d).node z []) is
