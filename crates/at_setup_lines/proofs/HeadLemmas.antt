-- Where a line stands among the lines of a setup.
use Rattle.std.proofs.Common.{◌≡◌, ◌≢◌, ◌⊎◌, ℕ, true, List, [], ◌∷◌, ◌++◌, length, refl, sym, ap, subst, ◌∙◌}
use Rattle.std.proofs.Common.{append_assoc, arith, inl, inr}
use Rattle.std.specs.Prelude.{codes}
use Rattle.std.specs.List.{AllZip, slice_index}
use Rattle.at_setup.specs.Setups.{has_router, is_lawful}
use Rattle.at_setup.specs.declared.setup.NodeSetup.{NodeSetup}
use Rattle.at_setup.specs.declared.setup.Setup.{Setup}
use Rattle.at_setup_lines.specs.SetupLines.{AreSetup, BeginSetup, EndInTable, MayEndInTable, SayHead, SayZones, SaysNet}
use Rattle.at_setup_lines.specs.SetupLines.{SaysNode, SaysTable}
use Rattle.at_setup_lines.proofs.LineLemmas.{first_same, same_net, same_node}

-- ---- the first word of a line

net_word : (w : List ℕ) (ws : List (List ℕ)) (n : ℕ) → SaysNet (w ∷ ws) n → w ≡ codes "net"
net_word w ws n (v, is, h) = first_same w (codes "net") ws (v ∷ []) is

node_word : (w : List ℕ) (ws : List (List ℕ)) (n : NodeSetup) → SaysNode (w ∷ ws) n → w ≡ codes "node"
node_word w ws n (v, rs, ps, is, number, router, place) = first_same w (codes "node") ws (v ∷ rs ++ ps) is

table_word : (word w : List ℕ) (ws names : List (List ℕ)) → SaysTable word (w ∷ ws) names → w ≡ word
table_word word w ws names (words, is, are) = first_same w word ws words is

net_not_node : codes "net" ≢ codes "node"
net_not_node same = let second : slice_index (codes "net") 1
    ≡ slice_index (codes "node") 1 = ap (λ l. slice_index l 1) same in omega (arith, second)

-- no line of a network or of a node begins with the word of a table
pub record IsTableWord (word : List ℕ) : Type 0 where
  pub not_net : codes "net" ≢ word
  pub not_node : codes "node" ≢ word

-- words whose first bytes differ are different
other_first : (v w : List ℕ) → slice_index v 0 ≢ slice_index w 0 → v ≢ w
other_first v w differ same = differ (ap (λ l. slice_index l 0) same)

pub zones_is_table : IsTableWord (codes "zones")
zones_is_table = record {
  not_net = other_first (codes "net") (codes "zones") (λ same. omega (arith, same));
  not_node = other_first (codes "node") (codes "zones") (λ same. omega (arith, same));
}

pub local_is_table : IsTableWord (codes "local")
local_is_table = record {
  not_net = other_first (codes "net") (codes "local") (λ same. omega (arith, same));
  not_node = other_first (codes "node") (codes "local") (λ same. omega (arith, same));
}

pub zones_not_local : codes "zones" ≢ codes "local"
zones_not_local = other_first (codes "zones") (codes "local") (λ same. omega (arith, same))

pub net_no_node : (ws : List (List ℕ)) (n : NodeSetup) → ¬ SaysNode (codes "net" ∷ ws) n
net_no_node ws n h = net_not_node (node_word (codes "net") ws n h)

pub node_no_net : (ws : List (List ℕ)) (n : ℕ) → ¬ SaysNet (codes "node" ∷ ws) n
node_no_net ws n h = net_not_node (sym (net_word (codes "node") ws n h))

module _ (word : List ℕ) (table : IsTableWord word) where
  pub net_no_table : (ws names : List (List ℕ)) → ¬ SaysTable word (codes "net" ∷ ws) names
  net_no_table ws names h = table.not_net (table_word word (codes "net") ws names h)

  pub node_no_table : (ws names : List (List ℕ)) → ¬ SaysTable word (codes "node" ∷ ws) names
  node_no_table ws names h = table.not_node (table_word word (codes "node") ws names h)

  pub word_no_net : (ws : List (List ℕ)) (n : ℕ) → ¬ SaysNet (word ∷ ws) n
  word_no_net ws n h = table.not_net (sym (net_word word ws n h))

  pub word_no_node : (ws : List (List ℕ)) (n : NodeSetup) → ¬ SaysNode (word ∷ ws) n
  word_no_node ws n h = table.not_node (sym (node_word word ws n h))

  pub table_no_net : (line names : List (List ℕ)) (n : ℕ) → SaysTable word line names → ¬ SaysNet line n
  table_no_net line names n (words, is, are) h = word_no_net words n (subst (λ l. SaysNet l n) is h)

  pub table_no_node : (line names : List (List ℕ)) (n : NodeSetup) → SaysTable word line names → ¬ SaysNode line n
  table_no_node line names n (words, is, are) h = word_no_node words n (subst (λ l. SaysNode l n) is h)

pub zones_no_local : (ws names : List (List ℕ)) → ¬ SaysTable (codes "local") (codes "zones" ∷ ws) names
zones_no_local ws names h = zones_not_local (table_word (codes "local") (codes "zones") ws names h)

pub local_no_zones : (ws names : List (List ℕ)) → ¬ SaysTable (codes "zones") (codes "local" ∷ ws) names
local_no_zones ws names h = zones_not_local (sym (table_word (codes "zones") (codes "local") ws names h))

-- no line says both tables
pub one_table : (line zones local : List (List ℕ)) → SaysTable (codes "zones") line zones
    → ¬ SaysTable (codes "local") line local
one_table line zones local (words, is, are) h =
    zones_no_local words local (subst (λ l. SaysTable (codes "local") l local) is h)

-- ---- lines that say nodes

pub zip_more : (xs : List (List (List ℕ))) (ns : List NodeSetup) (x : List (List ℕ)) (n : NodeSetup)
    → AllZip SaysNode xs ns → SaysNode x n → AllZip SaysNode (xs ++ x ∷ []) (ns ++ n ∷ [])
zip_more [] [] x n h said = (said, tt)
zip_more [] (m ∷ ns) x n h said = absurd h
zip_more (y ∷ xs) [] x n h said = absurd h
zip_more (y ∷ xs) (m ∷ ns) x n h said = (h.0, zip_more xs ns x n h.1 said)

pub head_more : (lines : List (List (List ℕ))) (net : ℕ) (ns : List NodeSetup) (line : List (List ℕ)) (n : NodeSetup)
    → SayHead lines net ns → SaysNode line n → SayHead (lines ++ line ∷ []) net (ns ++ n ∷ [])
head_more [] net ns line n h said = absurd h
head_more (first ∷ lines) net ns line n h said = (h.0, zip_more lines ns line n h.1 said)

same_nodes : (xs : List (List (List ℕ))) (ns ms : List NodeSetup) → AllZip SaysNode xs ns → AllZip SaysNode xs ms → ns
    ≡ ms
same_nodes [] [] [] h g = refl
same_nodes [] [] (m ∷ ms) h g = absurd g
same_nodes [] (n ∷ ns) ms h g = absurd h
same_nodes (x ∷ xs) [] ms h g = absurd h
same_nodes (x ∷ xs) (n ∷ ns) [] h g = absurd g
same_nodes (x ∷ xs) (n ∷ ns) (m ∷ ms) h g =
    let one = same_node x n m h.0 g.0 in
    let rest = same_nodes xs ns ms h.1 g.1 in
    λ i. one i ∷ rest i

-- lines say one network and one list of nodes
pub same_head : (lines : List (List (List ℕ))) (a b : ℕ) (ns ms : List NodeSetup) → SayHead lines a ns
    → SayHead lines b ms → (a ≡ b) × (ns ≡ ms)
same_head [] a b ns ms h g = absurd h
same_head (first ∷ lines) a b ns ms h g = (same_net first a b h.0 g.0, same_nodes lines ns ms h.1 g.1)

-- ---- a line with lines before it and after it

-- the line says a node, which stands after those that the lines before it say
abbrev pub AtNode : List (List (List ℕ)) → List (List ℕ) → ℕ → List NodeSetup → Type 0
AtNode lines line net nodes = (front back : List NodeSetup) × (n : NodeSetup) × (nodes ≡ front ++ n ∷ back)
    × SayHead lines net front × SaysNode line n

abbrev pub AtNet : List (List (List ℕ)) → List (List ℕ) → ℕ → Type 0
AtNet lines line net = (lines ≡ []) × SaysNet line net

-- the line says a table, and the lines before it are of this kind
abbrev pub AtTable : List ℕ → (List (List (List ℕ)) → Type 0) → List NodeSetup → List (List (List ℕ))
    → List (List ℕ) → List (List ℕ) → Type 0
AtTable word Before nodes lines line names =
    Before lines × SaysTable word line names × (has_router nodes ≡ true)

zip_at : (xs ys : List (List (List ℕ))) (x : List (List ℕ)) (nodes : List NodeSetup)
    → AllZip SaysNode (xs ++ x ∷ ys) nodes
    → (front back : List NodeSetup) × (n : NodeSetup) × (nodes ≡ front ++ n ∷ back) × AllZip SaysNode xs front
    × SaysNode x n
zip_at [] ys x [] h = absurd h
zip_at [] ys x (n ∷ nodes) h = ([], nodes, n, refl, tt, h.0)
zip_at (y ∷ xs) ys x [] h = absurd h
zip_at (y ∷ xs) ys x (m ∷ nodes) h =
    let (front, back, n, is, are, said) = zip_at xs ys x nodes h.1 in
    (m ∷ front, back, n, ap (λ l. m ∷ l) is, (h.0, are), said)

pub head_at : (lines more : List (List (List ℕ))) (line : List (List ℕ)) (net : ℕ) (nodes : List NodeSetup)
    → SayHead (lines ++ line ∷ more) net nodes → AtNet lines line net ⊎ AtNode lines line net nodes
head_at [] more line net nodes h = inl (refl, h.0)
head_at (first ∷ lines) more line net nodes h =
    let (front, back, n, is, are, said) = zip_at lines more line nodes h.1 in
    inr (front, back, n, is, (h.0, are), said)

-- the last of these lines stands before a line, or is that line
last_at : (xs ys us : List (List (List ℕ))) (x z : List (List ℕ)) → xs ++ x ∷ ys ≡ us ++ z ∷ []
    → ((xs ≡ us) × (x ≡ z)) ⊎ ((zs : List (List (List ℕ))) × (us ≡ xs ++ x ∷ zs))
last_at [] ys [] x z same = let head : x ≡ z = cc in inl (refl, head)
last_at [] ys (u ∷ us) x z same = let head : u ≡ x = cc in inr (us, ap (λ l. l ∷ us) head)
last_at (y ∷ []) ys [] x z same = let tail : x ∷ ys ≡ [] = cc in cc tail
last_at (y ∷ v ∷ xs) ys [] x z same = let tail : v ∷ (xs ++ x ∷ ys) ≡ [] = cc in cc tail
last_at (y ∷ xs) ys (u ∷ us) x z same =
    let head : y ≡ u = cc in
    let tail : xs ++ x ∷ ys ≡ us ++ z ∷ [] = cc in
    elim (last_at xs ys us x z tail) [
      | inl both ↦ inl ((λ i. head i ∷ both.0 i), both.1)
      | inr more ↦ inr (more.0, λ i. sym head i ∷ more.1 i)
    ]

-- a line among lines with a table at their end, or perhaps there
module _ (word : List ℕ) (Before : List (List (List ℕ)) → Type 0) (nodes : List NodeSetup) (names : List (List ℕ))
    (lines more : List (List (List ℕ))) (line : List (List ℕ)) where
  abbrev AtEnd : Type 0
  AtEnd = AtTable word Before nodes lines line names ⊎ ((rest : List (List (List ℕ))) × Before (lines ++ line ∷ rest))

  end_at : EndInTable word Before nodes (lines ++ line ∷ more) names → AtEnd
  end_at (front, last, is, before, said, router) = elim (last_at lines more front line last is) [
    | inl both ↦
        inl (subst Before (sym both.0) before, subst (λ l. SaysTable word l names) (sym both.1) said, router)
    | inr earlier ↦ inr (earlier.0, subst Before earlier.1 before)
  ]

  may_end_at : MayEndInTable word Before nodes (lines ++ line ∷ more) names → AtEnd
  may_end_at (inl (before, none)) = inr (more, before)
  may_end_at (inr end) = end_at end

-- what a line says before those of the local zones
abbrev pub AtFront : List (List (List ℕ)) → List (List ℕ) → ℕ → List NodeSetup → List (List ℕ) → Type 0
AtFront lines line net nodes zones =
    AtNet lines line net
    ⊎ (AtNode lines line net nodes
    ⊎ AtTable (codes "zones") (λ head. SayHead head net nodes) nodes lines line zones)

pub front_at : (lines more : List (List (List ℕ))) (line : List (List ℕ)) (net : ℕ) (nodes : List NodeSetup)
    (zones : List (List ℕ)) → SayZones (lines ++ line ∷ more) net nodes zones → AtFront lines line net nodes zones
front_at lines more line net nodes zones say =
    elim (may_end_at (codes "zones") (λ head. SayHead head net nodes) nodes zones lines more line say) [
      | inl at ↦ inr (inr at)
      | inr before ↦ elim (head_at lines before.0 line net nodes before.1)
          [ inl net ↦ inl net | inr node ↦ inr (inl node) ]
    ]

-- what a line of a setup says
abbrev pub At : {A : Type 0} → List (List (List ℕ)) → List (List ℕ) → Setup A → Type 0
At lines line s =
    AtFront lines line s.net s.nodes s.zones
    ⊎ AtTable (codes "local") (λ front. SayZones front s.net s.nodes s.zones) s.nodes lines line s.local

pub setup_at : (A : Type 0) (lines more : List (List (List ℕ))) (line : List (List ℕ)) (s : Setup A)
    → AreSetup (lines ++ line ∷ more) s → At lines line s
setup_at A lines more line s are =
    elim (may_end_at (codes "local") (λ front. SayZones front s.net s.nodes s.zones) s.nodes s.local lines more line
    are) [
      | inl at ↦ inr at
      | inr before ↦ inl (front_at lines before.0 line s.net s.nodes s.zones before.1)
    ]

-- the last line of lines with which a setup begins
pub begin_at : (A : Type 0) (lines : List (List (List ℕ))) (line : List (List ℕ)) → BeginSetup A (lines ++ line ∷ [])
    → (s : Setup A) × At lines line s × (is_lawful s ≡ true)
begin_at A lines line (more, s, (are, lawful)) =
    (s, setup_at A lines more line s (subst (λ l. AreSetup l s) (append_assoc lines (line ∷ []) more) are), lawful)

-- ---- lines with a table at their end

-- no lines end in a table, and say only the network and the nodes
pub head_or_table : (word : List ℕ) (Before : List (List (List ℕ)) → Type 0) → IsTableWord word
    → (lines : List (List (List ℕ))) (net : ℕ) (nodes ns : List NodeSetup) (names : List (List ℕ))
    → SayHead lines net nodes → ¬ EndInTable word Before ns lines names
head_or_table word Before table lines net nodes ns names say (front, last, is, before, said, router) =
    elim (head_at front [] last net nodes (subst (λ l. SayHead l net nodes) is say)) [
      | inl at ↦ table_no_net word table last names net said at.1
      | inr node ↦ table_no_node word table last names node.2 said node.5
    ]

-- where the lines say only the network and the nodes, they say no zones
pub head_zones : (lines : List (List (List ℕ))) (a b : ℕ) (ns ms : List NodeSetup) (zones : List (List ℕ))
    → SayHead lines a ns → SayZones lines b ms zones → (b ≡ a) × (ms ≡ ns) × (zones ≡ [])
head_zones lines a b ns ms zones say (inl (head, none)) =
    let same = same_head lines b a ms ns head say in
    (same.0, same.1, none)
head_zones lines a b ns ms zones say (inr end) =
    absurd (head_or_table (codes "zones") (λ head. SayHead head b ms) zones_is_table lines a ns ms zones say end)

-- no lines end in the local zones, and say only the network, the nodes and all zones
pub zones_or_local : (Before : List (List (List ℕ)) → Type 0) (lines : List (List (List ℕ))) (net : ℕ)
    (nodes ns : List NodeSetup) (zones names : List (List ℕ)) → SayZones lines net nodes zones
    → ¬ EndInTable (codes "local") Before ns lines names
zones_or_local Before lines net nodes ns zones names say (front, last, is, before, said, router) =
    elim (front_at front [] last net nodes zones (subst (λ l. SayZones l net nodes zones) is say)) [
      | inl at ↦ table_no_net (codes "local") local_is_table last names net said at.1
      | inr (inl node) ↦ table_no_node (codes "local") local_is_table last names node.2 said node.5
      | inr (inr table) ↦ one_table last zones names table.1 said
    ]

pub no_lines : (a : ℕ) (ns : List NodeSetup) (lines : List (List (List ℕ))) → lines ≡ [] → ¬ SayHead lines a ns
no_lines a ns lines none say = subst (λ l. SayHead l a ns) none say

pub no_lines_table : (word : List ℕ) (Before : List (List (List ℕ)) → Type 0) (ns : List NodeSetup)
    (names : List (List ℕ)) (lines : List (List (List ℕ))) → lines ≡ [] → ¬ EndInTable word Before ns lines names
no_lines_table word Before ns names lines none (front, last, is, before, said, router) =
    let long = ap length (sym is ∙ none) in
    empty front last long
  where
    empty : (head : List (List (List ℕ))) (last : List (List ℕ)) → length (head ++ last ∷ []) ≡ 0 → ⊥
    empty [] last long = omega (arith, long)
    empty (x ∷ head) last long = omega (arith, long)

pub no_lines_zones : (net : ℕ) (nodes : List NodeSetup) (zones : List (List ℕ)) (lines : List (List (List ℕ)))
    → lines ≡ [] → ¬ SayZones lines net nodes zones
no_lines_zones net nodes zones lines none (inl (say, no_zones)) = no_lines net nodes lines none say
no_lines_zones net nodes zones lines none (inr end) =
    no_lines_table (codes "zones") (λ head. SayHead head net nodes) nodes zones lines none end
