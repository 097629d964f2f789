-- Each line of a setup begins with `net`, `node`, `zones` or `local`.
use Rattle.std.proofs.Common.{◌≡◌, ℕ, List, [], ◌∷◌, ◌++◌, inl, inr, refl, sym, subst, append_assoc, codes}
use Rattle.std.specs.List.{AllZip}
use Rattle.at_setup_lines.specs.Drafts.{Draft, IsDraft, Refuses, setup_of}
use Rattle.at_setup_lines.specs.FirstWords.{HasHead, HaveHeads}
use Rattle.at_setup_lines.specs.SetupLines.{AreSetup, BeginSetup, IsSetup, SayHead, SaysNode, EndInTable, MayEndInTable}
use Rattle.at_setup_lines.specs.SetupLines.{SayZones}
use Rattle.at_setup.specs.declared.setup.NodeSetup.{NodeSetup}
use Rattle.at_setup.specs.declared.setup.Setup.{Setup}
use Rattle.at_setup_lines.proofs.EventLemmas.{said_at}

node_heads : (lines : List (List (List ℕ))) (nodes : List NodeSetup) → AllZip SaysNode lines nodes → HaveHeads lines
node_heads [] nodes h = tt
node_heads (line ∷ lines) [] h = absurd h
node_heads (line ∷ lines) (node ∷ nodes) ((number, rs, ps, is, one, two, three), h) =
    (subst HasHead (sym is) (inr (inl refl)), node_heads lines nodes h)

heads : (lines : List (List (List ℕ))) (net : ℕ) (nodes : List NodeSetup) → SayHead lines net nodes → HaveHeads lines
heads [] net nodes h = tt
heads (line ∷ lines) net nodes ((word, is, says), h) = (subst HasHead (sym is) (inl refl), node_heads lines nodes h)

one_more : (lines : List (List (List ℕ))) (line : List (List ℕ)) → HaveHeads lines → HasHead line
    → HaveHeads (lines ++ line ∷ [])
one_more [] line h is = (is, tt)
one_more (l ∷ lines) line h is = (h.0, one_more lines line h.1 is)

-- with a table at their end
end_heads : (word : List ℕ) (Before : List (List (List ℕ)) → Type 0) (nodes : List NodeSetup)
    (lines : List (List (List ℕ))) (names : List (List ℕ)) → ((words : List (List ℕ)) → HasHead (word ∷ words))
    → ((front : List (List (List ℕ))) → Before front → HaveHeads front)
    → EndInTable word Before nodes lines names → HaveHeads lines
end_heads word Before nodes lines names known before (front, line, is, say, (words, table, each), router) =
    subst HaveHeads (sym is) (one_more front line (before front say) (subst HasHead (sym table) (known words)))

zones_head : (words : List (List ℕ)) → HasHead (codes "zones" ∷ words)
zones_head words = inr (inr (inl refl))

local_head : (words : List (List ℕ)) → HasHead (codes "local" ∷ words)
local_head words = inr (inr (inr refl))

zones_heads : (net : ℕ) (nodes : List NodeSetup) (zones : List (List ℕ)) (lines : List (List (List ℕ)))
    → SayZones lines net nodes zones → HaveHeads lines
zones_heads net nodes zones lines (inl (say, none)) = heads lines net nodes say
zones_heads net nodes zones lines (inr end) =
    end_heads (codes "zones") (λ head. SayHead head net nodes) nodes lines zones zones_head
    (λ head. heads head net nodes) end

all_heads : (net : ℕ) (nodes : List NodeSetup) (zones local : List (List ℕ)) (lines : List (List (List ℕ)))
    → MayEndInTable (codes "local") (λ front. SayZones front net nodes zones) nodes lines local → HaveHeads lines
all_heads net nodes zones local lines (inl (say, none)) = zones_heads net nodes zones lines say
all_heads net nodes zones local lines (inr end) =
    end_heads (codes "local") (λ front. SayZones front net nodes zones) nodes lines local local_head
    (zones_heads net nodes zones) end

are_heads : {A : Type 0} (lines : List (List (List ℕ))) (s : Setup A) → AreSetup lines s → HaveHeads lines
are_heads lines s are = all_heads s.net s.nodes s.zones s.local lines are

pub setup_heads : {A : Type 0} (lines : List (List (List ℕ))) (s : Setup A) → IsSetup lines s → HaveHeads lines
setup_heads lines s h = are_heads lines s h.0

pub draft_heads : (lines : List (List (List ℕ))) (d : Draft) → IsDraft lines d → HaveHeads lines
draft_heads lines d h = elim (said_at d.stage d lines h) [
  | inl nothing ↦ subst HaveHeads (sym nothing.0) tt
  | inr said ↦ are_heads lines (setup_of d) said
]

head_at : (before after : List (List (List ℕ))) (line : List (List ℕ)) → HaveHeads (before ++ line ∷ after)
    → HasHead line
head_at [] after line h = h.0
head_at (l ∷ before) after line h = head_at before after line h.1

begins_with_heads : (A : Type 0) (lines : List (List (List ℕ))) (line : List (List ℕ))
    → BeginSetup A (lines ++ line ∷ []) → HasHead line
begins_with_heads A lines line (more, s, (setup, lawful)) =
    head_at lines more line (subst HaveHeads (append_assoc lines (line ∷ []) more)
    (are_heads ((lines ++ line ∷ []) ++ more) s setup))

no_head : (word : List ℕ) (words : List (List ℕ)) → ¬ (word ≡ codes "net") → ¬ (word ≡ codes "node")
    → ¬ (word ≡ codes "zones") → ¬ (word ≡ codes "local") → ¬ HasHead (word ∷ words)
no_head word words net node zones local (inl is) = net is
no_head word words net node zones local (inr (inl is)) = node is
no_head word words net node zones local (inr (inr (inl is))) = zones is
no_head word words net node zones local (inr (inr (inr is))) = local is

-- any other line is refused
pub other_word : (A : Type 0) (d : Draft) (word : List ℕ) (words : List (List ℕ)) → ¬ (word ≡ codes "net")
    → ¬ (word ≡ codes "node") → ¬ (word ≡ codes "zones") → ¬ (word ≡ codes "local") → Refuses A d (word ∷ words)
other_word A d word words net node zones local lines read early begins =
    no_head word words net node zones local (begins_with_heads A lines (word ∷ words) begins)
