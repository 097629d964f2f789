-- What events and the end come after.
use Rattle.std.proofs.Common.{◌⊎◌, ap, ◌≡◌, inr, ℕ, true, false, not, ◌&&◌, List, [], sym, subst, ◌∙◌, inl}
use Rattle.std.specs.Prelude.{codes}
use Rattle.std.proofs.lemmas.Bool.{false≢true}
use Rattle.at_setup.specs.Setups.{has_router, is_lawful}
use Rattle.at_setup.specs.declared.setup.Setup.{Setup}
use Rattle.at_setup_lines.specs.Drafts.{Draft, IsDraft, IsDraftAt, IsNoSetup, setup_of}
use Rattle.at_setup_lines.specs.NodeLists.{have_zones}
use Rattle.at_setup_lines.specs.SetupLines.{AreSetup, IsSetup, SayZones}
use Rattle.at_setup_lines.specs.declared.draft.Stage.{Stage}
use Rattle.at_setup_lines.specs.declared.draft.Stage.TheVariants.{Event, Local, Net, Node, Zones}
use Rattle.at_setup_lines.proofs.HeadLemmas.{head_or_table, local_is_table, no_lines_zones, head_zones, no_lines_table}
use Rattle.at_setup_lines.proofs.RuleLemmas.{lacks_no, lawful_since}
use Rattle.at_setup_lines.proofs.LawfulLemmas.{Net_fits, setup_parts, lawful_without, net_fits, lawful_nodes}
use Rattle.at_setup_lines.proofs.DraftLemmas.{HasTable}

-- no line was read, or the lines say a setup, which may be unlawful
pub said_at : (st : Stage) (d : Draft) (lines : List (List (List ℕ))) → IsDraftAt st lines d
    → IsDraftAt Net lines d ⊎ AreSetup lines (setup_of d)
said_at Net d lines h = inl h
said_at Node d lines h = inr (inl (inl (h.0, h.1), h.2))
said_at Zones d lines h = inr (inl (inr h.0, h.1))
said_at Local d lines h = inr (inr h.0)
said_at Event d lines h = inr h.0

pub whole : (d : Draft) → is_lawful (setup_of d) ≡ true → (lines : List (List (List ℕ))) → IsDraft lines d
    → IsSetup lines (setup_of d)
whole d lawful lines h =
    let parts = setup_parts (Unit {0}) (setup_of d) lawful in
    elim (said_at d.stage d lines h) [
      | inl nothing ↦ absurd (false≢true (ap Net_fits (sym nothing.1) ∙ parts.net))
      | inr said ↦ (said, lawful)
    ]

-- ---- at each stage

pub event_at_node : (d : Draft) → d.stage ≡ Node → (have_zones d.nodes && not (has_router d.nodes)) ≡ false
    → (lines : List (List (List ℕ))) → IsDraft lines d → IsSetup lines (setup_of d)
event_at_node d stage fits lines h =
    let (say, none, no_local, begin) = subst (λ st. IsDraftAt st lines d) stage h in
    let lawful = lawful_since d.nodes begin fits in
    whole d (lawful_without d (net_fits lines d.net d.nodes say) lawful none no_local) lines h

table_lawful : (d : Draft) → HasTable d.stage → (lines : List (List (List ℕ))) → IsDraft lines d
    → is_lawful (setup_of d) ≡ true
table_lawful d (inl stage) lines h = (subst (λ st. IsDraftAt st lines d) stage h).2
table_lawful d (inr (inl stage)) lines h = (subst (λ st. IsDraftAt st lines d) stage h).1
table_lawful d (inr (inr stage)) lines h = (subst (λ st. IsDraftAt st lines d) stage h).1

pub event_later : (d : Draft) → HasTable d.stage → (lines : List (List (List ℕ))) → IsDraft lines d
    → IsSetup lines (setup_of d)
event_later d stage lines h = whole d (table_lawful d stage lines h) lines h

pub no_lines_setup : (A : Type 0) (lines : List (List (List ℕ))) (s : Setup A) → lines ≡ [] → ¬ AreSetup lines s
no_lines_setup A lines s none (inl (say, no_local)) = no_lines_zones s.net s.nodes s.zones lines none say
no_lines_setup A lines s none (inr end) =
    no_lines_table (codes "local") (λ front. SayZones front s.net s.nodes s.zones) s.nodes s.local lines none end

-- the lines say this setup alone
only_setup : (A : Type 0) (d : Draft) (lines : List (List (List ℕ))) → IsDraftAt Node lines d → (s : Setup A)
    → IsSetup lines s → is_lawful (setup_of d) ≡ true
only_setup A d lines h s (inl (say, none), lawful) =
    let same = head_zones lines d.net s.net d.nodes s.nodes s.zones h.0 say in
    let zones : s.zones ≡ d.zones = same.2 ∙ sym h.1 in
    let local : s.local ≡ d.local = none ∙ sym h.2 in
    let e : is_lawful s ≡ is_lawful (setup_of d) =
    (λ i. is_lawful (setup_of
    (record { stage = Node; net = same.0 i; nodes = same.1 i; zones = zones i; local = local i }))) in
    sym e ∙ lawful
only_setup A d lines h s (inr end, lawful) =
    absurd (head_or_table (codes "local") (λ front. SayZones front s.net s.nodes s.zones) local_is_table lines d.net
    d.nodes s.nodes s.local h.0 end)

unfinished_at : (A : Type 0) (st : Stage) (d : Draft) → is_lawful (setup_of d) ≡ false → (lines : List (List (List ℕ)))
    → IsDraftAt st lines d → (s : Setup A) → ¬ IsSetup lines s
unfinished_at A Net d unlawful lines h s are = no_lines_setup A lines s h.0 are.0
unfinished_at A Node d unlawful lines h s are = false≢true (sym unlawful ∙ only_setup A d lines h s are)
unfinished_at A Zones d unlawful lines h s are = false≢true (sym unlawful ∙ h.2)
unfinished_at A Local d unlawful lines h s are = false≢true (sym unlawful ∙ h.1)
unfinished_at A Event d unlawful lines h s are = false≢true (sym unlawful ∙ h.1)

pub unfinished : (A : Type 0) (d : Draft) → is_lawful (setup_of d) ≡ false → IsNoSetup A d
unfinished A d unlawful lines h s are = unfinished_at A d.stage d unlawful lines h s are

pub lacking : (A : Type 0) (d : Draft) → d.stage ≡ Node → (have_zones d.nodes && not (has_router d.nodes)) ≡ true
    → IsNoSetup A d
lacking A d stage lacks lines h s are =
    let lawful = only_setup A d lines (subst (λ st. IsDraftAt st lines d) stage h) s are in
    lacks_no d.nodes lacks (lawful_nodes (Unit {0}) (setup_of d) lawful)
