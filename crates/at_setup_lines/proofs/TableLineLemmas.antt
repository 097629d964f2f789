-- Which lines of zone tables a draft may refuse, and what it has taken.
use Rattle.std.proofs.Common.{◌≡◌, ◌⊎◌, inl, inr, ℕ, ◌≤◌, Bool, true, false, List, ◌∷◌, length, refl, sym, ap}
use Rattle.std.proofs.Common.{subst, ◌∙◌}
use Rattle.std.specs.Prelude.{codes}
use Rattle.std.specs.List.{AllZip}
use Rattle.at_words.specs.Texts.{IsZoneName}
use Rattle.at_setup.specs.Setups.{are_lawful_nodes, has_router, is_lawful_table}
use Rattle.at_setup.specs.declared.setup.Setup.{Setup}
use Rattle.at_setup_lines.specs.Drafts.{Draft, IsDraft, IsDraftAt, Refuses, Takes, setup_of}
use Rattle.at_setup_lines.specs.SetupLines.{SayHead, SayZones, SaysTable}
use Rattle.at_setup_lines.specs.declared.draft.Stage.TheVariants.{Event, Local, Node, Zones}
use Rattle.at_setup_lines.proofs.HeadLemmas.{At, AtTable, begin_at, local_is_table, same_head}
use Rattle.at_setup_lines.proofs.HeadLemmas.{zones_is_table, word_no_net, word_no_node, zones_no_local, local_no_zones}
use Rattle.at_setup_lines.proofs.HeadLemmas.{head_zones, zones_or_local}
use Rattle.at_setup_lines.proofs.LineLemmas.{rest_same}
use Rattle.at_setup_lines.proofs.RuleLemmas.{lawful_since, no_lack}
use Rattle.at_setup_lines.proofs.LawfulLemmas.{no_table, few_names, net_fits, router_table, setup_parts, Net_fits}
use Rattle.at_setup_lines.proofs.LawfulLemmas.{lawful_with}
use Rattle.at_setup_lines.proofs.DraftLemmas.{HasTable, past_head, over}
use Rattle.at_setup_lines.proofs.TableLemmas.{IsNoTable}
use Rattle.std.proofs.lemmas.Bool.{false≢true}

-- ---- all zones

is_zones_at : {A : Type 0} (lines : List (List (List ℕ))) (ws : List (List ℕ)) (s : Setup A)
    → At lines (codes "zones" ∷ ws) s
    → AtTable (codes "zones") (λ head. SayHead head s.net s.nodes) s.nodes lines (codes "zones" ∷ ws) s.zones
is_zones_at lines ws s (inl (inl net)) = absurd (word_no_net (codes "zones") zones_is_table ws s.net net.1)
is_zones_at lines ws s (inl (inr (inl (front, back, n, is, say, said)))) =
    absurd (word_no_node (codes "zones") zones_is_table ws n said)
is_zones_at lines ws s (inl (inr (inr table))) = table
is_zones_at lines ws s (inr (say, said, router)) = absurd (zones_no_local ws s.local said)

pub second_zones : (A : Type 0) (d : Draft) (ws : List (List ℕ)) → HasTable d.stage → Refuses A d (codes "zones" ∷ ws)
second_zones A d ws stage lines h before b =
    let (s, at, lawful) = begin_at A lines (codes "zones" ∷ ws) b in
    let (say, said, router) = is_zones_at lines ws s at in
    past_head d stage before lines h s.net s.nodes say

pub zones_without : (A : Type 0) (d : Draft) (ws : List (List ℕ)) → d.stage ≡ Node → has_router d.nodes ≡ false
    → Refuses A d (codes "zones" ∷ ws)
zones_without A d ws stage none lines h before b =
    let (s, at, lawful) = begin_at A lines (codes "zones" ∷ ws) b in
    let (say, said, router) = is_zones_at lines ws s at in
    let drafted = subst (λ st. IsDraftAt st lines d) stage h in
    let nodes = (same_head lines s.net d.net s.nodes d.nodes say drafted.0).1 in
    false≢true (sym none ∙ ap has_router (sym nodes) ∙ router)

not_table : (word : List ℕ) (ws names : List (List ℕ)) (router : Bool) → IsNoTable ws
    → SaysTable word (word ∷ ws) names → ¬ (is_lawful_table router names ≡ true)
not_table word ws names router none (words, is, are) lawful =
    none names (subst (λ l. AllZip IsZoneName l names) (sym (rest_same word word ws words is)) are)
    (few_names router names lawful)

pub unfit_zones : (A : Type 0) (d : Draft) (ws : List (List ℕ)) → IsNoTable ws → Refuses A d (codes "zones" ∷ ws)
unfit_zones A d ws none lines h before b =
    let (s, at, lawful) = begin_at A lines (codes "zones" ∷ ws) b in
    let (say, said, router) = is_zones_at lines ws s at in
    let parts = setup_parts A s lawful in
    not_table (codes "zones") ws s.zones (has_router s.nodes) none said parts.zones

pub zones_taken : (d : Draft) (ws names : List (List ℕ)) → d.stage ≡ Node → has_router d.nodes ≡ true
    → AllZip IsZoneName ws names → length names ≤ 1024
    → Takes d (codes "zones" ∷ ws)
    (record { stage = Zones; net = d.net; nodes = d.nodes; zones = names; local = d.local })
zones_taken d ws names stage router are few lines h =
    let (say, none, no_local, begin) = subst (λ st. IsDraftAt st lines d) stage h in (
      (lines, codes "zones" ∷ ws, refl, say, (ws, refl, are), router),
      no_local,
      lawful_with (record { stage = Zones; net = d.net; nodes = d.nodes; zones = names; local = d.local })
          (record {
            net = net_fits lines d.net d.nodes say;
            nodes = lawful_since d.nodes begin (no_lack d.nodes router);
            zones = router_table d.nodes ws names router are few;
            local = no_table d.nodes d.local no_local;
          }),
    )

-- ---- local zones

is_local_at : {A : Type 0} (lines : List (List (List ℕ))) (ws : List (List ℕ)) (s : Setup A)
    → At lines (codes "local" ∷ ws) s
    → AtTable (codes "local") (λ front. SayZones front s.net s.nodes s.zones) s.nodes lines (codes "local" ∷ ws) s.local
is_local_at lines ws s (inl (inl net)) = absurd (word_no_net (codes "local") local_is_table ws s.net net.1)
is_local_at lines ws s (inl (inr (inl (front, back, n, is, say, said)))) =
    absurd (word_no_node (codes "local") local_is_table ws n said)
is_local_at lines ws s (inl (inr (inr (say, said, router)))) = absurd (local_no_zones ws s.zones said)
is_local_at lines ws s (inr table) = table

pub second_local : (A : Type 0) (d : Draft) (ws : List (List ℕ)) → (d.stage ≡ Local) ⊎ (d.stage ≡ Event)
    → Refuses A d (codes "local" ∷ ws)
second_local A d ws (inr stage) lines h before b = over d stage before
second_local A d ws (inl stage) lines h before b =
    let (s, at, lawful) = begin_at A lines (codes "local" ∷ ws) b in
    let (say, said, router) = is_local_at lines ws s at in
    let drafted = subst (λ st. IsDraftAt st lines d) stage h in
    zones_or_local (λ front. SayZones front d.net d.nodes d.zones) lines s.net s.nodes d.nodes s.zones d.local say
    drafted.0

pub local_without : (A : Type 0) (d : Draft) (ws : List (List ℕ)) → (d.stage ≡ Node) ⊎ (d.stage ≡ Zones)
    → has_router d.nodes ≡ false → Refuses A d (codes "local" ∷ ws)
local_without A d ws (inl stage) none lines h before b =
    let (s, at, lawful) = begin_at A lines (codes "local" ∷ ws) b in
    let (say, said, router) = is_local_at lines ws s at in
    let drafted = subst (λ st. IsDraftAt st lines d) stage h in
    let nodes = (head_zones lines d.net s.net d.nodes s.nodes s.zones drafted.0 say).1 in
    false≢true (sym none ∙ ap has_router (sym nodes) ∙ router)
local_without A d ws (inr stage) none lines h before b =
    let ((front, line, is, say, said, router), no_local, lawful) = subst (λ st. IsDraftAt st lines d) stage h in
    false≢true (sym none ∙ router)

pub unfit_local : (A : Type 0) (d : Draft) (ws : List (List ℕ)) → IsNoTable ws → Refuses A d (codes "local" ∷ ws)
unfit_local A d ws none lines h before b =
    let (s, at, lawful) = begin_at A lines (codes "local" ∷ ws) b in
    let (say, said, router) = is_local_at lines ws s at in
    let parts = setup_parts A s lawful in
    not_table (codes "local") ws s.local (has_router s.nodes) none said parts.local

-- the lines before those of the local zones, which are a setup without any
record HasFront (lines : List (List (List ℕ))) (d : Draft) : Type 0 where
  say : SayZones lines d.net d.nodes d.zones
  net : Net_fits d.net ≡ true
  nodes : are_lawful_nodes d.nodes ≡ true
  zones : is_lawful_table (has_router d.nodes) d.zones ≡ true

front_of : (d : Draft) → (d.stage ≡ Node) ⊎ (d.stage ≡ Zones) → has_router d.nodes ≡ true
    → (lines : List (List (List ℕ))) → IsDraft lines d → HasFront lines d
front_of d (inl stage) router lines h =
    let (say, none, no_local, begin) = subst (λ st. IsDraftAt st lines d) stage h in
    record {
      say = inl (say, none);
      net = net_fits lines d.net d.nodes say;
      nodes = lawful_since d.nodes begin (no_lack d.nodes router);
      zones = no_table d.nodes d.zones none;
    }
front_of d (inr stage) router lines h =
    let (end, no_local, lawful) = subst (λ st. IsDraftAt st lines d) stage h in
    let parts = setup_parts (Unit {0}) (setup_of d) lawful in
    record { say = inr end; net = parts.net; nodes = parts.nodes; zones = parts.zones }

pub local_taken : (d : Draft) (ws names : List (List ℕ)) → (d.stage ≡ Node) ⊎ (d.stage ≡ Zones)
    → has_router d.nodes ≡ true → AllZip IsZoneName ws names → length names ≤ 1024
    → Takes d (codes "local" ∷ ws)
    (record { stage = Local; net = d.net; nodes = d.nodes; zones = d.zones; local = names })
local_taken d ws names stage router are few lines h =
    let front = front_of d stage router lines h in (
      (lines, codes "local" ∷ ws, refl, front.say, (ws, refl, are), router),
      lawful_with (record { stage = Local; net = d.net; nodes = d.nodes; zones = d.zones; local = names })
          (record {
            net = front.net;
            nodes = front.nodes;
            zones = front.zones;
            local = router_table d.nodes ws names router are few;
          }),
    )
