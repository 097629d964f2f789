-- Lines say the nodes of one setup.
use Rattle.std.proofs.Common.{◌≡◌, ℕ, false, List, [], ◌∷◌, ◌++◌, inl, inr, sym, ap, subst, ◌∙◌, append-nil}
use Rattle.std.proofs.Common.{append_assoc}
use Rattle.std.proofs.lemmas.Bool.{false≢true}
use Rattle.at_setup.specs.declared.setup.NodeSetup.{NodeSetup}
use Rattle.at_setup.specs.declared.setup.Setup.{Setup}
use Rattle.at_setup_lines.specs.Drafts.{Draft, IsDraft, IsDraftAt, has_events, is_event}
use Rattle.at_setup_lines.specs.SetupLines.{AreSetup, IsSetup, SayHead, SaysTable, EndInTable, MayEndInTable, SayZones}
use Rattle.at_setup_lines.specs.declared.draft.Stage.{Stage}
use Rattle.at_setup_lines.specs.declared.draft.Stage.TheVariants.{Event, Local, Net, Node, Zones}
use Rattle.at_setup_lines.proofs.HeadLemmas.{At, head_or_table, no_lines, same_head, setup_at, zones_is_table}
use Rattle.at_setup_lines.proofs.HeadLemmas.{local_is_table, table_no_net, table_no_node, one_table, AtFront, front_at}
use Rattle.at_setup_lines.proofs.HeadLemmas.{head_zones}
use Rattle.at_setup_lines.proofs.EventLemmas.{no_lines_setup, said_at}
use Rattle.std.specs.Prelude.{codes}

-- the nodes begin with these
abbrev pub BeginsWith : List NodeSetup → List NodeSetup → Type 0
BeginsWith nodes first = (rest : List NodeSetup) × (nodes ≡ first ++ rest)

all_of : (nodes first : List NodeSetup) → nodes ≡ first → BeginsWith nodes first
all_of nodes first same = ([], same ∙ sym (append-nil first))

module _ (net : ℕ) (nodes : List NodeSetup) where
  zones_line : (head : List (List (List ℕ))) (line names : List (List ℕ)) (b : ℕ) (ms : List NodeSetup)
      (zones : List (List ℕ)) → SayHead head net nodes → SaysTable (codes "zones") line names
      → AtFront head line b ms zones → ms ≡ nodes
  zones_line head line names b ms zones say table (inl (none, said)) =
      absurd (table_no_net (codes "zones") zones_is_table line names b table said)
  zones_line head line names b ms zones say table (inr (inl (front, back, n, is, front_said, said))) =
      absurd (table_no_node (codes "zones") zones_is_table line names n table said)
  zones_line head line names b ms zones say table (inr (inr (all, said, router))) =
      (same_head head b net ms nodes all say).1

  front_same : (lines : List (List (List ℕ))) (a b : List (List ℕ)) (m : ℕ) (ms : List NodeSetup)
      → SayZones lines net nodes a → SayZones lines m ms b → ms ≡ nodes
  front_same lines a b m ms (inl (say, none)) all = (head_zones lines net m nodes ms b say all).1
  front_same lines a b m ms (inr (head, line, is, say, table, router)) all =
      zones_line head line a m ms b say table
      (front_at head [] line m ms b (subst (λ l. SayZones l m ms b) is all))

module _ {A : Type 0} (net : ℕ) (nodes : List NodeSetup) where
  -- ---- after the lines of a network and of nodes

  head_line : (lines : List (List (List ℕ))) (line : List (List ℕ)) (s : Setup A) → SayHead lines net nodes
      → At lines line s → BeginsWith s.nodes nodes
  head_line lines line s say (inl (inl (none, said))) = absurd (no_lines net nodes lines none say)
  head_line lines line s say (inl (inr (inl (front, back, n, is, front_said, said)))) =
      let same = (same_head lines s.net net front nodes front_said say).1 in
      (n ∷ back, is ∙ ap (λ l. l ++ n ∷ back) same)
  head_line lines line s say (inl (inr (inr (all, said, router)))) =
      all_of s.nodes nodes (same_head lines s.net net s.nodes nodes all say).1
  head_line lines line s say (inr (all, said, router)) =
      all_of s.nodes nodes (head_zones lines net s.net nodes s.nodes s.zones say all).1

  head_same : (lines : List (List (List ℕ))) (s : Setup A) → SayHead lines net nodes → AreSetup lines s
      → s.nodes ≡ nodes
  head_same lines s say (inl (all, none)) = (head_zones lines net s.net nodes s.nodes s.zones say all).1
  head_same lines s say (inr end) =
      absurd (head_or_table (codes "local") (λ front. SayZones front s.net s.nodes s.zones) local_is_table lines net
      nodes s.nodes s.local say end)

  pub head_first : (lines more : List (List (List ℕ))) (s : Setup A) → SayHead lines net nodes
      → AreSetup (lines ++ more) s → BeginsWith s.nodes nodes
  head_first lines [] s say are = all_of s.nodes nodes
      (head_same lines s say (subst (λ l. AreSetup l s) (append-nil lines) are))
  head_first lines (line ∷ more) s say are = head_line lines line s say (setup_at A lines more line s are)

  -- ---- after the line of all zones

  pub zones_same : (names : List (List ℕ)) (lines more : List (List (List ℕ))) (s : Setup A)
      → EndInTable (codes "zones") (λ head. SayHead head net nodes) nodes lines names → AreSetup (lines ++ more) s
      → s.nodes ≡ nodes
  zones_same names lines more s (head, line, is, say, table, router) are =
      let parts = ap (λ l. l ++ more) is ∙ append_assoc head (line ∷ []) more in
      elim (setup_at A head more line s (subst (λ l. AreSetup l s) parts are)) [
        | inl at ↦ zones_line net nodes head line names s.net s.nodes s.zones say table at
        | inr local ↦ absurd (one_table line names s.local table local.1)
      ]

  -- ---- after the line of the local zones

  pub local_same : (zones names : List (List ℕ)) (lines more : List (List (List ℕ))) (s : Setup A)
      → EndInTable (codes "local") (λ front. SayZones front net nodes zones) nodes lines names
      → AreSetup (lines ++ more) s → s.nodes ≡ nodes
  local_same zones names lines more s (front, line, is, say, table, router) are =
      let parts = ap (λ l. l ++ more) is ∙ append_assoc front (line ∷ []) more in
      local_line (setup_at A front more line s (subst (λ l. AreSetup l s) parts are))
    where
      local_line : At front line s → s.nodes ≡ nodes
      local_line (inl (inl (none, said))) =
          absurd (table_no_net (codes "local") local_is_table line names s.net table said)
      local_line (inl (inr (inl (first, back, n, of, front_said, said)))) =
          absurd (table_no_node (codes "local") local_is_table line names n table said)
      local_line (inl (inr (inr (all, said, has)))) = absurd (one_table line s.zones names said table)
      local_line (inr (all, said, has)) = front_same net nodes front zones s.zones s.net s.nodes say all

  pub all_same : (zones local : List (List ℕ)) (lines : List (List (List ℕ))) (s : Setup A)
      → MayEndInTable (codes "local") (λ front. SayZones front net nodes zones) nodes lines local → AreSetup lines s
      → s.nodes ≡ nodes
  all_same zones local lines s (inl (inl (say, no_zones), no_local)) are = head_same lines s say are
  all_same zones local lines s (inl (inr end, no_local)) are =
      zones_same zones lines [] s end (subst (λ l. AreSetup l s) (sym (append-nil lines)) are)
  all_same zones local lines s (inr end) are =
      local_same zones local lines [] s end (subst (λ l. AreSetup l s) (sym (append-nil lines)) are)

module _ {A : Type 0} where
  pub one_setup : (d : Draft) (lines : List (List (List ℕ))) (s : Setup A) → IsDraft lines d → IsSetup lines s
      → s.nodes ≡ d.nodes
  one_setup d lines s h is = elim (said_at d.stage d lines h) [
    | inl nothing ↦ absurd (no_lines_setup A lines s nothing.0 is.0)
    | inr said ↦ all_same d.net d.nodes d.zones d.local lines s said is.0
  ]

  first_at : (stage : Stage) (d : Draft) (lines more : List (List (List ℕ))) (s : Setup A) → is_event stage ≡ false
      → IsDraftAt stage lines d → AreSetup (lines ++ more) s → BeginsWith s.nodes d.nodes
  first_at Net d lines more s early h are = (s.nodes, ap (λ l. l ++ s.nodes) (sym h.2))
  first_at Node d lines more s early h are = head_first d.net d.nodes lines more s h.0 are
  first_at Zones d lines more s early h are = all_of s.nodes d.nodes
      (zones_same d.net d.nodes d.zones lines more s h.0 are)
  first_at Local d lines more s early h are = all_of s.nodes d.nodes
      (local_same d.net d.nodes d.zones d.local lines more s h.0 are)
  first_at Event d lines more s early h are = absurd (false≢true (sym early))

  pub first_nodes : (d : Draft) (lines more : List (List (List ℕ))) (s : Setup A) → has_events d ≡ false
      → IsDraft lines d → IsSetup (lines ++ more) s → BeginsWith s.nodes d.nodes
  first_nodes d lines more s early h is = first_at d.stage d lines more s early h is.0
