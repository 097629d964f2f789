-- What makes a setup lawful.
use Rattle.std.proofs.Common.{◌≡◌, ℕ, ◌≤◌, Bool, true, false, cond, ◌&&◌, ◌||◌, ◌==◌, List, [], ◌∷◌, length}
use Rattle.std.proofs.Common.{nat_lt, Option, Some, None, refl, sym, subst}
use Rattle.std.specs.Prelude.{is_none}
use Rattle.std.specs.List.{AllZip, list_all}
use Rattle.std.proofs.lemmas.Bool.{and_parts, false≢true, le-ltb, lt-ltb, ltb-false, or_left, or_right, and_from}
use Rattle.at_words.specs.Texts.{IsZoneName}
use Rattle.at_zip.specs.Zones.{is_name, table_fault}
use Rattle.at_zip.specs.declared.fault.ZipFault.TheVariants.{BadZone, TooManyZones}
use Rattle.at_setup.specs.Setups.{are_lawful_nodes, has_router, is_lawful, is_lawful_table}
use Rattle.at_setup.specs.declared.setup.NodeSetup.{NodeSetup}
use Rattle.at_setup.specs.declared.setup.Setup.{Setup}
use Rattle.at_setup_lines.specs.Drafts.{Draft, setup_of}
use Rattle.at_setup_lines.specs.SetupLines.{SayHead}
use Rattle.at_setup_lines.proofs.SaidLemmas.{names_said}

abbrev pub Net_fits : ℕ → Bool
Net_fits net = nat_lt 0 net && nat_lt net 65536

-- what a lawful setup is made of
pub record Parts {A : Type 0} (s : Setup A) : Type 0 where
  pub net : Net_fits s.net ≡ true
  pub nodes : are_lawful_nodes s.nodes ≡ true
  pub zones : is_lawful_table (has_router s.nodes) s.zones ≡ true
  pub local : is_lawful_table (has_router s.nodes) s.local ≡ true

pub setup_parts : (A : Type 0) (s : Setup A) → is_lawful s ≡ true → Parts s
setup_parts A s h =
    let zones = is_lawful_table (has_router s.nodes) s.zones in
    let a = and_parts (Net_fits s.net && are_lawful_nodes s.nodes && zones)
    (is_lawful_table (has_router s.nodes) s.local) h in
    let b = and_parts (Net_fits s.net && are_lawful_nodes s.nodes) zones a.0 in
    let c = and_parts (Net_fits s.net) (are_lawful_nodes s.nodes) b.0 in
    record { net = c.0; nodes = c.1; zones = b.1; local = a.1 }

pub lawful_nodes : (A : Type 0) (s : Setup A) → is_lawful s ≡ true → are_lawful_nodes s.nodes ≡ true
lawful_nodes A s h = let parts = setup_parts A s h in parts.nodes

few_by : {X : Type 0} (b : Bool) (x : X) (o : Option X) → is_none (cond b (Some x) o) ≡ true → b ≡ false
few_by true x o h = absurd (false≢true h)
few_by false x o h = refl

pub few_names : (router : Bool) (names : List (List ℕ)) → is_lawful_table router names ≡ true → length names ≤ 1024
few_names router names h =
    let b = and_parts (is_none (table_fault names)) (router || (length names == 0)) h in
    ltb-false 1024 (length names)
    (few_by (nat_lt 1024 (length names)) TooManyZones (cond (list_all is_name names) None (Some BadZone)) b.0)

pub net_fits : (lines : List (List (List ℕ))) (net : ℕ) (nodes : List NodeSetup) → SayHead lines net nodes
    → Net_fits net ≡ true
net_fits [] net nodes h = absurd h
net_fits (first ∷ lines) net nodes ((w, is, h), are) = and_from (nat_lt 0 net) (nat_lt net 65536) (lt-ltb 0 net h.1)
    (lt-ltb net 65536 h.2)

table_fits : (names : List (List ℕ)) → list_all is_name names ≡ true → length names ≤ 1024
    → is_none (table_fault names) ≡ true
table_fits names all few = rw (le-ltb 1024 (length names) few, all) refl

-- a router may have these names
pub router_table : (nodes : List NodeSetup) (ws names : List (List ℕ)) → has_router nodes ≡ true
    → AllZip IsZoneName ws names → length names ≤ 1024 → is_lawful_table (has_router nodes) names ≡ true
router_table nodes ws names router are few =
    and_from (is_none (table_fault names)) (has_router nodes || (length names == 0))
    (table_fits names (names_said ws names are) few) (or_left (has_router nodes) (length names == 0) router)

-- any setup may have a table without names
pub no_table : (nodes : List NodeSetup) (names : List (List ℕ)) → names ≡ []
    → is_lawful_table (has_router nodes) names ≡ true
no_table nodes names none = subst (λ ns. is_lawful_table (has_router nodes) ns ≡ true) (sym none)
    (or_right (has_router nodes) true refl)

pub lawful_with : (d : Draft) → Parts (setup_of d) → is_lawful (setup_of d) ≡ true
lawful_with d p =
    let zones = is_lawful_table (has_router d.nodes) d.zones in
    and_from (Net_fits d.net && are_lawful_nodes d.nodes && zones) (is_lawful_table (has_router d.nodes) d.local)
    (and_from (Net_fits d.net && are_lawful_nodes d.nodes) zones
    (and_from (Net_fits d.net) (are_lawful_nodes d.nodes) p.net p.nodes) p.zones) p.local

-- nodes may be lawful without a table
pub lawful_without : (d : Draft) → Net_fits d.net ≡ true → are_lawful_nodes d.nodes ≡ true → d.zones ≡ []
    → d.local ≡ [] → is_lawful (setup_of d) ≡ true
lawful_without d net nodes no_zones no_local =
    lawful_with d
    (record {
      net = net;
      nodes = nodes;
      zones = no_table d.nodes d.zones no_zones;
      local = no_table d.nodes d.local
          no_local;
    })
