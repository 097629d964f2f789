-- A drive begins with the lines that were read.
use Rattle.std.proofs.Common.{◌≡◌, ℕ, ◌+◌, ◌-◌, ◌<◌, ◌≤◌, Bool, true, false, not, List, [], ◌∷◌, ◌++◌, length, inl}
use Rattle.std.proofs.Common.{inr, refl, sym, ap, subst, ◌∙◌, append-nil, nat_le, nat_lt, arith, codes}
use Rattle.std.proofs.Common.{filter, map, min}
use Rattle.std.proofs.lemmas.Bool.{and_from, and_parts, cases_lt, false≢true, le-leb, leb-true, ltb-true}
use Rattle.std.proofs.lemmas.List.{map-append}
use Rattle.std.proofs.lemmas.List.Elements.{filter-append}
use Rattle.std.proofs.lemmas.List.Folds.{list_all-append}
use Rattle.std.specs.Prelude.{◌==◌, ◌&&◌, ◌||◌, count_by}
use Rattle.std.specs.List.{list_all, list_any}
use Rattle.at_words.specs.Words.{words_of}
use Rattle.at_setup.specs.Setups.{are_lawful_nodes, has_router, is_lawful, is_lawful_node, is_lawful_table, is_room}
use Rattle.at_setup.specs.Setups.{are_in_zones, stands_once}
use Rattle.at_setup.specs.declared.setup.NodeSetup.{NodeSetup}
use Rattle.at_setup.specs.declared.setup.Setup.{Setup}
use Rattle.at_setup_lines.specs.Drafts.{Draft, IsDraft, has_events}
use Rattle.at_setup_lines.specs.Endings.{CanEnd, HasPlace, IsEnding}
use Rattle.at_setup_lines.specs.NodeLists.{lacks_router}
use Rattle.at_setup_lines.specs.SetupLines.{IsSetup, SaysNet}
use Rattle.at_drive.specs.Steps.{node_of}
use Rattle.at_drive_lines.specs.Drafts.{BeginDrive, HasBody, HasRead, HasReadAt, is_heard, words_in}
use Rattle.at_drive_lines.specs.Says.{AreDrive, SaysPort, have_ports, leave_port}
use Rattle.at_drive_lines.specs.declared.draft.DriveDraft.{DriveDraft}
use Rattle.at_drive_lines.specs.declared.draft.Stage.{Stage}
use Rattle.at_drive_lines.specs.declared.draft.Stage.TheVariants.{Body, Net, Port}
use Rattle.at_drive_lines.proofs.BodyLemmas.{no_nodes}
use Rattle.at_drive_lines.proofs.StepLemmas.{stand_by}

pub words_append : (xs ys : List (List ℕ)) → words_in (xs ++ ys) ≡ words_in xs ++ words_in ys
words_append xs ys = ap (map words_of) (filter-append is_heard xs ys)
    ∙ map-append words_of (filter is_heard xs) (filter is_heard ys)

-- the lines that end a setup are heard
ending_heard : (most : ℕ) (more : List (List ℕ)) → IsEnding most more → words_in more ≡ map words_of more
ending_heard most more (inl none) = subst (λ l. words_in l ≡ map words_of l) (sym none) refl
ending_heard most more (inr (inl net)) = subst (λ l. words_in l ≡ map words_of l) (sym net) refl
ending_heard most more (inr (inr (k, few, router))) = subst (λ l. words_in l ≡ map words_of l) (sym router) refl

-- ---- ports

node_small : (n : NodeSetup) → is_lawful_node n ≡ true → nat_le (0 + n.node) 65535 ≡ true
node_small n h =
    let a = and_parts (nat_lt 0 n.node && nat_lt n.node 255 && is_room n.receive_room) (is_room n.send_room) h in
    let b = and_parts (nat_lt 0 n.node && nat_lt n.node 255) (is_room n.receive_room) a.0 in
    let small = ltb-true n.node 255 (and_parts (nat_lt 0 n.node) (nat_lt n.node 255) b.0).1 in
    le-leb (0 + n.node) 65535 (omega (arith, small))

small_ports : (ns : List NodeSetup) → list_all is_lawful_node ns ≡ true → have_ports 0 ns ≡ true
small_ports [] h = refl
small_ports (n ∷ ns) h =
    let parts = and_parts (is_lawful_node n) (list_all is_lawful_node ns) h in
    and_from (nat_le (0 + n.node) 65535) (have_ports 0 ns) (node_small n parts.0) (small_ports ns parts.1)

each_lawful : (A : Type 0) (s : Setup A) → is_lawful s ≡ true → list_all is_lawful_node s.nodes ≡ true
each_lawful A s h =
    let ns = s.nodes in
    let net = nat_lt 0 s.net && nat_lt s.net 65536 in
    let nodes = net && are_lawful_nodes ns in
    let zones = is_lawful_table (has_router ns) s.zones in
    let whole = and_parts (nodes && zones) (is_lawful_table (has_router ns) s.local) h in
    let a = and_parts nodes zones whole.0 in
    let b = and_parts net (are_lawful_nodes ns) a.0 in
    let few = nat_le (length ns) 16 in
    let one = nat_le (count_by (λ n. n.router) ns) 1 in
    let lawful = few && list_all is_lawful_node ns in
    let c = and_parts (lawful && list_all (stands_once ns) ns && one) (are_in_zones ns) b.1 in
    let d = and_parts (lawful && list_all (stands_once ns) ns) one c.0 in
    let e = and_parts lawful (list_all (stands_once ns) ns) d.0 in
    (and_parts few (list_all is_lawful_node ns) e.0).1

fits_above : (port most : ℕ) (ns : List NodeSetup) → port + most ≤ 65535 → list_all (λ n. nat_le n.node most) ns ≡ true
    → have_ports port ns ≡ true
fits_above port most [] small h = refl
fits_above port most (n ∷ ns) small h =
    let parts = and_parts (nat_le n.node most) (list_all (λ m. nat_le m.node most) ns) h in
    let fits = leb-true n.node most parts.0 in
    and_from (nat_le (port + n.node) 65535) (have_ports port ns)
    (le-leb (port + n.node) 65535 (omega (arith, small, fits))) (fits_above port most ns small parts.1)

-- ---- a router that has to follow

abbrev most_number : ℕ → ℕ
most_number port = min 254 (65535 - port)

place_by : (port : ℕ) (d : Draft) → leave_port port d.nodes ≡ true → (l : Bool) → lacks_router d.nodes ≡ l → l ≡ true
    → length d.nodes < 65535 - port
place_by port d room true lacks is =
    let parts : (not (lacks_router d.nodes) || nat_lt (length d.nodes) (65535 - port)) ≡ true = room in
    ltb-true (length d.nodes) (65535 - port)
    (sym (ap (λ b. not b || nat_lt (length d.nodes) (65535 - port)) lacks) ∙ parts)
place_by port d room false lacks is = absurd (false≢true is)

has_place : (port : ℕ) (d : Draft) → leave_port port d.nodes ≡ true → HasPlace (most_number port) d
has_place port d room = elim (cases_lt 15 (65535 - port)) [
  | inl many ↦ (omega (arith, many), inl (omega (arith, many)))
  | inr few ↦ (
    omega arith,
    inr (λ lacks. let fits = place_by port d room (lacks_router d.nodes) refl lacks in omega (arith, few, fits)),
  )
]

-- ---- a whole drive

pub whole_drive : (A : Type 0) → ((d : Draft) (lines : List (List (List ℕ))) (s : Setup A) → IsDraft lines d
    → IsSetup lines s → s.nodes ≡ d.nodes) → (d : DriveDraft A) (lines : List (List (List ℕ)))
    (b : HasBody A lines d) (s : Setup A) → IsSetup (b.net ∷ b.head) s → AreDrive lines s d.port b.steps
whole_drive A same d lines b s setup =
    let nodes = same d.setup (b.net ∷ b.head) s b.draft setup in
    record {
      net = b.net;
      port = b.port;
      head = b.head;
      last = b.last;
      parts = b.parts;
      setup = setup;
      placed = b.placed;
      ports = ap (have_ports d.port) nodes ∙ b.ports;
      said = b.said;
      stand = sym (stand_by s.nodes b.steps)
          ∙ ap (λ ns. list_all (λ x. list_any (λ n. n.node == node_of x) ns) b.steps) nodes ∙ b.stand;
    }

-- ---- lines that go on

module _ (A : Type 0) (can_end : (most : ℕ) (d : Draft) (lines : List (List (List ℕ))) → HasPlace most d
    → IsDraft lines d → CanEnd A most d lines)
    (same : (d : Draft) (lines : List (List (List ℕ))) (s : Setup A) → IsDraft lines d → IsSetup lines s
    → s.nodes ≡ d.nodes) (d : DriveDraft A) (lines : List (List ℕ)) where
  net_line : SaysNet (words_of (codes "net 1")) 1
  net_line = (codes "1", refl, (((omega arith, (omega arith, tt)), refl), omega arith, omega arith))

  port_line : SaysPort (words_of (codes "port 0")) 0
  port_line = (codes "0", refl, (((omega arith, (omega arith, tt)), refl), omega arith))

  from_nothing : words_in lines ≡ [] → BeginDrive A lines
  from_nothing none =
      let s : Setup A = record { net = 1; nodes = []; zones = []; local = [] } in (
        codes "net 1" ∷ codes "port 0" ∷ [],
        s,
        0,
        [],
        record {
          net = words_of (codes "net 1");
          port = words_of (codes "port 0");
          head = [];
          last = [];
          parts = words_append lines (codes "net 1" ∷ codes "port 0" ∷ [])
              ∙ ap (λ l. l ++ words_in (codes "net 1" ∷ codes "port 0" ∷ [])) none;
          setup = (inl (inl ((net_line, tt), refl), refl), refl);
          placed = port_line;
          ports = refl;
          said = tt;
          stand = refl;
        },
      )

  from_net : (net : List (List ℕ)) → words_in lines ≡ net ∷ [] → IsDraft (net ∷ []) d.setup
      → (d.setup).nodes ≡ [] → BeginDrive A lines
  from_net net is draft none =
      let place : HasPlace 254 d.setup = (omega arith, inl (omega arith)) in
      let e = can_end 254 d.setup (net ∷ []) place draft in
      let more = codes "port 0" ∷ e.more in (
        more,
        e.setup,
        0,
        [],
        record {
          net = net;
          port = words_of (codes "port 0");
          head = map words_of e.more;
          last = [];
          parts = words_append lines more ∙ ap (λ l. l ++ words_in more) is
              ∙ ap (λ l. net ∷ words_of (codes "port 0") ∷ l)
              (ending_heard 254 e.more e.ending ∙ sym (append-nil (map words_of e.more)));
          setup = e.whole;
          placed = port_line;
          ports = small_ports e.setup.nodes (each_lawful A e.setup (e.whole).1);
          said = tt;
          stand = refl;
        },
      )

  -- a setup that may go on
  from_head : (b : HasBody A (words_in lines) d) → has_events d.setup ≡ false → BeginDrive A lines
  from_head b early =
      let most = most_number d.port in
      let e = can_end most d.setup (b.net ∷ b.head) (has_place d.port d.setup b.room) b.draft in
      let nothing = b.early early in
      let small : d.port + most ≤ 65535 = omega (arith, (b.placed).2.1) in (
        e.more,
        e.setup,
        d.port,
        [],
        record {
          net = b.net;
          port = b.port;
          head = b.head ++ map words_of e.more;
          last = [];
          parts = words_append lines e.more ∙ ap (λ l. l ++ words_in e.more) b.parts
              ∙ ap (λ l. b.net ∷ b.port ∷ (l ++ words_in e.more)) (ap (λ l. b.head ++ l) nothing ∙ append-nil b.head)
              ∙ ap (λ l. b.net ∷ b.port ∷ l) (ap (λ l. b.head ++ l) (ending_heard most e.more e.ending)
              ∙ sym (append-nil (b.head ++ map words_of e.more)));
          setup = e.whole;
          placed = b.placed;
          ports = ap (have_ports d.port) e.follows
              ∙ list_all-append (λ n. nat_le (d.port + n.node) 65535) (d.setup).nodes e.added
              ∙ and_from (have_ports d.port (d.setup).nodes) (have_ports d.port e.added) b.ports
              (fits_above d.port most e.added small e.small);
          said = tt;
          stand = refl;
        },
      )

  from_steps : (b : HasBody A (words_in lines) d) → has_events d.setup ≡ true → BeginDrive A lines
  from_steps b late =
      let most = most_number d.port in
      let e = can_end most d.setup (b.net ∷ b.head) (has_place d.port d.setup b.room) b.draft in
      let none = e.over late in
      let whole = subst (λ l. IsSetup (b.net ∷ l) e.setup) (ap (λ l. b.head ++ map words_of l) none ∙ append-nil b.head)
      e.whole in (
        [],
        e.setup,
        d.port,
        b.steps,
        subst (λ l. AreDrive l e.setup d.port b.steps) (ap words_in (sym (append-nil lines)))
            (whole_drive A same d (words_in lines) b e.setup whole),
      )

  from_body : (e : Bool) → has_events d.setup ≡ e → HasBody A (words_in lines) d → BeginDrive A lines
  from_body false early b = from_head b early
  from_body true late b = from_steps b late

  from_stage : (st : Stage) → HasReadAt A st (words_in lines) d
      → ((net : List (List ℕ)) → IsDraft (net ∷ []) d.setup → (d.setup).nodes ≡ []) → BeginDrive A lines
  from_stage Net (none, draft, early) lone = from_nothing none
  from_stage Port (net, is, draft, early) lone = from_net net is draft (lone net draft)
  from_stage Body b lone = from_body (has_events d.setup) refl b

  pub begins : HasRead A (words_in lines) d → BeginDrive A lines
  begins h = from_stage d.stage h (λ net draft. no_nodes net d.setup draft)
