-- Which lines of networks and nodes a draft may refuse, and what it has taken.
use Rattle.std.proofs.Common.{◌≡◌, ◌≢◌, ◌⊎◌, inl, inr, ℕ, true, false, List, [], ◌∷◌, ◌++◌, Option, Some, None, Result}
use Rattle.std.proofs.Common.{Ok, Err, IfErr, refl, sym, ap, ◌∙◌, append_assoc, subst}
use Rattle.std.specs.Prelude.{codes, ok_or, IsErrAnd}
use Rattle.std.proofs.lemmas.Bool.{false≢true}
use Rattle.at_faults.specs.declared.fault.LineFault.{LineFault}
use Rattle.at_faults.specs.declared.fault.LineFault.TheVariants.{NoMemory}
use Rattle.at_words.specs.Readings.{IsFound}
use Rattle.at_setup.specs.Setups.{are_lawful_nodes}
use Rattle.at_setup.specs.declared.setup.NodeSetup.{NodeSetup}
use Rattle.at_setup.specs.declared.setup.Setup.{Setup}
use Rattle.at_setup_lines.specs.Drafts.{Draft, IsDraft, IsDraftAt, Refuses, Takes, has_events, is_event}
use Rattle.at_setup_lines.specs.NodeLists.{BeginNodes, is_node}
use Rattle.at_setup_lines.specs.SetupLines.{SayHead, SayZones, SaysNet, SaysNode}
use Rattle.at_setup_lines.specs.declared.draft.Stage.{Stage}
use Rattle.at_setup_lines.specs.declared.draft.Stage.TheVariants.{Event, Local, Net, Node, Zones}
use Rattle.at_setup_lines.proofs.HeadLemmas.{At, AtNet, AtNode, begin_at, head_more, local_is_table, net_no_node}
use Rattle.at_setup_lines.proofs.HeadLemmas.{net_no_table, no_lines, node_no_net, node_no_table, same_head}
use Rattle.at_setup_lines.proofs.HeadLemmas.{zones_is_table, head_or_table, no_lines_table}
use Rattle.at_setup_lines.proofs.LineLemmas.{same_node}
use Rattle.at_setup_lines.proofs.SaidLemmas.{node_said}
use Rattle.at_setup_lines.proofs.LawfulLemmas.{lawful_nodes}

-- ---- what a call told

pub none_read : {T E : Type 0} (P : T → Type 0) (o : Option T) (e x : E) → Err x ≡ ok_or o e → IsFound o P → (t : T)
    → ¬ P t
none_read P None e x is none = none
none_read P (Some t) e x is some = absurd (cc)

pub some_read : {T E : Type 0} (P : T → Type 0) (o : Option T) (e : E) (x : T) → Ok x ≡ ok_or o e → IsFound o P → P x
some_read P None e x is none = absurd (cc)
some_read P (Some t) e x is some = let same : t ≡ x = cc in subst P same some

pub refused : {T : Type 0} (r : Result T LineFault) (P : Type 0) → P → IfErr r (λ fault. fault ≢ NoMemory → P)
refused (Ok t) P h = tt
refused (Err e) P h = λ _. h

pub refused_as : {T : Type 0} (r : Result T LineFault) (fault : LineFault) (P : Type 0) → IsErrAnd r (λ e. e ≡ fault)
    → (fault ≢ NoMemory → P) → IfErr r (λ e. e ≢ NoMemory → P)
refused_as (Ok t) fault P same h = tt
refused_as (Err e) fault P same h = λ known. h (λ none. known (same ∙ none))

-- ---- a line of the network

is_net_at : {A : Type 0} (lines : List (List (List ℕ))) (ws : List (List ℕ)) (s : Setup A)
    → At lines (codes "net" ∷ ws) s → AtNet lines (codes "net" ∷ ws) s.net
is_net_at lines ws s (inl (inl net)) = net
is_net_at lines ws s (inl (inr (inl (front, back, n, is, say, said)))) = absurd (net_no_node ws n said)
is_net_at lines ws s (inl (inr (inr (say, said, router)))) =
    absurd (net_no_table (codes "zones") zones_is_table ws s.zones said)
is_net_at lines ws s (inr (say, said, router)) =
    absurd (net_no_table (codes "local") local_is_table ws s.local said)

some_lines : (st : Stage) (lines : List (List (List ℕ))) (d : Draft) → st ≢ Net → is_event st ≡ false
    → IsDraftAt st lines d → lines ≢ []
some_lines Net lines d later before h = absurd (later refl)
some_lines Node lines d later before h = λ none. no_lines d.net d.nodes lines none h.0
some_lines Zones lines d later before h = λ none.
    no_lines_table (codes "zones") (λ head. SayHead head d.net d.nodes) d.nodes d.zones lines none h.0
some_lines Local lines d later before h = λ none.
    no_lines_table (codes "local") (λ front. SayZones front d.net d.nodes d.zones) d.nodes d.local lines none h.0
some_lines Event lines d later before h = absurd (false≢true (sym before))

pub no_net : (A : Type 0) (d : Draft) (ws : List (List ℕ)) → ((n : ℕ) → ¬ SaysNet (codes "net" ∷ ws) n)
    → Refuses A d (codes "net" ∷ ws)
no_net A d ws none lines h before b = let (s, at, lawful) = begin_at A lines (codes "net" ∷ ws) b in
    none s.net (is_net_at lines ws s at).1

pub second_net : (A : Type 0) (d : Draft) (ws : List (List ℕ)) → d.stage ≢ Net → Refuses A d (codes "net" ∷ ws)
second_net A d ws later lines h before b =
    let (s, at, lawful) = begin_at A lines (codes "net" ∷ ws) b in
    some_lines d.stage lines d later before h (is_net_at lines ws s at).0

pub over : (d : Draft) → d.stage ≡ Event → ¬ (has_events d ≡ false)
over d stage before = false≢true (sym before ∙ ap is_event stage)

-- ---- a line of a node

is_node_at : {A : Type 0} (lines : List (List (List ℕ))) (ws : List (List ℕ)) (s : Setup A)
    → At lines (codes "node" ∷ ws) s → AtNode lines (codes "node" ∷ ws) s.net s.nodes
is_node_at lines ws s (inl (inl net)) = absurd (node_no_net ws s.net net.1)
is_node_at lines ws s (inl (inr (inl node))) = node
is_node_at lines ws s (inl (inr (inr (say, said, router)))) =
    absurd (node_no_table (codes "zones") zones_is_table ws s.zones said)
is_node_at lines ws s (inr (say, said, router)) =
    absurd (node_no_table (codes "local") local_is_table ws s.local said)

pub no_node : (A : Type 0) (d : Draft) (ws : List (List ℕ)) → ((n : NodeSetup) → ¬ SaysNode (codes "node" ∷ ws) n)
    → Refuses A d (codes "node" ∷ ws)
no_node A d ws none lines h before b =
    let (s, at, lawful) = begin_at A lines (codes "node" ∷ ws) b in
    let (front, back, n, is, say, said) = is_node_at lines ws s at in
    none n said

-- a table came, or an event
abbrev pub HasTable : Stage → Type 0
HasTable st = (st ≡ Zones) ⊎ ((st ≡ Local) ⊎ (st ≡ Event))

-- after it the lines are not those of the network and the nodes alone
pub past_head : (d : Draft) → HasTable d.stage → has_events d ≡ false → (lines : List (List (List ℕ))) → IsDraft lines d
    → (net : ℕ) (nodes : List NodeSetup) → ¬ SayHead lines net nodes
past_head d (inl stage) before lines h net nodes say =
    let drafted = subst (λ st. IsDraftAt st lines d) stage h in
    head_or_table (codes "zones") (λ head. SayHead head d.net d.nodes) zones_is_table lines net nodes d.nodes d.zones
    say drafted.0
past_head d (inr (inl stage)) before lines h net nodes say =
    let drafted = subst (λ st. IsDraftAt st lines d) stage h in
    head_or_table (codes "local") (λ front. SayZones front d.net d.nodes d.zones) local_is_table lines net nodes
    d.nodes d.local say drafted.0
past_head d (inr (inr stage)) before lines h net nodes say = over d stage before

pub late_node : (A : Type 0) (d : Draft) (ws : List (List ℕ)) → HasTable d.stage → Refuses A d (codes "node" ∷ ws)
late_node A d ws stage lines h before b =
    let (s, at, lawful) = begin_at A lines (codes "node" ∷ ws) b in
    let (front, back, n, is, say, said) = is_node_at lines ws s at in
    past_head d stage before lines h s.net front say

pub unfit_node : (A : Type 0) (d : Draft) (ws : List (List ℕ)) (n : NodeSetup) → d.stage ≡ Node
    → SaysNode (codes "node" ∷ ws) n → ¬ BeginNodes (d.nodes ++ n ∷ []) → Refuses A d (codes "node" ∷ ws)
unfit_node A d ws n stage here unfit lines h before b =
    let (s, at, lawful) = begin_at A lines (codes "node" ∷ ws) b in
    let (front, back, m, is, say, said) = is_node_at lines ws s at in
    let drafted = subst (λ st. IsDraftAt st lines d) stage h in
    let nodes = (same_head lines s.net d.net front d.nodes say drafted.0).1 in
    let node = same_node (codes "node" ∷ ws) m n said here in
    let all : s.nodes ≡ (d.nodes ++ n ∷ []) ++ back = is ∙ (λ i. nodes i ++ node i ∷ back)
    ∙ sym (append_assoc d.nodes (n ∷ []) back) in
    unfit (back, ap are_lawful_nodes (sym all) ∙ lawful_nodes A s lawful)

pub node_taken : (st : Stage) (net : ℕ) (nodes after : List NodeSetup) (zones local ws : List (List ℕ))
    (n : NodeSetup) → st ≡ Node → SaysNode (codes "node" ∷ ws) n
    → (BeginNodes nodes → is_node n ≡ true → BeginNodes (nodes ++ n ∷ [])) → after ≡ nodes ++ n ∷ []
    → Takes (record { stage = st; net = net; nodes = nodes; zones = zones; local = local }) (codes "node" ∷ ws)
    (record { stage = st; net = net; nodes = after; zones = zones; local = local })
node_taken st net nodes after zones local ws n stage said fits is =
    let line = codes "node" ∷ ws in
    subst (λ t. Takes (record { stage = t; net = net; nodes = nodes; zones = zones; local = local }) line
    (record { stage = t; net = net; nodes = after; zones = zones; local = local })) (sym stage)
    (λ lines (say, no_zones, no_local, begin). (
      subst (SayHead (lines ++ line ∷ []) net) (sym is) (head_more lines net nodes line n say said),
      no_zones,
      no_local,
      subst BeginNodes (sym is) (fits begin (node_said line n said)),
    ))
