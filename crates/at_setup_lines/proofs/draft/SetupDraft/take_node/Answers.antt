use Rattle.std.proofs.Common.{◌≡◌, refl, sym, ap, ◌∙◌, subst}
use Rattle.std.specs.Prelude.{codes, ◌∷◌, ◌++◌, [], true}
use Rattle.at_words.specs.Words.{words_of}
use Rattle.at_setup_lines.specs.Drafts.{Draft, Refuses, Takes}
use Rattle.at_setup_lines.specs.SetupLines.{SaysNode}
use Rattle.at_setup_lines.specs.NodeLists.{BeginNodes, is_node}
use Rattle.at_setup_lines.specs.contracts.draft.SetupDraft.take_node.{A-type}
use Rattle.at_setup_lines.proofs.DraftLemmas.{no_node, node_taken, none_read, refused, some_read, HasTable, late_node}
use Rattle.at_setup_lines.proofs.DraftLemmas.{unfit_node}
use Rattle.at_setup_lines.proofs.draft.SetupDraft.take_node.Goals as goal

pub returns-in_err-node-clause-only : goal.returns-in_err-node-clause-only
returns-in_err-node-clause-only g c =
    let line = codes "node" ∷ words_of c.args.words.rest.now in
    let none = none_read (SaysNode line) c.node_of.result _ _ c.in_err-node.ensures.value c.node_of.ensures in
    refused c.from_residual.result (Refuses (A-type g.row.A) c.args.self.now line)
    (no_node (A-type g.row.A) c.args.self.now (words_of c.args.words.rest.now) none)

pub returns-in-Zones-clause-only : goal.returns-in-Zones-clause-only
returns-in-Zones-clause-only g c = λ _.
    late_node (A-type g.row.A) c.args.self.now (words_of c.args.words.rest.now)
    (subst HasTable (ap (λ d. d.stage) c.self.view_is) c.in-Zones.is)

pub returns-in-Some-clause-only : goal.returns-in-Some-clause-only
returns-in-Some-clause-only g c = λ _.
    let ws = words_of c.args.words.rest.now in
    let n = c.in_ok-node.node in
    let said = some_read (SaysNode (codes "node" ∷ ws)) c.node_of.result _ n c.in_ok-node.ensures.value
    c.node_of.ensures in
    let nodes = c.deref.ensures.value ∙ ap (λ d. d.nodes) c.self.view_is in
    let unfit = subst (λ ns. ¬ BeginNodes (ns ++ n ∷ [])) nodes (c.in-Some.ensures.broken refl) in
    unfit_node (A-type g.row.A) c.args.self.now ws n (sym (ap (λ d. d.stage) c.self.view_is) ∙ c.in-Node.is) said unfit

pub returns-clause-taken : goal.returns-clause-taken
returns-clause-taken g c =
    let ws = words_of c.args.words.rest.now in
    let line = codes "node" ∷ ws in
    let n = c.in_ok-node.node in
    let said = some_read (SaysNode line) c.node_of.result _ n c.in_ok-node.ensures.value c.node_of.ensures in
    let new : Draft = record {
      stage = c.self.inside.stage;
      net = c.self.inside.net;
      nodes = c.push.new.self.items;
      zones = c.self.inside.zones.items;
      local = c.self.inside.local.items;
    } in
    let fits = subst (λ ns. BeginNodes ns → is_node n ≡ true → BeginNodes (ns ++ n ∷ [])) c.deref.ensures.value
    (c.in_default.ensures.fits refl) in
    subst (λ d. Takes d line new) c.self.view_is
    (node_taken c.self.inside.stage c.self.inside.net c.self.inside.nodes.items c.push.new.self.items
    c.self.inside.zones.items c.self.inside.local.items ws n c.in-Node.is said fits c.in_ok-push.ensures.items)
