use Rattle.std.proofs.Common.{◌≡◌, ◌⊎◌, sym, ap, ◌∙◌, subst}
use Rattle.std.specs.Prelude.{codes, ◌∷◌, false, true}
use Rattle.at_words.specs.Words.{words_of}
use Rattle.at_setup_lines.specs.Drafts.{Draft, Refuses, Takes}
use Rattle.at_setup.specs.Setups.{has_router}
use Rattle.at_setup_lines.specs.declared.draft.Stage.TheVariants.{Event, Local, Node, Zones}
use Rattle.at_setup_lines.specs.contracts.draft.SetupDraft.take_local.{A-type}
use Rattle.at_setup_lines.proofs.TableLineLemmas.{unfit_local, local_taken, second_local, local_without}
use Rattle.at_setup_lines.proofs.DraftLemmas.{refused_as}
use Rattle.at_setup_lines.proofs.draft.SetupDraft.take_local.Goals as goal

pub returns-in-Local-clause-only : goal.returns-in-Local-clause-only
returns-in-Local-clause-only g c = λ _.
    second_local (A-type g.row.A) c.args.self.now (words_of c.args.words.rest.now)
    (subst (λ st. (st ≡ Local) ⊎ (st ≡ Event)) (ap (λ d. d.stage) c.self.view_is) c.in-Local.is)

pub returns-then-not-has_router-clause-only : goal.returns-then-not-has_router-clause-only
returns-then-not-has_router-clause-only g c = λ _.
    let nodes = c.deref.ensures.value ∙ ap (λ d. d.nodes) c.self.view_is in
    let none = subst (λ ns. has_router ns ≡ false) nodes (sym c.has_router.ensures ∙ c.if-not-has_router.true) in
    local_without (A-type g.row.A) c.args.self.now (words_of c.args.words.rest.now)
    (subst (λ st. (st ≡ Node) ⊎ (st ≡ Zones)) (ap (λ d. d.stage) c.self.view_is) c.in-Node.is) none

pub returns-in_err-self-inside-clause-only : goal.returns-in_err-self-inside-clause-only
returns-in_err-self-inside-clause-only g c =
    let ws = words_of c.args.words.rest.now in
    refused_as c.from_residual.result c.in_err-self-inside.field-0.0
    (Refuses (A-type g.row.A) c.args.self.now (codes "local" ∷ ws)) c.from_residual.ensures.1
    (λ known. unfit_local (A-type g.row.A) c.args.self.now ws (c.in_err-self-inside.ensures.only known))

pub returns-clause-taken : goal.returns-clause-taken
returns-clause-taken g c =
    let ws = words_of c.args.words.rest.now in
    let names = c.in_ok-self-inside.field-0.items in
    let d : Draft = record {
      stage = c.self.inside.stage;
      net = c.self.inside.net;
      nodes = c.self.inside.nodes.items;
      zones = c.self.inside.zones.items;
      local = c.self.inside.local.items;
    } in
    let new : Draft = record {
      stage = Local;
      net = c.self.inside.net;
      nodes = c.self.inside.nodes.items;
      zones = c.self.inside.zones.items;
      local = names;
    } in
    let router = subst (λ ns. has_router ns ≡ true) c.deref.ensures.value
    (sym c.has_router.ensures ∙ c.if-not-has_router.false) in
    subst (λ old. Takes old (codes "local" ∷ ws) new) c.self.view_is
    (local_taken d ws names c.in-Node.is router c.in_ok-self-inside.ensures.said c.in_ok-self-inside.ensures.fits)
