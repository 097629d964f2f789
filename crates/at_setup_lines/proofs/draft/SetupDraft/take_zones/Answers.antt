use Rattle.std.proofs.Common.{◌≡◌, sym, ap, ◌∙◌, subst, inl, inr}
use Rattle.std.specs.Prelude.{codes, ◌∷◌, false, true}
use Rattle.at_words.specs.Words.{words_of}
use Rattle.at_setup_lines.specs.Drafts.{Draft, Refuses, Takes}
use Rattle.at_setup.specs.Setups.{has_router}
use Rattle.at_setup_lines.specs.declared.draft.Stage.TheVariants.{Zones}
use Rattle.at_setup_lines.specs.contracts.draft.SetupDraft.take_zones.{A-type}
use Rattle.at_setup_lines.proofs.TableLineLemmas.{unfit_zones, zones_taken, second_zones, zones_without}
use Rattle.at_setup_lines.proofs.DraftLemmas.{refused_as, HasTable}
use Rattle.at_setup_lines.proofs.draft.SetupDraft.take_zones.Goals as goal

pub returns-in-Local-clause-only : goal.returns-in-Local-clause-only
returns-in-Local-clause-only g c = λ _.
    second_zones (A-type g.row.A) c.args.self.now (words_of c.args.words.rest.now)
    (inr (inl (sym (ap (λ d. d.stage) c.self.view_is) ∙ c.in-Local.is)))

pub returns-in-Zones-clause-only : goal.returns-in-Zones-clause-only
returns-in-Zones-clause-only g c = λ _.
    second_zones (A-type g.row.A) c.args.self.now (words_of c.args.words.rest.now)
    (subst HasTable (ap (λ d. d.stage) c.self.view_is)
    (elim c.in-Zones.is [ inl zones ↦ inl zones | inr event ↦ inr (inr event) ]))

pub returns-then-not-has_router-clause-only : goal.returns-then-not-has_router-clause-only
returns-then-not-has_router-clause-only g c = λ _.
    let nodes = c.deref.ensures.value ∙ ap (λ d. d.nodes) c.self.view_is in
    let none = subst (λ ns. has_router ns ≡ false) nodes (sym c.has_router.ensures ∙ c.if-not-has_router.true) in
    zones_without (A-type g.row.A) c.args.self.now (words_of c.args.words.rest.now)
    (sym (ap (λ d. d.stage) c.self.view_is) ∙ c.in-Node.is) none

pub returns-in_err-self-inside-clause-only : goal.returns-in_err-self-inside-clause-only
returns-in_err-self-inside-clause-only g c =
    let ws = words_of c.args.words.rest.now in
    refused_as c.from_residual.result c.in_err-self-inside.field-0.0
    (Refuses (A-type g.row.A) c.args.self.now (codes "zones" ∷ ws)) c.from_residual.ensures.1
    (λ known. unfit_zones (A-type g.row.A) c.args.self.now ws (c.in_err-self-inside.ensures.only known))

pub returns-clause-taken : goal.returns-clause-taken
returns-clause-taken g c =
    let ws = words_of c.args.words.rest.now in
    let names = c.in_ok-self-inside.field-0.items in
    let d : Draft = record {
      stage = c.self.inside.stage;
      net = c.self.inside.net;
      nodes = c.self.inside.nodes.items;
      zones = c.self.inside.zones.items;
      local = c.self.inside.local.items;
    } in
    let new : Draft = record {
      stage = Zones;
      net = c.self.inside.net;
      nodes = c.self.inside.nodes.items;
      zones = names;
      local = c.self.inside.local.items;
    } in
    let router = subst (λ ns. has_router ns ≡ true) c.deref.ensures.value
    (sym c.has_router.ensures ∙ c.if-not-has_router.false) in
    subst (λ old. Takes old (codes "zones" ∷ ws) new) c.self.view_is
    (zones_taken d ws names c.in-Node.is router c.in_ok-self-inside.ensures.said c.in_ok-self-inside.ensures.fits)
