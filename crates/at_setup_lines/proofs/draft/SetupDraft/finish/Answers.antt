use Rattle.std.proofs.Common.{◌≡◌, sym, ap, subst, ◌∙◌}
use Rattle.at_setup_lines.specs.Drafts.{Draft, IsDraft, IsNoSetup, setup_of}
use Rattle.at_setup_lines.specs.SetupLines.{IsSetup}
use Rattle.at_setup.specs.Setups.{is_lawful}
use Rattle.at_setup_lines.specs.contracts.draft.SetupDraft.finish.{A-type}
use Rattle.at_setup_lines.proofs.EventLemmas.{unfinished, whole}
use Rattle.at_setup_lines.proofs.draft.SetupDraft.finish.Goals as goal

pub returns-then-is_lawful-clause-said : goal.returns-then-is_lawful-clause-said
returns-then-is_lawful-clause-said g c lines h =
    let d : Draft = record {
      stage = c.self.inside.stage;
      net = c.self.inside.net;
      nodes = c.self.inside.nodes.items;
      zones = c.self.inside.zones.items;
      local = c.self.inside.local.items;
    } in
    let listed : Draft = record {
      stage = c.self.inside.stage;
      net = c.self.inside.net;
      nodes = c.from_vec.result;
      zones = c.from_vec-2.result;
      local = c.from_vec-3.result;
    } in
    let same : d ≡ listed =
    (λ i. record {
      stage = c.self.inside.stage;
      net = c.self.inside.net;
      nodes = sym c.from_vec.ensures i;
      zones = sym c.from_vec-2.ensures i;
      local = sym c.from_vec-3.ensures i;
    }) in
    subst (λ x. IsSetup lines (setup_of x)) same
    (whole d (ap (λ x. is_lawful (setup_of x)) same ∙ sym c.is_lawful.ensures ∙ c.if-is_lawful.true) lines
    (subst (IsDraft lines) (sym c.self.view_is) h))

pub returns-else-is_lawful-clause-only : goal.returns-else-is_lawful-clause-only
returns-else-is_lawful-clause-only g c =
    let d : Draft = record {
      stage = c.self.inside.stage;
      net = c.self.inside.net;
      nodes = c.self.inside.nodes.items;
      zones = c.self.inside.zones.items;
      local = c.self.inside.local.items;
    } in
    let same : is_lawful (setup_of d) ≡ c.is_lawful.result =
    (λ i. is_lawful (setup_of
    (record {
      stage = c.self.inside.stage;
      net = c.self.inside.net;
      nodes = sym c.from_vec.ensures i;
      zones = sym c.from_vec-2.ensures i;
      local = sym c.from_vec-3.ensures i;
    }))) ∙ sym c.is_lawful.ensures in
    subst (IsNoSetup (A-type g.row.A)) c.self.view_is (unfinished (A-type g.row.A) d (same ∙ c.if-is_lawful.false))
