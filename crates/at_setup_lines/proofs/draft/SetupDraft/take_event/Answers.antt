use Rattle.std.proofs.Common.{◌≡◌, sym, ap, ◌∙◌, subst}
use Rattle.std.specs.Prelude.{List, ℕ, not, ◌&&◌, false, true}
use Rattle.at_setup_lines.specs.Drafts.{Draft, IsDraft}
use Rattle.at_setup_lines.specs.NodeLists.{have_zones}
use Rattle.at_setup.specs.Setups.{has_router}
use Rattle.at_setup_lines.specs.declared.draft.Stage.TheVariants.{Event}
use Rattle.at_setup_lines.specs.contracts.draft.SetupDraft.take_event.{A-type}
use Rattle.at_setup_lines.proofs.EventLemmas.{event_at_node, event_later, lacking}
use Rattle.at_setup_lines.proofs.draft.SetupDraft.take_event.Goals.{in-Node+else-lacks_router, in-Zones}
use Rattle.at_setup_lines.proofs.draft.SetupDraft.take_event.Goals as goal

pub returns-then-lacks_router-clause-only : goal.returns-then-lacks_router-clause-only
returns-then-lacks_router-clause-only g c =
    let nodes = c.deref.ensures.value ∙ ap (λ d. d.nodes) c.self.view_is in
    let lacks = subst (λ ns. (have_zones ns && not (has_router ns)) ≡ true) nodes
    (sym c.lacks_router.ensures ∙ c.if-lacks_router.true) in
    lacking (A-type g.row.A) c.args.self.now (sym (ap (λ d. d.stage) c.self.view_is) ∙ c.in-Node.is) lacks

pub returns-clause-taken : goal.returns-clause-taken
returns-clause-taken g c =
    let d : Draft = record {
      stage = c.self.inside.stage;
      net = c.self.inside.net;
      nodes = c.self.inside.nodes.items;
      zones = c.self.inside.zones.items;
      local = c.self.inside.local.items;
    } in
    let new : Draft = record {
      stage = Event;
      net = c.self.inside.net;
      nodes = c.self.inside.nodes.items;
      zones = c.self.inside.zones.items;
      local = c.self.inside.local.items;
    } in
    subst (λ old. (lines : List (List (List ℕ))) → IsDraft lines old → IsDraft lines new) c.self.view_is
    (elim c.match-self.branch [
      | in-Node+else-lacks_router w ↦
          event_at_node d w.in-Node.is
          (subst (λ ns. (have_zones ns && not (has_router ns)) ≡ false) w.deref.ensures.value
          (sym w.lacks_router.ensures ∙ w.if-lacks_router.false))
      | in-Zones w ↦ event_later d w.in-Zones.is
    ])
