use Rattle.std.proofs.Common.{◌∙◌, List, sym, ap, refl, subst, arith}
use Rattle.std.specs.List.{position_from}
use Rattle.at_ddp.specs.Outbox.{Posted}
use Rattle.at_ddp.proofs.TableLemmas.{Found, found_by, none_by}
use Rattle.at_nodes.specs.Nodes.{AreWithin}
use Rattle.at_nodes.specs.Nodes.{is_numbered}
use Rattle.at_nodes.specs.Taking.{Takes}
use Rattle.at_world.specs.Worlds.{WorldState}
use Rattle.at_world.proofs.WorldLemmas.{all_free, few_events, node_stands, none_stands, one_stands, recorded_by}
use Rattle.at_world.proofs.WorldLemmas.{some_held, stays_within}
use Rattle.at_world.proofs.world.World.play.Given.{Over}
use Rattle.at_world.proofs.world.World.play.Goals.{In-Some}
use Rattle.at_world.proofs.world.World.play.Goals as goal

-- the node stands at the place
stands_there : (g : Over) (c : In-Some g) → Found (is_numbered c.args.node) c.self.inside.nodes.items c.in-Some.place
stands_there g c = found_by (is_numbered c.args.node) c.self.inside.nodes.items c.deref.result.now c.place_of.result
    c.in-Some.place c.deref.ensures.value c.place_of.ensures c.in-Some.is

pub returns-in_default-clause-not_played : goal.returns-in_default-clause-not_played
returns-in_default-clause-not_played g c =
    let none = none_by (is_numbered c.args.node) c.self.inside.nodes.items c.deref.result.now c.place_of.result
    c.deref.ensures.value c.place_of.ensures c.in_default.is in (
      none_stands c.args.self.now c.args.node c.self.inside.nodes.items
          (ap (λ (w : WorldState). w.nodes) c.self.view_is) none,
      refl,
    )

pub draws_held-requires : goal.draws_held-requires
draws_held-requires g c =
    ap (position_from (is_numbered c.args.node) 0) (c.deref-2.ensures.value ∙ sym c.deref.ensures.value)
    ∙ sym c.place_of.ensures ∙ c.in-Some.is

pub returns-then-draws_held-clause-not_played : goal.returns-then-draws_held-clause-not_played
returns-then-draws_held-clause-not_played g c =
    let f = stands_there g (goal.at.returns-then-draws_held-clause-not_played g c).In-Some in
    let same = ap (λ (w : WorldState). w.nodes) c.self.view_is in
    let stands = node_stands c.args.self.now c.args.node c.self.inside.nodes.items c.in-Some.place f.entry same f
    refl in (
      one_stands c.args.self.now c.args.node f.entry stands,
      some_held g.row.A.Denot c.args.self.now c.args.node c.args.input.now c.deref-2.result.now
          (c.deref-2.ensures.value ∙ same) (c.draws_held.ensures.held c.if-draws_held.true),
      refl,
    )

pub index_mut-requires : goal.index_mut-requires
index_mut-requires g c =
    let f = stands_there g (goal.at.index_mut-requires g c).In-Some in
    omega (arith, f.within, c.self.inside.nodes.ok.0)

pub record-requires : goal.record-requires
record-requires g c = few_events c.args.self.now c.self.inside.log.events
    (ap (λ (w : WorldState). w.events) c.self.view_is) c.requires.runs

pub returns-clause-played : goal.returns-clause-played
returns-clause-played g c =
    let f = stands_there g (goal.at.returns-clause-played g c).In-Some in
    let same = ap (λ (w : WorldState). w.nodes) c.self.view_is in
    let given = c.index_mut.result.now in record {
      node = given;
      stands = node_stands c.args.self.now c.args.node c.self.inside.nodes.items c.in-Some.place given same f
          (c.index_mut.ensures.value ∙ f.at given);
      after = c.take-report.new.node;
      out = c.take-report.new.out.items;
      steps = subst (λ (ps : List Posted). Takes c.args.input.now given ps c.take-report.result c.take-report.new.node
          c.take-report.new.out.items) c.self.invariant.0 c.take-report.ensures.takes;
      booked = recorded_by g.row.A.Denot g.row.A.Denot c.args.self.now c.args.node c.in-Some.place c.take-report.result
          c.drawn_by.result c.self.inside.nodes.items c.take-report.new.node c.self.inside.log c.record.new.self
          c.take-report.new.out.items c.drawn_by.ensures c.self.view_is f c.in-Ok.ensures.recorded;
    }

pub returns-clause-free : goal.returns-clause-free
returns-clause-free g c =
    all_free g.row.A.Denot c.args.self.now c.args.node c.args.input.now c.deref-2.result.now
    (c.deref-2.ensures.value ∙ ap (λ (w : WorldState). w.nodes) c.self.view_is)
    (c.draws_held.ensures.free c.if-draws_held.false)

pub returns-in_default-record-clause-not_played : goal.returns-in_default-record-clause-not_played
returns-in_default-record-clause-not_played g c =
    let f = stands_there g (goal.at.returns-in_default-record-clause-not_played g c).In-Some in
    let same = ap (λ (w : WorldState). w.nodes) c.self.view_is in
    let stands = node_stands c.args.self.now c.args.node c.self.inside.nodes.items c.in-Some.place f.entry same f
    refl in (
      c.in_default-record.ensures.failed.0,
      c.in_default-record.ensures.failed.1 ∙ ap (λ (w : WorldState). w.sent) c.self.view_is,
      one_stands c.args.self.now c.args.node f.entry stands,
      all_free g.row.A.Denot c.args.self.now c.args.node c.args.input.now c.deref-2.result.now
          (c.deref-2.ensures.value ∙ same) (c.draws_held.ensures.free c.if-draws_held.false),
    )

-- ---- each node keeps to its limits

pub returns-in_default-clause-within : goal.returns-in_default-clause-within
returns-in_default-clause-within g c =
    subst AreWithin (ap (λ (w : WorldState). w.nodes) c.self.view_is) c.self.invariant.1

pub returns-then-draws_held-clause-within : goal.returns-then-draws_held-clause-within
returns-then-draws_held-clause-within g c =
    subst AreWithin (ap (λ (w : WorldState). w.nodes) c.self.view_is) c.self.invariant.1

pub invariant_of-self : goal.invariant_of-self
invariant_of-self g c = (
  c.record.ensures.emptied,
  stays_within c.self.inside.nodes.items c.args.node c.in-Some.place c.take-report.new.node c.self.invariant.1
      (stands_there g (goal.at.invariant_of-self g c).In-Some) c.take-report.ensures.within,
)

pub invariant_of-self-2 : goal.invariant_of-self-2
invariant_of-self-2 g c = (
  c.record.ensures.emptied,
  stays_within c.self.inside.nodes.items c.args.node c.in-Some.place c.take-report.new.node c.self.invariant.1
      (stands_there g (goal.at.invariant_of-self-2 g c).In-Some) c.take-report.ensures.within,
)

pub returns-in_default-record-clause-within : goal.returns-in_default-record-clause-within
returns-in_default-record-clause-within g c =
    stays_within c.self.inside.nodes.items c.args.node c.in-Some.place c.take-report.new.node c.self.invariant.1
    (stands_there g (goal.at.returns-in_default-record-clause-within g c).In-Some) c.take-report.ensures.within

pub returns-clause-within : goal.returns-clause-within
returns-clause-within g c =
    stays_within c.self.inside.nodes.items c.args.node c.in-Some.place c.take-report.new.node c.self.invariant.1
    (stands_there g (goal.at.returns-clause-within g c).In-Some) c.take-report.ensures.within
