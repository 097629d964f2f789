use Rattle.std.proofs.Common.{◌≡◌, ◌∙◌, List, None, Some, length, sym, ap, refl, subst, arith, true}
use Rattle.std.specs.Prelude.{slice_get}
use Rattle.std.specs.List.{position_from}
use Rattle.at_ddp.specs.Outbox.{Posted}
use Rattle.at_ddp.proofs.TableLemmas.{Found, found_by, none_by}
use Rattle.at_node.specs.Numbers.{DrawsHearing}
use Rattle.at_nodes.specs.Nodes.{AreWithin}
use Rattle.at_world.specs.Sents.{SentDatagram}
use Rattle.at_nodes.specs.Taking.{Receives}
use Rattle.at_nodes.specs.Nodes.{is_numbered}
use Rattle.at_world.specs.Worlds.{AreFree, IsPlayable, WorldState, is_for, node_at, node_refusal}
use Rattle.at_setup.specs.declared.event.Event.TheVariants as event
use Rattle.at_world.proofs.DeliveryLemmas.{HeardFree, deliverable, delivered, for_it, for_same}
use Rattle.at_world.proofs.DeliveryLemmas.{fresh_there, held_there, not_sent, stale_there}
use Rattle.at_world.proofs.WorldLemmas.{few_events, node_stands, none_stands, one_stands, recorded_by}
use Rattle.at_world.proofs.WorldLemmas.{stays_within}
use Rattle.at_world.proofs.world.World.deliver.Given.{Over}
use Rattle.at_world.proofs.world.World.deliver.Goals.{After-get-sent, Else-draws_held, In-Some}
use Rattle.at_world.proofs.world.World.deliver.Goals as goal

-- the datagram that is to be delivered
sent_there : (g : Over) (c : After-get-sent g) → (s : SentDatagram)
    × (slice_get c.args.self.now.sent c.args.datagram ≡ Some s) × (c.get-sent.result.event ≡ s.event)
    × (c.get-sent.result.to ≡ s.to) × (c.get-sent.result.bytes.now ≡ s.bytes)
sent_there g c = subst (λ (w : WorldState). (s : SentDatagram) × (slice_get w.sent c.args.datagram ≡ Some s)
    × (c.get-sent.result.event ≡ s.event) × (c.get-sent.result.to ≡ s.to) × (c.get-sent.result.bytes.now ≡ s.bytes))
    c.self.view_is c.get-sent.ensures

-- the node stands at the place
stands_there : (g : Over) (c : In-Some g) → Found (is_numbered c.args.node) c.self.inside.nodes.items c.in-Some.place
stands_there g c = found_by (is_numbered c.args.node) c.self.inside.nodes.items c.deref.result.now c.place_of.result
    c.in-Some.place c.deref.ensures.value c.place_of.ensures c.in-Some.is

there : (g : Over) (c : In-Some g) → node_refusal (node_at c.args.self.now c.args.node) ≡ None
there g c =
    let f = stands_there g c in
    one_stands c.args.self.now c.args.node f.entry
    (node_stands c.args.self.now c.args.node c.self.inside.nodes.items c.in-Some.place f.entry
    (ap (λ (w : WorldState). w.nodes) c.self.view_is) f refl)

-- it is for this node
for_there : (g : Over) (c : In-Some g) (s : SentDatagram) → c.get-sent.result.to ≡ s.to
    → is_for s c.args.node ≡ true
for_there g c s same = sym (c.if-not-is_for.ensures ∙ for_same s c.get-sent.result.to c.args.node same)

pub returns-then-datagram-len-clause-not_played : goal.returns-then-datagram-len-clause-not_played
returns-then-datagram-len-clause-not_played g c = (
  not_sent g.row.A.Denot c.args.self.now c.args.datagram c.args.node c.requires.runs
      (omega (
        arith,
        ap (λ (w : WorldState). length w.sent) c.self.view_is,
        c.len.ensures,
        c.if-datagram-len.true,
      )),
  refl,
)

pub returns-in_default-clause-not_played : goal.returns-in_default-clause-not_played
returns-in_default-clause-not_played g c =
    let s = sent_there g (goal.at.returns-in_default-clause-not_played g c).After-get-sent in
    let for : is_for s.0 c.args.node
    ≡ true = sym (c.if-not-is_for.ensures ∙ for_same s.0 c.get-sent.result.to c.args.node s.3) in
    let none = none_by (is_numbered c.args.node) c.self.inside.nodes.items c.deref.result.now c.place_of.result
    c.deref.ensures.value c.place_of.ensures c.in_default.is in (
      for_it g.row.A.Denot c.args.self.now c.args.datagram c.args.node s.0 _ c.requires.runs s.1 for
          (none_stands c.args.self.now c.args.node c.self.inside.nodes.items
          (ap (λ (w : WorldState). w.nodes) c.self.view_is) none),
      refl,
    )

pub returns-then-not-is_fresh-clause-not_played : goal.returns-then-not-is_fresh-clause-not_played
returns-then-not-is_fresh-clause-not_played g c =
    let at = (goal.at.returns-then-not-is_fresh-clause-not_played g c).In-Some in
    let s = sent_there g (goal.at.returns-then-not-is_fresh-clause-not_played g c).After-get-sent in
    let stale = stale_there g.row.A.Denot c.args.self.now c.args.datagram c.args.node s.0 c.self.inside.log.last
    c.of-packet.result c.get-sent.result.event s.1 (ap (λ (w : WorldState). w.last) c.self.view_is)
    (c.of-packet.ensures ∙ s.4) s.2 (c.is_fresh.ensures.stale c.if-not-is_fresh.true) in (
      (
        for_it g.row.A.Denot c.args.self.now c.args.datagram c.args.node s.0 _ c.requires.runs s.1
            (for_there g at s.0 s.3)
            (there g at),
        stale,
      ),
      refl,
    )

pub draws_held-requires : goal.draws_held-requires
draws_held-requires g c =
    ap (position_from (is_numbered c.args.node) 0) (c.deref-2.ensures.value ∙ sym c.deref.ensures.value)
    ∙ sym c.place_of.ensures ∙ c.in-Some.is

pub returns-then-draws_held-clause-not_played : goal.returns-then-draws_held-clause-not_played
returns-then-draws_held-clause-not_played g c =
    let at = (goal.at.returns-then-draws_held-clause-not_played g c).In-Some in
    let s = sent_there g (goal.at.returns-then-draws_held-clause-not_played g c).After-get-sent in
    let same = c.deref-2.ensures.value ∙ ap (λ (w : WorldState). w.nodes) c.self.view_is in
    let held = subst (λ l. ¬ AreFree l c.args.node (λ n draw. DrawsHearing n c.of-packet.result draw)) same
    (c.draws_held.ensures.held c.if-draws_held.true) in (
      (
        for_it g.row.A.Denot c.args.self.now c.args.datagram c.args.node s.0 _ c.requires.runs s.1
            (for_there g at s.0 s.3)
            (there g at),
        held_there g.row.A.Denot c.args.self.now c.args.datagram c.args.node s.0 c.of-packet.result s.1
            (c.of-packet.ensures ∙ s.4) held,
      ),
      refl,
    )

pub index_mut-requires : goal.index_mut-requires
index_mut-requires g c =
    let f = stands_there g (goal.at.index_mut-requires g c).In-Some in
    omega (arith, f.within, c.self.inside.nodes.ok.0)

pub record-requires : goal.record-requires
record-requires g c = few_events c.args.self.now c.self.inside.log.events
    (ap (λ (w : WorldState). w.events) c.self.view_is) c.requires.runs

-- nothing refuses the delivery
deliverable_there : (g : Over) (c : Else-draws_held g) → node_refusal (node_at c.args.self.now c.args.node) ≡ None
    → (s : SentDatagram) → slice_get c.args.self.now.sent c.args.datagram ≡ Some s → is_for s c.args.node ≡ true
    → c.get-sent.result.event ≡ s.event → c.get-sent.result.bytes.now ≡ s.bytes
    → IsPlayable {A = g.row.A.Denot} c.args.self.now (event.Deliver c.args.datagram c.args.node)
deliverable_there g c stands s is for when same =
    let bytes = c.of-packet.ensures ∙ same in
    deliverable g.row.A.Denot c.args.self.now c.args.datagram c.args.node s c.requires.runs is for stands
    (fresh_there c.args.self.now s c.self.inside.log.last c.of-packet.result c.get-sent.result.event
    (ap (λ (w : WorldState). w.last) c.self.view_is) bytes when (c.is_fresh.ensures.fresh c.if-not-is_fresh.false))
    (subst (HeardFree c.args.self.now c.args.node) bytes
    (subst (λ l. AreFree l c.args.node (λ n draw. DrawsHearing n c.of-packet.result draw))
    (c.deref-2.ensures.value ∙ ap (λ (w : WorldState). w.nodes) c.self.view_is)
    (c.draws_held.ensures.free c.if-draws_held.false)))

pub returns-clause-played : goal.returns-clause-played
returns-clause-played g c =
    let at = (goal.at.returns-clause-played g c).In-Some in
    let s = sent_there g (goal.at.returns-clause-played g c).After-get-sent in
    let f = stands_there g at in
    let same = ap (λ (w : WorldState). w.nodes) c.self.view_is in
    let given = c.index_mut.result.now in (
      deliverable_there g (goal.at.returns-clause-played g c).Else-draws_held (there g at) s.0 s.1
          (for_there g at s.0 s.3)
          s.2 s.4,
      delivered g.row.A.Denot c.args.self.now c.args.datagram c.args.node s.0 c.of-packet.result _
          c.take-report.result s.1
          (for_there g at s.0 s.3) (c.of-packet.ensures ∙ s.4) (record {
            node = given;
            stands = node_stands c.args.self.now c.args.node c.self.inside.nodes.items c.in-Some.place given same f
                (c.index_mut.ensures.value ∙ f.at given);
            after = c.take-report.new.node;
            out = c.take-report.new.out.items;
            steps = subst (λ (ps : List Posted). Receives c.of-packet.result given ps c.take-report.result
                c.take-report.new.node c.take-report.new.out.items) c.self.invariant.0 c.take-report.ensures.takes;
            booked = recorded_by g.row.A.Denot g.row.A.Denot c.args.self.now c.args.node c.in-Some.place
                c.take-report.result c.drawn_by.result c.self.inside.nodes.items c.take-report.new.node
                c.self.inside.log
                c.record.new.self c.take-report.new.out.items c.drawn_by.ensures c.self.view_is f
                c.in-Ok.ensures.recorded;
          }),
    )

pub returns-in_default-record-clause-not_played : goal.returns-in_default-record-clause-not_played
returns-in_default-record-clause-not_played g c =
    let at = (goal.at.returns-in_default-record-clause-not_played g c).In-Some in
    let s = sent_there g (goal.at.returns-in_default-record-clause-not_played g c).After-get-sent in (
      c.in_default-record.ensures.failed.0,
      c.in_default-record.ensures.failed.1 ∙ ap (λ (w : WorldState). w.sent) c.self.view_is,
      λ whole. deliverable_there g (goal.at.returns-in_default-record-clause-not_played g c).Else-draws_held
          (there g at)
          s.0 s.1 (for_there g at s.0 s.3) s.2 s.4,
    )

-- ---- each node keeps to its limits

pub returns-then-datagram-len-clause-within : goal.returns-then-datagram-len-clause-within
returns-then-datagram-len-clause-within g c =
    subst AreWithin (ap (λ (w : WorldState). w.nodes) c.self.view_is) c.self.invariant.1

pub returns-then-not-is_for-clause-within : goal.returns-then-not-is_for-clause-within
returns-then-not-is_for-clause-within g c =
    subst AreWithin (ap (λ (w : WorldState). w.nodes) c.self.view_is) c.self.invariant.1

pub returns-in_default-clause-within : goal.returns-in_default-clause-within
returns-in_default-clause-within g c =
    subst AreWithin (ap (λ (w : WorldState). w.nodes) c.self.view_is) c.self.invariant.1

pub returns-then-not-is_fresh-clause-within : goal.returns-then-not-is_fresh-clause-within
returns-then-not-is_fresh-clause-within g c =
    subst AreWithin (ap (λ (w : WorldState). w.nodes) c.self.view_is) c.self.invariant.1

pub returns-then-draws_held-clause-within : goal.returns-then-draws_held-clause-within
returns-then-draws_held-clause-within g c =
    subst AreWithin (ap (λ (w : WorldState). w.nodes) c.self.view_is) c.self.invariant.1

pub invariant_of-self : goal.invariant_of-self
invariant_of-self g c = (
  c.record.ensures.emptied,
  stays_within c.self.inside.nodes.items c.args.node c.in-Some.place c.take-report.new.node c.self.invariant.1
      (stands_there g (goal.at.invariant_of-self g c).In-Some) c.take-report.ensures.within,
)

pub invariant_of-self-2 : goal.invariant_of-self-2
invariant_of-self-2 g c = (
  c.record.ensures.emptied,
  stays_within c.self.inside.nodes.items c.args.node c.in-Some.place c.take-report.new.node c.self.invariant.1
      (stands_there g (goal.at.invariant_of-self-2 g c).In-Some) c.take-report.ensures.within,
)

pub returns-in_default-record-clause-within : goal.returns-in_default-record-clause-within
returns-in_default-record-clause-within g c =
    stays_within c.self.inside.nodes.items c.args.node c.in-Some.place c.take-report.new.node c.self.invariant.1
    (stands_there g (goal.at.returns-in_default-record-clause-within g c).In-Some) c.take-report.ensures.within

pub returns-clause-within : goal.returns-clause-within
returns-clause-within g c =
    stays_within c.self.inside.nodes.items c.args.node c.in-Some.place c.take-report.new.node c.self.invariant.1
    (stands_there g (goal.at.returns-clause-within g c).In-Some) c.take-report.ensures.within
