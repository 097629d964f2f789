use Rattle.std.proofs.Common.{◌≡◌, ◌∙◌, ◌++◌, ◌∷◌, [], ℕ, List, map, Some, sym, ap, subst, arith}
use Rattle.std.specs.Prelude.{find}
use Rattle.at_ddp.proofs.Alls.{all_replaced}
use Rattle.at_ddp.specs.Outbox.{Outbox}
use Rattle.at_ddp.specs.Tables.{replaced}
use Rattle.at_node.specs.Limits.{IsWithin}
use Rattle.at_node.specs.Nodes.{NodeState}
use Rattle.at_nodes.specs.Nodes.{AreWithin}
use Rattle.at_nodes.specs.Taking.{Takes}
use Rattle.at_nodes.specs.Nodes.{is_numbered}
use Rattle.at_drive.specs.Drives.{Driven, Logged, logged, number_of}
use Rattle.at_drive.specs.Logs.{news_of}
use Rattle.at_drive.specs.Steps.{stands_in}
use Rattle.at_drive.proofs.NodeLemmas.{found_in, numbers_stay}
use Rattle.at_drive.proofs.SafetyLemmas.{SafetyLaws, one_within, taken_safely}
use Rattle.at_drive.proofs.stepping.Drive.play.Goals as goal
use Rattle.at_ddp.proofs.CaseLemmas.{on_err}

pub place_among-place-requires : goal.place_among-place-requires
place_among-place-requires g c =
    ap (λ l. stands_in (map number_of l) c.args.number)
    (c.deref.ensures.value ∙ ap (λ (d : Driven). d.nodes) c.self.view_is)
    ∙ c.requires.stands

pub index_mut-requires : goal.index_mut-requires
index_mut-requires g c =
    let place = found_in c.args.number c.self.inside.nodes.items c.deref.result.now c.place_among-place.result
    c.deref.ensures.value c.place_among-place.ensures in
    omega (arith, place.within, c.self.inside.nodes.ok.0)

pub invariant_of-self : goal.invariant_of-self
invariant_of-self g c =
    let place = found_in c.args.number c.self.inside.nodes.items c.deref.result.now c.place_among-place.result
    c.deref.ensures.value c.place_among-place.ensures in
    subst AreWithin (place.set_is c.take-report.new.node)
    (all_replaced IsWithin (is_numbered c.args.number) c.take-report.new.node c.self.inside.nodes.items
    c.self.invariant c.take-report.ensures.within)

pub invariant_of-self-2 : goal.invariant_of-self-2
invariant_of-self-2 g c =
    let place = found_in c.args.number c.self.inside.nodes.items c.deref.result.now c.place_among-place.result
    c.deref.ensures.value c.place_among-place.ensures in
    subst AreWithin (place.set_is c.take-report.new.node)
    (all_replaced IsWithin (is_numbered c.args.number) c.take-report.new.node c.self.inside.nodes.items
    c.self.invariant c.take-report.ensures.within)

pub returns-in_err-reserve-2-clause-stopped : goal.returns-in_err-reserve-2-clause-stopped
returns-in_err-reserve-2-clause-stopped g c =
    on_err c.from_residual-in_err-reserve-2.result _
    (ap (λ f. record (logged {A = g.row.A.Denot} c.reserve.new.self) { faults = f }) c.reserve-2.ensures.items
    ∙ c.reserve.ensures.log ∙ c.empty_outbox-out.ensures.log)

pub returns-in_err-reserve-2-clause-numbers : goal.returns-in_err-reserve-2-clause-numbers
returns-in_err-reserve-2-clause-numbers g c =
    let place = found_in c.args.number c.self.inside.nodes.items c.deref.result.now c.place_among-place.result
    c.deref.ensures.value c.place_among-place.ensures in
    numbers_stay c.args.number c.self.inside.nodes.items c.place_among-place.result c.index_mut.result.now
    c.take-report.new.node place c.index_mut.ensures.value c.take-report.ensures.seat
    ∙ ap (λ (d : Driven). map number_of d.nodes) c.self.view_is

pub returns-in_err-reserve-2-clause-failed : goal.returns-in_err-reserve-2-clause-failed
returns-in_err-reserve-2-clause-failed g c = ap (λ (d : Driven). d.failed) c.self.view_is

pub returns-clause-driven : goal.returns-clause-driven
returns-clause-driven g c =
    let place = found_in c.args.number c.self.inside.nodes.items c.deref.result.now c.place_among-place.result
    c.deref.ensures.value c.place_among-place.ensures in
    let node : NodeState = c.index_mut.result.now in
    let report = c.take-report.result in
    let after : NodeState = c.take-report.new.node in
    let out : Outbox = c.take-report.new.out in
    let notes : List ℕ = c.send_all.ensures.0 in
    let view = c.self.view_is in
    let before : logged {A = g.row.A.Denot} c.reserve.new.self ≡ logged c.args.log.now = c.reserve.ensures.log
    ∙ c.empty_outbox-out.ensures.log in
    let takes = subst (λ l. Takes c.args.input.now node l report after out.items) c.empty_outbox-out.ensures.list
    c.take-report.ensures.takes in
    let stands = ap (λ (d : Driven). find (is_numbered c.args.number) d.nodes) (sym view) ∙ place.first
    ∙ ap Some (sym (c.index_mut.ensures.value ∙ place.at node)) in
    let before_within = one_within c.args.number node c.args.self.now.nodes
    (subst (λ (d : Driven). AreWithin d.nodes) view c.self.invariant) stands in
    let laws : SafetyLaws g.row.A.Denot = record {
      call = c.every_event_is_safe.ensures.call;
      timer = c.every_event_is_safe.ensures.timer;
      datagram = c.every_event_is_safe.ensures.datagram;
    } in
    let pushed = c.push.ensures in
    record {
      node = node;
      stands = stands;
      report = report;
      after = after;
      out = out;
      steps = takes;
      safe = taken_safely laws c.args.input.now node report after out.items before_within
          c.take-report.ensures.within takes;
      notes = notes;
      sends = c.send_all.ensures.1;
      nodes = sym (ap (λ (d : Driven). replaced (is_numbered c.args.number) after d.nodes) (sym view)
          ∙ place.set_is after);
      reports = ap (λ (l : Logged g.row.A.Denot). l.reports) pushed
          ∙ ap (λ (l : Logged g.row.A.Denot). l.reports ++ report ∷ []) before;
      sent = ap (λ (l : Logged g.row.A.Denot). l.sent) pushed
          ∙ ap (λ (l : Logged g.row.A.Denot). l.sent ++ out ∷ []) before;
      arrived = ap (λ (l : Logged g.row.A.Denot). l.arrived) pushed
          ∙ ap (λ (l : Logged g.row.A.Denot). l.arrived ++ news_of c.args.news) before;
      faults = ap (λ (l : Logged g.row.A.Denot). l.faults) pushed ∙ c.send_all.ensures.2
          ∙ ap (λ l. l ++ notes) (c.reserve-2.ensures.items ∙ ap (λ (l : Logged g.row.A.Denot). l.faults) before);
      whole = ap (λ (d : Driven). d.failed) view;
    }

pub returns-clause-numbers : goal.returns-clause-numbers
returns-clause-numbers g c =
    let place = found_in c.args.number c.self.inside.nodes.items c.deref.result.now c.place_among-place.result
    c.deref.ensures.value c.place_among-place.ensures in
    numbers_stay c.args.number c.self.inside.nodes.items c.place_among-place.result c.index_mut.result.now
    c.take-report.new.node place c.index_mut.ensures.value c.take-report.ensures.seat
    ∙ ap (λ (d : Driven). map number_of d.nodes) c.self.view_is

pub returns-clause-failed : goal.returns-clause-failed
returns-clause-failed g c = ap (λ (d : Driven). d.failed) c.self.view_is
