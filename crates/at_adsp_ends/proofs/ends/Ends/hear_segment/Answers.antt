use Rattle.std.proofs.Common.{refl}
use Rattle.at_adsp_frame.specs.Segments.{content}
use Rattle.at_adsp_end.specs.Ends.{has_remote, is_open}
use Rattle.at_adsp_end.specs.Hearing.{heard, told}
use Rattle.at_adsp_end.specs.Positions.{wire}
use Rattle.at_adsp_ends.proofs.FiledLemmas.{lent_at}
use Rattle.at_adsp_ends.proofs.Places.{end_at, none_at, place_in, test_at}
use Rattle.at_adsp_ends.proofs.MoveLemmas as move
use Rattle.at_adsp_ends.proofs.ends.Ends.hear_segment.Goals as goal

pub returns-in_default : goal.returns-in_default
returns-in_default g c =
    let first = place_in (has_remote c.args.remote) c.self.view_is c.index_of_remote.ensures.first in
    let none = none_at (has_remote c.args.remote) c.self.inside.ends.items first c.in_default.is in
    rw (← c.self.view_is) (rw none record { taken = move.ignored_done _ _; memory = λ h. refl })

pub returns-then-not-is_open : goal.returns-then-not-is_open
returns-then-not-is_open g c =
    let first = place_in (has_remote c.args.remote) c.self.view_is c.index_of_remote.ensures.first in
    let q = end_at (has_remote c.args.remote) c.self.invariant.0 first c.in-Some.is c.at-end.ensures in
    let shut = test_at q (λ x. is_open x.phase) c.at-end.ensures c.is_open.ensures c.if-not-is_open.true in
    rw (← c.self.view_is) (rw (q.first, shut) record { taken = move.ignored_done _ _; memory = λ h. refl })

pub invariant_of-self : goal.invariant_of-self
invariant_of-self g c =
    let e = c.at_mut-end.result.now in
    let says = told wire e (content c.args.segment.now) in
    let lent = lent_at c.self.invariant.1 c.at_mut-end.ensures.value c.at_mut-end.ensures.keyed in
    move.outcome_lawful c.self.invariant.0 lent c.receive.new.self c.args.out.now c.receive.new.out
    c.receive.result (heard wire e says) (move.heard_keeps e says) c.receive.ensures.ok c.receive.ensures.unchanged

pub returns : goal.returns
returns g c =
    let first = place_in (has_remote c.args.remote) c.self.view_is c.index_of_remote.ensures.first in
    let q = end_at (has_remote c.args.remote) c.self.invariant.0 first c.in-Some.is c.at_mut-end.ensures.value in
    let e = c.at_mut-end.result.now in
    let live = test_at q (λ x. is_open x.phase) c.at-end.ensures c.is_open.ensures c.if-not-is_open.false in
    let says = told wire e (content c.args.segment.now) in
    let does = heard wire e says in
    let keeps = move.heard_keeps e says in
    rw (← c.self.view_is) (rw (q.first, live) record {
      taken = move.taken_outcome q c.receive.new.self c.args.out.now c.receive.new.out c.receive.result does
          keeps.id keeps.asked c.receive.ensures.ok c.receive.ensures.unchanged c.receive.ensures.nothing_sent;
      memory = λ h. c.receive.ensures.memory (move.room_asked c.args.out.now e does.after does.sent keeps h);
    })
