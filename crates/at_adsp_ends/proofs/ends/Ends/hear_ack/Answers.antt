use Rattle.std.proofs.Common.{[], refl}
use Rattle.std.specs.Prelude.{◌&&◌}
use Rattle.at_adsp_frame.specs.Segments.{content}
use Rattle.at_adsp_end.specs.Ends.{EndState, has_remote, is_half}
use Rattle.at_adsp_end.specs.Moves.{opened}
use Rattle.at_adsp_end.specs.Positions.{wire}
use Rattle.at_adsp_end.specs.declared.phase.Phase.TheVariants as phase
use Rattle.at_adsp_ends.specs.Openings.{heard_opening}
use Rattle.at_adsp_ends.specs.Tables.{has_id}
use Rattle.at_adsp_ends.proofs.FiledLemmas.{lent_at}
use Rattle.at_adsp_ends.proofs.Places.{end_at, none_at, test_at}
use Rattle.at_adsp_ends.proofs.MoveLemmas as move
use Rattle.at_adsp_ends.proofs.StepLemmas as steps
use Rattle.at_adsp_ends.proofs.ends.Ends.hear_ack.Goals as goal

pub returns-in_default : goal.returns-in_default
returns-in_default g c =
    let none = none_at (has_id c.args.dest) c.self.inside.ends.items c.index_of.ensures.first c.in_default.is in
    rw (← c.self.view_is) (rw none record { taken = move.ignored_done _ _; memory = λ h. refl })

pub returns-then-not-waits_for : goal.returns-then-not-waits_for
returns-then-not-waits_for g c =
    let q = end_at (has_id c.args.dest) c.self.invariant.0 c.index_of.ensures.first c.in-Some.is
    c.at-end.ensures in
    let shut = test_at q (λ x. is_half x.phase && has_remote c.args.remote x) c.at-end.ensures
    c.waits_for.ensures c.if-not-waits_for.true in
    rw (← c.self.view_is) (rw (q.first, shut) record { taken = move.ignored_done _ _; memory = λ h. refl })

pub invariant_of-self : goal.invariant_of-self
invariant_of-self g c =
    let e = c.at_mut-end.result.now in
    let now : EndState = record e { phase = phase.Open } in
    let lent = lent_at c.self.invariant.1 c.at_mut-end.ensures.value c.at_mut-end.ensures.keyed in
    move.outcome_lawful c.self.invariant.0 lent c.open_half.new.self c.args.out.now c.open_half.new.out
    c.open_half.result
    (opened now [] (heard_opening wire now (content c.args.segment.now)))
    (steps.ack_keeps e (content c.args.segment.now)) c.open_half.ensures.ok c.open_half.ensures.unchanged

pub returns : goal.returns
returns g c =
    let q = end_at (has_id c.args.dest) c.self.invariant.0 c.index_of.ensures.first c.in-Some.is
    c.at_mut-end.ensures.value in
    let e = c.at_mut-end.result.now in
    let live = test_at q (λ x. is_half x.phase && has_remote c.args.remote x) c.at-end.ensures
    c.waits_for.ensures c.if-not-waits_for.false in
    let now : EndState = record e { phase = phase.Open } in
    let does = opened now [] (heard_opening wire now (content c.args.segment.now)) in
    let keeps = steps.ack_keeps e (content c.args.segment.now) in
    rw (← c.self.view_is) (rw (q.first, live) record {
      taken = move.taken_outcome q c.open_half.new.self c.args.out.now c.open_half.new.out c.open_half.result does
          keeps.id keeps.asked c.open_half.ensures.ok c.open_half.ensures.unchanged
          c.open_half.ensures.nothing_sent;
      memory = λ h. c.open_half.ensures.memory (move.room_asked c.args.out.now e does.after does.sent keeps h);
    })
