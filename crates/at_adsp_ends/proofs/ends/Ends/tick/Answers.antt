use Rattle.std.proofs.Common.{refl}
use Rattle.at_adsp_end.specs.Calls.{ticked}
use Rattle.at_adsp_end.specs.Ends.{is_closed}
use Rattle.at_adsp_end.specs.Positions.{wire}
use Rattle.at_adsp_end.specs.declared.fault.StreamFault.TheVariants.{NoSuchEnd, NotOpen}
use Rattle.at_adsp_ends.specs.Calls.{frees}
use Rattle.at_adsp_ends.specs.Tables.{has_id}
use Rattle.at_adsp_ends.proofs.FiledLemmas.{lent_at}
use Rattle.at_adsp_ends.proofs.Places.{end_at, named_at, none_at, test_at}
use Rattle.at_adsp_ends.proofs.MoveLemmas as move
use Rattle.at_adsp_ends.proofs.StepLemmas as steps
use Rattle.at_adsp_ends.proofs.ends.Ends.tick.Goals as goal

pub returns-in_default : goal.returns-in_default
returns-in_default g c =
    let none = none_at (has_id c.args.id) c.self.inside.ends.items c.index_of.ensures.first c.in_default.is in
    rw (← c.self.view_is) (rw none record { call = move.refused NoSuchEnd _ _; frees = tt; memory = tt })

pub returns-then-is_closed : goal.returns-then-is_closed
returns-then-is_closed g c =
    let q = end_at (has_id c.args.id) c.self.invariant.0 c.index_of.ensures.first c.in-Some.is
    c.at-end.ensures in
    let shut = test_at q (λ x. is_closed x.phase) c.at-end.ensures c.is_closed.ensures c.if-is_closed.true in
    rw (← c.self.view_is) (rw (q.first, shut) record { call = move.refused NotOpen _ _; frees = tt; memory = tt })

pub returns-then-frees : goal.returns-then-frees
returns-then-frees g c =
    let q = end_at (has_id c.args.id) c.self.invariant.0 c.index_of.ensures.first c.in-Some.is
    c.at-end.ensures in
    let live = test_at q (λ x. is_closed x.phase) c.at-end.ensures c.is_closed.ensures c.if-is_closed.false in
    let last = test_at q (λ x. frees x c.args.tick) c.at-end.ensures c.frees.ensures c.if-frees.true in
    rw (← c.self.view_is) (rw (q.first, live, last) record {
      call = move.freed_called q _ c.remove_at.new.self c.self.view_is c.remove_at.ensures c.args.id c.args.out.now
          (named_at q);
      frees = λ h. refl;
      memory = λ h. refl;
    })

pub tick-requires : goal.tick-requires
tick-requires g c =
    let q = end_at (has_id c.args.id) c.self.invariant.0 c.index_of.ensures.first c.in-Some.is
    c.at_mut-end.ensures.value in
    steps.live_phase c.at_mut-end.result.now
    (test_at q (λ x. is_closed x.phase) c.at-end.ensures c.is_closed.ensures c.if-is_closed.false)

pub invariant_of-self : goal.invariant_of-self
invariant_of-self g c =
    let e = c.at_mut-end.result.now in
    let lent = lent_at c.self.invariant.1 c.at_mut-end.ensures.value c.at_mut-end.ensures.keyed in
    move.outcome_lawful c.self.invariant.0 lent c.tick.new.self c.args.out.now c.tick.new.out
    c.tick.result (ticked wire e c.args.tick)
    (move.ticked_keeps e c.args.tick) c.tick.ensures.ok c.tick.ensures.unchanged

pub returns : goal.returns
returns g c =
    let q = end_at (has_id c.args.id) c.self.invariant.0 c.index_of.ensures.first c.in-Some.is
    c.at_mut-end.ensures.value in
    let e = c.at_mut-end.result.now in
    let live = test_at q (λ x. is_closed x.phase) c.at-end.ensures c.is_closed.ensures c.if-is_closed.false in
    let stays = test_at q (λ x. frees x c.args.tick) c.at-end.ensures c.frees.ensures c.if-frees.false in
    let does = ticked wire e c.args.tick in
    let keeps = move.ticked_keeps e c.args.tick in
    rw (← c.self.view_is) (rw (q.first, live, stays) record {
      call = move.called_outcome q c.tick.new.self c.args.out.now c.tick.new.out c.tick.result c.or_memory.result
          does keeps c.or_memory.ensures.ok c.or_memory.ensures.err c.tick.ensures.ok c.tick.ensures.unchanged
          c.tick.ensures.nothing_sent;
      frees = λ h. absurd (steps.ticked_stands e c.args.tick c.args.id h);
      memory = move.room_called c.tick.result c.or_memory.result c.args.out.now e does.after does.sent keeps
          c.tick.ensures.memory c.or_memory.ensures.ok;
    })
