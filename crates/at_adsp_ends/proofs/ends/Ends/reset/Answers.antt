use Rattle.at_adsp_end.specs.Ends.{is_open}
use Rattle.at_adsp_end.specs.Positions.{wire}
use Rattle.at_adsp_end.specs.Sending.{resetting_now}
use Rattle.at_adsp_end.specs.declared.fault.StreamFault.TheVariants.{NoSuchEnd, NotOpen}
use Rattle.at_adsp_ends.specs.Tables.{has_id}
use Rattle.at_adsp_ends.proofs.FiledLemmas.{lent_at}
use Rattle.at_adsp_ends.proofs.Places.{end_at, none_at, test_at}
use Rattle.at_adsp_ends.proofs.MoveLemmas as move
use Rattle.at_adsp_ends.proofs.StepLemmas as steps
use Rattle.at_adsp_ends.proofs.ends.Ends.reset.Goals as goal

pub returns-in_default : goal.returns-in_default
returns-in_default g c =
    let none = none_at (has_id c.args.id) c.self.inside.ends.items c.index_of.ensures.first c.in_default.is in
    rw (← c.self.view_is) (rw none record { call = move.refused NoSuchEnd _ _; memory = tt })

pub returns-then-not-is_open : goal.returns-then-not-is_open
returns-then-not-is_open g c =
    let q = end_at (has_id c.args.id) c.self.invariant.0 c.index_of.ensures.first c.in-Some.is
    c.at-end.ensures in
    let shut = test_at q (λ x. is_open x.phase) c.at-end.ensures c.is_open.ensures c.if-not-is_open.true in
    rw (← c.self.view_is) (rw (q.first, shut) record { call = move.refused NotOpen _ _; memory = tt })

pub invariant_of-self : goal.invariant_of-self
invariant_of-self g c =
    let e = c.at_mut-end.result.now in
    let lent = lent_at c.self.invariant.1 c.at_mut-end.ensures.value c.at_mut-end.ensures.keyed in
    move.change_lawful c.self.invariant.0 lent c.reset.new.self c.args.out.now c.reset.new.out
    c.reset.result (resetting_now wire e)
    (steps.reset_keeps e) c.reset.ensures.ok c.reset.ensures.unchanged

pub returns : goal.returns
returns g c =
    let q = end_at (has_id c.args.id) c.self.invariant.0 c.index_of.ensures.first c.in-Some.is
    c.at_mut-end.ensures.value in
    let e = c.at_mut-end.result.now in
    let live = test_at q (λ x. is_open x.phase) c.at-end.ensures c.is_open.ensures c.if-not-is_open.false in
    let does = resetting_now wire e in
    rw (← c.self.view_is) (rw (q.first, live) record {
      call = move.called_change q c.reset.new.self c.args.out.now c.reset.new.out (λ (x : Unit {0}). x)
          c.reset.result c.or_memory.result does tt (steps.reset_keeps e) c.or_memory.ensures.ok
          c.or_memory.ensures.err (steps.any_unit c.reset.result) c.reset.ensures.ok c.reset.ensures.unchanged
          c.reset.ensures.nothing_sent;
      memory = move.room_called c.reset.result c.or_memory.result c.args.out.now e does.after does.sent
          (steps.reset_keeps e) c.reset.ensures.memory c.or_memory.ensures.ok;
    })
