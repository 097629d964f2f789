use Rattle.std.proofs.Common.{refl}
use Rattle.at_adsp_end.specs.Ends.{is_open}
use Rattle.at_adsp_end.specs.Moves.{closed}
use Rattle.at_adsp_end.specs.Positions.{wire}
use Rattle.at_adsp_end.specs.Sending.{closing}
use Rattle.at_adsp_end.specs.declared.fault.StreamFault.TheVariants.{NoSuchEnd}
use Rattle.at_adsp_ends.specs.Tables.{has_id}
use Rattle.at_adsp_ends.proofs.FiledLemmas.{lent_at}
use Rattle.at_adsp_ends.proofs.Places.{end_at, named_at, none_at, test_at}
use Rattle.at_adsp_ends.proofs.MoveLemmas as move
use Rattle.at_adsp_ends.proofs.StepLemmas as steps
use Rattle.at_adsp_ends.proofs.ends.Ends.close.Goals as goal

pub returns-in_default : goal.returns-in_default
returns-in_default g c =
    let none = none_at (has_id c.args.id) c.self.inside.ends.items c.index_of.ensures.first c.in_default.is in
    rw (← c.self.view_is) (rw none record { call = move.refused NoSuchEnd _ _; frees = tt; memory = tt })

pub invariant_of-self : goal.invariant_of-self
invariant_of-self g c =
    let e = c.at_mut-end.result.now in
    let lent = lent_at c.self.invariant.1 c.at_mut-end.ensures.value c.at_mut-end.ensures.keyed in
    move.outcome_lawful c.self.invariant.0 lent c.close.new.self c.args.out.now c.close.new.out
    c.close.result (closed e (closing wire e))
    (steps.close_keeps e) c.close.ensures.ok c.close.ensures.unchanged

pub returns-then-is_open : goal.returns-then-is_open
returns-then-is_open g c =
    let q = end_at (has_id c.args.id) c.self.invariant.0 c.index_of.ensures.first c.in-Some.is
    c.at_mut-end.ensures.value in
    let e = c.at_mut-end.result.now in
    let live = test_at q (λ x. is_open x.phase) c.at-end.ensures c.is_open.ensures c.if-is_open.true in
    let does = closed e (closing wire e) in
    rw (← c.self.view_is) (rw (q.first, live) record {
      call = move.called_outcome q c.close.new.self c.args.out.now c.close.new.out c.close.result
          c.or_memory.result does (steps.close_keeps e) c.or_memory.ensures.ok c.or_memory.ensures.err
          c.close.ensures.ok c.close.ensures.unchanged c.close.ensures.nothing_sent;
      frees = λ h. absurd (steps.closed_frees e.id c.args.id h);
      memory = move.room_called c.close.result c.or_memory.result c.args.out.now e does.after does.sent
          (steps.close_keeps e) c.close.ensures.memory c.or_memory.ensures.ok;
    })

pub returns : goal.returns
returns g c =
    let q = end_at (has_id c.args.id) c.self.invariant.0 c.index_of.ensures.first c.in-Some.is
    c.at-end.ensures in
    let shut = test_at q (λ x. is_open x.phase) c.at-end.ensures c.is_open.ensures c.if-is_open.false in
    rw (← c.self.view_is) (rw (q.first, shut) record {
      call = move.freed_called q _ c.remove_at.new.self c.self.view_is c.remove_at.ensures c.args.id c.args.out.now
          (named_at q);
      frees = λ h. refl;
      memory = λ h. refl;
    })
