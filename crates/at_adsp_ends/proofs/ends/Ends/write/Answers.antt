use Rattle.std.proofs.Common.{ℕ, length}
use Rattle.std.specs.Prelude.{take}
use Rattle.at_adsp_end.specs.Calls.{writing}
use Rattle.at_adsp_end.specs.Ends.{is_open, places}
use Rattle.at_adsp_end.specs.Positions.{wire}
use Rattle.at_adsp_end.specs.declared.fault.StreamFault.TheVariants.{NoSuchEnd, NotOpen, NoRoom}
use Rattle.at_adsp_ends.specs.Calls.{finds_no_room}
use Rattle.at_adsp_ends.specs.Tables.{has_id}
use Rattle.at_adsp_ends.proofs.FiledLemmas.{lent_at}
use Rattle.at_adsp_ends.proofs.Places.{end_at, none_at, test_at}
use Rattle.at_adsp_ends.proofs.MoveLemmas as move
use Rattle.at_adsp_ends.proofs.StepLemmas as steps
use Rattle.at_adsp_ends.proofs.ends.Ends.write.Goals as goal

pub returns-in_default : goal.returns-in_default
returns-in_default g c =
    let none = none_at (has_id c.args.id) c.self.inside.ends.items c.index_of.ensures.first c.in_default.is in
    rw (← c.self.view_is) (rw none record { call = move.refused NoSuchEnd _ _; memory = tt })

pub returns-then-not-is_open : goal.returns-then-not-is_open
returns-then-not-is_open g c =
    let q = end_at (has_id c.args.id) c.self.invariant.0 c.index_of.ensures.first c.in-Some.is
    c.at-end.ensures in
    let shut = test_at q (λ x. is_open x.phase) c.at-end.ensures c.is_open.ensures c.if-not-is_open.true in
    rw (← c.self.view_is) (rw (q.first, shut) record { call = move.refused NotOpen _ _; memory = tt })

pub returns-then-finds_no_room : goal.returns-then-finds_no_room
returns-then-finds_no_room g c =
    let q = end_at (has_id c.args.id) c.self.invariant.0 c.index_of.ensures.first c.in-Some.is
    c.at-end.ensures in
    let live = test_at q (λ x. is_open x.phase) c.at-end.ensures c.is_open.ensures c.if-not-is_open.false in
    let full = test_at q (λ x. finds_no_room x c.args.items.now) c.at-end.ensures c.finds_no_room.ensures
    c.if-finds_no_room.true in
    rw (← c.self.view_is) (rw (q.first, live, full) record { call = move.refused NoRoom _ _; memory = tt })

pub invariant_of-self : goal.invariant_of-self
invariant_of-self g c =
    let e = c.at_mut-end.result.now in
    let lent = lent_at c.self.invariant.1 c.at_mut-end.ensures.value c.at_mut-end.ensures.keyed in
    move.change_lawful c.self.invariant.0 lent c.write.new.self c.args.out.now c.write.new.out c.write.result
    (writing wire e c.args.items.now) (steps.write_keeps e c.args.items.now) c.write.ensures.ok
    c.write.ensures.unchanged

pub returns : goal.returns
returns g c =
    let q = end_at (has_id c.args.id) c.self.invariant.0 c.index_of.ensures.first c.in-Some.is
    c.at_mut-end.ensures.value in
    let e = c.at_mut-end.result.now in
    let live = test_at q (λ x. is_open x.phase) c.at-end.ensures c.is_open.ensures c.if-not-is_open.false in
    let fits = test_at q (λ x. finds_no_room x c.args.items.now) c.at-end.ensures c.finds_no_room.ensures
    c.if-finds_no_room.false in
    let does = writing wire e c.args.items.now in
    let keeps = steps.write_keeps e c.args.items.now in
    rw (← c.self.view_is) (rw (q.first, live, fits) record {
      call = move.called_change q c.write.new.self c.args.out.now c.write.new.out (λ (x : ℕ). x) c.write.result
          c.or_memory.result does (length (take (places e) c.args.items.now)) keeps c.or_memory.ensures.ok
          c.or_memory.ensures.err c.write.ensures.count c.write.ensures.ok c.write.ensures.unchanged
          c.write.ensures.nothing_sent;
      memory = move.room_called c.write.result c.or_memory.result c.args.out.now e does.after does.sent keeps
          c.write.ensures.memory c.or_memory.ensures.ok;
    })
