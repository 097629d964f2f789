use Rattle.std.proofs.Common.{ℕ, length, refl}
use Rattle.std.specs.Prelude.{take}
use Rattle.at_adsp_end.specs.Calls.{reading}
use Rattle.at_adsp_end.specs.Ends.{has_opened}
use Rattle.at_adsp_end.specs.Positions.{wire}
use Rattle.at_adsp_end.specs.declared.fault.StreamFault.TheVariants.{NoSuchEnd, NotOpen}
use Rattle.at_adsp_ends.specs.Moves.{read_of}
use Rattle.at_adsp_ends.specs.Tables.{has_id}
use Rattle.at_adsp_ends.proofs.FiledLemmas.{lent_at}
use Rattle.at_adsp_ends.proofs.Places.{end_at, none_at, test_at}
use Rattle.at_adsp_ends.proofs.MoveLemmas as move
use Rattle.at_adsp_ends.proofs.StepLemmas as steps
use Rattle.at_adsp_ends.proofs.ends.Ends.read.Goals as goal

pub returns-in_default : goal.returns-in_default
returns-in_default g c =
    let none = none_at (has_id c.args.id) c.self.inside.ends.items c.index_of.ensures.first c.in_default.is in
    rw (← c.self.view_is) (rw none record {
      call = move.refused NoSuchEnd _ _;
      within = tt;
      rest = tt;
      unread = refl;
      memory = tt;
    })

pub returns-then-not-has_opened : goal.returns-then-not-has_opened
returns-then-not-has_opened g c =
    let q = end_at (has_id c.args.id) c.self.invariant.0 c.index_of.ensures.first c.in-Some.is
    c.at-end.ensures in
    let shut = test_at q (λ x. has_opened x.phase) c.at-end.ensures c.has_opened.ensures
    c.if-not-has_opened.true in
    rw (← c.self.view_is) (rw (q.first, shut) record {
      call = move.refused NotOpen _ _;
      within = tt;
      rest = tt;
      unread = refl;
      memory = tt;
    })

pub invariant_of-self : goal.invariant_of-self
invariant_of-self g c =
    let e = c.at_mut-end.result.now in
    let lent = lent_at c.self.invariant.1 c.at_mut-end.ensures.value c.at_mut-end.ensures.keyed in
    move.change_lawful c.self.invariant.0 lent c.read.new.self c.args.out.now c.read.new.out c.read.result
    (reading wire e (length c.args.items.now)) (steps.read_keeps e (length c.args.items.now)) c.read.ensures.ok
    c.read.ensures.unchanged

pub returns-clause-call : goal.returns-clause-call
returns-clause-call g c =
    let q = end_at (has_id c.args.id) c.self.invariant.0 c.index_of.ensures.first c.in-Some.is
    c.at_mut-end.ensures.value in
    let e = c.at_mut-end.result.now in
    let n = length c.args.items.now in
    let got = take n e.receiver.unread in
    let buffer = c.read.new.items in
    let live = test_at q (λ x. has_opened x.phase) c.at-end.ensures c.has_opened.ensures
    c.if-not-has_opened.false in
    rw (← c.self.view_is) (rw (q.first, live)
    (move.called_change q c.read.new.self c.args.out.now c.read.new.out (λ (x : ℕ). take x buffer) c.read.result
    (read_of c.or_memory.result buffer) (reading wire e n) got (steps.read_keeps e n)
    (steps.read_told c.read.result c.or_memory.result buffer c.or_memory.ensures.ok)
    (steps.read_failed c.read.result c.or_memory.result buffer c.or_memory.ensures.err)
    (steps.read_is c.read.result buffer got _ c.read.ensures.count c.read.ensures.items) c.read.ensures.ok
    c.read.ensures.unchanged c.read.ensures.nothing_sent))

pub returns-clause-memory : goal.returns-clause-memory
returns-clause-memory g c =
    let q = end_at (has_id c.args.id) c.self.invariant.0 c.index_of.ensures.first c.in-Some.is
    c.at_mut-end.ensures.value in
    let e = c.at_mut-end.result.now in
    let n = length c.args.items.now in
    let live = test_at q (λ x. has_opened x.phase) c.at-end.ensures c.has_opened.ensures
    c.if-not-has_opened.false in
    rw (← c.self.view_is) (rw (q.first, live)
    (move.room_called c.read.result c.or_memory.result c.args.out.now e (reading wire e n).after
    (reading wire e n).sent (steps.read_keeps e n) c.read.ensures.memory c.or_memory.ensures.ok))

pub returns-clause-within : goal.returns-clause-within
returns-clause-within g c =
    steps.read_within c.read.result c.or_memory.result (length c.args.items.now)
    c.at_mut-end.result.now.receiver.unread c.or_memory.ensures.ok c.or_memory.ensures.err c.read.ensures.count
