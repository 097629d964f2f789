use Rattle.std.proofs.Common.{arith, refl, sym, subst, ◌<◌, [], length}
use Rattle.std.proofs.KnownBytes.{Consumes-kept, Consumes-nil}
use Rattle.at_faults.proofs.InputLemmas.{IsLeft, few_read, over_read, part_read}
use Rattle.at_faults.proofs.input.check_length.Goals as goal
use Rattle.at_faults.proofs.input.check_length.Goals.{in-Ok-2, in-Err}

pub loop-init : goal.loop-init
loop-init g c = ([], refl, Consumes-nil (g.R.Read.remaining c.args.reader.now))

pub returns-in-Ok-eq0-clause-fits : goal.returns-in-Ok-eq0-clause-fits
returns-in-Ok-eq0-clause-fits g c =
    let read = rw c.in-Ok-eq0.is at c.read.ensures.bytes in
    let room : 0 < length c.read.new.buf = omega (arith, c.read.auto.buf) in
    few_read _ _ _ c.read.new.buf c.loop.left c.in-Ok-eq0.field-0 c.loop.invariant read.0 c.in-Ok-eq0.field-0-test
    (read.1 c.in-Ok-eq0.field-0-test room)

pub returns-in-Ok-clause-long : goal.returns-in-Ok-clause-long
returns-in-Ok-clause-long g c said =
    let before = c.loop.invariant in
    let read = c.in-Ok.ensures in
    over_read _ _ _ before.0 c.read.new.buf c.in-Ok.len 67108864 before.2 read.bytes.0 read.bound.0
    (omega (arith, c.if-len-left.true, before.1))

pub loop-preserved : goal.loop-preserved
loop-preserved g c = elim c.match-read.branch [
  | in-Ok-2 w ↦
      let read = w.in-Ok.ensures in
      part_read _ _ _ c.read.new.buf c.loop.left w.in-Ok.len c.match-read.left c.loop.invariant read.bytes.0
      read.bound.0 (omega (arith, w.left-is, w.if-len-left.false))
  | in-Err w ↦ subst (IsLeft _ _) (sym w.left-is) (
    c.loop.invariant.0,
    c.loop.invariant.1,
    Consumes-kept _ _ _ c.loop.invariant.0 c.loop.invariant.2
        (rw w.in-Err.is at c.read.ensures.bytes),
  )
]
