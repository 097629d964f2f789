use Rattle.std.proofs.Common.{arith, sym, ap, subst, ◌∙◌, ◌<◌, length}
use Rattle.std.specs.Io.KnownBytes.{Consumes}
use Rattle.std.proofs.KnownBytes.{Consumes-kept, Consumes-trans}
use Rattle.std.proofs.lemmas.Grind.{common_steps}
use Rattle.at_faults.proofs.InputLemmas.{all_read, over_read}
use Rattle.at_faults.proofs.input.read_at_most.Goals as goal
use Rattle.at_faults.proofs.input.read_at_most.Goals.{in-Ok-2+in_ok-extend_from_slice-in-Ok-2, in-Err}

pub returns-in-Ok-eq0-clause-whole : goal.returns-in-Ok-eq0-clause-whole
returns-in-Ok-eq0-clause-whole g c =
    let read = rw c.in-Ok-eq0.is at c.read.ensures.bytes in
    let room : 0 < length c.read.new.buf = omega (arith, c.read.auto.buf) in
    all_read _ _ _ c.loop.bytes.items c.read.new.buf c.in-Ok-eq0.field-0 c.loop.invariant.taken read.0
    c.in-Ok-eq0.field-0-test (read.1 c.in-Ok-eq0.field-0-test room)

pub returns-in-Ok-clause-long : goal.returns-in-Ok-clause-long
returns-in-Ok-clause-long g c said =
    let read = c.in-Ok.ensures in
    over_read _ _ _ c.loop.bytes.items c.read.new.buf c.in-Ok.len c.args.most c.loop.invariant.taken read.bytes.0
    read.bound.0
    (omega (arith, c.if-len-most.true, c.loop.invariant.fits, c.len.ensures))

pub loop-preserved : goal.loop-preserved
loop-preserved g c = elim c.match-read.branch [
  | in-Ok-2+in_ok-extend_from_slice-in-Ok-2 w ↦
      let items = ap (λ bytes. bytes.items) w.bytes-is ∙ w.in_ok-extend_from_slice-in-Ok-2.ensures.items in
      record {
        fits = rw w.bytes-is (grind (arith, common_steps));
        taken = subst (Consumes _ _) (sym items)
            (Consumes-trans _ _ _ c.loop.bytes.items _ c.loop.invariant.taken w.in-Ok.ensures.bytes.0);
      }
  | in-Err w ↦ record {
    fits = rw w.bytes-is c.loop.invariant.fits;
    taken = rw w.bytes-is (Consumes-kept _ _ _ c.loop.bytes.items c.loop.invariant.taken w.in-Err.ensures.bytes);
  }
]
