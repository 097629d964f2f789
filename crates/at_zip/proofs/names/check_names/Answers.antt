use Rattle.at_zip.proofs.NameLemmas.{begins_more}
use Rattle.at_zip.proofs.names.check_names.Goals as goal

pub loop-preserved : goal.loop-preserved
loop-preserved c =
    let found = c.in_ok-after.ensures.found in
    begins_more c.loop.counter c.args.bytes.now c.loop.rest.now c.in_ok-after.field-0-0.now c.in_ok-after.after.now
    c.loop.invariant found.0 found.1
