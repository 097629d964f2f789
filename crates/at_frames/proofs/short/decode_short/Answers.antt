use Rattle.at_frames.proofs.ShortLemmas.{only_that}
use Rattle.at_frames.proofs.short.decode_short.Goals as goal

pub returns-clause-only : goal.returns-clause-only
returns-clause-only c =
    only_that c.args.to c.args.from c.args.input.now c.parse.result c.parse.ensures.found c.parse.ensures.fault
