use Rattle.std.proofs.Common.{arith}
use Rattle.at_nbp.specs.Tuples.{content}
use Rattle.at_nbp.proofs.UnreadLemmas.{are_cut, are_unread, taken_more}
use Rattle.at_nbp.proofs.tuples.take_tuples.Goals as goal

pub loop-preserved : goal.loop-preserved
loop-preserved c =
    let found = c.in_ok-after.ensures.found in
    taken_more c.loop.counter c.args.bytes.now c.loop.rest.now c.in_ok-after.after.now (content c.in_ok-after.field-0-0)
    c.loop.invariant found.0 found.1

pub invariant_of-result : goal.invariant_of-result
invariant_of-result c =
    are_unread c.loop.counter c.args.count c.args.bytes.now c.loop.rest.now c.loop.invariant (omega arith) c.requires

pub returns-clause-each : goal.returns-clause-each
returns-clause-each c =
    let cut = are_cut c.loop.counter c.args.count c.args.bytes.now c.loop.rest.now c.loop.invariant (omega arith) in
    cut.each

pub returns-clause-count : goal.returns-clause-count
returns-clause-count c =
    let cut = are_cut c.loop.counter c.args.count c.args.bytes.now c.loop.rest.now c.loop.invariant (omega arith) in
    cut.counted

pub returns-clause-found : goal.returns-clause-found
returns-clause-found c =
    let cut = are_cut c.loop.counter c.args.count c.args.bytes.now c.loop.rest.now c.loop.invariant (omega arith) in
    cut.follows
