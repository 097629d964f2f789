use Rattle.std.proofs.Common.{sym, ◌∙◌}
use Rattle.at_nbp.specs.Tuples.{content}
use Rattle.at_nbp.proofs.UnreadLemmas.{next_tuple, reads_one}
use Rattle.at_nbp.proofs.tuples.Tuples.take_next.Goals as goal

pub unwrap-requires : goal.unwrap-requires
unwrap-requires c = reads_one c.self.inside.count c.self.inside.bytes.now c.take_tuple.result c.self.invariant
    c.if-self-eq0.false c.take_tuple.ensures.fault

pub invariant_of-self : goal.invariant_of-self
invariant_of-self c =
    let found = rw c.unwrap.ensures at c.take_tuple.ensures.found in
    let next = next_tuple c.self.inside.count c.self.inside.bytes.now (content c.unwrap.result.0)
    c.unwrap.result.1.now c.self.invariant c.if-self-eq0.false found.0 found.1 in
    next.others

pub returns-clause-next : goal.returns-clause-next
returns-clause-next c =
    let found = rw c.unwrap.ensures at c.take_tuple.ensures.found in
    let next = next_tuple c.self.inside.count c.self.inside.bytes.now (content c.unwrap.result.0)
    c.unwrap.result.1.now c.self.invariant c.if-self-eq0.false found.0 found.1 in
    sym c.self.view_is ∙ next.first
