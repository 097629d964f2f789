use Rattle.std.proofs.Common.{vec_len, vec_capacity, ◌∙◌, rules}
use Rattle.at_zip.proofs.ListLemmas.{next_is_read, is_ok_if_and, at_ok, copied_more, all_copied}
use Rattle.at_zip.proofs.page_view.PageView.push_names.Goals as goal

pub unwrap-requires : goal.unwrap-requires
unwrap-requires g c =
    let next = next_is_read c.args.self.now c.loop.counter c.self.inside.count c.loop.rest.now c.args.list.now.items
    c.loop.list.items (vec_len c.loop.list) (vec_capacity c.loop.list) c.take_name.result c.loop.invariant
    c.loop-test.true
    c.take_name.ensures.found c.take_name.ensures.fault in
    is_ok_if_and c.take_name.result _ next.1

pub loop-preserved : goal.loop-preserved
loop-preserved g c =
    let next = next_is_read c.args.self.now c.loop.counter c.self.inside.count c.loop.rest.now c.args.list.now.items
    c.loop.list.items (vec_len c.loop.list) (vec_capacity c.loop.list) c.take_name.result c.loop.invariant
    c.loop-test.true
    c.take_name.ensures.found c.take_name.ensures.fault in
    let read = at_ok c.take_name.result _ c.unwrap.result next.1 c.unwrap.ensures in
    let name = rw c.unwrap-in-loop.ensures at c.new.ensures.value in
    let pushed = rw c.unwrap-in-loop-2.ensures at c.push.ensures.items in
    let longer = rw c.unwrap-in-loop-2.ensures at c.push.ensures.len in
    copied_more c.args.self.now c.loop.counter c.self.inside.count c.loop.rest.now c.unwrap.result.1.now
    c.args.list.now.items c.loop.list.items c.push.new.self.items (vec_len c.loop.list) (vec_len c.push.new.self)
    (vec_capacity c.loop.list) (vec_capacity c.push.new.self) c.unwrap-in-loop.result next.0 c.loop.invariant
    c.loop-test.true (name ∙ read.0) read.1 pushed longer c.push.ensures.capacity

pub loop-init : goal.loop-init
loop-init g c = search rules

pub unwrap-requires-in-loop-2 : goal.unwrap-requires-in-loop-2
unwrap-requires-in-loop-2 g c =
    let fits = c.loop.invariant.fits in
    let count = c.loop.invariant.count in
    let below = c.loop-test.true in
    search rules

pub returns-clause-names : goal.returns-clause-names
returns-clause-names g c =
    all_copied c.args.self.now c.loop.counter c.self.inside.count c.loop.rest.now c.args.list.now.items
    c.loop.list.items (vec_len c.loop.list) (vec_capacity c.loop.list) c.loop.invariant c.loop-test.false
