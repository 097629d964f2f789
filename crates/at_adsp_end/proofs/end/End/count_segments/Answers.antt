use Rattle.std.proofs.Common.{◌+◌, [], arith}
use Rattle.at_adsp_end.specs.Cuts.{pieces}
use Rattle.at_adsp_end.specs.Outgoings.{stretch}
use Rattle.at_adsp_end.proofs.CutLemmas.{count_carries, count_ends, count_few, count_most, item_next, none_left}
use Rattle.at_adsp_end.proofs.CutLemmas.{pieces_few, stretch_few}
use Rattle.at_adsp_end.proofs.LoadLemmas.{numbered_load}
use Rattle.at_adsp_end.proofs.end.End.count_segments.Goals as goal

pub take-requires-clause-segments : goal.take-requires-clause-segments
take-requires-clause-segments g c =
    let next = item_next _ _ _ (c.args.from + c.args.count) _ c.self.view_is c.item.ensures c.loop-index-test.true in
    let few = count_few _ _ _ _ _ _ (rw next at c.loop-index.invariant.counted) in
    let most = stretch_few c.args.self.now.sender c.args.from c.args.count in
    omega (arith, few, most, c.ranges.count.fits)

pub loop-index-preserved : goal.loop-index-preserved
loop-index-preserved g c =
    let next = item_next _ _ _ (c.args.from + c.args.count) _ c.self.view_is c.item.ensures c.loop-index-test.true in
    record {
      counted = c.take.ensures.counted _ _ (rw next at c.loop-index.invariant.counted);
      filled = c.take.ensures.filled;
      bytes = omega (arith, c.loop-index.invariant.bytes, c.take.ensures.bytes);
      within = omega (arith, c.loop-index-test.true);
    }

pub total-requires-clause-segments : goal.total-requires-clause-segments
total-requires-clause-segments g c =
    let few = count_most _ _ _ _ _ c.loop-index.invariant.counted in
    let most = stretch_few c.args.self.now.sender c.args.from c.args.count in
    omega (arith, few, most, c.ranges.count.fits)

pub returns-clause-load : goal.returns-clause-load
returns-clause-load g c =
    let left = none_left _ _ _ c.loop-index-test.false in
    let is = count_ends _ _ _ _ _ _ left c.total.ensures.some c.total.ensures.none c.loop-index.invariant.counted in
    let carries = count_carries _ _ _ _ _ _ left is c.loop-index.invariant.counted in
    λ to e first. numbered_load c.total.result to e first
    (pieces [] (stretch c.args.self.now.sender c.args.from c.args.count))
    c.what_is_written_is_a_header_and_fields.ensures is (omega (arith, c.total.ensures.bytes, carries))

pub returns-clause-few : goal.returns-clause-few
returns-clause-few g c =
    let is = count_ends _ _ _ _ _ _ (none_left _ _ _ c.loop-index-test.false) c.total.ensures.some c.total.ensures.none
    c.loop-index.invariant.counted in
    let few = pieces_few [] (stretch c.args.self.now.sender c.args.from c.args.count) in
    let most = stretch_few c.args.self.now.sender c.args.from c.args.count in
    omega (arith, is, few, most)

pub returns-clause-small : goal.returns-clause-small
returns-clause-small g c =
    let is = count_ends _ _ _ _ _ _ (none_left _ _ _ c.loop-index-test.false) c.total.ensures.some c.total.ensures.none
    c.loop-index.invariant.counted in
    let few = pieces_few [] (stretch c.args.self.now.sender c.args.from c.args.count) in
    let most = stretch_few c.args.self.now.sender c.args.from c.args.count in
    let i = c.loop-index.invariant in
    omega (arith, is, few, most, c.total.ensures.bytes, i.bytes, i.within)
