use Rattle.std.proofs.Common.{◌+◌}
use Rattle.at_adsp_end.proofs.CutLemmas.{item_next}
use Rattle.at_adsp_end.proofs.SentLemmas.{far_room, far_next}
use Rattle.at_adsp_end.proofs.end.End.send_items.Goals as goal

pub take-requires : goal.take-requires
take-requires g c =
    let next = item_next _ _ _ (c.args.from + c.args.count) _ c.self.view_is c.item.ensures c.loop-index-test.true in
    record { room = far_room _ _ _ _ _ _ _ _ _ (rw next at c.loop-index.invariant) c.requires.room }

pub loop-index-preserved : goal.loop-index-preserved
loop-index-preserved g c =
    let next = item_next _ _ _ (c.args.from + c.args.count) _ c.self.view_is c.item.ensures c.loop-index-test.true in
    far_next _ _ _ _ _ _ _ _ _ _ _ _ (rw next at c.loop-index.invariant) c.take.ensures
