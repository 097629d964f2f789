use Rattle.std.proofs.Common.{refl, vec_capacity}
use Rattle.at_nbp.proofs.ListLemmas.{fits_at, next_has_room}
use Rattle.at_nbp.proofs.packet.push_tuples.Goals as goal

pub push_tuple-requires-clause-short : goal.push_tuple-requires-clause-short
push_tuple-requires-clause-short g c =
    fits_at c.args.tuples.now c.loop-tuple.tuple-index _ _ c.loop-tuple-test.true refl c.requires.short

pub push_tuple-requires-clause-room : goal.push_tuple-requires-clause-room
push_tuple-requires-clause-room g c =
    rw c.loop-tuple.out.ok.0
    (next_has_room c.args.out.now.items c.loop-tuple.out.items c.args.tuples.now c.loop-tuple.tuple-index
    (vec_capacity c.loop-tuple.out) _ _ c.loop-tuple.invariant.0 c.loop-tuple-test.true refl)
