use Rattle.std.proofs.Common.{◌∙◌, ◌++◌, ◌<◌, length, append_assoc, ap, arith}
use Rattle.at_drive.specs.Sendings.{fault_of}
use Rattle.at_drive.proofs.SendLemmas.{next_sent}
use Rattle.at_drive.proofs.sending.send_all.Goals as goal

pub loop-index-preserved : goal.loop-index-preserved
loop-index-preserved g c =
    let before = c.loop-index.invariant.sent in
    let its = c.send.ensures.sent in
    let note = fault_of c.args.at its.0 in
    let within : c.loop-index.index < length c.args.out.now.items =
    omega (arith, c.loop-index-test.true, c.len-index-end.ensures) in
    record {
      sent = (
        before.0 ++ note,
        next_sent g.C.Cable.sends c.args.at c.args.from c.args.out.now.items c.loop-index.index c.args.cable.now
            before.0 c.loop-index.cable c.node.result c.get.result.now its.0 c.send.new.cable within c.node.ensures
            c.get.ensures before.1 its.1,
        its.2 ∙ ap (λ l. l ++ note) before.2 ∙ append_assoc c.args.faults.now.items before.0 note,
      );
      room = omega (
        arith,
        c.loop-index.invariant.room,
        c.send.ensures.capacity,
        c.send.ensures.one_more,
        within,
      );
    }
