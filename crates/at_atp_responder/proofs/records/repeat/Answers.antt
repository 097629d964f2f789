use Rattle.std.proofs.Common.{refl}
use Rattle.at_atp_responder.specs.Keys.{key_of}
use Rattle.at_atp_responder.specs.Records.{repeated}
use Rattle.at_atp_responder.proofs.KeyLemmas.{filed_set, key_kept}
use Rattle.at_ddp.proofs.FoundLemmas.{put_back}
use Rattle.at_atp_responder.proofs.records.repeat.Goals as goal

pub invariant_of-records : goal.invariant_of-records
invariant_of-records g c = filed_set c.records.inside.table _ c.records.invariant refl
    (c.at_mut-record.ensures.keyed key_of c.records.invariant.keyed c.come_again.new.self
    (key_kept c.come_again.result
    (repeated c.at_mut-record.result.now.key c.args.bitmap c.at_mut-record.result.now.state)
    c.at_mut-record.result.now c.come_again.new.self c.args.out.now c.come_again.new.out c.come_again.ensures.ok
    c.come_again.ensures.unchanged))

pub returns-clause-unchanged : goal.returns-clause-unchanged
returns-clause-unchanged g c = rw (← c.records.view_is)
    (put_back c.come_again.result c.records.inside.table.items c.args.index c.at_mut-record.result.now
    c.come_again.new.self c.at_mut-record.ensures.value c.come_again.ensures.unchanged)
