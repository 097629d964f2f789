use Rattle.std.proofs.Common.{List, set, refl, ap}
use Rattle.at_atp_responder.specs.Records.{Record, is_key}
use Rattle.at_atp_responder.specs.Keys.{key_of}
use Rattle.at_atp_responder.proofs.KeyLemmas.{filed_set}
use Rattle.at_ddp.proofs.FoundLemmas.{entry_is}
use Rattle.at_ddp.proofs.TableLemmas.{found}
use Rattle.at_atp_responder.proofs.RecordLemmas.{keep_some}
use Rattle.at_atp_responder.proofs.settling.keep.Goals as goal

pub at_mut-record-requires : goal.at_mut-record-requires
at_mut-record-requires g c = rw c.records.view_is
    (found (is_key c.args.key) c.args.records.now c.args.index c.requires.place).within

pub returns-clause-kept : goal.returns-clause-kept
returns-clause-kept g c =
    let f = found (is_key c.args.key) c.args.records.now c.args.index c.requires.place in
    keep_some c.args.records.now _ c.args.key c.args.index c.at_mut-record.result.now c.keep.new.self
    c.args.packets f (entry_is f c.at_mut-record.result.now
    (rw c.records.view_is at c.at_mut-record.ensures.value)) c.keep.ensures
    (ap (λ (l : List Record). set l c.args.index c.keep.new.self) c.records.view_is)

pub invariant_of-records : goal.invariant_of-records
invariant_of-records g c = filed_set c.records.inside.table _ c.records.invariant refl
    (c.at_mut-record.ensures.keyed key_of c.records.invariant.keyed c.keep.new.self
    (ap key_of c.keep.ensures))
