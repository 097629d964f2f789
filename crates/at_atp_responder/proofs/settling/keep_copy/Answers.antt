use Rattle.std.proofs.Common.{List, set, refl, sym, ap, ◌∙◌}
use Rattle.at_atp_responder.specs.Records.{Record, is_key, is_kept, keeps_answer}
use Rattle.at_atp_responder.specs.Keys.{key_of}
use Rattle.at_atp_responder.proofs.KeyLemmas.{filed_set}
use Rattle.at_ddp.proofs.FoundLemmas.{entry_is}
use Rattle.at_ddp.proofs.TableLemmas.{found}
use Rattle.at_atp_responder.proofs.RecordLemmas.{keep_some}
use Rattle.at_atp_responder.proofs.settling.keep_copy.Goals as goal

pub at_mut-record-requires : goal.at_mut-record-requires
at_mut-record-requires g c = rw c.records.view_is
    (found (is_key c.args.key) c.args.records.now c.args.index c.requires.place).within

pub keep_copy-requires-clause-kept : goal.keep_copy-requires-clause-kept
keep_copy-requires-clause-kept g c =
    let f = found (is_key c.args.key) c.args.records.now c.args.index c.requires.place in
    ap (λ (e : Record). keeps_answer e.state)
    (entry_is f c.at_mut-record.result.now
    (rw c.records.view_is at c.at_mut-record.ensures.value))
    ∙ ap is_kept (sym f.first) ∙ c.requires.kept

pub returns-clause-kept : goal.returns-clause-kept
returns-clause-kept g c =
    let f = found (is_key c.args.key) c.args.records.now c.args.index c.requires.place in
    keep_some c.args.records.now _ c.args.key c.args.index c.at_mut-record.result.now c.keep_copy.new.self
    c.args.packets.now f (entry_is f c.at_mut-record.result.now
    (rw c.records.view_is at c.at_mut-record.ensures.value))
    c.keep_copy.ensures
    (ap (λ (l : List Record). set l c.args.index c.keep_copy.new.self) c.records.view_is)

pub invariant_of-records : goal.invariant_of-records
invariant_of-records g c = filed_set c.records.inside.table _ c.records.invariant refl
    (c.at_mut-record.ensures.keyed key_of c.records.invariant.keyed c.keep_copy.new.self
    (ap key_of c.keep_copy.ensures))
