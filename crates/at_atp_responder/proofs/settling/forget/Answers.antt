use Rattle.std.proofs.Common.{List, sym, ap, ◌∙◌}
use Rattle.std.specs.Prelude.{remove}
use Rattle.at_ddp.proofs.TableLemmas.{found}
use Rattle.at_atp_responder.specs.Keys.{key_of}
use Rattle.at_atp_responder.specs.Records.{Record, is_key}
use Rattle.at_atp_responder.proofs.KeyLemmas.{filed}
use Rattle.at_atp_responder.proofs.settling.forget.Goals as goal

pub remove-record-requires : goal.remove-record-requires
remove-record-requires g c = rw c.records.view_is
    (found (is_key c.args.key) c.args.records.now c.args.index c.requires).within

pub invariant_of-records : goal.invariant_of-records
invariant_of-records g c = filed c.remove-record.new.self
    (c.remove-record.ensures.keyed key_of c.records.invariant.keyed) c.remove-record.ensures.apart

pub returns-clause-gone : goal.returns-clause-gone
returns-clause-gone g c = c.remove-record.ensures.items
    ∙ ap (λ (l : List Record). remove l c.args.index) c.records.view_is
    ∙ sym (found (is_key c.args.key) c.args.records.now c.args.index c.requires).gone_is
