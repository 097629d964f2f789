use Rattle.std.proofs.Common.{sym, ap, refl, ◌∙◌}
use Rattle.at_ddp.proofs.FoundLemmas.{entry_is}
use Rattle.at_ddp.proofs.TableLemmas.{found, not_found}
use Rattle.at_atp_responder.specs.Records.{Record, asked_bitmap, is_key, record_fault, state_fault}
use Rattle.at_atp_responder.proofs.records.waiting.Goals as goal

pub returns-in_default-clause-refuses : goal.returns-in_default-clause-refuses
returns-in_default-clause-refuses g c =
    rw (not_found (is_key c.args.key) 0 c.args.records.now (sym c.index_of.ensures ∙ c.in_default.is)) refl

pub at-record-requires : goal.at-record-requires
at-record-requires g c = rw c.records.view_is
    (found (is_key c.args.key) c.args.records.now c.in-Some.index (sym c.index_of.ensures ∙ c.in-Some.is)).within

pub returns-in-Some-fault-clause-refuses : goal.returns-in-Some-fault-clause-refuses
returns-in-Some-fault-clause-refuses g c =
    let f = found (is_key c.args.key) c.args.records.now c.in-Some.index (sym c.index_of.ensures ∙ c.in-Some.is) in
    let entry = entry_is f c.at-record.result.now (rw c.records.view_is at c.at-record.ensures) in
    ap record_fault f.first ∙ ap (λ (r : Record). state_fault r.state) (sym entry) ∙ sym c.fault.ensures
    ∙ c.in-Some-fault.is

pub returns-in-None-clause-waits : goal.returns-in-None-clause-waits
returns-in-None-clause-waits g c =
    let f = found (is_key c.args.key) c.args.records.now c.in-Some.index (sym c.index_of.ensures ∙ c.in-Some.is) in
    let entry = entry_is f c.at-record.result.now (rw c.records.view_is at c.at-record.ensures) in
    ap record_fault f.first ∙ ap (λ (r : Record). state_fault r.state) (sym entry) ∙ sym c.fault.ensures
    ∙ c.in-None.is

pub returns-in-None-clause-bitmap : goal.returns-in-None-clause-bitmap
returns-in-None-clause-bitmap g c =
    let f = found (is_key c.args.key) c.args.records.now c.in-Some.index (sym c.index_of.ensures ∙ c.in-Some.is) in
    let entry = entry_is f c.at-record.result.now (rw c.records.view_is at c.at-record.ensures) in
    rw f.first (c.bitmap.ensures ∙ ap (λ (r : Record). asked_bitmap r.state) entry)
