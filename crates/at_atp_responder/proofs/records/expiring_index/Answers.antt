use Rattle.std.proofs.Common.{sym, ap, refl, ◌∙◌}
use Rattle.at_ddp.proofs.FoundLemmas.{entry_is}
use Rattle.at_ddp.proofs.TableLemmas.{found, not_found}
use Rattle.at_atp_responder.specs.Records.{Record, expiry_fault, expiry_fault_of, is_key}
use Rattle.at_atp_responder.proofs.records.expiring_index.Goals as goal

pub returns-in_default-clause-refuses : goal.returns-in_default-clause-refuses
returns-in_default-clause-refuses g c =
    rw (not_found (is_key c.args.key) 0 c.args.records.now (sym c.index_of.ensures ∙ c.in_default.is)) refl

pub at-requires : goal.at-requires
at-requires g c = rw c.records.view_is
    (found (is_key c.args.key) c.args.records.now c.in-Some.index (sym c.index_of.ensures ∙ c.in-Some.is)).within

pub returns-in-Some-expiry_fault-clause-refuses : goal.returns-in-Some-expiry_fault-clause-refuses
returns-in-Some-expiry_fault-clause-refuses g c =
    let f = found (is_key c.args.key) c.args.records.now c.in-Some.index (sym c.index_of.ensures ∙ c.in-Some.is) in
    let entry = entry_is f c.at.result.now (rw c.records.view_is at c.at.ensures) in
    ap expiry_fault f.first ∙ ap (λ (r : Record). expiry_fault_of r.state) (sym entry) ∙ sym c.expiry_fault.ensures
    ∙ c.in-Some-expiry_fault.is

pub returns-in-None-clause-expires : goal.returns-in-None-clause-expires
returns-in-None-clause-expires g c =
    let f = found (is_key c.args.key) c.args.records.now c.in-Some.index (sym c.index_of.ensures ∙ c.in-Some.is) in
    let entry = entry_is f c.at.result.now (rw c.records.view_is at c.at.ensures) in
    ap expiry_fault f.first ∙ ap (λ (r : Record). expiry_fault_of r.state) (sym entry) ∙ sym c.expiry_fault.ensures
    ∙ c.in-None.is
