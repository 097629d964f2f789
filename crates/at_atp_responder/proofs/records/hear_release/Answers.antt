use Rattle.std.proofs.Common.{List, set, refl, sym, ap, ◌∙◌}
use Rattle.at_atp_responder.specs.Records.{Record, is_key, release_came}
use Rattle.at_atp_responder.specs.Keys.{key_of}
use Rattle.at_atp_responder.proofs.KeyLemmas.{filed_set}
use Rattle.at_ddp.proofs.FoundLemmas.{entry_is}
use Rattle.at_ddp.proofs.TableLemmas.{found, not_found}
use Rattle.at_atp_responder.proofs.RecordLemmas.{release_some, release_tells}
use Rattle.at_atp_responder.proofs.records.hear_release.Goals as goal

pub at_mut-record-requires : goal.at_mut-record-requires
at_mut-record-requires g c = rw c.records.view_is
    (found (is_key c.args.key) c.args.records.now c.in-Some.index (sym c.index_of.ensures ∙ c.in-Some.is)).within

pub returns-in-None-clause-reception : goal.returns-in-None-clause-reception
returns-in-None-clause-reception g c = ap (λ o. (release_came c.args.records.now c.args.key o).reception)
    (sym (not_found (is_key c.args.key) 0 c.args.records.now (sym c.index_of.ensures ∙ c.in-None.is)))

pub returns-in-None-clause-after : goal.returns-in-None-clause-after
returns-in-None-clause-after g c = ap (λ o. (release_came c.args.records.now c.args.key o).after)
    (sym (not_found (is_key c.args.key) 0 c.args.records.now (sym c.index_of.ensures ∙ c.in-None.is)))

pub returns-in-Some-clause-reception : goal.returns-in-Some-clause-reception
returns-in-Some-clause-reception g c =
    let f = found (is_key c.args.key) c.args.records.now c.in-Some.index (sym c.index_of.ensures ∙ c.in-Some.is) in
    c.release.ensures.reception
    ∙ release_tells c.args.records.now c.args.key c.in-Some.index c.at_mut-record.result.now f
    (entry_is f c.at_mut-record.result.now
    (rw c.records.view_is at c.at_mut-record.ensures.value))

pub returns-in-Some-clause-after : goal.returns-in-Some-clause-after
returns-in-Some-clause-after g c =
    let f = found (is_key c.args.key) c.args.records.now c.in-Some.index (sym c.index_of.ensures ∙ c.in-Some.is) in
    release_some c.args.records.now _ c.args.key c.in-Some.index c.at_mut-record.result.now c.release.new.self
    f (entry_is f c.at_mut-record.result.now
    (rw c.records.view_is at c.at_mut-record.ensures.value)) c.release.ensures.state
    (ap (λ (l : List Record). set l c.in-Some.index c.release.new.self) c.records.view_is)

pub invariant_of-records : goal.invariant_of-records
invariant_of-records g c = filed_set c.records.inside.table _ c.records.invariant refl
    (c.at_mut-record.ensures.keyed key_of c.records.invariant.keyed c.release.new.self
    (ap key_of c.release.ensures.state))
