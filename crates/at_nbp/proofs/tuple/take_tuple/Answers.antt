use Rattle.std.proofs.Common.{◌≡◌, drop, List, ℕ, sym, ◌∙◌, arith, rules}
use Rattle.std.proofs.lemmas.List.{take_rest}
use Rattle.at_ddp.specs.Fault.{number_at}
use Rattle.at_nbp.specs.Fault.{IsTupleFault}
use Rattle.at_nbp.specs.declared.fault.NbpFault.TheVariants.{BadString}
use Rattle.at_nbp.proofs.TupleLemmas.{joined, is_read_tuple, bad_second, bad_third}
use Rattle.at_nbp.proofs.tuple.take_tuple.Goals as goal

pub returns-in_err-kind-clause-fault : goal.returns-in_err-kind-clause-fault
returns-in_err-kind-clause-fault c =
    let object = c.in_ok-object.ensures.found in
    let fault = c.in_err-kind.ensures.fault in
    let stands : IsTupleFault BadString c.args.bytes.now =
    bad_second c.args.bytes.now c.in_ok-object.object.now c.in_ok-object.after_object.now (omega arith) object.0
    (sym (take_rest c.args.bytes.now 5) ∙ object.1) fault.1 in
    search (rules, stands, fault.0)

pub returns-in_err-zone-clause-fault : goal.returns-in_err-zone-clause-fault
returns-in_err-zone-clause-fault c =
    let object = c.in_ok-object.ensures.found in
    let kind = c.in_ok-kind.ensures.found in
    let fault = c.in_err-zone.ensures.fault in
    let stands : IsTupleFault BadString c.args.bytes.now =
    bad_third c.args.bytes.now c.in_ok-object.object.now c.in_ok-kind.kind.now c.in_ok-object.after_object.now
    c.in_ok-kind.after_kind.now (omega arith) object.0 kind.0
    (sym (take_rest c.args.bytes.now 5) ∙ object.1) kind.1 fault.1 in
    search (rules, stands, fault.0)

pub returns-clause-found : goal.returns-clause-found
returns-clause-found c =
    let bytes : List ℕ = c.args.bytes.now in
    let object = c.in_ok-object.ensures.found in
    let kind = c.in_ok-kind.ensures.found in
    let zone = c.in_ok-zone.ensures.found in
    let net : c.read_u16.result ≡ number_at 0 bytes = omega arith in
    let strings = joined (drop 5 bytes) c.in_ok-object.object.now c.in_ok-kind.kind.now c.in_ok-zone.zone.now
    c.in_ok-object.after_object.now c.in_ok-kind.after_kind.now c.in_ok-zone.rest.now
    (sym (take_rest bytes 5) ∙ object.1) kind.1 zone.1 in
    is_read_tuple bytes c.in_ok-object.object.now c.in_ok-kind.kind.now c.in_ok-zone.zone.now c.in_ok-zone.rest.now
    c.read_u16.result (λ i. omega (arith, c.type_inv.bytes i)) (omega arith) net
    object.0 kind.0 zone.0 strings
