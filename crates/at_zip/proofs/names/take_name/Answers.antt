use Rattle.std.proofs.Common.{◌∷◌, ap, sym, ◌∙◌, arith, rules}
use Rattle.at_zip.proofs.NameLemmas.{is_name_front}
use Rattle.at_zip.proofs.names.take_name.Goals as goal

pub returns-clause-found : goal.returns-clause-found
returns-clause-found c =
    let whole = c.in-Some.ensures.cases.0 ∙ ap (λ n. n ∷ c.in-Some.rest.now) (sym c.from-len.ensures) in
    is_name_front c.args.bytes.now c.in-Some.rest.now c.split_at.result.0.now c.split_at.result.1.now c.from-len.result
    (λ i. omega (arith, c.type_inv.bytes i)) whole (omega arith)
    (omega arith) (omega arith) c.split_at.ensures.front c.split_at.ensures.back

pub returns-then-len-eq0-clause-fault : goal.returns-then-len-eq0-clause-fault
returns-then-len-eq0-clause-fault c = search rules
