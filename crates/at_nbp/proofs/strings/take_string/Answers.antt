use Rattle.std.proofs.Common.{◌∷◌, ap, sym, ◌∙◌, arith}
use Rattle.at_nbp.proofs.TupleLemmas.{is_string_front}
use Rattle.at_nbp.proofs.strings.take_string.Goals as goal

pub returns-clause-found : goal.returns-clause-found
returns-clause-found c =
    let whole = c.in-Some.ensures.cases.0 ∙ ap (λ n. n ∷ c.in-Some.rest.now) (sym c.from-len.ensures) in
    is_string_front c.args.bytes.now c.in-Some.rest.now c.split_at.result.0.now c.split_at.result.1.now
    c.from-len.result (λ i. omega (arith, c.type_inv.bytes i)) whole (omega arith)
    (omega arith) c.split_at.ensures.front c.split_at.ensures.back
