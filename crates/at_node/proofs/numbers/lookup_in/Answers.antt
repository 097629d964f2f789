use Rattle.std.proofs.Common.{◌≡◌, Some, sym, ap, ◌∙◌}
use Rattle.at_node.specs.declared.numbers.Draw.TheVariants.{Lookup}
use Rattle.at_node.proofs.NumberLemmas.{lookup_of, same_pair}
use Rattle.at_node.proofs.numbers.lookup_in.Goals as goal

pub returns-in_err-node-clause-only : goal.returns-in_err-node-clause-only
returns-in_err-node-clause-only c = λ node draw h.
    let its = lookup_of c.args.packet.now node draw c.requires h in
    let there = c.in_err-node.ensures.only node its.0 its.1 in absurd (cc)

pub returns-clause-only : goal.returns-clause-only
returns-clause-only c = λ node draw h.
    let its = lookup_of c.args.packet.now node draw c.requires h in
    let same = same_pair c.in_ok-node.node c.in_ok-node.id node its.0 (c.in_ok-node.ensures.only node its.0 its.1) in
    let which : Lookup c.in_ok-node.id ≡ draw = ap Lookup same.1 ∙ sym its.2 in
    λ i. Some (same.0 i, which i)
