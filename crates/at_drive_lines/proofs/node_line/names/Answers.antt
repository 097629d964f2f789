use Rattle.std.proofs.Common.{◌≡◌, ◌∷◌, ◌∙◌, codes, sym, ap, subst, arith}
use Rattle.std.proofs.lemmas.Bool.{eqb-true}
use Rattle.std.proofs.lemmas.Bool.Decides.{nat_tests}
use Rattle.at_words.specs.Numbers.{IsNode}
use Rattle.at_words.specs.Words.{words_of}
use Rattle.at_drive_lines.proofs.node_line.names.Goals as goal

pub returns-in-Some-node_number : goal.returns-in-Some-node_number
returns-in-Some-node_number c =
    let word = c.in-Some.word.now in
    let rest = words_of c.next.new.self.rest.now in
    let number = c.in-Some-node_number.number in
    let is = c.in-Some-node_number.ensures in
    let words : words_of c.args.line.now ≡ codes "node" ∷ word ∷ rest = ap words_of (sym c.of-words.ensures)
    ∙ c.take_if.ensures.taken c.if-not-take_if.false ∙ ap (λ l. codes "node" ∷ l) c.in-Some.ensures.steps in (
      λ same. (word, rest, words, subst (IsNode word) (eqb-true number c.args.node same) is),
      λ (n, others, said, node). grind (arith, nat_tests),
    )
