use Rattle.std.proofs.Common.{◌+◌, refl, sym, ◌∙◌}
use Rattle.at_call_words.proofs.DotLemmas.{no_node, node_at, to_end}
use Rattle.at_call_words.proofs.requester.any_node.Goals as goal

pub returns-in_err-byte-in-None : goal.returns-in_err-byte-in-None
returns-in_err-byte-in-None c = no_node c.args.net c.args.word.now c.from_residual.result c.from_residual.ensures
    (sym c.dot_in.ensures.first ∙ c.in-None.is) c.in_err-byte-in-None.ensures

pub returns-in-Some : goal.returns-in-Some
returns-in-Some c = node_at c.args.net c.args.word.now _ _ c.in-Some.at c.node_of_net.result
    (sym c.dot_in.ensures.first ∙ c.in-Some.is) refl (to_end c.args.word.now (c.in-Some.at + 1))
    c.node_of_net.ensures
