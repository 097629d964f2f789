use Rattle.at_call_words.proofs.DotLemmas.{no_requester}
use Rattle.at_call_words.proofs.requester.any_requester.Goals as goal

pub returns-in_err-net : goal.returns-in_err-net
returns-in_err-net c = no_requester c.args.net c.args.node.now c.args.socket.now c.from_residual.result
    c.from_residual.ensures c.in_err-net.ensures
