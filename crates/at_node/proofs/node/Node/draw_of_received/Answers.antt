use Rattle.std.proofs.Common.{subst, sym}
use Rattle.at_node.specs.Numbers.{DrawsIt}
use Rattle.at_node.proofs.DrawLemmas.{hearing_draws}
use Rattle.at_node.proofs.node.Node.draw_of_received.Goals as goal

pub returns-in-Ok-clause-found : goal.returns-in-Ok-clause-found
returns-in-Ok-clause-found g c = hearing_draws c.args.self.now c.args.packet.now _ c.in-Ok.ensures.found.0
    c.in-Ok.ensures.found.1 c.draw_of_body.result c.draw_of_body.ensures.found

pub returns-in-Ok-clause-only : goal.returns-in-Ok-clause-only
returns-in-Ok-clause-only g c = λ draw h.
    let same = c.in-Ok.ensures.only h.datagram h.rest h.begins in
    c.draw_of_body.ensures.only draw (subst (λ d. DrawsIt c.args.self.now d draw) (sym same) h.draws)

pub returns-in-Err-clause-only : goal.returns-in-Err-clause-only
returns-in-Err-clause-only g c = λ draw h. absurd (c.in-Err.ensures.only h.datagram h.rest h.begins)
