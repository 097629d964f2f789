use Rattle.at_node.proofs.Protocols.{call_draws, timer_draws}
use Rattle.at_node.proofs.Protocols.Transactions.{BeginningLaw}
use Rattle.at_node.proofs.ToldLemmas.{draws_tells, tells_draws}
use Rattle.at_node.proofs.laws.what_is_drawn_is_told.Goals as goal

pub returns-clause-call : goal.returns-clause-call
returns-clause-call g c n call = call_draws g.row.A.Denot n call

pub returns-clause-timer : goal.returns-clause-timer
returns-clause-timer g c n time = timer_draws g.row.A.Denot n time

pub returns-clause-bytes : goal.returns-clause-bytes
returns-clause-bytes g c n bytes draw =
    let making = c.requests_alone_make_ends.ensures in
    let law = c.pages_alone_begin_transactions.ensures in
    let beginning : BeginningLaw g.row.A.Denot = record { begins = law.begins; only = law.only; own = law.own } in
    (tells_draws g.row.A.Denot making beginning n bytes draw, draws_tells g.row.A.Denot making beginning n bytes draw)
