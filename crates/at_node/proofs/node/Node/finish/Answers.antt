use Rattle.std.proofs.Common.{[], ◌∙◌, subst}
use Rattle.at_event.specs.Outcomes.{IsStep}
use Rattle.at_node.specs.NameCalls.{finish_called}
use Rattle.at_node.specs.Nodes.{NodeState, over_finish}
use Rattle.at_node.proofs.SessionLemmas.{finds_are_told, finish_over}
use Rattle.at_zone_socket.proofs.Opened.{opened}
use Rattle.at_node.proofs.node.Node.finish.Goals as goal

pub keep_finds-requires : goal.keep_finds-requires
keep_finds-requires g c = λ found tells.
    c.in-Ok.ensures.copy ∙ finds_are_told g.row.A.Denot c.self.inside.names c.args.id c.finish-report.result
    c.finish-report.new.self (c.finish-report.ensures []) found tells

pub returns : goal.returns
returns g c = λ sent.
    let inside : NodeState = opened c.self.view_is in
    let new : NodeState = record inside { names = c.finish-report.new.self; session = c.keep_finds.new.self } in
    subst (λ (n : NodeState). IsStep (over_finish n (finish_called {A = g.row.A.Denot} n.names c.args.id)) n sent
    c.finish-report.result new sent) c.self.view_is
    (finish_over g.row.A.Denot inside c.args.id sent c.finish-report.result c.finish-report.new.self
    c.keep_finds.new.self (c.finish-report.ensures sent) c.keep_finds.ensures)
