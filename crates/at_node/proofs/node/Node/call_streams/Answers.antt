use Rattle.std.proofs.Common.{refl, subst}
use Rattle.at_event.specs.Outcomes.{IsStep}
use Rattle.at_event.specs.declared.Call.{Call}
use Rattle.at_event.specs.declared.Call.TheVariants.{Streams}
use Rattle.at_event.specs.declared.streams.StreamCall.TheVariants.{Listen}
use Rattle.at_node.specs.Nodes.{NodeState, called, with_streams}
use Rattle.at_stream_socket.specs.Calls.{listen_called}
use Rattle.at_event.proofs.OutcomeLemmas.{step_over}
use Rattle.at_zone_socket.proofs.Opened.{opened}
use Rattle.at_node.proofs.node.Node.call_streams.Goals as goal

pub returns-in-Listen : goal.returns-in-Listen
returns-in-Listen g c =
    let inside : NodeState = opened c.self.view_is in
    let new : NodeState = record inside { streams = c.listen.new.self } in
    let items = c.args.out.now.items in
    let call : Call g.row.A.Denot = Streams (Listen c.in-Listen.on) in
    rw c.in-Listen.is
    (subst (λ (n : NodeState). IsStep (called n call) n items c.listen.result new items) c.self.view_is
    (step_over (with_streams inside) inside inside.streams refl items c.listen.result c.listen.new.self items
    (listen_called inside.streams c.in-Listen.on) (c.listen.ensures items)))
