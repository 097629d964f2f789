use Rattle.std.proofs.Common.{refl, subst}
use Rattle.at_node.specs.NameCalls.{register_called, unregister_called}
use Rattle.at_node.specs.Nodes.{NodeState, called, with_names}
use Rattle.at_event.specs.Outcomes.{IsStep}
use Rattle.at_event.specs.declared.Call.{Call}
use Rattle.at_event.specs.declared.Call.TheVariants.{Names}
use Rattle.at_event.specs.declared.names.NameCall.TheVariants.{Register, Unregister}
use Rattle.at_event.proofs.OutcomeLemmas.{step_over}
use Rattle.at_zone_socket.proofs.Opened.{opened}
use Rattle.at_node.proofs.node.Node.call_names.Goals as goal

pub returns-in-Register : goal.returns-in-Register
returns-in-Register g c =
    let inside : NodeState = opened c.self-in-Register.view_is in
    let new : NodeState = record inside { names = c.register.new.self } in
    let items = c.args.out.now.items in
    let i = c.in-Register in
    let call : Call g.row.A.Denot = Names (Register i.object i.kind i.socket) in
    rw i.is
    (subst (λ (n : NodeState). IsStep (called n call) n items c.register.result new items) c.self-in-Register.view_is
    (step_over (with_names inside) inside inside.names refl items c.register.result c.register.new.self items
    (register_called inside.names i.object i.kind i.socket) (c.register.ensures items)))

pub returns-in-Unregister : goal.returns-in-Unregister
returns-in-Unregister g c =
    let inside : NodeState = opened c.self-in-Unregister.view_is in
    let new : NodeState = record inside { names = c.unregister.new.self } in
    let items = c.args.out.now.items in
    let i = c.in-Unregister in
    let call : Call g.row.A.Denot = Names (Unregister i.object i.kind) in
    rw i.is
    (subst (λ (n : NodeState). IsStep
    (called n call) n items c.unregister.result new items) c.self-in-Unregister.view_is
    (step_over (with_names inside) inside inside.names refl items c.unregister.result c.unregister.new.self items
    (unregister_called inside.names i.object i.kind) (c.unregister.ensures items)))
