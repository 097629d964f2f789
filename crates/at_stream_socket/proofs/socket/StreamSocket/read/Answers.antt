use Rattle.std.proofs.Common.{ap, subst, sym, ◌∙◌}
use Rattle.at_adsp_end.specs.Positions.{wire}
use Rattle.at_adsp_ends.specs.Calls.{read_at, unread_at}
use Rattle.at_adsp_ends.specs.Tables.{by_id}
use Rattle.at_event.specs.Outcomes.{IsStep}
use Rattle.at_stream_socket.specs.Sockets.{told_read}
use Rattle.at_stream_socket.specs.Calls.{called}
use Rattle.at_stream_socket.proofs.CallLemmas.{read_fewer}
use Rattle.at_stream_socket.proofs.socket.StreamSocket.read.Goals as goal

pub returns-in-Ok : goal.returns-in-Ok
returns-in-Ok g c =
    let t = c.args.self.now in
    let unread = ap (λ x. unread_at (by_id x c.args.id)) (sym c.self.view_is) ∙ sym c.in-Ok.ensures in
    let fewer = read_fewer t c.args.count c.in-Ok.unread (by_id t c.args.id) unread in
    let all = ap (λ n. read_at wire t n (by_id t c.args.id)) c.min.ensures ∙ fewer in
    subst (λ r. IsStep (called {A = g.row.A.Denot} c.args.seat t told_read r) t c.args.out.now.items
    c.read_some.result c.read_some.new.self c.read_some.new.out.items) all c.read_some.ensures
