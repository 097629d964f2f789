use Rattle.std.proofs.Common.{◌≡◌, ap, sym, ◌∙◌}
use Rattle.at_adsp_end.specs.Positions.{wire}
use Rattle.at_adsp_ends.specs.Calls.{closed_at}
use Rattle.at_adsp_ends.specs.Tables.{by_id}
use Rattle.at_stream_socket.specs.Sockets.{told_by}
use Rattle.at_stream_socket.proofs.CallLemmas.{IsBox, call_step, closing_takes, reported, told_some}
use Rattle.at_stream_socket.proofs.socket.StreamSocket.close.Goals as goal
use Rattle.at_stream_socket.proofs.socket.StreamSocket.close.Goals.{in-Ok, in-Err}

pub returns : goal.returns
returns g c =
    let box : IsBox c.args.seat c.send_from.new.self c.args.out.now.items = record {
      items = c.send_from.ensures.items;
      from = c.send_from.ensures.from ∙ c.at.ensures;
      kind = c.send_from.ensures.kind;
    } in
    let same : c.match-close.result ≡ reported (told_by {A = g.row.A.Denot}) c.close.result =
    elim c.match-close.branch [
      | in-Ok w ↦ w.result-is ∙ w.told_by.ensures.report ∙ ap (reported (told_by {A = g.row.A.Denot})) (sym w.in-Ok.is)
      | in-Err w ↦ w.result-is ∙ w.refused_by.ensures ∙ ap (reported (told_by {A = g.row.A.Denot})) (sym w.in-Err.is)
    ] in
    rw (same, ← c.self.view_is)
    (call_step c.args.seat c.self.inside.ends c.close.new.self told_by
    (closed_at wire c.self.inside.ends (by_id c.self.inside.ends c.args.id)) c.close.result
    c.send_from.new.self c.close.new.out c.args.out.now.items
    (told_some g.row.A.Denot)
    (closing_takes g.row.A.Denot c.self.inside.ends (by_id c.self.inside.ends c.args.id)) box
    c.close.ensures.call)
