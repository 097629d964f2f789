use Rattle.std.proofs.Common.{ap, ◌∙◌, ◌≡◌, ◌++◌, map}
use Rattle.std.proofs.lemmas.Bool.{false≢true}
use Rattle.at_ddp.specs.Protocols.{atp_kind}
use Rattle.at_atp_frame.specs.Frames.{content, number_of, spelled_all}
use Rattle.at_atp_requester.specs.Requests.{Heard, heard, is_ignored}
use Rattle.at_event.specs.Outcomes.{posted, sent_by}
use Rattle.at_transaction_socket.specs.TransactionSockets.{TransactionState, asking}
use Rattle.at_transaction_socket.proofs.RequesterLemmas.{other_wanted, steps_other}
use Rattle.at_transaction_socket.proofs.transaction_socket.TransactionSocket.hear_other.Goals as goal

pub returns-clause-step : goal.returns-clause-step
returns-clause-step g c =
    let p = c.args.packet.now in
    let f = content p.frame in
    let now : TransactionState = c.args.self.now in
    let h : Heard g.row.A.Denot = heard now.requester p.from f in
    let step : c.in-Ok.step ≡ h.step = c.in-Ok.ensures.step
    ∙ ap (λ (t : TransactionState). (heard {A = g.row.A.Denot} t.requester p.from f).step) c.self.view_is in
    let requester : c.hear.new.requester ≡ h.after = c.in-Ok.ensures.state
    ∙ ap (λ (t : TransactionState). (heard {A = g.row.A.Denot} t.requester p.from f).after) c.self.view_is in
    let sent : c.hear.new.out.items ≡ c.args.out.now.items ++ map posted
    (sent_by (asking p.seat.net p.seat.number) atp_kind (spelled_all h.sent)) = c.in-Ok.ensures.sent
    ∙ (λ i. c.args.out.now.items ++ map posted
    (sent_by (c.at-own.ensures i) atp_kind
    (spelled_all (heard {A = g.row.A.Denot} (c.self.view_is i).requester p.from f).sent))) in
    let same = ap (λ (t : TransactionState). record t { requester = c.hear.new.requester }) c.self.view_is
    ∙ (λ i. record now { requester = requester i }) in
    rw (c.reported_other.ensures.report, c.tid.ensures)
    (steps_other p.seat now (number_of f) h c.in-Ok.step c.args.out.now.items c.hear.new.out.items _ step same sent)

pub returns-in_default-clause-step : goal.returns-in_default-clause-step
returns-in_default-clause-step g c =
    let p = c.args.packet.now in
    let f = content p.frame in
    let now : TransactionState = c.args.self.now in
    let h : Heard g.row.A.Denot = heard now.requester p.from f in
    let requester = c.in_default.ensures.unchanged ∙ ap (λ (t : TransactionState). t.requester) c.self.view_is in
    let same = ap (λ (t : TransactionState). record t { requester = c.hear.new.requester }) c.self.view_is
    ∙ (λ i. record now { requester = requester i }) in
    let step = ap (λ (t : TransactionState). is_ignored (heard {A = g.row.A.Denot} t.requester p.from f).step)
    c.self.view_is in (
      same,
      c.in_default.ensures.nothing_sent,
      other_wanted (number_of f) h.step (λ is. absurd (false≢true (c.in_default.ensures.ignored (step ∙ is)))),
    )
