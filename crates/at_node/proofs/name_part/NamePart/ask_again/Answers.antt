use Rattle.std.proofs.Common.{rules, subst, ◌∙◌}
use Rattle.at_nbp.specs.Lookups.{search_of}
use Rattle.at_name_socket.specs.NameSockets.{SocketState}
use Rattle.at_node.specs.NameCalls.{lookup_fired}
use Rattle.at_event.specs.Outcomes.{IsStep}
use Rattle.at_event.specs.declared.Report.TheVariants.{Again}
use Rattle.at_node.proofs.NameLemmas.{again_sent}
use Rattle.at_node.proofs.name_part.NamePart.ask_again.Goals as goal
use Rattle.at_node.proofs.name_part.NamePart.ask_again.Goals.{in-Ok, in-Err}

pub returns : goal.returns
returns g c = elim c.match-retry.branch [
  | in-Ok w ↦
      let n = c.self.inside.socket in
      rw w.result-is
      (subst (λ (x : SocketState). IsStep (lookup_fired {A = g.row.A.Denot} c.args.seat x c.args.id) x
      c.args.out.now.items Again x c.retry.new.out.items) c.self.view_is
      (again_sent {A = g.row.A.Denot} c.args.seat n (search_of n.lookups c.args.id) c.send_from.new.self
      c.retry.new.out c.args.out.now.items (λ e. let x = w.in-Ok.ensures.missing.1 e in absurd (cc))
      w.in-Ok.ensures.ok c.send_from.ensures.items (c.send_from.ensures.from ∙ c.at.ensures)
      c.send_from.ensures.kind))
  | in-Err w ↦ search rules
]
