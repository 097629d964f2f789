use Rattle.std.proofs.Common.{false, inr, Some, subst}
use Rattle.at_schedule.specs.Schedules.{lines_in}
use Rattle.at_drive_lines.specs.Drafts.{BeginsSo}
use Rattle.at_udp.specs.Sockets.{Receives, Sends}
use Rattle.at_udp_text.specs.Ends.{DrivesNodes}
use Rattle.at_udp_text.proofs.program.drive_text.Goals as goal

pub returns-in-Ok-clause-driven : goal.returns-in-Ok-clause-driven
returns-in-Ok-clause-driven g c =
    let head = c.in-Ok.head in
    inr (
      head.setup,
      head.port,
      c.in-Ok.ensures.lawful,
      subst (λ text. BeginsSo head.setup head.port (lines_in text)) c.of.ensures c.in-Ok.ensures.said,
      subst (λ text. DrivesNodes g.S.Socket.binds (Sends g.S.Socket.sends) (Receives g.S.Socket.receives) head.setup
          head.port (Some (lines_in text)) false g.W.Paper.page g.E.Paper.page c.drive_nodes.result
          c.args.printer.now c.drive_nodes.new.printer c.args.diagnostics.now c.drive_nodes.new.diagnostics)
          c.of-lines.ensures c.drive_nodes.ensures.driven,
    )
