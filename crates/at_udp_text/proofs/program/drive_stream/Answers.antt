use Rattle.std.proofs.Common.{inr, subst}
use Rattle.at_udp.specs.Sockets.{Receives, Sends}
use Rattle.at_udp_text.specs.Ends.{DrivesText}
use Rattle.at_udp_text.proofs.EndLemmas.{in_any_case}
use Rattle.at_udp_text.proofs.program.drive_stream.Goals as goal

pub returns-in-Ok-clause-ended : goal.returns-in-Ok-clause-ended
returns-in-Ok-clause-ended g c =
    inr (
      c.in-Ok.text.items,
      c.in-Ok.ensures.whole,
      subst (λ text. DrivesText g.row.A.Denot g.S.Socket.binds (Sends g.S.Socket.sends)
          (Receives g.S.Socket.receives) text g.W.Paper.page g.E.Paper.page c.drive_text.result c.args.printer.now
          c.drive_text.new.printer c.args.diagnostics.now c.drive_text.new.diagnostics) c.as_slice.ensures.value
          c.drive_text.ensures.driven,
    )

pub returns-in-Err-clause-too_long : goal.returns-in-Err-clause-too_long
returns-in-Err-clause-too_long g c =
    let end = c.end_at_fault.ensures in
    in_any_case (g.R.Read.remaining c.args.reader.now) _
    (c.in-Err.fault, c.in-Err.ensures.fault, (end.failed, end.printed, end.told))
