use Rattle.std.proofs.Common.{inr}
use Rattle.at_udp_text.proofs.driving.drive_nodes.Goals as goal

pub returns-in-Ok-clause-driven : goal.returns-in-Ok-clause-driven
returns-in-Ok-clause-driven g c =
    inr (c.in-Ok.cable, c.drive_lines.new.cable, c.in-Ok.ensures.bound, c.drive_lines.ensures.driven)
