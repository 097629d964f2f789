use Rattle.std.proofs.Common.{ap}
use Rattle.at_drive.specs.Drives.{Driving, Logged}
use Rattle.at_drive.proofs.stepping.Drive.arrive.Goals as goal

pub returns-clause-driven : goal.returns-clause-driven
returns-clause-driven g c =
    let with_log : Logged g.row.A.Denot → Driving g.row.A.Denot = λ l. record {
      nodes = c.args.self.now.nodes;
      log = l;
      failed = c.args.self.now.failed;
    } in
    let same = ap with_log c.arrival.ensures.log in
    rw (c.of-packet.ensures, c.in_ok-arrival.ensures.arrival, same) at c.play.ensures.driven
