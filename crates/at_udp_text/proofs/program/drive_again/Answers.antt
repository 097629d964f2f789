use Rattle.std.proofs.Common.{inr}
use Rattle.at_opened.specs.Rewinds.{Rewound}
use Rattle.at_udp_text.proofs.program.drive_again.Goals as goal

pub returns-in-Ok-clause-driven : goal.returns-in-Ok-clause-driven
returns-in-Ok-clause-driven g c =
    let again : Rewound g.F.Opened.goes_back =
    record {
      before = c.args.file.now;
      file = c.send_back.new.self;
      went = c.in-Ok.ensures.went;
    } in
    inr (again, c.drive_from.ensures.driven)
