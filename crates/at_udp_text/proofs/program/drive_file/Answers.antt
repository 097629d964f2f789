use Rattle.at_udp_text.proofs.EndLemmas.{too_long}
use Rattle.at_udp_text.proofs.program.drive_file.Goals as goal

pub returns-in-Err-clause-too_long : goal.returns-in-Err-clause-too_long
returns-in-Err-clause-too_long g c =
    let end = c.end_at_fault.ensures in
    too_long (g.F.Read.remaining c.args.file.now) _ c.in-Err.ensures.too_long
    (λ why. (c.in-Err.fault, why, (end.failed, end.printed, end.told)))
