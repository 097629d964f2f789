use Rattle.std.proofs.Common.{arith}
use Rattle.at_adsp_frame.specs.declared.segment.OpenKind.TheVariants.{Request, Acknowledgement}
use Rattle.at_adsp_frame.specs.declared.segment.OpenKind.TheVariants.{RequestAndAcknowledgement, Denial}
use Rattle.at_adsp_frame.proofs.reading.control_in.Goals as goal

pub returns-in_default-code-clause-fault : goal.returns-in_default-code-clause-fault
returns-in_default-code-clause-fault c =
    let none = c.of_code.ensures.none c.in_default.is in
    let one = none Request in
    let two = none Acknowledgement in
    let three = none RequestAndAcknowledgement in
    let four = none Denial in
    omega (arith, one, two, three, four)
