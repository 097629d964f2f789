use Rattle.at_drive_lines.proofs.StepLineLemmas.{are_drive}
use Rattle.at_drive_lines.proofs.laws.steps_that_are_said_are_the_drive.Goals as goal

pub returns : goal.returns
returns g c = λ setup port lines steps begins said stand.
    are_drive g.row.A.Denot c.lines_begin_with_known_words.ensures.setups setup port lines steps begins said stand
