use Rattle.at_drive_lines.proofs.StepLineLemmas.{can_be_read}
use Rattle.at_drive_lines.proofs.laws.each_line_can_be_read.Goals as goal

pub returns : goal.returns
returns g c = λ setup port lines read later line after_step begins parts some.
    can_be_read g.row.A.Denot c.lines_begin_with_known_words.ensures.setups setup port lines read later line after_step
    begins parts some
