use Rattle.at_atp.proofs.Histories.{gives_answers}
use Rattle.at_atp.proofs.laws.responses_are_answers.Goals as goal

pub returns : goal.returns
returns g c = gives_answers g.row.A.Denot c.numbers_stay_open.ensures.drawn
