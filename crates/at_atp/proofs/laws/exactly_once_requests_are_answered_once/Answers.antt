use Rattle.at_atp.proofs.OnceHistories.{answers_once}
use Rattle.at_atp.proofs.laws.exactly_once_requests_are_answered_once.Goals as goal

pub returns : goal.returns
returns g c = answers_once g.row.A.Denot c.numbers_stay_open.ensures.drawn c.only_a_waiting_request_is_answered.ensures
