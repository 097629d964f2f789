use Rattle.at_setup_lines.proofs.CrowdLemmas.{no_number}
use Rattle.at_setup_lines.proofs.laws.a_router_wants_a_number.Goals as goal

pub returns : goal.returns
returns g c = λ first most d lines more s lacks early full h is. no_number g.row.A.Denot first most d lines more s lacks
    early full h is
