use Rattle.at_setup_lines.proofs.OneSetupLemmas.{first_nodes, one_setup}
use Rattle.at_setup_lines.proofs.laws.lines_say_one_setup.Goals as goal

pub returns : goal.returns
returns g c = record {
  same = λ d lines s h is. one_setup d lines s h is;
  first = λ d lines more s early h is. first_nodes d lines more s early h is;
}
