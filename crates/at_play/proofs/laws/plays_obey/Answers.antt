use Rattle.at_world.specs.Plays.{opening_world}
use Rattle.at_play.proofs.ToldLemmas.{follows_told, safely_told}
use Rattle.at_play.proofs.laws.plays_obey.Goals as goal

pub returns : goal.returns
returns g c setup lawful p =
    let A = g.row.A.Denot in
    let follows = follows_told A (opening_world setup) p.events p.reports p.world p.text p.told in
    let few = c.at_most_16_nodes_stand.ensures setup lawful in
    record {
      lawful = lawful;
      safe = safely_told A (opening_world setup) p.events p.reports p.world p.text few p.told;
      run = λ honest. c.steps_are_a_run.ensures.machine setup p.events p.reports p.world lawful honest follows;
      agrees = λ honest. c.steps_are_a_run.ensures.agrees setup p.events p.reports p.world lawful honest follows;
      once = λ honest.
          c.exactly_once_requests_run_once.ensures setup p.events p.reports p.world lawful honest follows;
    }
