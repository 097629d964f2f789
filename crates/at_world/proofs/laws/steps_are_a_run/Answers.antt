use Rattle.at_world.proofs.Canonical.{follows_canonically}
use Rattle.at_world.proofs.laws.steps_are_a_run.Goals as goal

pub returns-clause-sent : goal.returns-clause-sent
returns-clause-sent g c s events reports w = follows_canonically g.row.A.Denot s events reports w

pub returns-clause-machine : goal.returns-clause-machine
returns-clause-machine g c s events reports w lawful sent follows =
    let has = (c.steps_make_a_history.ensures s events reports w lawful sent follows).0 in (has.machine, has.run)

pub returns-clause-agrees : goal.returns-clause-agrees
returns-clause-agrees g c s events reports w lawful sent follows =
    (c.steps_make_a_history.ensures s events reports w lawful sent follows).0
