use Rattle.at_world.proofs.Canonical.{play_sends}
use Rattle.at_world.proofs.Parts.Atp.OncePlays.{play_is_once}
use Rattle.at_world.proofs.Runs.{play_agrees, play_runs}
use Rattle.at_world.proofs.player.play.Goals as goal

pub returns-clause-sent : goal.returns-clause-sent
returns-clause-sent g c = play_sends g.row.A.Denot c.args.setup.now c.args.events.now c.play_all.result
    (c.steps_are_a_run.ensures.sent c.args.setup.now) c.play_all.ensures.follows

pub returns-clause-machine : goal.returns-clause-machine
returns-clause-machine g c = play_runs g.row.A.Denot c.args.setup.now c.args.events.now c.play_all.result
    (λ events reports w. c.steps_are_a_run.ensures.machine c.args.setup.now events reports w c.requires)
    c.play_all.ensures.follows

pub returns-clause-agrees : goal.returns-clause-agrees
returns-clause-agrees g c = play_agrees g.row.A.Denot c.args.setup.now c.args.events.now c.play_all.result
    (λ events reports w. c.steps_are_a_run.ensures.agrees c.args.setup.now events reports w c.requires)
    c.play_all.ensures.follows

pub returns-clause-once : goal.returns-clause-once
returns-clause-once g c = play_is_once g.row.A.Denot c.args.setup.now c.args.events.now c.play_all.result
    (λ events reports w. c.exactly_once_requests_run_once.ensures c.args.setup.now events reports w c.requires)
    c.play_all.ensures.follows
