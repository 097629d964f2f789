use Rattle.at_drive.proofs.stepping.Drive.step_once.Goals as goal

pub returns-in-Call-clause-driven : goal.returns-in-Call-clause-driven
returns-in-Call-clause-driven g c = rw c.in-Call.is c.play.ensures.driven

pub returns-in-Timer-clause-driven : goal.returns-in-Timer-clause-driven
returns-in-Timer-clause-driven g c = rw c.in-Timer.is c.play-in-Timer.ensures.driven
