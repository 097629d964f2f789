use Rattle.at_world.proofs.LogLemmas.{failed_by, recorded_in}
use Rattle.at_world.proofs.log.Log.record.Goals as goal

pub returns-clause-recorded : goal.returns-clause-recorded
returns-clause-recorded g c =
    recorded_in g.row.A.Denot c.add-recorded.new.self _ c.is_err-self.result c.add-recorded.result
    c.is_err-self.ensures.value
    c.add-recorded.ensures.added

pub returns-clause-failed : goal.returns-clause-failed
returns-clause-failed g c =
    failed_by c.args.self.now.sent c.add-recorded.new.self.sent c.is_err-self.result c.add-recorded.result
    c.is_err-self.ensures.value c.add-recorded.ensures.kept
