use Rattle.std.proofs.Common.{◌+◌}
use Rattle.at_world.proofs.log.Log.add.Goals as goal

pub returns-clause-added : goal.returns-clause-added
returns-clause-added g c = λ j. record {
  sent = c.in_ok-append.ensures.ok.0 j;
  last = c.in_ok-note.ensures j;
  events = c.args.self.now.events + 1;
  failed = c.args.self.now.failed;
}
