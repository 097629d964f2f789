use Rattle.std.proofs.Common.{arith}
use Rattle.at_world.proofs.SentLemmas.{length_in}
use Rattle.at_world.proofs.sent.SentList.len.Goals as goal

pub returns : goal.returns
returns g c = omega (
  arith,
  c.self.inside.events.ok.0,
  length_in c.args.self.now c.self.inside.events.items
      c.self.inside.list.items c.self.view_is c.self.invariant,
)
