use Rattle.at_node.specs.Timers.{timers_of}
use Rattle.at_node.proofs.ListedTimers.{acts_listed, listed_acts}
use Rattle.at_ddp.proofs.MemberLemmas.{contains_of, there_of}
use Rattle.at_node.proofs.node.Node.timers_act.Goals as goal

pub returns : goal.returns
returns g c t = (
  λ h. listed_acts _ c.args.self.now t (c.limits.ensures.ends).ids_differ c.keys_differ.ensures.zones
      c.keys_differ.ensures.services (there_of (timers_of c.args.self.now) t h),
  λ h. contains_of (timers_of c.args.self.now) t (acts_listed _ c.args.self.now t h),
)
