-- What the machine knows that is of no protocol: the cable, and which reports there are.
use Rattle.std.specs.Prelude.{◌≡◌, ℕ, Option}
use Rattle.at_ddp.specs.declared.address.Address.{Address}
use Rattle.at_event.specs.declared.Report.{Report}
use Rattle.at_steps.specs.Acts as acts
use Rattle.at_world.specs.Events.{act_of}
use Rattle.at_nodes.specs.Openings.{router_of}
use Rattle.at_setup.specs.declared.event.Event.{Event}
use Rattle.at_setup.specs.declared.setup.Setup.{Setup}

-- its network, and the number of its router, if it has one
pub record Cable : Type 0 where
  pub net : ℕ
  pub router : Option ℕ

abbrev pub opening : {A : Type 0} → Setup A → Cable
opening s = record { net = s.net; router = router_of s.nodes }

-- a socket of the cable
abbrev pub at_net : Cable → ℕ → ℕ → Address
at_net c node socket = record { net = c.net; node = node; socket = socket }

-- is there such a report of an event?
abbrev pub IsSaid : {A : Type 0} → Event A → Report A → Type 0
IsSaid e r = acts.IsSaid (act_of e) r

-- an event has a report that there is, and leaves the cable as it was
pub record CableStep {A : Type 0} (c : Cable) (e : Event A) (r : Report A) (c' : Cable) : Type 0 where
  pub said : IsSaid e r
  pub becomes : c' ≡ c
