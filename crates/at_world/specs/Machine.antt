-- The abstract machine: what the nodes' users may be told. It has no datagram, no record, no window and no timer. It is
-- the cable, a part for each protocol, and what each node's user was told.
use Rattle.std.specs.Prelude.{◌≡◌, List, [], ◌∷◌, take, Result, Ok, Err}
use Rattle.at_event.specs.Kinds.{reporter_of}
use Rattle.at_event.specs.declared.Report.{Report}
use Rattle.at_world.specs.Machine.AtpGuards as atp
use Rattle.at_world.specs.Machine.AtpGuards.{AtpMachine}
use Rattle.at_world.specs.Cables as cables
use Rattle.at_world.specs.Cables.{Cable}
use Rattle.at_world.specs.Events.{NoForge}
use Rattle.at_world.specs.Machine.NameGuards as names
use Rattle.at_world.specs.Machine.NameGuards.{NameMachine}
use Rattle.at_world.specs.Machine.SessionGuards as sessions
use Rattle.at_world.specs.Machine.SessionGuards.{Sessions}
use Rattle.at_world.specs.Machine.StreamGuards as streams
use Rattle.at_world.specs.Machine.StreamGuards.{StreamMachine}
use Rattle.at_setup.specs.declared.event.Event.{Event}
use Rattle.at_setup.specs.declared.setup.Setup.{Setup}
use Rattle.at_world.specs.declared.transcript.Transcript.{Transcript}
use Rattle.at_world.specs.declared.transcript.PlayFault.{PlayFault}
pub mod AtpGuards
pub mod NameGuards
pub mod SessionGuards
pub mod StreamGuards

pub record Machine : Type 0 where
  pub cable : Cable
  pub atp : AtpMachine
  pub names : NameMachine
  pub streams : StreamMachine
  pub sessions : Sessions

abbrev pub opening_machine : {A : Type 0} → Setup A → Machine
opening_machine s = record {
  cable = cables.opening s;
  atp = atp.opening s;
  names = names.opening s;
  streams = streams.opening;
  sessions = sessions.opening;
}

-- one step: of the cable, of each part, by whose report it is, and of the session of the node's user
pub record MachineStep {A : Type 0} (m : Machine) (e : Event A) (r : Report A) (m' : Machine) : Type 0 where
  pub cable : cables.CableStep m.cable e r m'.cable
  pub atp : atp.StepBy m.cable m.atp e r m'.atp (reporter_of r)
  pub names : names.StepBy m.sessions m.names e r m'.names (reporter_of r)
  pub streams : streams.StepBy m.cable m.sessions m.streams e r m'.streams (reporter_of r)
  pub sessions : sessions.SessionStep m.sessions e r m'.sessions

-- the machine may give these reports to these events, one step after another
abbrev pub Run : {A : Type 0} → Machine → List (Event A) → List (Report A) → Machine → Type 0
Run m [] [] m' = m' ≡ m
Run m (e ∷ es) (r ∷ rs) m' = (mid : Machine) × MachineStep m e r mid × Run mid es rs m'
Run m [] (r ∷ rs) m' = ⊥
Run m (e ∷ es) [] m' = ⊥

-- the reports of what was played are a run of the machine, if nothing was forged
abbrev pub IsRun : {A : Type 0} → Setup A → List (Event A) → Result (Transcript A) (PlayFault A) → Type 0
IsRun s events (Ok t) = NoForge events → (m : Machine) × Run (opening_machine s) events t.reports m
IsRun s events (Err f) =
    NoForge (take f.at events) → (m : Machine) × Run (opening_machine s) (take f.at events) f.transcript.reports m
