-- An event is what happens at its node.
use Rattle.std.proofs.Common.{◌≡◌, ℕ, ap}
use Rattle.at_event.specs.declared.Call.{Call}
use Rattle.at_event.specs.declared.Timer.{Timer}
use Rattle.at_steps.specs.Acts.{Calls, Fires, Gets}
use Rattle.at_world.specs.Events.{act_of, node_of}
use Rattle.at_setup.specs.declared.event.Event.{Event}
use Rattle.at_setup.specs.declared.event.Event.TheVariants as event

pub called_at : {A : Type 0} (e : Event A) (call : Call A) → act_of e ≡ Calls call → e ≡ event.Call (node_of e) call
called_at (event.Call node call') call is = let same : call' ≡ call = cc in ap (event.Call node) same
called_at (event.Deliver which node) call is = absurd (cc)
called_at (event.Timer node time) call is = absurd (cc)
called_at (event.Forge node bytes) call is = absurd (cc)

pub delivered_at : {A : Type 0} (e : Event A) (which : ℕ) → act_of e ≡ Gets which → e ≡ event.Deliver which (node_of e)
delivered_at (event.Deliver which' node) which is = let same : which'
    ≡ which = cc in ap (λ i. event.Deliver i node) same
delivered_at (event.Call node call) which is = absurd (cc)
delivered_at (event.Timer node time) which is = absurd (cc)
delivered_at (event.Forge node bytes) which is = absurd (cc)

pub fired_at : {A : Type 0} (e : Event A) (time : Timer) → act_of e ≡ Fires time → e ≡ event.Timer (node_of e) time
fired_at (event.Timer node time') time is = let same : time' ≡ time = cc in ap (event.Timer node) same
fired_at (event.Call node call) time is = absurd (cc)
fired_at (event.Deliver which node) time is = absurd (cc)
fired_at (event.Forge node bytes) time is = absurd (cc)
