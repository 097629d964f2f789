-- At which node an event is, what happens there, and which events are forged.
use Rattle.std.specs.Prelude.{◌≡◌, ℕ, Bool, true, false, List}
use Rattle.std.specs.List.{AllByRecursion}
use Rattle.at_steps.specs.Acts.{Act, Calls, Fires, Forges, Gets}
use Rattle.at_setup.specs.declared.event.Event.{Event}
use Rattle.at_setup.specs.declared.event.Event.TheVariants as event

abbrev pub node_of : {A : Type 0} → Event A → ℕ
node_of (event.Call node call) = node
node_of (event.Deliver which node) = node
node_of (event.Timer node timer) = node
node_of (event.Forge node bytes) = node

abbrev pub act_of : {A : Type 0} → Event A → Act A
act_of (event.Call node call) = Calls call
act_of (event.Deliver which node) = Gets which
act_of (event.Timer node timer) = Fires timer
act_of (event.Forge node bytes) = Forges

-- do bytes come that no node sent?
abbrev pub is_forged : {A : Type 0} → Event A → Bool
is_forged (event.Forge node bytes) = true
is_forged e = false

-- all that comes to a node was sent by one
abbrev pub NoForge : {A : Type 0} → List (Event A) → Type 0
NoForge events = AllByRecursion (λ e. is_forged e ≡ false) events
