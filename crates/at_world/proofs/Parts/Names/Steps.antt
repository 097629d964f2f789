-- What each kind of step of a node is in the machine.
use Rattle.std.proofs.Common.{◌≡◌, true}
use Rattle.std.proofs.Common.{refl, sym, subst}
use Rattle.std.proofs.lemmas.Bool.{false≢true}
use Rattle.at_name_socket.specs.Sockets.{Stays}
use Rattle.at_node.specs.Numbers.{drawn_by}
use Rattle.at_event.specs.Kinds.{reporter_of}
use Rattle.at_event.specs.declared.Report.{Report}
use Rattle.at_event.specs.declared.Report.TheVariants as report
use Rattle.at_event.specs.declared.names.NameReport.TheVariants as nbp_report
use Rattle.at_event.specs.declared.Timer.TheVariants as timer
use Rattle.at_event.specs.declared.names.NameTimer.TheVariants as nbp_timer
use Rattle.at_steps.specs.NameSteps.{is_plain}
use Rattle.at_world.specs.Events.{act_of}
use Rattle.at_world.specs.Machine.NameGuards.{NameMachine, StepBy, next}
use Rattle.at_world.specs.Machine.SessionGuards.{Sessions}
use Rattle.at_setup.specs.declared.event.Event.{Event}
use Rattle.at_setup.specs.declared.event.Event.TheVariants as event
use Rattle.at_world.proofs.Parts.Names.Lookups.{IsDrawn}

-- the machine says this of an event
abbrev pub Allows : {A : Type 0} → Sessions → NameMachine → Event A → Report A → NameMachine → Type 0
Allows ss m e r m' = StepBy ss m e r m' (reporter_of r)

pub so_at : (A : Type 0) (ss : Sessions) (m m' : NameMachine) (e e' : Event A) (r r' : Report A) → e ≡ e' → r ≡ r'
    → Allows ss m e' r' m' → Allows ss m e r m'
so_at A ss m m' e e' r r' same told allows =
    subst (λ x. Allows ss m x r m') (sym same) (subst (λ x. Allows ss m e' x m') (sym told) allows)

-- a report that says nothing new of names leaves the machine as it was
pub plainly : (A : Type 0) (ss : Sessions) (m : NameMachine) (e : Event A) (r : Report A) → is_plain (act_of e) r ≡ true
    → Allows ss m e r (next m)
plainly A ss m (event.Call node call) (report.Refused number) h = refl
plainly A ss m (event.Call node call) report.NoMemory h = refl
plainly A ss m (event.Deliver which node) (report.Refused number) h = refl
plainly A ss m (event.Deliver which node) report.NoMemory h = refl
plainly A ss m (event.Timer node time) (report.Refused number) h = refl
plainly A ss m (event.Timer node time) report.NoMemory h = refl
plainly A ss m (event.Forge node bytes) (report.Refused number) h = refl
plainly A ss m (event.Forge node bytes) report.NoMemory h = refl
plainly A ss m (event.Deliver which node) report.Ignored h = refl
plainly A ss m (event.Deliver which node) (report.Names nbp_report.Relayed) h = refl
plainly A ss m (event.Deliver which node) (report.Names (nbp_report.Matched count)) h = refl
plainly A ss m (event.Deliver which node) (report.Names (nbp_report.Added count)) h = refl
plainly A ss m (event.Timer node (timer.Names (nbp_timer.Lookup id))) report.Again h = refl
plainly A ss m e r h = absurd (false≢true h)

-- it draws no identifier
pub plain_draws : (A : Type 0) (e : Event A) (r : Report A) → is_plain (act_of e) r ≡ true → IsDrawn Stays (drawn_by r)
plain_draws A (event.Call node call) (report.Refused number) h = tt
plain_draws A (event.Call node call) report.NoMemory h = tt
plain_draws A (event.Deliver which node) (report.Refused number) h = tt
plain_draws A (event.Deliver which node) report.NoMemory h = tt
plain_draws A (event.Timer node time) (report.Refused number) h = tt
plain_draws A (event.Timer node time) report.NoMemory h = tt
plain_draws A (event.Forge node bytes) (report.Refused number) h = tt
plain_draws A (event.Forge node bytes) report.NoMemory h = tt
plain_draws A (event.Deliver which node) report.Ignored h = tt
plain_draws A (event.Deliver which node) (report.Names nbp_report.Relayed) h = tt
plain_draws A (event.Deliver which node) (report.Names (nbp_report.Matched count)) h = tt
plain_draws A (event.Deliver which node) (report.Names (nbp_report.Added count)) h = tt
plain_draws A (event.Timer node (timer.Names (nbp_timer.Lookup id))) report.Again h = tt
plain_draws A e r h = absurd (false≢true h)
