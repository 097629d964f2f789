-- The machine's zone tables after a step are those that the event and its report say.
use Rattle.std.proofs.Common.{◌≡◌, refl, ap}
use Rattle.at_event.specs.Kinds.{Speaker, Atp, reporter_of}
use Rattle.at_event.specs.declared.Call.TheVariants.{Transactions, Zones}
use Rattle.at_event.specs.declared.transactions.TransactionCall.TheVariants.{Ask, Answer}
use Rattle.at_event.specs.declared.zones.ZoneCall.TheVariants as zone
use Rattle.at_event.specs.declared.Report.{Report}
use Rattle.at_event.specs.declared.Report.TheVariants as report
use Rattle.at_event.specs.declared.transactions.TransactionReport.TheVariants as atp_report
use Rattle.at_event.specs.declared.zones.ZoneReport.TheVariants as zip_report
use Rattle.at_world.specs.Machine.AtpGuards.{AtpMachine, Says, StepBy}
use Rattle.at_world.specs.Cables.{Cable}
use Rattle.at_world.specs.Stories.{tables_by}
use Rattle.at_setup.specs.declared.event.Event.{Event}
use Rattle.at_setup.specs.declared.event.Event.TheVariants as event

abbrev AreTablesBy : {A : Type 0} → AtpMachine → Event A → Report A → AtpMachine → Type 0
AreTablesBy m e r m' = m'.tables ≡ tables_by e r m.tables

kept_of : {m m' : AtpMachine} → m ≡ m' → m.tables ≡ m'.tables
kept_of e = ap (λ (m : AtpMachine). m.tables) e

says_tables : {A : Type 0} (c : Cable) (m : AtpMachine) (e : Event A) (r : Report A) (m' : AtpMachine) → Says c m e r m'
    → AreTablesBy m e r m'
says_tables c m (event.Call node (Zones (zone.Read which))) (report.Transactions (atp_report.Begun tid)) m' h =
    kept_of h.becomes
says_tables c m (event.Call node (Transactions (Ask k socket user bytes wanted xo retries)))
    (report.Transactions (atp_report.Begun tid)) m' h =
    kept_of h
says_tables c m (event.Call node call) (report.Transactions (atp_report.Begun tid)) m' h = absurd h
says_tables c m (event.Call node (Transactions (Answer key packets))) (report.Transactions (atp_report.Answered count))
    m' h = kept_of h.becomes
says_tables c m (event.Call node call) (report.Transactions (atp_report.Answered count)) m' h = absurd h
says_tables c m (event.Call node (Zones (zone.Set which names))) (report.Zones zip_report.TableSet) m' h =
    kept_of h.becomes
says_tables c m (event.Call node call) (report.Zones zip_report.TableSet) m' h = absurd h
says_tables c m (event.Deliver which node) (report.Transactions (atp_report.Begun tid)) m' h = kept_of h.becomes
says_tables c m (event.Deliver which node) (report.Zones (zip_report.Served count)) m' h = kept_of h.becomes
says_tables c m (event.Deliver which node) (report.Transactions (atp_report.Asked key user bytes)) m' h = kept_of h.1
says_tables c m (event.Deliver which node) (report.Transactions (atp_report.Response tid packets)) m' h = kept_of h.1
says_tables c m (event.Deliver which node) (report.Zones (zip_report.List table names)) m' h = kept_of h.becomes
says_tables c m (event.Deliver which node) (report.Transactions atp_report.Kept) m' h = kept_of h
says_tables c m (event.Deliver which node) (report.Transactions atp_report.Released) m' h = kept_of h
says_tables c m (event.Timer node timer) (report.Transactions atp_report.Expired) m' h = kept_of h
says_tables c m (event.Timer node timer) (report.Transactions (atp_report.Failed tid)) m' h = kept_of h
says_tables c m (event.Timer node timer) (report.Zones zip_report.Unanswered) m' h = kept_of h.becomes
says_tables c m e r m' h = absurd h

-- a report that sets the table is of this part
moment_tables : {A : Type 0} (m : AtpMachine) (e : Event A) (r : Report A) (m' : AtpMachine) → m'.tables ≡ m.tables
    → (reporter_of r ≡ Atp → ⊥) → AreTablesBy m e r m'
moment_tables m (event.Call node (Zones (zone.Set which names))) (report.Zones zip_report.TableSet) m' same other =
    absurd (other refl)
moment_tables m e r m' same other = same

pub tables_follow : {A : Type 0} (c : Cable) (m : AtpMachine) (e : Event A) (r : Report A) (m' : AtpMachine)
    (owner : Speaker) → reporter_of r ≡ owner → StepBy c m e r m' owner → AreTablesBy m e r m'
tables_follow c m e r m' Atp its h = says_tables c m e r m' h
tables_follow c m e r m' other its h = moment_tables m e r m' (kept_of h) (λ is. cc)
