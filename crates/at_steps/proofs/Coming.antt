-- What comes of an event at a node that one protocol has: its part alone changes, all that it sends is of its type, and
-- it reports only what is its own or nobody's.
use Rattle.std.proofs.Common.{◌≡◌, ℕ, false, List, [], ◌∷◌, refl, sym, ap, subst, ◌∙◌}
use Rattle.std.specs.List.{AllByRecursion}
use Rattle.std.proofs.lemmas.Bool.{true≢false}
use Rattle.at_ddp.specs.declared.address.Address.{Address}
use Rattle.at_event.specs.Kinds.{Speaker, Nobody, reporter_of}
use Rattle.at_event.specs.Outcomes.{Outcome, sent_by}
use Rattle.at_event.specs.declared.Report.{Report}
use Rattle.at_event.specs.declared.Report.TheVariants as report
use Rattle.at_event.specs.declared.zones.ZoneReport.TheVariants as zip_report
use Rattle.at_node.specs.Nodes.{NodeState}
use Rattle.at_session.specs.Sessions.{SessionState, list_kept}
use Rattle.at_steps.specs.Acts.{Act, IsSaid}
use Rattle.at_steps.specs.AtpHappenings.{is_atp}
use Rattle.at_steps.specs.SessionSteps.{MayPick, after as kept_after}

-- a report of this protocol, or nobody's
abbrev pub IsOf : Speaker → Speaker → Type 0
IsOf whose Nobody = Unit {0}
IsOf whose k = k ≡ whose

-- such a report, which may be said
abbrev pub MaySay : (A : Type 0) → Speaker → Act A → Report A → Type 0
MaySay A whose act r = IsOf whose (reporter_of r) × IsSaid act r

-- what comes of an event at the part of a protocol, whose datagrams have this type
abbrev pub Speaks : (A : Type 0) → {S : Type 0} → ℕ → Speaker → Act A → Outcome A S → Type 0
Speaks A kind whose act o = AllByRecursion (λ p. p.kind ≡ kind) o.out × MaySay A whose act o.report

-- What comes of it at the node. The node's part is that of its new state, as `take` takes it from there.
pub record ComesBy (A : Type 0) (take : NodeState → NodeState → NodeState) (kind : ℕ) (whose : Speaker) (n : NodeState)
    (act : Act A) (o : Outcome A NodeState) : Type 0 where
  pub state : o.state ≡ record (take n o.state) { session = kept_after n.session act o.report }
  pub its : Speaks A kind whose act o

-- all that a socket sends is of one type
pub all_sent : (kind : ℕ) (own : Address) (pushes : List (Address × List ℕ))
    → AllByRecursion (λ p. p.kind ≡ kind) (sent_by own kind pushes)
all_sent kind own [] = tt
all_sent kind own (push ∷ pushes) = (refl, all_sent kind own pushes)

-- a protocol that reads no zone lists tells of none
pub no_list : (A : Type 0) (s : SessionState) (whose : Speaker) → is_atp whose ≡ false → (r : Report A)
    → IsOf whose (reporter_of r) → s ≡ list_kept s r
no_list A s whose apart (report.Zones (zip_report.List kind names)) h = absurd (true≢false (ap is_atp h ∙ apart))
no_list A s whose apart r h = refl

-- what a session may be told by a protocol, it may be told by nobody
pub may_pick : (A : Type 0) (s : SessionState) (act : Act A) (r : Report A) (whose k : Speaker) → MayPick s act r whose
    → IsOf whose k → MayPick s act r k
may_pick A s act r whose Nobody picks h = tt
may_pick A s act r whose k picks h = subst (MayPick s act r) (sym h) picks
