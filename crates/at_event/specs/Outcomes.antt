-- What comes of an event, at a node or at one of its parts.
use Rattle.std.specs.Prelude.{MatchBool, ◌≡◌, ℕ, Bool, true, false, List, [], ◌++◌, map, Option, Some, None}
use Rattle.at_ddp.specs.Datagram.{canonical}
use Rattle.at_ddp.specs.Outbox.{Posted}
use Rattle.at_ddp.specs.declared.address.Address.{Address}
use Rattle.at_event.specs.Kinds.{takes_memory}
use Rattle.at_event.specs.declared.Report.{Report}
use Rattle.at_event.specs.declared.Report.TheVariants as report

-- a datagram that a node sends
pub record Outgoing : Type 0 where
  pub from : Address
  pub to : Address
  pub kind : ℕ
  pub data_ : List ℕ

-- the datagram in its canonical spelling
abbrev pub posted : Outgoing → Posted
posted o = record { node = o.to.node; bytes = canonical o.to o.from o.kind o.data_ }

-- what one socket sends
abbrev pub sent_by : Address → ℕ → List (Address × List ℕ) → List Outgoing
sent_by from kind pushes =
    map (λ (p : Address × List ℕ). record { from = from; to = p.0; kind = kind; data_ = p.1 }) pushes

-- what comes of an event: the report, the state after it, and what is sent
pub record Outcome (A S : Type 0) : Type 0 where
  pub report : Report A
  pub state : S
  pub out : List Outgoing

-- the event has no effect but the report
abbrev pub idle : {A S : Type 0} → S → Report A → Outcome A S
idle s r = record { report = r; state = s; out = [] }

-- an outcome of a part, in the whole that the part makes
abbrev pub over : {A S N : Type 0} → (S → N) → Outcome A S → Outcome A N
over f o = record { report = o.report; state = f o.state; out = o.out }

-- the outcome comes of that of a part, which may come
abbrev pub Through : {A S N : Type 0} → (Outcome A S → Outcome A N) → (Outcome A S → Type 0) → Outcome A N → Type 0
Through {A} {S} f May o = (p : Outcome A S) × May p × (o ≡ f p)

-- the outcome is that of a part, which may come
abbrev pub Over : {A S N : Type 0} → (S → N) → (Outcome A S → Type 0) → Outcome A N → Type 0
Over {A} {S} f May o = (p : Outcome A S) × May p × (o ≡ over f p)

abbrev pub Exactly : {A S : Type 0} → Outcome A S → List Posted → Report A → S → List Posted → Type 0
Exactly o before r new after = (r ≡ o.report) × (new ≡ o.state) × (after ≡ before ++ map posted o.out)

-- is it out of memory?
abbrev pub wants_memory : {A : Type 0} → Report A → Bool
wants_memory report.NoMemory = true
wants_memory other = false

-- the outcome; or, if the event can run out of memory, that report and no change
abbrev pub IsStep : {A S : Type 0} → Outcome A S → S → List Posted → Report A → S → List Posted → Type 0
IsStep o old before r new after =
    MatchBool (wants_memory r)
    ((new ≡ old) × (after ≡ before) × (takes_memory o.report ≡ true))
    (Exactly o before r new after)

-- an outcome that may come; or, if the event can run out of memory, that report and no change
abbrev pub Comes : {A S : Type 0} → (Outcome A S → Type 0) → S → List Posted → Report A → S → List Posted → Type 0
Comes {A} {S} May old before r new after =
    MatchBool (wants_memory r)
    ((new ≡ old) × (after ≡ before) × ((o : Outcome A S) × May o × (takes_memory o.report ≡ true)))
    ((o : Outcome A S) × May o × Exactly o before r new after)

-- the report of a refusal by its number, or of out of memory, which has none
abbrev pub refused_as : {A : Type 0} → Option ℕ → Report A
refused_as None = report.NoMemory
refused_as (Some number) = report.Refused number
