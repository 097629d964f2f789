-- What a step of a node is in words of its user's session: which reports the session keeps, and which zone may be
-- picked (Inside AppleTalk, ZIP, "GetZoneList", "GetLocalZones"; NBP, "Name lookup").
use Rattle.std.specs.Prelude.{◌≡◌, ℕ, List, true}
use Rattle.at_event.specs.Kinds.{Speaker, Session, reporter_of}
use Rattle.at_event.specs.declared.Call.TheVariants.{Names}
use Rattle.at_event.specs.declared.Call.TheVariants as protocol
use Rattle.at_event.specs.declared.names.NameCall.TheVariants.{Finish}
use Rattle.at_event.specs.declared.session.SessionCall.TheVariants.{Pick}
use Rattle.at_event.specs.declared.Report.{Report}
use Rattle.at_event.specs.declared.Report.TheVariants as report
use Rattle.at_session.specs.Sessions.{SessionState, finds_kept, is_listed, list_kept, picking}
use Rattle.at_steps.specs.Acts.{Act, Calls, Gets}

-- the zone is picked, unless this is refused
abbrev pub pick_kept : {A : Type 0} → SessionState → List ℕ → Report A → SessionState
pick_kept s zone report.Picked = picking s zone
pick_kept s zone other = s

-- The session after a step with this report. It keeps the zone list that a datagram ends a reading with, what a lookup
-- found that its user ends, and the zone that its user picks.
abbrev pub after : {A : Type 0} → SessionState → Act A → Report A → SessionState
after s (Calls (protocol.Session (Pick zone))) r = pick_kept s zone r
after s (Calls (Names (Finish id))) r = finds_kept s r
after s (Gets datagram) r = list_kept s r
after s act r = s

-- a zone is picked by this call alone, and stands in a zone list that was read last
abbrev pub Picks : {A : Type 0} → SessionState → Act A → Report A → Type 0
Picks s (Calls (protocol.Session (Pick zone))) report.Picked = is_listed s zone ≡ true
Picks s act r = ⊥

-- so each report of a session tells this; the others are not its own
abbrev pub MayPick : {A : Type 0} → SessionState → Act A → Report A → Speaker → Type 0
MayPick s act r Session = Picks s act r
MayPick s act r other = Unit {0}

-- a step of a session
pub record IsStep {A : Type 0} (s : SessionState) (act : Act A) (r : Report A) (now : SessionState) : Type 0 where
  pub becomes : now ≡ after s act r
  pub picks : MayPick s act r (reporter_of r)
