-- What a step of a node is in words of names and lookups (Inside AppleTalk, NBP, "Name registration", "Name lookup").
-- Packets and retries play no part.
use Rattle.std.specs.Prelude.{◌≡◌, ℕ, Bool, true, false, List, [], find, Option, Some, None}
use Rattle.at_ddp.specs.Tables.{without_first}
use Rattle.at_nbp.specs.Lookups.{Search, search_of}
use Rattle.at_nbp.specs.NameTables.{IsRegistered, is_called, register_fault}
use Rattle.at_nbp.specs.declared.find.Find.{Find as Found}
use Rattle.at_nbp.specs.declared.names.Registered.{Registered}
use Rattle.at_name_socket.specs.NameSockets.{SocketState, any_pattern, taker}
use Rattle.at_name_socket.specs.Sockets as sockets
use Rattle.at_name_socket.specs.Sockets.{Closes, Opens, Stays, changed, claim_of, open_at}
use Rattle.at_name_socket.specs.declared.claim.Claim.{Claim as Claimed}
use Rattle.at_session.specs.Sessions.{SessionState, pattern_asked}
use Rattle.at_event.specs.declared.Call.TheVariants.{Names}
use Rattle.at_event.specs.declared.names.NameCall.TheVariants.{Find, Claim, Finish, Register, Unregister}
use Rattle.at_event.specs.declared.Report.{Report}
use Rattle.at_event.specs.declared.Report.TheVariants as report
use Rattle.at_event.specs.declared.names.NameReport.TheVariants as nbp_report
use Rattle.at_event.specs.declared.Timer.TheVariants as timer
use Rattle.at_event.specs.declared.names.NameTimer.TheVariants as nbp_timer
use Rattle.at_steps.specs.Acts.{Act, Calls, Fires, Gets}

-- a report that says nothing new of names and lookups
abbrev pub is_plain : {A : Type 0} → Act A → Report A → Bool
is_plain act (report.Refused number) = true
is_plain act report.NoMemory = true
is_plain (Gets datagram) report.Ignored = true
is_plain (Gets datagram) (report.Names nbp_report.Relayed) = true
is_plain (Gets datagram) (report.Names (nbp_report.Matched count)) = true
is_plain (Gets datagram) (report.Names (nbp_report.Added count)) = true
is_plain (Fires (timer.Names (nbp_timer.Lookup id))) report.Again = true
is_plain act r = false

-- the socket for names before and after, the session of the node's user, what happened, and its report
pub record Change (A : Type 0) : Type 0 where
  pub part : SocketState
  pub now : SocketState
  pub session : SessionState
  pub act : Act A
  pub report : Report A

-- the open lookups change so
abbrev pub Lookups : {A : Type 0} → Change A → sockets.Change → Type 0
Lookups c change = (id : ℕ) → open_at c.now id ≡ changed change (open_at c.part) id

-- a lookup that is open, whether it is a claim, and what it found so far
pub record IsOpen (s : SocketState) (id : ℕ) (claim : Option Claimed) (finds : List Found) : Type 0 where
  pub looked : Search
  pub stands : search_of s.lookups id ≡ Some looked
  pub claims : claim_of s id ≡ claim
  pub found : looked.finds ≡ finds

-- nothing but what the report says
pub record IsPlain {A : Type 0} (c : Change A) : Type 0 where
  pub plain : is_plain c.act c.report ≡ true
  pub table : c.now.table ≡ c.part.table
  pub lookups : Lookups c Stays

-- the node's user looks names up
pub record BeginsLookup {A : Type 0} (c : Change A) : Type 0 where
  pub id : ℕ
  pub object : List ℕ
  pub kind : List ℕ
  pub zone : Option (List ℕ)
  pub act : c.act ≡ Calls (Names (Find object kind zone))
  pub report : c.report ≡ report.Names (nbp_report.Looking id)
  pub table : c.now.table ≡ c.part.table
  pub lookups : Lookups c (Opens id (pattern_asked c.session object kind zone) None)

-- the node's user claims a name, which is looked up in every zone
pub record BeginsClaim {A : Type 0} (c : Change A) : Type 0 where
  pub id : ℕ
  pub object : List ℕ
  pub kind : List ℕ
  pub socket : ℕ
  pub act : c.act ≡ Calls (Names (Claim object kind socket))
  pub report : c.report ≡ report.Names (nbp_report.Looking id)
  pub table : c.now.table ≡ c.part.table
  pub lookups : Lookups c (Opens id (any_pattern object kind)
      (Some (record { id = id; object = object; kind = kind; socket = socket })))

-- a lookup ends with what it found
pub record EndsLookup {A : Type 0} (c : Change A) : Type 0 where
  pub id : ℕ
  pub finds : List Found
  pub act : c.act ≡ Calls (Names (Finish id))
  pub report : c.report ≡ report.Names (nbp_report.Found finds)
  pub stands : IsOpen c.part id None finds
  pub table : c.now.table ≡ c.part.table
  pub lookups : Lookups c (Closes id)

-- a claim ends: nothing was found, no such name stands here, and now the name is registered
pub record EndsClaim {A : Type 0} (c : Change A) : Type 0 where
  pub id : ℕ
  pub claim : Claimed
  pub act : c.act ≡ Calls (Names (Finish id))
  pub report : c.report ≡ report.Names nbp_report.Claimed
  pub stands : IsOpen c.part id (Some claim) []
  pub allowed : register_fault c.part.table.names claim.object claim.kind ≡ None
  pub table : IsRegistered claim.object claim.kind claim.socket c.part.table c.now.table
  pub lookups : Lookups c (Closes id)

-- a claim ends: another has the name, or it stands here
pub record LosesClaim {A : Type 0} (c : Change A) : Type 0 where
  pub id : ℕ
  pub claim : Claimed
  pub finds : List Found
  pub owner : Found
  pub act : c.act ≡ Calls (Names (Finish id))
  pub report : c.report ≡ report.Names (nbp_report.Taken owner)
  pub stands : IsOpen c.part id (Some claim) finds
  pub taken : taker c.part finds claim ≡ Some owner
  pub table : c.now.table ≡ c.part.table
  pub lookups : Lookups c (Closes id)

-- the node's user registers a name
pub record RegistersName {A : Type 0} (c : Change A) : Type 0 where
  pub object : List ℕ
  pub kind : List ℕ
  pub socket : ℕ
  pub act : c.act ≡ Calls (Names (Register object kind socket))
  pub report : c.report ≡ report.Names nbp_report.Registered
  pub allowed : register_fault c.part.table.names object kind ≡ None
  pub table : IsRegistered object kind socket c.part.table c.now.table
  pub lookups : Lookups c Stays

-- the node's user takes a name away
pub record TakesAway {A : Type 0} (c : Change A) : Type 0 where
  pub object : List ℕ
  pub kind : List ℕ
  pub name : Registered
  pub act : c.act ≡ Calls (Names (Unregister object kind))
  pub report : c.report ≡ report.Names nbp_report.Unregistered
  pub stood : find (is_called object kind) c.part.table.names ≡ Some name
  pub table : c.now.table ≡ record c.part.table {
    names = without_first (is_called object kind) c.part.table.names;
  }
  pub lookups : Lookups c Stays

-- the kinds of steps of a node
pub data IsStep {A : Type 0} (c : Change A) : Type 0 where
  Plain : IsPlain c → IsStep c
  Looks : BeginsLookup c → IsStep c
  Claims : BeginsClaim c → IsStep c
  Finds : EndsLookup c → IsStep c
  HasClaimed : EndsClaim c → IsStep c
  HasLost : LosesClaim c → IsStep c
  Registers : RegistersName c → IsStep c
  Unregisters : TakesAway c → IsStep c
