-- What the machine knows of the ends of streams, and which reports of them it allows (Inside AppleTalk, ADSP, "Opening
-- a connection", "Data flow", "Forward resets"). It has no segment, no sequence number and no window.
use Rattle.std.specs.Prelude.{◌≡◌, ℕ, ◌+◌, Bool, true, false, List, [], ◌∷◌, find, take, Some}
use Rattle.at_ddp.specs.declared.address.Address.{Address}
use Rattle.at_adsp_end.specs.declared.item.Item.{Item}
use Rattle.at_adsp.specs.Connections.{begun}
use Rattle.at_adsp.specs.Meetings.{OpensWith, ReadsWith}
use Rattle.at_adsp.specs.Streams.{Stream, Deed, Wrote, Read as HasRead, GaveUp, has_number, with_deed}
use Rattle.at_event.specs.Kinds.{Speaker, Adsp}
use Rattle.at_event.specs.declared.Call.TheVariants.{Streams}
use Rattle.at_event.specs.declared.streams.StreamCall.TheVariants.{Open, Connect, Write, Read, Reset}
use Rattle.at_event.specs.declared.Report.{Report}
use Rattle.at_event.specs.declared.Report.TheVariants as report
use Rattle.at_event.specs.declared.streams.StreamReport.{StreamReport}
use Rattle.at_event.specs.declared.streams.StreamReport.TheVariants as adsp_report
use Rattle.at_stream_socket.specs.Sockets.{streams_at}
use Rattle.at_session.specs.Sessions.{address_at}
use Rattle.at_steps.specs.StreamSteps.{is_plain_report}
use Rattle.at_world.specs.Cables.{Cable, at_net}
use Rattle.at_world.specs.Events.{act_of}
use Rattle.at_world.specs.Machine.SessionGuards.{Sessions}
use Rattle.at_setup.specs.declared.event.Event.{Event}
use Rattle.at_setup.specs.declared.event.Event.TheVariants as event

-- how many events there were, and all ends that were ever made, newest first
pub record StreamMachine : Type 0 where
  pub events : ℕ
  pub streams : List Stream

abbrev pub opening : StreamMachine
opening = record { events = 0; streams = [] }

-- the same after one event more
abbrev pub next : StreamMachine → StreamMachine
next m = record m { events = m.events + 1 }

-- ---- the steps, one for each report

-- an end is made, without a peer, at which nothing was written and nothing was read
abbrev pub MakesEnd : Cable → StreamMachine → ℕ → ℕ → Bool → Address → StreamMachine → Type 0
MakesEnd c m node id listener asked m' =
    m' ≡ next (record m { streams = begun m.events (streams_at c.net node) id listener asked ∷ m.streams })

-- an end is made that asks the address of an entry of what the node's last lookup found
pub record OpensFound (c : Cable) (ss : Sessions) (m : StreamMachine) (node index id : ℕ) (m' : StreamMachine)
    : Type 0 where
  pub asked : Address
  pub found : address_at (ss node) index ≡ Some asked
  pub makes : MakesEnd c m node id false asked m'

-- an end opens, and has a peer from now on
pub record OpensEnd (c : Cable) (m : StreamMachine) (node id : ℕ) (m' : StreamMachine) : Type 0 where
  pub now : List Stream
  pub opens : OpensWith m.streams now (streams_at c.net node) id
  pub becomes : m' ≡ next (record m { streams = now })

-- the user of the newest end of a node with this identifier did this with it
pub record Does (c : Cable) (m : StreamMachine) (node id : ℕ) (deed : Deed) (m' : StreamMachine) : Type 0 where
  pub end : Stream
  pub stands : find (has_number (streams_at c.net node) id) m.streams ≡ Some end
  pub becomes : m' ≡ next (record m { streams = with_deed (streams_at c.net node) id deed m.streams })

-- All that was read from an end so far, these items included, reads from all that was written at its peer.
pub record ReadsEnd (c : Cable) (m : StreamMachine) (node id : ℕ) (items : List Item) (m' : StreamMachine)
    : Type 0 where
  pub reads : ReadsWith m.streams (streams_at c.net node) id items
  pub becomes : m' ≡ next (record m { streams = with_deed (streams_at c.net node) id (HasRead items) m.streams })

-- The reports of streams, row by row. Those that the last row is for say nothing new of what was written and read. Of
-- which event each of them comes, `is_plain_report` says.
abbrev pub Tells : {A : Type 0} → Cable → Sessions → StreamMachine → StreamReport A → Event A → StreamMachine
    → Type 0
Tells c ss m (adsp_report.Opening id) (event.Call node (Streams (Connect to socket))) m' =
    MakesEnd c m node id false (at_net c to socket) m'
Tells c ss m (adsp_report.Opening id) (event.Call node (Streams (Open index))) m' = OpensFound c ss m node index id m'
Tells c ss m (adsp_report.Made id) (event.Deliver which node) m' =
    (asked : Address) × MakesEnd c m node id true asked m'
Tells c ss m (adsp_report.Opened id) (event.Deliver which node) m' = OpensEnd c m node id m'
Tells c ss m (adsp_report.Wrote count) (event.Call node (Streams (Write id items))) m' =
    Does c m node id (Wrote (take count items)) m'
Tells c ss m (adsp_report.Read items) (event.Call node (Streams (Read id count))) m' = ReadsEnd c m node id items m'
Tells c ss m adsp_report.Reset (event.Call node (Streams (Reset id))) m' = Does c m node id GaveUp m'
Tells c ss m r e m' = (is_plain_report r (act_of e) ≡ true) × (m' ≡ next m)

-- a report of this protocol is one of streams
abbrev pub Says : {A : Type 0} → Cable → Sessions → StreamMachine → Event A → Report A → StreamMachine → Type 0
Says c ss m e (report.Streams r) m' = Tells c ss m r e m'
Says c ss m e r m' = ⊥

-- at a report of another protocol, or of nobody, nothing changes
abbrev pub StepBy : {A : Type 0} → Cable → Sessions → StreamMachine → Event A → Report A → StreamMachine → Speaker
    → Type 0
StepBy c ss m e r m' Adsp = Says c ss m e r m'
StepBy c ss m e r m' other = m' ≡ next m
