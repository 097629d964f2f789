-- What the layers below promise of a node's steps.
use Rattle.std.proofs.Common.{◌≡◌, ℕ, ◌≤◌, true, false, List, [], length, Option, Some, None}
use Rattle.std.specs.Prelude.{find, ◌==◌}
use Rattle.std.specs.List.{AllByRecursion}
use Rattle.at_ddp.specs.Datagram.{canonical, IsAddress, AreBytes}
use Rattle.at_ddp.specs.declared.address.Address.{Address}
use Rattle.at_atp_frame.specs.Frames.{Content, IsLawful, spelled, number_of}
use Rattle.at_atp_frame.specs.Packets.{Packet}
use Rattle.at_atp_requester.specs.Requests.{Requests, Retried, finishes, has_number, next_number, is_finished, heard}
use Rattle.at_atp_requester.specs.Requests.{retried}
use Rattle.at_atp_requester.specs.declared.progress.Retry.TheVariants.{Failed}
use Rattle.at_atp_responder.specs.Records.{Record, is_key, received, record_fault, asked_for}
use Rattle.at_atp_responder.specs.declared.reception.Key.{Key}
use Rattle.at_atp_responder.specs.declared.reception.Reception.TheVariants.{New}
use Rattle.at_atp.specs.Lawfully.{IsInRange, IsLawfullySent}
use Rattle.at_ddp.specs.Posts.{AllSent}
use Rattle.at_ddp.specs.Protocols.{atp_kind}
use Rattle.at_atp.specs.Network.{Happening, AllTimely, GivesAnswers, after}
use Rattle.at_zip.specs.Page.{page_of, page_user, page_data}
use Rattle.at_zip.specs.Tables.{Tables, AreTables, with_table}
use Rattle.at_zip.specs.Zones.{IsTable, table_fault}
use Rattle.at_zip.specs.declared.request.TableChoice.{TableChoice}
use Rattle.at_node.specs.Hearing.{Hears, HearsSent}
use Rattle.at_node.specs.Nodes.{NodeState}
use Rattle.at_event.specs.Outcomes.{Outcome}
use Rattle.at_event.specs.declared.service.Reply.{Reply}

-- of calls
pub record CallLaws (A : Type 0) : Type 0 where
  pub answers : (history : List Happening) → AllTimely A history → GivesAnswers A (after A history)
  pub drawn : (r : Requests) (tid : ℕ) → next_number r ≡ Some tid → has_number r.standing tid ≡ false
  pub few : (o : Option Record) (key : Key) (packets : List Packet) → length (asked_for o key packets) ≤ length packets
  pub tables : (names : List (List ℕ)) → table_fault names ≡ None → IsTable names
  pub sets : (which : TableChoice) (names : List (List ℕ)) (tables : Tables) → IsTable names → AreTables tables
      → AreTables (with_table which names tables)

-- a number stays open until its transaction fails
abbrev pub StaysOpen : Type 0
StaysOpen = (r : Requests) (other tid : ℕ) (e : Retried) → retried r other ≡ Some e → has_number r.standing tid ≡ true
    → (e.step ≡ Failed → (other == tid) ≡ false) → has_number e.after.standing tid ≡ true

-- of datagrams that come
pub record HearingLaws (A : Type 0) : Type 0 where
  pub answers : (history : List Happening) → AllTimely A history → GivesAnswers A (after A history)
  pub hears : (said : Reply A) (n : NodeState) (to from : Address) (f : Content) (o : Outcome A NodeState)
      → IsAddress to → IsAddress from → IsLawful f → Hears said n (canonical to from atp_kind (spelled f)) o
      → HearsSent said n to from f o
  pub lawful_sent : (history : List Happening) → AllByRecursion IsInRange history
      → AllSent IsLawfullySent (after A history).sent
  pub heard_stays : (r : Requests) (from : Address) (f : Content) (tid : ℕ) → has_number r.standing tid ≡ true
      → (is_finished (heard {A = A} r from f).step ≡ true → (number_of f == tid) ≡ false)
      → has_number (heard {A = A} r from f).after.standing tid ≡ true
  pub new_waits : (rs : List Record) (from : Address) (f : Content) (key : Key)
      → (received rs from f).reception ≡ New key
      → (record_fault (find (is_key key) (received rs from f).after) ≡ None) × ((received rs from f).sent ≡ [])
      × (key ≡ record { from = from; tid = number_of f })
  pub few : (o : Option Record) (key : Key) (packets : List Packet) → length (asked_for o key packets) ≤ length packets
  pub quiet_end : (r : Requests) (from : Address) (f : Content) → finishes A r from f ≡ true
      → (heard {A = A} r from f).sent ≡ []
  pub user : (table : List (List ℕ)) (start : ℕ) → AreBytes (page_user (page_of table start))
  pub bytes : (table : List (List ℕ)) (start : ℕ) → IsTable table → AreBytes (page_data (page_of table start))
  pub fits : (table : List (List ℕ)) (start : ℕ) → length (page_data (page_of table start)) ≤ 578
