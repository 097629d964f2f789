-- How much a node holds at most, whatever comes to it.
use Rattle.std.specs.Prelude.{◌≤◌, length, IfSome}
use Rattle.std.specs.List.{AllByRecursion}
use Rattle.at_adsp_end.specs.Ends.{FitsRooms}
use Rattle.at_adsp_ends.specs.Tables.{AreEnds}
use Rattle.at_atp_requester.specs.Requests.{IsRequester}
use Rattle.at_nbp.specs.Lookups.{AreLookups}
use Rattle.at_nbp.specs.NameTables.{AreNames}
use Rattle.at_zip.specs.Tables.{AreTables}
use Rattle.at_node.specs.Nodes.{NodeState}

-- At most 32 transactions are open, and 64 records stand at each socket that answers. At most 64 names stand, 8 lookups
-- are open with 256 finds each, and 16 ends stand with queues that fit their rooms. Each of a router's
-- tables has at most 1,024 names.
pub record IsWithin (n : NodeState) : Type 0 where
  pub requester : IsRequester n.atp.transactions.requester
  pub zone_records : length n.atp.zones.zone_responder ≤ 64
  pub service_records : length n.atp.transactions.service_responder ≤ 64
  pub tables : IfSome n.atp.zones.tables AreTables
  pub names : AreNames n.names.table.names
  pub lookups : AreLookups n.names.lookups
  pub ends : AreEnds n.streams
  pub queues : AllByRecursion FitsRooms n.streams.ends
