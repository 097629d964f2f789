-- The part of a node that speaks ZIP: a router's zone socket, and the reading of a zone table.
use Rattle.std.specs.Prelude.{ℕ, List, [], Option, None}
use Rattle.at_ddp.specs.declared.address.Address.{Address}
use Rattle.at_atp_responder.specs.Records.{Record}
use Rattle.at_zip.specs.Tables.{Tables}
use Rattle.at_zip.specs.declared.request.TableChoice.{TableChoice}

-- a reading of a zone table: which one, the transaction that asks for the next page, and the names of the pages so far
pub record Reading : Type 0 where
  pub which : TableChoice
  pub tid : ℕ
  pub names : List (List ℕ)

pub record ZoneState : Type 0 where
  pub tables : Option Tables  -- the zone tables, if the node is the router
  pub reading : Option Reading  -- the open reading of a zone table
  pub zone_responder : List Record  -- the records of zone requests

abbrev pub opening : Option Tables → ZoneState
opening tables = record { tables = tables; reading = None; zone_responder = [] }

-- a router serves zones at 6
abbrev pub zones_at : ℕ → ℕ → Address
zones_at net number = record { net = net; node = number; socket = 6 }
