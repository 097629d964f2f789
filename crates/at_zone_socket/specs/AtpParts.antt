-- The part of a node that speaks ATP: the sockets for transactions, and ZIP, which is a user of them.
use Rattle.std.specs.Prelude.{Option}
use Rattle.at_zip.specs.Tables.{Tables}
use Rattle.at_transaction_socket.specs.TransactionSockets as transactions
use Rattle.at_transaction_socket.specs.TransactionSockets.{TransactionState}
use Rattle.at_zone_socket.specs.ZoneSockets as zones
use Rattle.at_zone_socket.specs.ZoneSockets.{Reading, ZoneState}

pub record AtpState : Type 0 where
  pub transactions : TransactionState
  pub zones : ZoneState

abbrev pub both : TransactionState → ZoneState → AtpState
both t z = record { transactions = t; zones = z }

abbrev pub opening : Option Tables → AtpState
opening tables = both transactions.opening (zones.opening tables)

-- a new state of one part
abbrev pub with_transactions : AtpState → TransactionState → AtpState
with_transactions a part = record a { transactions = part }

abbrev pub with_zones : AtpState → ZoneState → AtpState
with_zones a part = record a { zones = part }

-- a new state of the sockets for transactions, of which the reading becomes this
abbrev pub with_reading : AtpState → Option Reading → TransactionState → AtpState
with_reading a reading part = record { transactions = part; zones = record a.zones { reading = reading } }
