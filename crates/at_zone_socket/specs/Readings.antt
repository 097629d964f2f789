-- An open reading of a zone table, as its node keeps it.
use Rattle.at_zone_socket.specs.ZoneSockets.{Reading}
use Rattle.at_zone_socket.specs.declared.zone_reading.ZoneReading.{ZoneReading}

-- the table, the transaction that reads, and the names, whatever room there is for more
abbrev pub reading_of : {A : Type 0} → ZoneReading A → Reading
reading_of r = record { which = r.which; tid = r.tid; names = r.reader.names }
