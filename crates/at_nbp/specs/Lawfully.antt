-- Networks in which all that is asked and registered is in range (Inside AppleTalk, NBP, "NBP packet formats").
use Rattle.std.specs.Prelude.{◌<◌, ◌≤◌, length}
use Rattle.at_ddp.specs.Datagram.{IsAddress}
use Rattle.at_ddp.specs.declared.address.Address.{Address}
use Rattle.at_nbp.specs.Network.{Happening, Begins, Retries, Answers, Relays, Registers, Claims, Setting, Sent}
use Rattle.at_nbp.specs.Packets.{IsLawful, spelling}
use Rattle.at_nbp.specs.Tuples.{IsString}
use Rattle.at_nbp.specs.declared.name.Name.{Name}
use Rattle.at_nbp.specs.declared.names.Registered.{Registered}

-- the strings of a name or a pattern are in range
pub record IsName (n : Name) : Type 0 where
  pub object : IsString n.object
  pub kind : IsString n.kind
  pub zone : IsString n.zone

-- and so are those of a name in a table, its socket and its enumerator
pub record IsNamed (r : Registered) : Type 0 where
  pub object : IsString r.object
  pub kind : IsString r.kind
  pub socket : r.socket < 256
  pub enumerator : r.enumerator < 256

-- zones are strings, and lookups go to addresses in range
pub record IsLawfulSetting (setting : Setting) : Type 0 where
  pub zone : (at : Address) → IsString (setting.zone at)
  pub to : (at : Address) → IsAddress at → IsAddress (setting.to at)

-- what is asked, registered or sent by it is in range
abbrev pub IsInRange : Happening → Type 0
IsInRange (Begins who pattern) = IsAddress who × IsName pattern
IsInRange (Retries who id) = IsAddress who
IsInRange (Answers datagram at replies) = IsAddress at
IsInRange (Relays datagram at to zone) = IsAddress at × IsAddress to × IsString zone
IsInRange (Registers at name) = IsNamed name
IsInRange (Claims at id name) = IsNamed name
IsInRange other = Unit {0}

-- a packet that was sent can be spelled in the data of one datagram, and so can its addresses
pub record IsLawfullySent (s : Sent) : Type 0 where
  pub from_fits : IsAddress s.from
  pub to_fits : IsAddress s.to
  pub lawful : IsLawful s.packet
  pub fits : length (spelling s.packet) ≤ 586
