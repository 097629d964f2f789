-- What a frame carries, wherever its bytes lie in memory.
use Rattle.std.specs.Prelude.{ℕ, List, Result, Ok, Err}
use Rattle.at_frames.specs.declared.carried.Carried.{Carried}
use Rattle.at_frames.specs.declared.carried.Carrier.{Carrier}
use Rattle.at_frames.specs.declared.carried.Header.{Header}
use Rattle.at_frames.specs.declared.carried.Reason.{Reason}
use Rattle.at_frames.specs.declared.carried.Stations.{Stations}

-- a datagram, with its carrier, the stations of its link, and which header it has
pub record Load : Type 0 where
  pub carrier : Carrier
  pub stations : Stations
  pub header : Header
  pub bytes : List ℕ

-- what was found, as a value
abbrev pub load_of : Carried → Load
load_of c = record { carrier = c.carrier; stations = c.stations; header = c.header; bytes = c.bytes.now }

-- the same of an answer
abbrev pub told_of : Result Carried Reason → Result Load Reason
told_of (Ok c) = Ok (load_of c)
told_of (Err reason) = Err reason
