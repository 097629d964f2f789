-- Captured frames, whatever the form of the file.
use Rattle.std.specs.Prelude.{ℕ, ◌*◌, ◌/◌, ◌%◌, ◌^◌, min, List, Option, Some}
use Rattle.at_pcap.specs.Captures.{Record}
use Rattle.at_pcap.specs.declared.file_header.FileHeader.{FileHeader}
use Rattle.at_pcap.specs.declared.file_header.Precision.{Precision}
use Rattle.at_pcap.specs.declared.file_header.Precision.TheVariants.{Microseconds, Nanoseconds}
use Rattle.at_pcap.specs.declared.frame.FrameHeader.{FrameHeader}
use Rattle.at_pcap.specs.declared.frame.Time.{Time}
use Rattle.at_pcap.specs.declared.interface.Resolution.{Resolution}
use Rattle.at_pcap.specs.declared.interface.Resolution.TheVariants.{Binary, Decimal}

-- a captured frame: the type of its link, when it was captured if the file says so, how many bytes it had on its link,
-- and the captured bytes
pub record Frame : Type 0 where
  pub link_type : ℕ
  pub time : Option Time
  pub original : ℕ
  pub captured : List ℕ

-- the frame of this header and these captured bytes
abbrev pub frame_with : FrameHeader → List ℕ → Frame
frame_with h bytes = record { link_type = h.link_type; time = h.time; original = h.original; captured = bytes }

-- how many digits the fractions of a classic capture have
abbrev pub digits_of : Precision → ℕ
digits_of Microseconds = 6
digits_of Nanoseconds = 9

-- the frame of a record of a classic capture with this file header
abbrev pub frame_of : FileHeader → Record → Frame
frame_of h p = record {
  link_type = h.link_type;
  time = Some (record { seconds = p.seconds; fraction = p.fraction; digits = digits_of h.precision });
  original = p.original;
  captured = p.captured;
}

-- how many ticks a second has: a power of ten up to 9, or of two up to 30
abbrev pub ticks_in : Resolution → ℕ
ticks_in (Decimal digits) = 10 ^ min digits 9
ticks_in (Binary bits) = 2 ^ min bits 30

-- a time in ticks: whole seconds, and the rest as a fraction, which is told in nanoseconds, rounded down, if a second
-- has a power of two of ticks
abbrev pub time_of : Resolution → ℕ → Time
time_of (Decimal digits) ticks = record {
  seconds = ticks / ticks_in (Decimal digits);
  fraction = ticks % ticks_in (Decimal digits);
  digits = digits;
}
time_of (Binary bits) ticks = record {
  seconds = ticks / ticks_in (Binary bits);
  fraction = ticks % ticks_in (Binary bits) * 1000000000 / ticks_in (Binary bits);
  digits = 9;
}
