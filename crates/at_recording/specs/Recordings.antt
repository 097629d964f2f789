-- Recordings: classic captures of the datagrams that are sent.
use Rattle.std.specs.Prelude.{ℕ, List, [], ◌∷◌, ◌++◌, length, Option, Some, None}
use Rattle.at_pcap.specs.Captures.{Record, written_file_header}
use Rattle.at_pcap.specs.Readings.{records_bytes}
use Rattle.at_pcap.specs.declared.file_header.FileHeader.{FileHeader}
use Rattle.at_pcap.specs.declared.file_header.Precision.TheVariants.{Microseconds}
use Rattle.at_pcap.specs.declared.order.Order.TheVariants.{Little}
use Rattle.at_recording.specs.Frames.{Sending, frame_of}
use Rattle.at_recording.specs.Moments.{moment_after}
use Rattle.at_recording.specs.declared.moment.Moment.{Moment}

-- the record of a datagram: its frame, with the number of its event as seconds, and its place there as microseconds
abbrev pub record_at : Moment → ℕ → List ℕ → Record
record_at m to bytes = record {
  seconds = m.event;
  fraction = m.place;
  original = length (frame_of to bytes);
  captured = frame_of to bytes;
}

-- the records of datagrams in the order of sending, the last before them at this moment
abbrev pub records_after : Option Moment → List Sending → List Record
records_after last [] = []
records_after last (s ∷ ss) =
    record_at (moment_after last s.event) s.to s.bytes ∷ records_after (Some (moment_after last s.event)) ss

-- the records of all that is sent
abbrev pub records_of : List Sending → List Record
records_of sent = records_after None sent

-- what a recording says of its records: the lowest byte of a number comes first, microseconds, Ethernet
abbrev pub front : FileHeader
front = record { order = Little; precision = Microseconds; link_type = 1 }

-- a classic capture of all that is sent
abbrev pub recording : List Sending → List ℕ
recording sent = written_file_header front 65535 ++ records_bytes Little (records_of sent)
