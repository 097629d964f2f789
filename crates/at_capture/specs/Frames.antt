-- Frames of captures, whatever the form of the file.
use Rattle.std.specs.Prelude.{ℕ, List, Option}
use Rattle.at_capture.specs.declared.frame.Frame.{Frame}
use Rattle.at_pcap.specs.Frames.{Frame as Captured}
use Rattle.at_pcap.specs.declared.frame.Time.{Time}

-- the type of the link, the time if the file has it, and the captured bytes, wherever they lie in memory
pub record Content : Type 0 where
  pub link_type : ℕ
  pub time : Option Time
  pub bytes : List ℕ

abbrev pub content : Frame → Content
content f = record { link_type = f.link_type; time = f.time; bytes = f.bytes.now }

-- what is printed of a captured frame
abbrev pub frame_of : Captured → Content
frame_of f = record { link_type = f.link_type; time = f.time; bytes = f.captured }
