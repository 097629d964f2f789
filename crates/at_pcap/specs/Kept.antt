-- Frames that are kept in memory.
use Rattle.std.specs.Prelude.{List, map}
use Rattle.at_pcap.specs.Frames.{Frame, frame_with}
use Rattle.at_pcap.specs.declared.kept.KeptFrames.{KeptFrames}

-- the frames so far
abbrev pub kept_frames : {A : Type 0} → KeptFrames A → List Frame
kept_frames k = map (λ f. frame_with f.header f.captured.items) k.frames.items
