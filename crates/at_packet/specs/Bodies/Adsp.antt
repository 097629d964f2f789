-- What the data of a datagram of ADSP is decoded as.
use Rattle.std.specs.Prelude.{◌≡◌, ℕ, List, Result, IfOk, IfErr, IsOkAnd}
use Rattle.at_adsp_frame.specs.Fault as adsp
use Rattle.at_adsp_frame.specs.Segments as segments
use Rattle.at_adsp_frame.specs.declared.fault.AdspFault.{AdspFault}
use Rattle.at_adsp_frame.specs.declared.segment.Segment.{Segment}

-- all of the data is this segment, or this is the first fault of the data
pub record IsSegment (bytes : List ℕ) (decoded : Result Segment AdspFault) : Type 0 where
  pub found : IfOk decoded (λ s. segments.Spells bytes (segments.content s))
  pub only : (s : segments.Content) → segments.Spells bytes s → IsOkAnd decoded (λ t. segments.content t ≡ s)
  pub fault : IfErr decoded (λ fault. adsp.IsFirstFault fault bytes)
