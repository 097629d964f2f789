-- What the data of a datagram of ATP is decoded as.
use Rattle.std.specs.Prelude.{◌≡◌, ℕ, List, Result, IfOk, IfErr, IsOkAnd}
use Rattle.at_atp_frame.specs.Fault as atp
use Rattle.at_atp_frame.specs.Frames as frames
use Rattle.at_atp_frame.specs.declared.fault.AtpFault.{AtpFault}
use Rattle.at_atp_frame.specs.declared.frame.Frame.{Frame}

-- all of the data is this packet of ATP, or this is the first fault of the data
pub record IsFrame (bytes : List ℕ) (decoded : Result Frame AtpFault) : Type 0 where
  pub found : IfOk decoded (λ f. frames.Spells bytes (frames.content f))
  pub only : (f : frames.Content) → frames.Spells bytes f → IsOkAnd decoded (λ g. frames.content g ≡ f)
  pub fault : IfErr decoded (λ fault. atp.IsFirstFault fault bytes)
