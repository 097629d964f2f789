-- What is printed of the datagram that a frame carries.
use Rattle.std.specs.Prelude.{ℕ, ◌+◌, List, [], ◌∷◌, ◌++◌, length, Some, codes}
use Rattle.std.specs.Fmt.{decimal}
use Rattle.std.specs.List.{concat}
use Rattle.at_ddp.specs.Datagram.{BeginsWith, Content}
use Rattle.at_frames.specs.Short.{BeginsWithShort}
use Rattle.at_frames.specs.ShortFaults.{IsFirstFault, number_of}
use Rattle.at_frames.specs.declared.carried.Header.{Header}
use Rattle.at_frames.specs.declared.carried.Header.TheVariants.{Long, Short}
use Rattle.at_frames.specs.declared.short_fault.ShortFault.{ShortFault}
use Rattle.at_print.specs.Refusals.{refusal_line}
use Rattle.at_print.specs.Reports.{DataText, IsReadable}
use Rattle.at_show.specs.Shown.{IsSound}
use Rattle.at_show.specs.Texts.{BytesText}

-- the bytes begin with this datagram, by the header that its frame says, and then rest
abbrev pub BeginsBy : Header → List ℕ → Content → List ℕ → Type 0
BeginsBy Long bytes d rest = BeginsWith bytes d rest
BeginsBy (Short to from) bytes d rest = BeginsWithShort to from bytes d rest

-- the line of a short header; so many bytes follow the datagram
abbrev pub short_line : Content → ℕ → List ℕ
short_line d rest = concat (
    codes "ddp short length " ∷ decimal (5 + length d.data_)
    ∷ codes " from " ∷ decimal d.from.node ∷ codes "." ∷ decimal d.from.socket
    ∷ codes " to " ∷ decimal d.to.node ∷ codes "." ∷ decimal d.to.socket
    ∷ codes " type " ∷ decimal d.kind ∷ codes " rest " ∷ decimal rest ∷ codes "\n" ∷ [])

-- what is printed of bytes between these nodes: the short header and the data of the datagram with which they begin, or
-- the first fault by its number
pub data ShortText (to from : ℕ) (bytes : List ℕ) : List ℕ → Type 0 where
  Begin : (d : Content) (rest text : List ℕ) → BeginsWithShort to from bytes d rest → DataText d.kind d.data_ text
      → ShortText to from bytes (short_line d (length rest) ++ text)
  Stop : (fault : ShortFault) → IsFirstFault fault bytes
      → ShortText to from bytes (refusal_line (Some (number_of fault)))

-- the same by the header that the frame says
abbrev pub DatagramText : Header → List ℕ → List ℕ → Type 0
DatagramText Long bytes text = BytesText bytes text
DatagramText (Short to from) bytes text = ShortText to from bytes text

-- between these nodes the bytes begin with a datagram whose data can be read
pub record IsSoundShort (to from : ℕ) (bytes : List ℕ) : Type 0 where
  pub datagram : Content
  pub rest : List ℕ
  pub begins : BeginsWithShort to from bytes datagram rest
  pub readable : IsReadable datagram.kind datagram.data_

-- nothing of the datagram is refused
abbrev pub IsSoundBy : Header → List ℕ → Type 0
IsSoundBy Long bytes = IsSound bytes
IsSoundBy (Short to from) bytes = IsSoundShort to from bytes
