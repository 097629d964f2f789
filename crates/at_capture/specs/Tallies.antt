-- How frames are counted.
use Rattle.std.specs.Prelude.{ℕ, ◌-◌, ◌^◌, min, Bool, true, false, List, [], ◌∷◌, length, count_by, codes}
use Rattle.std.specs.Fmt.{decimal}
use Rattle.std.specs.List.{concat}
use Rattle.at_capture.specs.declared.tally.FrameVerdict.{FrameVerdict}
use Rattle.at_capture.specs.declared.tally.FrameVerdict.TheVariants.{Shown, Refused, Other}
use Rattle.at_capture.specs.declared.tally.Tally.{Tally}
use Rattle.at_print.specs.declared.status.Status.{Status}
use Rattle.at_print.specs.declared.status.Status.TheVariants.{Done, Failed}

-- a number of frames, up to the largest of 64 bits
abbrev pub counted : ℕ → ℕ
counted n = min n (2 ^ 64 - 1)

-- the frame carries no datagram
abbrev pub is_other : FrameVerdict → Bool
is_other Other = true
is_other verdict = false

-- the frame carries a datagram, refused or not
abbrev pub is_datagram : FrameVerdict → Bool
is_datagram Other = false
is_datagram verdict = true

-- the datagram or its packet was refused
abbrev pub is_refused : FrameVerdict → Bool
is_refused Refused = true
is_refused verdict = false

-- all frames, those with a datagram, those of them that were refused, and those without one
abbrev pub tally_of : List FrameVerdict → Tally
tally_of verdicts = record {
  frames = counted (length verdicts);
  datagrams = counted (count_by is_datagram verdicts);
  refused = counted (count_by is_refused verdicts);
  others = counted (count_by is_other verdicts);
}

-- what a frame is counted as whose datagram was shown with this status
abbrev pub verdict_of : Status → FrameVerdict
verdict_of Done = Shown
verdict_of Failed = Refused

-- the last line
abbrev pub end_line : Tally → List ℕ
end_line t = concat (
    codes "frames " ∷ decimal t.frames ∷ codes " datagrams " ∷ decimal t.datagrams
    ∷ codes " refused " ∷ decimal t.refused ∷ codes " other " ∷ decimal t.others ∷ codes "\n" ∷ [])
