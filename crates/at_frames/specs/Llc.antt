-- Frames of LLC with SNAP (IEEE 802.2), as EtherTalk has them.
use Rattle.std.specs.Prelude.{ℕ, min, if◌then◌else◌, nat_eq, nat_lt, List, [], ◌∷◌, length, take, drop, Result, Ok, Err}
use Rattle.std.specs.List.{starts_with}
use Rattle.at_frames.specs.Carried.{Load}
use Rattle.at_frames.specs.declared.carried.Carrier.TheVariants.{EtherTalk}
use Rattle.at_frames.specs.declared.carried.Header.TheVariants.{Long}
use Rattle.at_frames.specs.declared.carried.Reason.{Reason}
use Rattle.at_frames.specs.declared.carried.Reason.TheVariants.{Aarp, Cut, Foreign}
use Rattle.at_frames.specs.declared.carried.Stations.{Stations}

-- AA AA 03 08 00 07 80 9B, before a datagram
abbrev pub datagram_snap : List ℕ
datagram_snap = 170 ∷ 170 ∷ 3 ∷ 8 ∷ 0 ∷ 7 ∷ 128 ∷ 155 ∷ []

-- AA AA 03 00 00 00 80 F3, before a packet of AARP
abbrev pub aarp_snap : List ℕ
aarp_snap = 170 ∷ 170 ∷ 3 ∷ 0 ∷ 0 ∷ 0 ∷ 128 ∷ 243 ∷ []

-- what a frame of LLC tells that has both headers
unfoldable pub in_snap : Stations → List ℕ → Result Load Reason
in_snap stations llc =
    if starts_with nat_eq llc datagram_snap
    then Ok (record { carrier = EtherTalk; stations = stations; header = Long; bytes = drop 8 llc })
    else (if starts_with nat_eq llc aarp_snap then Err Aarp else Err Foreign)

-- why a frame of LLC has not both: fewer bytes were captured than are stated, or it has no SNAP
abbrev pub missing : ℕ → ℕ → Reason
missing stated captured = if nat_lt captured stated then Cut else Foreign

-- what a frame of LLC tells that has at most so many of these bytes
unfoldable pub in_llc : Stations → ℕ → List ℕ → Result Load Reason
in_llc stations stated rest =
    let llc = take (min stated (length rest)) rest in
    if nat_lt (length llc) 8 then Err (missing stated (length rest)) else in_snap stations llc
