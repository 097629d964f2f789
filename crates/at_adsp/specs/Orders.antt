-- That what is read is what was written, in its order (Inside AppleTalk, ADSP, "Data flow" and "Forward resets").
use Rattle.std.specs.Prelude.{◌≡◌, ℕ, List, ◌++◌, map, Some}
use Rattle.at_adsp_end.specs.Positions.{whole}
use Rattle.at_adsp.specs.Network.{Setting, Made, Network, Happening, Resets, born}
use Rattle.at_adsp.specs.Reading.{Written, Put, ReadsFrom}

-- the same setting, where the numbers of segments may be of any size
abbrev pub whole_numbered : Setting → Setting
whole_numbered setting = record setting { numbers = whole }

-- What was read from an end that has a peer reads from all that was written at the peer. A freed end keeps both.
pub record ReadsInOrder (n : Network) : Type 0 where
  pub reads : (birth : ℕ) (m : Made) (other : ℕ) → born n.made birth ≡ Some m → m.stream.peer ≡ Some other
      → (p : Made) × (born n.made other ≡ Some p) × ReadsFrom m.stream.read p.stream.written

-- What was read from an end that has a peer begins all that was written at the peer: the rest was not read yet.
pub record ReadsBeginnings (n : Network) : Type 0 where
  pub reads : (birth : ℕ) (m : Made) (other : ℕ) → born n.made birth ≡ Some m → m.stream.peer ≡ Some other
      → (p : Made) × (born n.made other ≡ Some p) × (rest : List Written)
      × (p.stream.written ≡ map Put m.stream.read ++ rest)

-- no stream is reset
abbrev pub IsNoReset : Happening → Type 0
IsNoReset (Resets at id) = ⊥
IsNoReset other = Unit {0}
