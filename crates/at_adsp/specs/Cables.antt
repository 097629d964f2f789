-- Networks of ends of streams whose numbers come round, as the cable has them (Inside AppleTalk, ADSP, "Sequence
-- numbers").
use Rattle.std.specs.Prelude.{ℕ}
use Rattle.at_adsp_end.specs.Positions.{wire}
use Rattle.at_adsp.specs.Network.{Setting}

-- the same setting, where the numbers of segments have four bytes
abbrev pub wire_numbered : Setting → Setting
wire_numbered setting = record setting { numbers = wire }

-- So many segments carry fewer than 2^31 items: each has at most 573.
abbrev pub few_segments : ℕ
few_segments = 1000000
