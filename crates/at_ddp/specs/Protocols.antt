-- The protocols of datagrams, by their numbers (Inside AppleTalk, appendix "DDP protocol types").
use Rattle.std.specs.Prelude.{ℕ}

abbrev pub nbp_kind : ℕ
nbp_kind = 2

abbrev pub atp_kind : ℕ
atp_kind = 3

abbrev pub adsp_kind : ℕ
adsp_kind = 7
