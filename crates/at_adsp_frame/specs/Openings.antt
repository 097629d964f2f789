-- The packets that open a connection (Inside AppleTalk, ADSP, "Opening a connection").
use Rattle.std.specs.Prelude.{◌≡◌, ℕ, ◌^◌, ◌<◌, List, ◌++◌}
use Rattle.std.specs.Int.{to_be_bytes, w16, w32}
use Rattle.at_adsp_frame.specs.declared.segment.OpenKind.{OpenKind}
use Rattle.at_adsp_frame.specs.declared.segment.OpenKind.TheVariants.{Request, Acknowledgement}
use Rattle.at_adsp_frame.specs.declared.segment.OpenKind.TheVariants.{RequestAndAcknowledgement, Denial}

-- the control code of each
abbrev pub code_of : OpenKind → ℕ
code_of Request = 1
code_of Acknowledgement = 2
code_of RequestAndAcknowledgement = 3
code_of Denial = 4

-- the destination that this field says: a request has none, whatever stands there
abbrev pub read_dest : OpenKind → ℕ → ℕ
read_dest Request field = 0
read_dest _ field = field

-- version 0x0100, the destination, and the sequence number of the next attention message that is expected
abbrev pub opening : ℕ → ℕ → List ℕ
opening dest attention = to_be_bytes w16 256 ++ to_be_bytes w16 dest ++ to_be_bytes w32 attention

-- what follows the header begins with these fields; the attention number is free
pub record SpellsOpening (rest : List ℕ) (kind : OpenKind) (dest : ℕ) : Type 0 where
  pub field : ℕ
  pub field_fits : field < 2 ^ 16
  pub says : dest ≡ read_dest kind field
  pub attention : ℕ
  pub attention_fits : attention < 2 ^ 32
  pub more : List ℕ
  pub fields : rest ≡ opening field attention ++ more
