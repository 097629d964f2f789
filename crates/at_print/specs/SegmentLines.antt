-- The line of an ADSP segment.
use Rattle.std.specs.Prelude.{List, ℕ, [], ◌∷◌, ◌++◌, codes}
use Rattle.std.specs.Fmt.{decimal}
use Rattle.std.specs.Int.{from_bool}
use Rattle.std.specs.List.{concat}
use Rattle.at_adsp_frame.specs.Openings.{code_of}
use Rattle.at_adsp_frame.specs.Segments.{Content, Part, Data, Probe, Open, Close, Reset, ResetAck, Advice}
use Rattle.at_print.specs.Lines.{hex_text}

-- what a segment is for; an acknowledgement is a probe that asks for none
abbrev pub part_text : Part → List ℕ
part_text (Data end bytes) = codes "data end " ++ (decimal (from_bool end) ++ (codes " " ++ hex_text bytes))
part_text Probe = codes "probe"
part_text (Open kind dest) = codes "open " ++ (decimal (code_of kind) ++ (codes " dest " ++ decimal dest))
part_text Close = codes "close"
part_text Reset = codes "reset"
part_text ResetAck = codes "resetack"
part_text Advice = codes "advice"

-- the fields of its header, and what it is for
abbrev pub segment_line : Content → List ℕ
segment_line s = concat (
    codes "adsp id " ∷ decimal s.source ∷ codes " first " ∷ decimal s.first ∷ codes " next " ∷ decimal s.next
    ∷ codes " window " ∷ decimal s.window ∷ codes " ack " ∷ decimal (from_bool s.ack) ∷ codes " "
    ∷ part_text s.body ∷ codes "\n" ∷ [])
