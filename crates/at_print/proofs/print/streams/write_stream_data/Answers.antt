use Rattle.std.proofs.Common.{refl}
use Rattle.at_adsp_frame.specs.Segments.{content}
use Rattle.at_print.specs.Reports.Streams.{Parsed, Unparsed}
use Rattle.at_print.specs.SegmentLines.{segment_line}
use Rattle.at_print.proofs.print.streams.write_stream_data.Goals as goal

pub returns-in-Ok-clause-printed : goal.returns-in-Ok-clause-printed
returns-in-Ok-clause-printed g c read = (
  segment_line (content c.in-Ok.segment),
  Parsed (content c.in-Ok.segment) c.in-Ok.ensures.found,
  c.write_segment.ensures,
)

pub returns-in-Err-clause-refused : goal.returns-in-Err-clause-refused
returns-in-Err-clause-refused g c = (Unparsed c.in-Err.fault c.in-Err.ensures.fault, refl)
