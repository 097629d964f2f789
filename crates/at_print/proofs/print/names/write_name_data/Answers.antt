use Rattle.std.proofs.Common.{refl}
use Rattle.at_nbp.specs.Packets.{packet_content}
use Rattle.at_print.specs.NameLines.{names_lines}
use Rattle.at_print.specs.Reports.Names.{Named, Misnamed}
use Rattle.at_print.proofs.print.names.write_name_data.Goals as goal

pub returns-in-Ok-clause-printed : goal.returns-in-Ok-clause-printed
returns-in-Ok-clause-printed g c read = (
  names_lines (packet_content c.in-Ok.packet),
  Named (packet_content c.in-Ok.packet) _ c.in-Ok.ensures.found,
  c.write_names.ensures,
)

pub returns-in-Err-clause-refused : goal.returns-in-Err-clause-refused
returns-in-Err-clause-refused g c = (Misnamed c.in-Err.fault c.in-Err.ensures.fault, refl)
