use Rattle.std.proofs.Common.{refl}
use Rattle.at_atp_frame.specs.Frames.{content}
use Rattle.at_print.specs.Lines.{packet_line}
use Rattle.at_print.specs.Reports.Transactions.{Read, Refused}
use Rattle.at_print.proofs.print.transactions.write_transaction_data.Goals as goal

pub returns-in-Ok-clause-printed : goal.returns-in-Ok-clause-printed
returns-in-Ok-clause-printed g c read = (
  packet_line (content c.in-Ok.frame),
  Read (content c.in-Ok.frame) c.in-Ok.ensures.found,
  c.write_frame.ensures,
)

pub returns-in-Err-clause-refused : goal.returns-in-Err-clause-refused
returns-in-Err-clause-refused g c = (Refused c.in-Err.fault c.in-Err.ensures.fault, refl)
