-- What the sockets that answer have in common.
use Rattle.std.specs.Prelude.{Bool, true, false}
use Rattle.at_atp_frame.specs.Frames.{Content, Release}
use Rattle.at_atp_responder.specs.declared.reception.Reception.{Reception}
use Rattle.at_atp_responder.specs.declared.reception.Reception.TheVariants as reception
use Rattle.at_event.specs.declared.Report.{Report}
use Rattle.at_event.specs.declared.Report.TheVariants as report
use Rattle.at_event.specs.declared.transactions.TransactionReport.TheVariants as atp_report

abbrev pub is_release : Content → Bool
is_release (Release tid) = true
is_release other = false

abbrev pub released_report : {A : Type 0} → Reception → Report A
released_report reception.Released = report.Transactions atp_report.Released
released_report other = report.Ignored
