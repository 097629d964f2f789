-- A number that a report tells of is of the protocol whose report it is, a row for each report that does.
use Rattle.std.proofs.Common.{◌≡◌, Some, ap}
use Rattle.at_event.specs.Kinds.{Speaker, Adsp, Atp, Nbp, reporter_of}
use Rattle.at_event.specs.declared.Report.{Report}
use Rattle.at_event.specs.declared.Report.TheVariants as report
use Rattle.at_event.specs.declared.transactions.TransactionReport.TheVariants as atp_report
use Rattle.at_event.specs.declared.names.NameReport.TheVariants as nbp_report
use Rattle.at_event.specs.declared.streams.StreamReport.TheVariants as adsp_report
use Rattle.at_node.specs.Numbers.{drawn_by}
use Rattle.at_node.specs.declared.numbers.Draw.{Draw}
use Rattle.at_node.specs.declared.numbers.Draw.TheVariants.{Tid, Lookup, Conn}

-- whose number it is
abbrev pub kind_of_draw : Draw → Speaker
kind_of_draw (Tid tid) = Atp
kind_of_draw (Lookup id) = Nbp
kind_of_draw (Conn id) = Adsp

pub draws_its_own : (A : Type 0) (r : Report A) (d : Draw) → drawn_by r ≡ Some d → reporter_of r ≡ kind_of_draw d
draws_its_own A (report.Transactions (atp_report.Begun tid)) d is = let same : Tid tid ≡ d = cc in ap kind_of_draw same
draws_its_own A (report.Names (nbp_report.Looking id)) d is = let same : Lookup id ≡ d = cc in ap kind_of_draw same
draws_its_own A (report.Streams (adsp_report.Opening id)) d is = let same : Conn id ≡ d = cc in ap kind_of_draw same
draws_its_own A (report.Streams (adsp_report.Made id)) d is = let same : Conn id ≡ d = cc in ap kind_of_draw same
draws_its_own A r d is = absurd (cc)
