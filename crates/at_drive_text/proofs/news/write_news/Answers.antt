use Rattle.std.proofs.Common.{[], ◌++◌, codes, subst}
use Rattle.std.specs.Prelude.{if◌then◌else◌, slice_get}
use Rattle.std.specs.Fmt.{decimal}
use Rattle.std.specs.List.{flat_map}
use Rattle.at_drive.specs.Drives.{logged}
use Rattle.at_print.specs.Printers.{Prints}
use Rattle.at_drive_text.specs.Driven.{fault_line, is_idle, report_part, sent_part}
use Rattle.at_drive_text.proofs.NewsLemmas.{four_parts}
use Rattle.at_drive_text.proofs.news.write_news.Goals as goal

pub returns : goal.returns
returns g c =
    let page = g.W.Paper.page in
    let at = c.args.at in
    let l = logged c.args.log.now in
    let first = c.write_report.new.printer in
    let second = c.write_sent.new.printer in
    let third = c.write_faults.new.printer in
    let last = c.write_idle.new.printer in
    four_parts page c.args.printer.now first second third last (report_part at (slice_get l.reports 0))
    (sent_part c.args.number (slice_get l.sent 0)) (flat_map fault_line l.faults)
    (if is_idle l then decimal at ++ codes " idle\n" else [])
    (subst (λ xs. Prints page c.args.printer.now first (report_part at (slice_get xs 0)))
    c.deref.ensures.value c.write_report.ensures)
    (subst (λ xs. Prints page first second (sent_part c.args.number (slice_get xs 0))) c.deref-2.ensures.value
    c.write_sent.ensures)
    (subst (λ xs. Prints page second third (flat_map fault_line xs)) c.deref-3.ensures.value
    c.write_faults.ensures)
    (subst (λ b. Prints page third last (if b then decimal at ++ codes " idle\n" else [])) c.is_idle.ensures
    c.write_idle.ensures)
