use Rattle.std.proofs.Common.{◌++◌, Some, length, subst, sym}
use Rattle.at_capture.proofs.DatagramLemmas.{readable_in}
use Rattle.at_capture.specs.Datagrams.{Begin, ShortText, Stop, short_line}
use Rattle.at_ddp.specs.Datagram.{content}
use Rattle.at_frames.specs.ShortFaults.{number_of}
use Rattle.at_print.specs.Refusals.{refusal_line}
use Rattle.at_print.specs.Reports.{DataText}
use Rattle.at_show.proofs.ShownLemmas.{tells_why, told_behind}
use Rattle.at_capture.proofs.datagram_lines.show_short.Goals as goal

pub returns-in-Ok-clause-done : goal.returns-in-Ok-clause-done
returns-in-Ok-clause-done g c = (
  λ done. record {
    datagram = _;
    rest = c.in-Ok.rest.now;
    begins = c.in-Ok.ensures.found;
    readable = c.show_datagram.ensures.done.0 done;
  },
  λ sound. c.show_datagram.ensures.done.1
      (readable_in c.args.to c.args.from c.args.bytes.now _ c.in-Ok.rest.now c.in-Ok.ensures.only sound),
)

pub returns-in-Ok-clause-printed : goal.returns-in-Ok-clause-printed
returns-in-Ok-clause-printed g c =
    let printed = c.show_datagram.ensures.printed in
    let d = content c.in-Ok.datagram in (
      short_line d (length c.in-Ok.rest.now) ++ printed.0,
      Begin d c.in-Ok.rest.now printed.0 c.in-Ok.ensures.found printed.1,
      printed.2,
    )

pub returns-in-Err-clause-done : goal.returns-in-Err-clause-done
returns-in-Err-clause-done g c = (
  λ done. cc,
  λ sound. absurd (c.in-Err.ensures.only sound.datagram sound.rest sound.begins),
)

pub returns-in-Err-clause-printed : goal.returns-in-Err-clause-printed
returns-in-Err-clause-printed g c = (
  refusal_line (Some (number_of c.in-Err.fault)),
  Stop c.in-Err.fault c.in-Err.ensures.fault,
  rw c.number.ensures at c.show_refusal.ensures.printed,
)

pub returns-in-Err-clause-told : goal.returns-in-Err-clause-told
returns-in-Err-clause-told g c =
    let bytes = c.args.bytes.now in
    tells_why g.E.Paper.page (ShortText c.args.to c.args.from bytes) c.show_refusal.result (Some c.number.result)
    c.args.diagnostics.now c.show_refusal.new.diagnostics c.show_refusal.ensures.failed
    (subst (λ n. ShortText c.args.to c.args.from bytes (refusal_line (Some n))) (sym c.number.ensures)
    (Stop c.in-Err.fault c.in-Err.ensures.fault)) c.show_refusal.ensures.told

pub returns-in-Ok-clause-told : goal.returns-in-Ok-clause-told
returns-in-Ok-clause-told g c =
    let d = content c.in-Ok.datagram in
    let rest = c.in-Ok.rest.now in
    told_behind g.E.Paper.page (short_line d (length rest)) (DataText d.kind d.data_)
    (ShortText c.args.to c.args.from c.args.bytes.now) c.show_datagram.result c.args.diagnostics.now
    c.show_datagram.new.diagnostics (λ text is. Begin d rest text c.in-Ok.ensures.found is)
    c.show_datagram.ensures.told
