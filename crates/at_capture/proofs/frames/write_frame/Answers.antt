use Rattle.std.proofs.Common.{subst, sym, ◌++◌}
use Rattle.at_capture.proofs.DatagramLemmas.{judged, told_as}
use Rattle.at_capture.specs.Datagrams.{DatagramText, IsSoundBy}
use Rattle.at_capture.specs.FrameLines.{answer_line, carried_line, other_line}
use Rattle.at_capture.specs.Texts.{Carried, Empty, IsJudged, TellsVerdict}
use Rattle.at_frames.specs.Carried.{load_of}
use Rattle.at_print.proofs.PrintLemmas.{Prints-trans}
use Rattle.at_capture.proofs.frames.write_frame.Goals as goal

pub returns-in-Ok-clause-printed : goal.returns-in-Ok-clause-printed
returns-in-Ok-clause-printed g c =
    let page = g.W.Paper.page in
    let carried = c.in-Ok.carried in
    let shown = c.show_carried-status.ensures.printed in
    let line = carried_line c.args.number c.args.frame.time carried.carrier carried.stations in
    let last = answer_line c.args.answered in (
      line ++ (shown.0 ++ last),
      Carried (load_of carried) c.verdict_of.result shown.0 c.in-Ok.ensures.found shown.1
          (subst (λ k. IsJudged k (IsSoundBy carried.header carried.bytes.now)) (sym c.verdict_of.ensures)
          (judged c.show_carried-status.result (IsSoundBy carried.header carried.bytes.now)
          c.show_carried-status.ensures.done)),
      Prints-trans page c.args.printer.now c.write_carried.new.printer c.write_answer.new.printer
          line (shown.0 ++ last) c.write_carried.ensures
          (Prints-trans page c.write_carried.new.printer c.show_carried-status.new.printer c.write_answer.new.printer
          shown.0 last shown.2 c.write_answer.ensures),
    )

pub returns-in-Ok-clause-told : goal.returns-in-Ok-clause-told
returns-in-Ok-clause-told g c =
    subst (λ k. TellsVerdict g.E.Paper.page k c.args.diagnostics.now c.show_carried-status.new.diagnostics)
    (sym c.verdict_of.ensures) (told_as g.E.Paper.page
    (DatagramText c.in-Ok.carried.header c.in-Ok.carried.bytes.now) c.show_carried-status.result
    c.args.diagnostics.now c.show_carried-status.new.diagnostics c.show_carried-status.ensures.told)

pub returns-in-Err-clause-printed : goal.returns-in-Err-clause-printed
returns-in-Err-clause-printed g c = (
  other_line c.args.number c.args.frame.time c.in-Err.reason,
  Empty c.in-Err.reason (sym c.in-Err.ensures.told),
  c.write_other.ensures,
)
