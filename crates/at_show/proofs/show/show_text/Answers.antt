use Rattle.std.proofs.Common.{ap, ◌∙◌, Err, inr, sym, subst, vec_capacity, append-nil, []}
use Rattle.at_print.specs.Printers.{Prints}
use Rattle.at_show.specs.Shown.{IsSound, Shows}
use Rattle.at_show.specs.HexFaults.{fault_line}
use Rattle.at_show.specs.Texts.{BytesText, Spelled, WordText}
use Rattle.at_print.proofs.PrintLemmas.{Prints-trans}
use Rattle.at_show.proofs.ShownLemmas.{fault_text, fault_told, no_fault, sound_in, told_behind, told_in}
use Rattle.at_show.proofs.show.show_text.Goals as goal
use Rattle.at_show.proofs.show.show_text.Goals.{in-Ok, in-Err}

pub returns-clause-only : goal.returns-clause-only
returns-clause-only g c shows room written = elim c.match-bytes_of.branch [
  | in-Ok w ↦
      let sound = sound_in c.args.word.now c.bytes_of.new.room.items shows w.in-Ok.ensures.found in
      let shown = w.show_first-status.ensures.done.1 (subst IsSound (sym w.as_slice.ensures.value) sound) in
      c.finish.ensures.done.1 (w.status-is ∙ shown, written)
  | in-Err w ↦
      absurd
      (no_fault c.args.word.now (vec_capacity c.args.room.now) w.in-Err.fault
      (λ e. c.bytes_of.ensures.fault (w.in-Err.is ∙ ap Err e))
      (λ e. c.bytes_of.ensures.memory (w.in-Err.is ∙ ap Err e)) shows room)
]

pub returns-clause-printed : goal.returns-clause-printed
returns-clause-printed g c = elim c.match-bytes_of.branch [
  | in-Ok w ↦
      let shown = w.show_first-status.ensures.printed in
      let text = subst (λ bytes. BytesText bytes shown.0) w.as_slice.ensures.value shown.1 in
      let flushed = rw w.printer-is at c.finish.ensures.printed in (
        shown.0,
        Spelled c.bytes_of.new.room.items shown.0 w.in-Ok.ensures.found text,
        subst (Prints g.W.Paper.page c.args.printer.now c.finish.new.self) (append-nil shown.0)
            (Prints-trans g.W.Paper.page c.args.printer.now w.show_first-status.new.printer c.finish.new.self
            shown.0 [] shown.2 flushed),
      )
  | in-Err w ↦
      let fault = w.in-Err.fault in
      let flushed = rw w.printer-is at c.finish.ensures.printed in (
        fault_line fault,
        fault_text c.args.word.now (vec_capacity c.args.room.now) fault
            (λ e. c.bytes_of.ensures.fault (w.in-Err.is ∙ ap Err e))
            (λ e. c.bytes_of.ensures.memory (w.in-Err.is ∙ ap Err e)),
        subst (Prints g.W.Paper.page c.args.printer.now c.finish.new.self) (append-nil (fault_line fault))
            (Prints-trans g.W.Paper.page c.args.printer.now w.show_fault-status.new.printer c.finish.new.self
            (fault_line fault) [] w.show_fault-status.ensures.printed flushed),
      )
]

pub returns-clause-told : goal.returns-clause-told
returns-clause-told g c = elim c.match-bytes_of.branch [
  | in-Ok w ↦
      let bytes = c.bytes_of.new.room.items in
      let room = vec_capacity c.args.room.now in
      let word = c.args.word.now in
      let told = rw w.as_slice.ensures.value at w.show_first-status.ensures.told in
      rw w.diagnostics-is (told_in g.E.Paper.page (WordText word room) w.show_first-status.result
      c.args.diagnostics.now w.show_first-status.new.diagnostics (Shows word) (λ done. record {
        bytes = bytes;
        written = w.in-Ok.ensures.found;
        sound = subst IsSound w.as_slice.ensures.value (w.show_first-status.ensures.done.0 done);
      }) (told_behind g.E.Paper.page [] (BytesText bytes) (WordText word room) w.show_first-status.result
      c.args.diagnostics.now w.show_first-status.new.diagnostics
      (λ text is. Spelled bytes text w.in-Ok.ensures.found is) told))
  | in-Err w ↦
      let fault = w.in-Err.fault in
      rw w.diagnostics-is (inr (fault_told g.E.Paper.page (WordText c.args.word.now
      (vec_capacity c.args.room.now)) fault
      c.args.diagnostics.now w.show_fault-status.new.diagnostics
      (fault_text c.args.word.now (vec_capacity c.args.room.now) fault
      (λ e. c.bytes_of.ensures.fault (w.in-Err.is ∙ ap Err e))
      (λ e. c.bytes_of.ensures.memory (w.in-Err.is ∙ ap Err e))) w.show_fault-status.ensures.told))
]

pub returns-clause-silent : goal.returns-clause-silent
returns-clause-silent g c shows room = elim c.match-bytes_of.branch [
  | in-Ok w ↦
      let sound = sound_in c.args.word.now c.bytes_of.new.room.items shows w.in-Ok.ensures.found in
      let shown = w.show_first-status.ensures.done.1 (subst IsSound (sym w.as_slice.ensures.value) sound) in
      let silent = rw shown at w.show_first-status.ensures.told in rw w.diagnostics-is silent
  | in-Err w ↦ absurd
      (no_fault c.args.word.now (vec_capacity c.args.room.now) w.in-Err.fault
      (λ e. c.bytes_of.ensures.fault (w.in-Err.is ∙ ap Err e))
      (λ e. c.bytes_of.ensures.memory (w.in-Err.is ∙ ap Err e)) shows room)
]
