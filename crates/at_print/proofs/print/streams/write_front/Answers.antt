use Rattle.std.proofs.Common.{◌++◌, append_assoc, drop, sym, take, ◌∙◌}
use Rattle.at_print.specs.Items.{items_text, starts_with_byte}
use Rattle.at_print.specs.Lines.{pairs}
use Rattle.at_print.proofs.PrintLemmas.{Prints-trans}
use Rattle.at_print.proofs.StreamLemmas.{bytes_first, word_start}
use Rattle.at_print.proofs.print.streams.write_front.Goals as goal

pub returns-clause-printed : goal.returns-clause-printed
returns-clause-printed g c =
    let items = c.args.items.now in
    let count = c.front_bytes-count.result in
    let bytes = take count c.front_bytes-count.new.block in
    let start = word_start c.args.follows_byte in
    let after = items_text (starts_with_byte items) (drop count items) in
    let read = c.front_bytes-count.ensures in (
      start ++ pairs bytes,
      Prints-trans g.W.Paper.page c.args.printer.now c.begin_word.new.printer c.write_pairs.new.printer start
          (pairs bytes) c.begin_word.ensures c.write_pairs.ensures,
      bytes_first c.args.follows_byte items count bytes c.if-count-eq0.false read.within read.bytes
          ∙ sym (append_assoc start (pairs bytes) after),
    )
