use Rattle.std.proofs.Common.{drop, take}
use Rattle.at_print.proofs.PrintLemmas.{TextLeft}
use Rattle.at_record.specs.Recordings.{AreSendings, records_text}
use Rattle.at_record.proofs.SentLemmas.{text_after}
use Rattle.at_record.proofs.records.write_records.Given as goal

-- the records so far were written, and those of the other datagrams are left
abbrev pub invariant-loop-number : goal.invariant-loop-number
invariant-loop-number g l =
    TextLeft g.W.Paper.page l.initial.printer l.printer (records_text l.world.sent)
    (text_after l.last (drop l.number l.world.sent)) × AreSendings (take l.number l.world.sent)
