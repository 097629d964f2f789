-- What is printed of an event that was played: its report, and the datagrams that it sent.
use Rattle.std.specs.Prelude.{ℕ, ◌+◌, List, [], ◌∷◌, ◌++◌, drop}
use Rattle.at_event.specs.declared.Report.{Report}
use Rattle.at_world.specs.Sents.{SentDatagram}
use Rattle.at_print.specs.Reports.{datagram_line, event_line}

abbrev pub sent_line : ℕ → SentDatagram → List ℕ
sent_line number d = datagram_line number d.to d.bytes

-- a line for each of these datagrams, which are numbered from here on
abbrev pub sent_lines : ℕ → List SentDatagram → List ℕ
sent_lines number [] = []
sent_lines number (d ∷ ds) = sent_line number d ++ sent_lines (number + 1) ds

-- what is printed of an event: its line, and those of the datagrams that it sent, all from this number on
abbrev pub event_text : {A : Type 0} → ℕ → Report A → List SentDatagram → ℕ → List ℕ
event_text at r sent first = event_line at r ++ sent_lines first (drop first sent)
