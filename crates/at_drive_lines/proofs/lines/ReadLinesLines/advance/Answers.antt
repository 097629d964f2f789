use Rattle.at_drive_lines.proofs.LineLemmas.{line_comes, some_left}
use Rattle.at_drive_lines.proofs.lines.ReadLinesLines.advance.Goals as goal

pub returns-clause-next : goal.returns-clause-next
returns-clause-next g c = λ more.
    line_comes c.first_line.ensures (g.B.Read.remaining c.args.self.now.reader)
    (g.B.Read.remaining c.read_line.new.reader) c.read_line.new.room.items (c.read_line.ensures.line more)
    (rw more at c.read_line.ensures.rest)

pub returns-clause-memory : goal.returns-clause-memory
returns-clause-memory g c = λ none. some_left c.first_line.ensures (g.B.Read.remaining c.args.self.now.reader)
    (c.read_line.ensures.memory none)
