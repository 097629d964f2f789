use Rattle.std.proofs.Common.{◌<◌, length, drop, ap, subst, rules}
use Rattle.std.specs.Io.KnownBytes.{Consumes}
use Rattle.at_schedule.proofs.LineLemmas.{line_read}
use Rattle.at_schedule.proofs.schedule.next_line.Goals as goal

pub returns-in-Ok-clause-line : goal.returns-in-Ok-clause-line
returns-in-Ok-clause-line g c =
    let read = c.read_until.new.buf.items in
    let some : 0 < length read = search rules in
    λ ok. line_read (g.R.Read.remaining c.args.reader.now) c.clear.new.self.items read c.strip_feed.new.line.items
    c.clear.ensures.items c.in-Ok.ensures.bytes some c.strip_feed.ensures

pub returns-in-Err-clause-begun : goal.returns-in-Err-clause-begun
returns-in-Err-clause-begun g c =
    let read = c.read_until.new.buf.items in
    subst (Consumes (g.R.Read.remaining c.args.reader.now) (g.R.Read.remaining c.read_until.new.self))
    (ap (λ l. drop (length l) read) c.clear.ensures.items) c.read_until.ensures.none_lost
