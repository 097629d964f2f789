use Rattle.std.proofs.Common.{length, sym, ap, ◌∙◌}
use Rattle.at_nbp.specs.Tuples.{Entry}
use Rattle.at_nbp.proofs.UnreadLemmas.{length_entries}
use Rattle.at_nbp.proofs.tuples.Tuples.unread.Goals as goal

pub returns-clause-count : goal.returns-clause-count
returns-clause-count c = c.from.ensures ∙ sym (length_entries c.self.inside.count c.self.inside.bytes.now)
    ∙ ap (length {A = Entry}) c.self.view_is
