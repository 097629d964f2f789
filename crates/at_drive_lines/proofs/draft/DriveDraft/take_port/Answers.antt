use Rattle.std.proofs.Common.{◌∷◌}
use Rattle.at_words.specs.Words.{words_of}
use Rattle.at_drive_lines.specs.contracts.draft.DriveDraft.take_port.{A-type}
use Rattle.at_drive_lines.proofs.TakeLemmas.{port_barred}
use Rattle.at_drive_lines.proofs.draft.DriveDraft.take_port.Goals as goal

pub returns-in_default-clause-only : goal.returns-in_default-clause-only
returns-in_default-clause-only g c =
    let line = c.args.word.now ∷ words_of c.args.words.rest.now in
    port_barred (A-type g.row.A) c.args.self.now line c.requires c.in_default.ensures
