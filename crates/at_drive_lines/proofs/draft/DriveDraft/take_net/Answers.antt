use Rattle.std.proofs.Common.{◌∷◌}
use Rattle.at_words.specs.Words.{words_of}
use Rattle.at_setup_lines.specs.Drafts.{Refuses}
use Rattle.at_drive_lines.specs.Drafts.{Bars}
use Rattle.at_drive_lines.specs.contracts.draft.DriveDraft.take_net.{A-type}
use Rattle.at_drive_lines.proofs.RefusalLemmas.{unlawful_if}
use Rattle.at_drive_lines.proofs.TakeLemmas.{net_barred}
use Rattle.at_drive_lines.proofs.draft.DriveDraft.take_net.Goals as goal

pub returns-in-Err-clause-only : goal.returns-in-Err-clause-only
returns-in-Err-clause-only g c =
    let A = A-type g.row.A in
    let old = c.args.self.now in
    let line = c.args.word.now ∷ words_of c.args.words.rest.now in
    unlawful_if (Unit {0}) c.in-Err.fault (Refuses A old.setup line) (Bars A old line) c.in-Err.ensures.only
    (net_barred A old line c.requires)
