use Rattle.std.proofs.Common.{◌∷◌, subst}
use Rattle.at_words.specs.Words.{words_of}
use Rattle.at_setup_lines.specs.Drafts.{Refuses}
use Rattle.at_call_words.specs.Readings.{IfUnlawful}
use Rattle.at_schedule.specs.contracts.draft.Draft.take_head.{A-type}
use Rattle.at_schedule.proofs.ReadLemmas.{unlawful_of}
use Rattle.at_schedule.proofs.draft.Draft.take_head.Goals as goal

pub returns-clause-only : goal.returns-clause-only
returns-clause-only g c =
    let A = A-type g.row.A in
    let line = c.args.word.now ∷ words_of c.args.words.rest.now in
    subst (λ d. IfUnlawful c.take_line.result (Refuses A d line)) c.self.view_is
    (unlawful_of (Refuses A c.self.inside.setup line) c.take_line.result c.take_line.ensures.only)
