use Rattle.std.proofs.Common.{[], ◌∷◌}
use Rattle.at_drive_lines.specs.contracts.draft.DriveDraft.finish.{A-type}
use Rattle.at_drive_lines.proofs.BeginLemmas.{whole_drive}
use Rattle.at_drive_lines.proofs.RefusalLemmas.{no_whole}
use Rattle.at_drive_lines.proofs.TakeLemmas.{body_of}
use Rattle.at_drive_lines.proofs.draft.DriveDraft.finish.Goals as goal

pub returns-in-Ok-clause-said : goal.returns-in-Ok-clause-said
returns-in-Ok-clause-said g c lines read =
    let A = A-type g.row.A in
    let b = body_of A c.args.self [] lines c.in-Body.is read in (
      b.steps,
      whole_drive A c.lines_say_one_setup.ensures.same c.args.self lines b c.in-Ok.setup
          (c.in-Ok.ensures.said (b.net ∷ b.head) b.draft),
    )

pub returns-in-Err-clause-only : goal.returns-in-Err-clause-only
returns-in-Err-clause-only g c lines read =
    let A = A-type g.row.A in
    let law = c.lines_begin_with_known_words.ensures in
    no_whole A law.setups law.drafts c.args.self lines (body_of A c.args.self [] lines c.in-Body.is read)
    c.in-Err.ensures.only
