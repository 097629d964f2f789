use Rattle.std.proofs.Common.{◌≡◌, ◌∷◌, ◌++◌, ◌∙◌, [], List, ℕ, sym, ap, subst}
use Rattle.at_words.specs.Words.{words_of}
use Rattle.at_drive_lines.specs.Drafts.{Bars, BeginDrive, HasRead, words_in}
use Rattle.at_drive_lines.specs.contracts.draft.DriveDraft.take_line.{A-type}
use Rattle.at_schedule.proofs.FaultLemmas.{unlawful_map}
use Rattle.at_drive_lines.proofs.TextLemmas.{barred, no_blank}
use Rattle.at_drive_lines.proofs.draft.DriveDraft.take_line.Goals as goal

pub returns-in_default-clause-only : goal.returns-in_default-clause-only
returns-in_default-clause-only g c lines read =
    let A = A-type g.row.A in
    let old = c.args.self.now in
    let none : words_of c.args.line.now ≡ [] = ap words_of (sym c.of-words.ensures) ∙ c.in_default.ensures.steps.0 in
    barred A lines c.args.line.now old old (sym c.is_passed_over.ensures ∙ c.if-is_passed_over.false)
    (subst (Bars A old) (sym none) (no_blank A c.lines_begin_with_known_words.ensures.setups old)) read

pub returns-clause-only : goal.returns-clause-only
returns-clause-only g c =
    let A = A-type g.row.A in
    let old = c.args.self.now in
    let line = c.in-Some.word.now ∷ words_of c.next.new.self.rest.now in
    let words : words_of c.args.line.now ≡ line = ap words_of (sym c.of-words.ensures) ∙ c.in-Some.ensures.steps in
    unlawful_map c.take_words.result (Bars A old line)
    ((lines : List (List ℕ)) → HasRead A (words_in lines) old → ¬ BeginDrive A (lines ++ c.args.line.now ∷ []))
    c.take_words.ensures.only
    (λ bars lines read. barred A lines c.args.line.now old old
    (sym c.is_passed_over.ensures ∙ c.if-is_passed_over.false) (subst (Bars A old) (sym words) bars) read)
