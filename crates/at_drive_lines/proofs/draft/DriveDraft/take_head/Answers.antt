use Rattle.std.proofs.Common.{◌∷◌, ◌∙◌, refl, sym, ap}
use Rattle.std.specs.Prelude.{◌&&◌}
use Rattle.at_words.specs.Words.{words_of}
use Rattle.at_setup_lines.specs.Drafts.{Refuses, has_events}
use Rattle.at_drive_lines.specs.Drafts.{Bars}
use Rattle.at_drive_lines.specs.Says.{have_ports, leave_port}
use Rattle.at_drive_lines.specs.contracts.draft.DriveDraft.take_head.{A-type}
use Rattle.at_drive_lines.proofs.RefusalLemmas.{early_by, unlawful_if}
use Rattle.at_drive_lines.proofs.TakeLemmas.{head_adds, head_barred, ports_barred}
use Rattle.at_drive_lines.proofs.draft.DriveDraft.take_head.Goals as goal

pub returns-in-Err-clause-only : goal.returns-in-Err-clause-only
returns-in-Err-clause-only g c =
    let A = A-type g.row.A in
    let old = c.args.self.now in
    let line = c.args.word.now ∷ words_of c.args.words.rest.now in
    let law = c.lines_begin_with_known_words.ensures in
    unlawful_if (Unit {0}) c.in-Err.fault (Refuses A old.setup line) (Bars A old line) c.in-Err.ensures.only
    (head_barred A old line law.setups law.drafts c.requires.stage c.requires.word)

pub returns-in-Some-clause-only : goal.returns-in-Some-clause-only
returns-in-Some-clause-only g c =
    let old = c.args.self.now in
    let line = c.args.word.now ∷ words_of c.args.words.rest.now in
    let law = c.lines_begin_with_known_words.ensures in
    let early = early_by c.in_default.field-0 (has_events old.setup) c.in_default.ensures.late in
    ports_barred (A-type g.row.A) old line law.setups law.drafts c.requires.stage c.requires.word c.take_line.new.self
    c.lines_say_one_setup.ensures.first
    (λ d lines more s lone later full draft whole. c.a_router_wants_a_number.ensures old.port 65535 d lines more s lone
    later full draft whole) early c.in_default.ensures.early c.in_default.ensures.taken
    (sym (c.in-Some.ensures ∙ ap (λ ns. have_ports old.port ns && leave_port old.port ns) c.nodes.ensures))

pub returns-in-None-clause-taken : goal.returns-in-None-clause-taken
returns-in-None-clause-taken g c =
    let old = c.args.self.now in
    let line = c.args.word.now ∷ words_of c.args.words.rest.now in
    let early = early_by c.in_default.field-0 (has_events old.setup) c.in_default.ensures.late in
    head_adds (A-type g.row.A) old line (record old { setup = c.take_line.new.self }) c.requires.stage c.requires.stage
    refl early c.in_default.ensures.early c.in_default.ensures.taken
    (sym (c.in-None.ensures ∙ ap (λ ns. have_ports old.port ns && leave_port old.port ns) c.nodes.ensures))
