use Rattle.std.proofs.Common.{◌≡◌, false, true, Some, [], refl, sym, ap, ◌∙◌}
use Rattle.std.specs.Prelude.{find, IsOk}
use Rattle.std.specs.Option.{option_copied}
use Rattle.std.proofs.lemmas.Bool.{ne_eqb}
use Rattle.at_adsp_end.specs.Ends.{has_remote}
use Rattle.at_adsp_ends.specs.Openings.{answers_again}
use Rattle.at_adsp_ends.proofs.MoveLemmas as move
use Rattle.at_adsp_ends.proofs.StepLemmas as steps
use Rattle.at_adsp_ends.proofs.ends.Ends.hear_request.Goals as goal

pub returns-in-None-clause-memory : goal.returns-in-None-clause-memory
returns-in-None-clause-memory g c = steps.request_room c.args.self.now c.args.remote c.args.out.now
    (IsOk c.answer_new.result) (ne_eqb c.args.remote.id 0 c.if-remote-eq0.false)
    (sym c.end_of.ensures ∙ ap option_copied c.in-None.is) c.answer_new.ensures.memory

pub returns-in_err-answer-in-Some-clause-memory : goal.returns-in_err-answer-in-Some-clause-memory
returns-in_err-answer-in-Some-clause-memory g c =
    let found : find (has_remote c.args.remote) c.args.self.now.ends
    ≡ Some c.in-Some.end.now = sym c.end_of.ensures ∙ ap option_copied c.in-Some.is in
    let again : answers_again c.in-Some.end.now ≡ true = sym c.answers_again.ensures ∙ c.if-answers_again.true in
    rw (ne_eqb c.args.remote.id 0 c.if-remote-eq0.false, found, again)
    (λ h room. absurd (steps.fails c.in_err-answer-in-Some.was (c.answer.ensures.room [] room).0))

pub returns-in-Some-2 : goal.returns-in-Some-2
returns-in-Some-2 g c =
    let found : find (has_remote c.args.remote) c.args.self.now.ends
    ≡ Some c.in-Some.end.now = sym c.end_of.ensures ∙ ap option_copied c.in-Some.is in
    let shut : answers_again c.in-Some.end.now ≡ false = sym c.answers_again.ensures ∙ c.if-answers_again.false in
    rw (ne_eqb c.args.remote.id 0 c.if-remote-eq0.false, found, shut)
    record { taken = move.ignored_done _ _; memory = λ h room. refl }
