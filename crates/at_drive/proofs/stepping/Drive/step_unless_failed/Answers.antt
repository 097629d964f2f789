use Rattle.std.proofs.Common.{Some, ap, refl, sym, ◌∙◌}
use Rattle.std.proofs.lemmas.Bool.{true≢false}
use Rattle.at_drive.specs.Drives.{Driven}
use Rattle.at_drive.proofs.RunLemmas.{left_alone}
use Rattle.at_drive.proofs.stepping.Drive.step_unless_failed.Goals as goal

pub returns-then-self-clause-stopped : goal.returns-then-self-clause-stopped
returns-then-self-clause-stopped g c = (
  sym (ap (λ (d : Driven). d.failed) c.self.view_is) ∙ c.if-self.true,
  refl,
  left_alone g.C.Cable.sends g.C.Cable.receives (Some c.args.step.now) c.args.cable.now,
)

pub returns-in-Ok-clause-failed : goal.returns-in-Ok-clause-failed
returns-in-Ok-clause-failed g c = λ failed.
    absurd (true≢false (sym failed ∙ sym (ap (λ (d : Driven). d.failed) c.self.view_is) ∙ c.if-self.false))

pub returns-in-Err-clause-failed : goal.returns-in-Err-clause-failed
returns-in-Err-clause-failed g c = λ failed.
    absurd (true≢false (sym failed ∙ sym (ap (λ (d : Driven). d.failed) c.self.view_is) ∙ c.if-self.false))
