use Rattle.std.proofs.Common.{[], inl, inr, refl}
use Rattle.std.proofs.lemmas.Result.{err_from_is_err_and}
use Rattle.at_print.proofs.PrintLemmas.{Prints-nothing}
use Rattle.at_play.proofs.ToldLemmas.{not_read}
use Rattle.at_play.proofs.playing_held.play_large.Goals as goal

pub returns-clause-told : goal.returns-clause-told
returns-clause-told g c =
    let told = c.play_bytes.ensures.told in (
      told.0.text,
      inr (c.in_ok-setup.setup, c.in_ok-setup.ensures.said, told.0, told.1, refl, told.3, told.4),
      told.2,
    )

pub returns-in_err-setup-clause-told : goal.returns-in_err-setup-clause-told
returns-in_err-setup-clause-told g c =
    let p = err_from_is_err_and c.from_residual.result c.from_residual.ensures.1 in (
      [],
      inl (not_read _ c.args.diagnostics.now c.from_residual.result _ p.0 p.1 p.2 (inr c.in_err-setup.ensures.fault)),
      Prints-nothing g.W.Paper.page c.args.printer.now,
    )
