use Rattle.std.proofs.Common.{[], inl}
use Rattle.std.proofs.lemmas.Result.{err_from_is_err_and}
use Rattle.at_print.proofs.PrintLemmas.{Prints-nothing}
use Rattle.at_play.proofs.HeldLemmas.{play_known}
use Rattle.at_play.proofs.ToldLemmas.{not_read}
use Rattle.at_play.proofs.program.play_stream.Goals as goal

pub returns-clause-told : goal.returns-clause-told
returns-clause-told g c =
    let told = c.play_held.ensures.told in (
      told.0,
      play_known g.row.A.Denot g.E.Paper.page (g.R.Read.remaining c.args.reader.now) c.as_slice.result.now
          c.in_ok-bytes.bytes.items c.args.diagnostics.now c.play_held.new.diagnostics c.play_held.result told.0
          c.in_ok-bytes.ensures.whole c.as_slice.ensures.value told.1,
      told.2,
    )

pub returns-in_err-bytes-clause-told : goal.returns-in_err-bytes-clause-told
returns-in_err-bytes-clause-told g c =
    let p = err_from_is_err_and c.from_residual.result c.from_residual.ensures.1 in (
      [],
      inl (not_read _ c.args.diagnostics.now
          c.from_residual.result _ p.0 p.1 p.2 (inl c.in_err-bytes.ensures.fault)),
      Prints-nothing g.W.Paper.page c.args.printer.now,
    )
