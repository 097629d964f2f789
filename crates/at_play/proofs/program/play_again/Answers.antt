use Rattle.std.proofs.Common.{◌≡◌, ◌≤◌, ◌∙◌, ap, inl, inr, length, refl, subst, sym, []}
use Rattle.at_faults.specs.declared.fault.Unreadable.TheVariants.{TooLong}
use Rattle.std.specs.Result.{IsErrAnd}
use Rattle.at_faults.specs.declared.fault.Fault.TheVariants as why
use Rattle.at_opened.specs.Rewinds.{Rewound}
use Rattle.at_play.specs.Ends.{IsTooLong}
use Rattle.std.proofs.lemmas.Result.{err_from_is_err_and}
use Rattle.at_print.proofs.PrintLemmas.{Prints-nothing}
use Rattle.at_play.proofs.HeldLemmas.{fits_known, play_known}
use Rattle.at_play.proofs.ToldLemmas.{bytes_of_read, not_read}
use Rattle.at_play.proofs.WholePlays.{whatever_is_known}
use Rattle.at_play.proofs.program.play_again.Given.{Over}
use Rattle.at_play.proofs.program.play_again.Goals.{In_ok-send_back}
use Rattle.at_play.proofs.program.play_again.Goals as goal

-- the file as it was when it was read to be held
abbrev sent_back : (g : Over) (c : In_ok-send_back g) → Rewound g.F.Opened.goes_back
sent_back g c = record {
  before = c.check_file.new.file;
  file = c.send_back.new.self;
  went = c.in_ok-send_back.ensures.went;
}

pub returns-in_err-check_file-clause-told : goal.returns-in_err-check_file-clause-told
returns-in_err-check_file-clause-told g c =
    let p = err_from_is_err_and c.from_residual.result c.from_residual.ensures.1 in (
      [],
      inl (not_read _ c.args.diagnostics.now c.from_residual.result (why.Unreadable c.in_err-check_file.field-0.0)
          p.0 p.1 p.2 c.in_err-check_file.ensures.fault),
      Prints-nothing g.W.Paper.page c.args.printer.now,
    )

pub returns-in_err-check_file-clause-too_long : goal.returns-in_err-check_file-clause-too_long
returns-in_err-check_file-clause-too_long g c =
    let p = err_from_is_err_and c.from_residual.result c.from_residual.ensures.1 in
    whatever_is_known (g.F.Read.remaining c.args.file.now) 67108864
    (subst (λ r. IsErrAnd r IsTooLong) (sym p.1) (c.in_err-check_file.field-0.0, p.2), refl)

pub returns-in-Ok-clause-told : goal.returns-in-Ok-clause-told
returns-in-Ok-clause-told g c =
    let told = c.play_held.ensures.told in
    let first = sent_back g (goal.at.returns-in-Ok-clause-told g c).In_ok-send_back in
    let known = g.F.Read.remaining first.file in (
      told.0,
      inr (
        first,
        inl (
          fits_known known c.in-Ok.bytes.items 524288 c.in-Ok.ensures.whole
              (subst (λ n. n ≤ 524288) (sym c.as_slice.ensures.len ∙ ap length c.as_slice.ensures.value)
              c.in-Ok.ensures.fits),
          play_known g.row.A.Denot g.E.Paper.page known c.as_slice.result.now c.in-Ok.bytes.items
              c.args.diagnostics.now c.play_held.new.diagnostics c.play_held.result told.0 c.in-Ok.ensures.whole
              c.as_slice.ensures.value told.1,
        ),
      ),
      told.2,
    )

pub returns-in-Unreadable-TooLong-clause-told : goal.returns-in-Unreadable-TooLong-clause-told
returns-in-Unreadable-TooLong-clause-told g c =
    let told = c.play_twice_read.ensures.told in
    let first = sent_back g (goal.at.returns-in-Unreadable-TooLong-clause-told g c).In_ok-send_back in
    let long : c.in-Err.fault ≡ why.Unreadable TooLong = c.in-Unreadable-TooLong.is
    ∙ ap why.Unreadable (rw c.in-Unreadable-TooLong.is at c.in-Unreadable-TooLong.field-0-is) in
    (told.0, inr (first, inr (c.in-Err.ensures.long long, told.1)), told.2)

pub returns-in_err-send_back-clause-told : goal.returns-in_err-send_back-clause-told
returns-in_err-send_back-clause-told g c =
    let p = err_from_is_err_and c.from_residual-in_err-send_back.result c.from_residual-in_err-send_back.ensures.1 in (
      [],
      inl (not_read _ c.args.diagnostics.now
          c.from_residual-in_err-send_back.result p.2.0 p.0 p.1 p.2.2 (bytes_of_read p.2.0 p.2.1)),
      Prints-nothing g.W.Paper.page c.args.printer.now,
    )

pub returns-in_default-clause-told : goal.returns-in_default-clause-told
returns-in_default-clause-told g c = (
  [],
  inl (not_read _ c.args.diagnostics.now _ c.in-Err.fault c.from.result refl c.from.ensures c.in-Err.ensures.fault),
  Prints-nothing g.W.Paper.page c.args.printer.now,
)
