use Rattle.std.proofs.Common.{inl, inr, refl, []}
use Rattle.at_opened.specs.Rewinds.{Rewound}
use Rattle.std.proofs.lemmas.Result.{err_from_is_err_and}
use Rattle.at_print.proofs.PrintLemmas.{Prints-nothing}
use Rattle.at_play.proofs.ToldLemmas.{bytes_of_read, not_read}
use Rattle.at_play.proofs.program.play_twice_read.Given.{Over}
use Rattle.at_play.proofs.program.play_twice_read.Goals.{In_ok-send_back}
use Rattle.at_play.proofs.program.play_twice_read.Goals as goal

-- the file as it was when its lines were read for their faults
abbrev sent_back : (g : Over) (c : In_ok-send_back g) → Rewound g.F.Opened.goes_back
sent_back g c = record {
  before = c.args.file.now;
  file = c.send_back.new.self;
  went = c.in_ok-send_back.ensures.went;
}

pub returns-in_err-send_back-clause-told : goal.returns-in_err-send_back-clause-told
returns-in_err-send_back-clause-told g c =
    let p = err_from_is_err_and c.from_residual.result c.from_residual.ensures.1 in (
      [],
      inl (not_read _ c.args.diagnostics.now
          c.from_residual.result p.2.0 p.0 p.1 p.2.2 (bytes_of_read p.2.0 p.2.1)),
      Prints-nothing g.W.Paper.page c.args.printer.now,
    )

pub returns-in_err-send_back-2-clause-told : goal.returns-in_err-send_back-2-clause-told
returns-in_err-send_back-2-clause-told g c =
    let p = err_from_is_err_and c.from_residual-in_err-send_back-2.result c.from_residual-in_err-send_back-2.ensures.1
    in (
      [],
      inl (not_read _ c.args.diagnostics.now
          c.from_residual-in_err-send_back-2.result p.2.0 p.0 p.1 p.2.2 (bytes_of_read p.2.0 p.2.1)),
      Prints-nothing g.W.Paper.page c.args.printer.now,
    )

pub returns-in_err-setup-clause-told : goal.returns-in_err-setup-clause-told
returns-in_err-setup-clause-told g c =
    let p = err_from_is_err_and c.from_residual-in_err-setup.result c.from_residual-in_err-setup.ensures.1 in
    let first = sent_back g (goal.at.returns-in_err-setup-clause-told g c).In_ok-send_back in
    let none = not_read _ c.args.diagnostics.now
    c.from_residual-in_err-setup.result _ p.0 p.1 p.2 (inr c.in_err-setup.ensures.fault) in
    ([], inr (first, inl none), Prints-nothing g.W.Paper.page c.args.printer.now)

pub returns-clause-told : goal.returns-clause-told
returns-clause-told g c =
    let told = c.play_lines.ensures.told in
    let setup = c.in_ok-setup.setup in
    let again : Rewound g.F.Opened.goes_back =
    record {
      before = c.read_setup.new.reader;
      file = c.send_back-2.new.self;
      went = c.in_ok-send_back-2.ensures.went;
    } in
    let first = sent_back g (goal.at.returns-clause-told g c).In_ok-send_back in (
      told.0.text,
      inr (first, inr (again, (setup, c.in_ok-setup.ensures.said, told.0, told.1, refl, told.3, told.4))),
      told.2,
    )
