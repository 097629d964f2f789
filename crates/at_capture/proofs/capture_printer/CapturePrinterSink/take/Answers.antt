use Rattle.std.proofs.Common.{refl, subst}
use Rattle.at_capture.proofs.AskedLemmas.{recalls_same}
use Rattle.at_capture.proofs.TallyLemmas.{next_number, one_longer}
use Rattle.at_capture.specs.Captures.{IsUnprinted}
use Rattle.at_capture.specs.Frames.{Content, frame_of}
use Rattle.at_capture.specs.Roles.{IsRole, PlaysRole}
use Rattle.at_capture.specs.Texts.{FrameText}
use Rattle.at_pcap.specs.Frames.{frame_with}
use Rattle.at_capture.proofs.capture_printer.CapturePrinterSink.take.Goals as goal
use Rattle.at_ddp.proofs.CaseLemmas.{on_err}

pub returns-clause-ok : goal.returns-clause-ok
returns-clause-ok g c frames verdicts has =
    let f : Content = frame_of (frame_with c.args.header c.args.bytes.now) in
    let old = c.args.self.now in
    let answered = c.in_ok-answered.answered in
    let verdict = c.write_frame-verdict.result in
    let shown = c.write_frame-verdict.ensures.printed in
    let here = next_number c.saturating_add-number.result old.tally verdicts frames has.tally has.as_many
    c.saturating_add-number.ensures in
    let taken = c.in_ok-answered.ensures.taken frames f has.recalls
    (subst (λ h. IsRole (PlaysRole h) c.role_of.result) c.of-frame.ensures c.role_of.ensures) here in
    record {
      answered = answered;
      verdict = verdict;
      text = shown.0;
      answers = taken.0;
      is = subst (λ n. FrameText n answered f verdict shown.0) here
          (subst (λ h. FrameText c.saturating_add-number.result answered h verdict shown.0) c.of-frame.ensures shown.1);
      printed = shown.2;
      told = c.write_frame-verdict.ensures.told;
      counts = record {
        tally = c.with-self.ensures verdicts has.tally;
        as_many = one_longer verdicts frames verdict f has.as_many;
        recalls = taken.1;
      };
    }

pub returns-in_err-answered-clause-err : goal.returns-in_err-answered-clause-err
returns-in_err-answered-clause-err g c =
    let old = c.args.self.now in
    let now = c.take_role.new.asked in
    on_err _ (IsUnprinted old (record old { asked = now })) (record {
      printer = refl;
      diagnostics = refl;
      counts = λ frames verdicts has. record {
        tally = has.tally;
        as_many = has.as_many;
        recalls = recalls_same frames old.asked now c.in_err-answered.ensures.err has.recalls;
      };
    })
