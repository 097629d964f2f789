use Rattle.std.proofs.Common.{◌≡◌, ◌<◌, ◌≤◌, ◌∙◌, Some, ap, arith, length, subst, sym}
use Rattle.std.specs.Prelude.{slice_get}
use Rattle.std.proofs.lemmas.List.{take_all}
use Rattle.std.proofs.lemmas.List.Elements.{All-nil}
use Rattle.at_print.proofs.PrintLemmas.{text_whole}
use Rattle.at_record.specs.Recordings.{AreSendings, records_text, sending_of}
use Rattle.at_record.proofs.SentLemmas.{fit_next, record_next, records_ended}
use Rattle.at_recording.specs.Frames.{IsSending}
use Rattle.at_world.specs.Sents.{SentDatagram}
use Rattle.at_record.proofs.records.write_records.Goals as goal

pub loop-number-init : goal.loop-number-init
loop-number-init g c = (
  text_whole g.W.Paper.page c.args.printer.now (records_text c.args.world.now.sent),
  All-nil (λ s. IsSending (sending_of s)),
)

pub loop-number-preserved : goal.loop-number-preserved
loop-number-preserved g c =
    let sent = c.args.world.now.sent in
    let found = c.sent-sent.ensures in
    let s : SentDatagram = record {
      event = c.sent-sent.result.event;
      to = c.sent-sent.result.to;
      bytes = c.sent-sent.result.bytes.now;
    } in
    let same : found.0 ≡ s = sym (λ j. record { event = found.2 j; to = found.3 j; bytes = found.4 j }) in
    let is : slice_get sent c.loop-number.number ≡ Some s = found.1 ∙ ap Some same in
    let within : c.loop-number.number < length sent = omega (arith, c.sent_count-number-end.ensures) in
    let moment = c.after-moment.ensures in (
      record_next sent c.loop-number.number s within is g.W.Paper.page c.args.printer.now c.loop-number.printer
          c.write_record.new.printer c.loop-number.last c.after-moment.result moment c.loop-number.invariant.0
          c.write_record.ensures.written,
      fit_next sent c.loop-number.number s within is c.loop-number.invariant.1
          (subst (λ m. IsSending (record { event = m; to = s.to; bytes = s.bytes }))
          (ap (λ m. m.event) moment) c.write_record.ensures.ranges),
    )

pub returns : goal.returns
returns g c =
    let sent = c.args.world.now.sent in
    let past : length sent ≤ c.loop-number.number =
    omega (arith, c.sent_count-number-end.ensures, c.loop-number-test.false) in
    record {
      printed = records_ended g.W.Paper.page c.args.printer.now c.loop-number.printer c.loop-number.last
          c.loop-number.number sent past c.loop-number.invariant.0;
      ranges = subst AreSendings (take_all c.loop-number.number sent past) c.loop-number.invariant.1;
    }
