use Rattle.at_steps.proofs.Protocols.Atp.Arriving.{datagram_happens}
use Rattle.at_steps.proofs.Protocols.Atp.Below.{CallLaws, HearingLaws}
use Rattle.at_steps.proofs.Protocols.Atp.Calls.{call_happens}
use Rattle.at_steps.proofs.Protocols.Atp.Timers.{timer_happens}
use Rattle.at_steps.proofs.laws.an_event_is_a_happening_of_atp.Goals as goal

pub returns : goal.returns
returns g c =
    let A = g.row.A.Denot in
    let open_numbers = c.numbers_stay_open.ensures in
    let fit = c.a_page_fits_one_packet.ensures in
    let calls : CallLaws A = record {
      answers = c.responses_are_answers.ensures;
      drawn = open_numbers.drawn;
      few = c.no_more_is_sent_than_answered.ensures;
      tables = c.names_without_a_fault_are_a_table.ensures.table;
      sets = c.tables_stay_tables.ensures;
    } in
    let hearings : HearingLaws A = record {
      answers = c.responses_are_answers.ensures;
      hears = c.what_is_sent_is_heard.ensures;
      lawful_sent = c.what_is_sent_is_lawful.ensures;
      heard_stays = open_numbers.heard;
      new_waits = c.a_new_request_waits.ensures;
      few = c.no_more_is_sent_than_answered.ensures;
      quiet_end = c.an_end_is_answered_by_nothing.ensures;
      user = fit.user;
      bytes = fit.bytes;
      fits = fit.fits;
    } in
    record {
      call = λ history n call st range own free. call_happens A calls history n st call range own free;
      timer = λ history n time st own. timer_happens A open_numbers.retried history n st time own;
      packet = λ history n which s said o st was_sent fresh free later heard. datagram_happens A hearings history n st
          which s was_sent fresh said o free later heard;
    }
