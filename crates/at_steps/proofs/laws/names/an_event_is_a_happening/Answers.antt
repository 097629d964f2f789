use Rattle.at_steps.proofs.Protocols.Names.Arriving.{datagram_happens}
use Rattle.at_steps.proofs.Protocols.Names.Below.{CallLaws, HearingLaws, ReadingLaws, TimerLaws}
use Rattle.at_steps.proofs.Protocols.Names.Calls.{call_happens}
use Rattle.at_steps.proofs.Protocols.Names.Timers.{timer_happens}
use Rattle.at_steps.proofs.laws.names.an_event_is_a_happening.Goals as goal

pub returns : goal.returns
returns g c =
    let A = g.row.A.Denot in
    let found = c.finds_stood_since_their_lookup_began.ensures in
    let tables = c.a_table_with_one_name_more_is_computed.ensures in
    let datagrams = c.what_is_written_is_read.ensures in
    let packets = c.what_is_written_is_read-2.ensures in
    let sent = c.what_is_sent_is_lawful.ensures in
    let calls = c.a_call_is_a_happening.ensures in
    let steps = c.a_packet_is_a_happening.ensures in
    let call_laws : CallLaws A = record {
      stood = found.stood;
      nothing = steps.nothing;
      least = tables.least;
      looks = calls.find;
      claims = calls.claim;
      registers = calls.register;
      unregisters = calls.unregister;
      finishes = calls.finish;
    } in
    let timer_laws : TimerLaws = record { stood = found.stood; nothing = steps.nothing; retries = calls.retry } in
    let reading : ReadingLaws =
    record { reads = datagrams.read; alone = datagrams.alone; bytes = packets.bytes; begins = packets.read } in
    let hearings : HearingLaws = record {
      stood = found.stood;
      nothing = steps.nothing;
      reading = reading;
      packet = c.one_packet_a_spelling.ensures.packet;
      lawful = sent.lawful;
      asked = sent.asked;
      comes = steps.comes;
    } in
    record {
      call = λ setting history n call st range its. call_happens A call_laws setting history n st call range its;
      timer = λ setting history n time st its. timer_happens A timer_laws setting history n st time its;
      packet = λ setting history n which s said o st was_sent fresh heard. datagram_happens A hearings setting history
          n st which s was_sent fresh said o heard;
    }
