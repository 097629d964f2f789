use Rattle.at_steps.proofs.Protocols.Streams.Arriving.{datagram_happens}
use Rattle.at_steps.proofs.Protocols.Streams.Below.{HearingLaws, ReadingLaws}
use Rattle.at_steps.proofs.Protocols.Streams.Calls.{call_happens}
use Rattle.at_steps.proofs.Protocols.Streams.Timers.{timer_happens}
use Rattle.at_steps.proofs.laws.streams.an_event_is_a_happening.Goals as goal

pub returns : goal.returns
returns g c =
    let A = g.row.A.Denot in
    let changes = c.streams_change_by_one.ensures in
    let paired = c.ends_that_are_open_are_paired.ensures in
    let datagrams = c.what_is_written_is_read.ensures in
    let segments = c.what_is_written_is_read-2.ensures in
    let reading : ReadingLaws =
    record {
      reads = datagrams.read;
      alone = datagrams.alone;
      spells = segments.read;
      fits = c.what_is_written_fits.ensures;
    } in
    let hearings : HearingLaws = record {
      changes = changes;
      paired = paired;
      opens = c.an_end_that_opens_has_a_peer.ensures;
      reading = reading;
      segment = segments.alone;
      lawful = c.what_is_sent_is_lawful.ensures;
    } in
    record {
      call = λ setting history n call st range its free. call_happens A changes paired setting history n st call range
          its free;
      timer = λ setting history n time st its. timer_happens A changes paired setting history n st time its;
      packet = λ setting history n which s said o st was_sent fresh free heard. datagram_happens A hearings setting
          history n st which s was_sent fresh said o heard free;
    }
