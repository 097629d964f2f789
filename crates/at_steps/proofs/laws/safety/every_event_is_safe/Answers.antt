use Rattle.at_steps.proofs.Protocols.{SafetyLaws, call_safe, timer_safe}
use Rattle.at_steps.proofs.Safety.Events.{datagram_safe}
use Rattle.at_steps.proofs.laws.safety.every_event_is_safe.Goals as goal

pub returns : goal.returns
returns g c =
    let A = g.row.A.Denot in
    let laws : SafetyLaws = record {
      numbers = c.below_32_a_number_is_free.ensures;
      records =
          record {
            answered = c.no_more_is_sent_than_answered.ensures;
            came = c.at_most_eight_packets_are_sent.ensures.came;
            replied = c.at_most_eight_packets_are_sent.ensures.replied;
          };
      names =
          record { free = c.below_8_an_identifier_is_free.ensures; few = c.few_packets_are_sent.ensures };
      streams =
          record {
            free = c.below_16_an_identifier_is_free.ensures;
            received = c.few_segments_are_sent.ensures;
            connected = c.few_segments_are_sent_by_calls.ensures.connected;
            closed = c.few_segments_are_sent_by_calls.ensures.closed;
            read = c.few_segments_are_sent_by_calls.ensures.read;
            reset = c.few_segments_are_sent_by_calls.ensures.reset;
            wrote = c.few_segments_are_sent_by_calls.ensures.wrote;
            ticked = c.few_segments_are_sent_by_calls.ensures.ticked;
          };
    } in
    record {
      call = λ n call within. call_safe A laws n within call;
      timer = λ n time within. timer_safe A laws n within time;
      datagram = λ n said bytes o within hears. datagram_safe A laws n within said bytes o hears;
    }
