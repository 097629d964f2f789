use Rattle.std.proofs.Common.{ap, subst, ◌∙◌}
use Rattle.std.specs.Prelude.{slice_get}
use Rattle.at_setup.specs.Setups.{tables_of}
use Rattle.at_atp.specs.Network.{after}
use Rattle.at_world.specs.Machine.{opening_machine}
use Rattle.at_world.specs.Plays.{opening_world}
use Rattle.at_world.specs.Stories.{Tells}
use Rattle.at_world.proofs.Parts.Atp.Serving.{stands_at}
use Rattle.at_world.proofs.Parts.Atp.Tie.{Laws}
use Rattle.at_world.proofs.LawfulSetups.{SetupLaws}
use Rattle.at_world.proofs.Parts.Names.Tie.{NameLaws}
use Rattle.at_world.proofs.Parts.{PartLaws, tied_at_opening}
use Rattle.at_world.proofs.Runs.{runs}
use Rattle.at_world.proofs.Parts.Sessions.Steps.{SessionLaws}
use Rattle.at_world.proofs.Parts.Streams.Tie.{StreamLaws, read_in_order}
use Rattle.at_world.proofs.history.steps_make_a_history.Goals as goal

pub returns : goal.returns
returns g c s events reports w lawful =
    let A = g.row.A.Denot in
    let read = c.what_is_written_is_read.ensures in
    let once = c.one_page_a_spelling.ensures in
    let on = c.a_page_goes_on_with_its_table.ensures in
    let of_atp = c.an_event_is_a_happening_of_atp.ensures in
    let foreign = c.another_protocols_event_passes_atp.ensures in
    let laws : Laws A = record {
      foreign_call = foreign.call;
      foreign_timer = foreign.timer;
      foreign_datagram = foreign.datagram;
      called = of_atp.call;
      timed = of_atp.timer;
      heard = of_atp.packet;
      passes = foreign.passes;
      unheld = c.a_number_that_is_not_held_has_no_record.ensures;
      carries = c.what_is_sent_carries_its_number.ensures;
      lawful_sent = c.what_is_sent_is_lawful.ensures;
      reading = record {
        asks = read.request;
        written = read.page;
        lawful = read.lawful;
        one_request = once.request;
        sets = c.tables_stay_tables.ensures;
        one_page = once.page;
        faultless = once.faultless;
        longest = c.a_page_is_the_longest_run.ensures.longest;
        begins = on.begins;
        whole = on.whole;
      };
    } in
    let table = c.names_without_a_fault_are_a_table.ensures in
    let setups : SetupLaws = record { is_a_name = table.name; is_a_table = table.table } in
    let of_names = c.an_event_is_a_happening.ensures in
    let its_names = c.another_protocols_event_passes.ensures in
    let found = c.finds_stood_since_their_lookup_began.ensures in
    let sent = c.what_is_sent_is_lawful-2.ensures in
    let names : NameLaws A = record {
      foreign_call = its_names.call;
      foreign_timer = its_names.timer;
      foreign_datagram = its_names.datagram;
      called = of_names.call;
      timed = of_names.timer;
      heard = of_names.packet;
      passes = its_names.passes;
      carries = c.a_reply_carries_its_identifier.ensures;
      lawful_sent = sent.lawful;
      named = sent.named;
      found = found.stood;
      opens = c.a_new_socket_is_lawful.ensures;
    } in
    let of_streams = c.an_event_is_a_happening-2.ensures in
    let its_streams = c.another_protocols_event_passes-2.ensures in
    let carried = c.a_segment_carries_its_identifiers.ensures in
    let streams : StreamLaws A = record {
      foreign_call = its_streams.call;
      foreign_timer = its_streams.timer;
      foreign_datagram = its_streams.datagram;
      called = of_streams.call;
      timed = of_streams.timer;
      heard = of_streams.packet;
      passes = its_streams.passes;
      carries_source = carried.source;
      carries_dest = carried.dest;
      lawful_sent = c.what_is_sent_is_lawful-3.ensures;
      unheld = c.an_identifier_that_is_not_held_has_no_end.ensures;
      reads = c.what_is_read_reads_from_a_peer.ensures;
      names = c.an_end_that_opened_names_its_peer.ensures;
      in_order = read_in_order c.what_is_read_on_the_cable_was_written_in_order.ensures
          c.few_segments_are_near.ensures;
    } in
    let told = c.an_event_is_a_step_of_the_session.ensures in
    let sessions : SessionLaws A = record { called = told.call; timed = told.timer; heard = told.datagram } in
    let draws = c.what_is_drawn_is_told.ensures in
    let both : PartLaws A =
    record {
      atp = laws;
      names = names;
      streams = streams;
      sessions = sessions;
      seats = record {
        called = c.a_node_keeps_its_seat.ensures.call;
        timed = c.a_node_keeps_its_seat.ensures.timer;
        heard = c.a_node_keeps_its_seat.ensures.bytes;
      };
      drawn = draws.call;
      heard = draws.bytes;
    } in
    λ sent_all follows.
    let opened = tied_at_opening A s setups names lawful in
    let ran = runs A both (opening_world s) (opening_machine s) events reports w opened.0 sent_all follows in
    let now = ran.2 in
    let cable = now.cable in
    let atp = now.atp in (
      record { follows = follows; machine = ran.0; run = ran.1; agree = ran.4 },
      (
        atp.history,
        record {
          timely = atp.timely;
          in_range = atp.in_range;
          tells = subst (λ before. Tells s.net (tables_of s) before events reports atp.history) opened.1 ran.3;
          is_sent = λ which s there. ap (λ l. slice_get l which) cable.sent
              ∙ stands_at cable.wires (after A atp.history).sent which s atp.sent there;
        },
      ),
    )
