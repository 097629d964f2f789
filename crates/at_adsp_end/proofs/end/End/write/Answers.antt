use Rattle.std.proofs.Common.{◌++◌, take, subst}
use Rattle.at_adsp_end.specs.Ends.{EndState, places}
use Rattle.at_adsp_end.specs.Loads.{IsLoad}
use Rattle.at_adsp_end.specs.Outgoings.{Outgoing as Kept}
use Rattle.at_adsp_end.specs.Positions.{wire}
use Rattle.at_adsp_end.specs.Sending.{sending}
use Rattle.at_adsp_end.proofs.HearingLemmas.{sending_load}
use Rattle.at_adsp_end.proofs.end.End.write.Goals as goal

pub returns-in-Err-clause-memory : goal.returns-in-Err-clause-memory
returns-in-Err-clause-memory g c =
    let o = c.self.inside in
    let was : EndState = record {
      id = o.id;
      listener = o.listener;
      asked = o.asked;
      remote = o.remote;
      phase = o.phase;
      sender = o.outgoing.sender;
      receiver = record { received = o.received; unread = o.unread.items };
      ticks = o.ticks;
      receive_room = o.unread.capacity;
      send_room = o.outgoing.room;
    } in
    let all : EndState = record was {
      sender = record o.outgoing.sender {
        waiting = o.outgoing.sender.waiting ++ take (places was) c.args.items.now;
      };
    } in
    let load = subst (λ (x : Kept). IsLoad c.count_segments-load.result was.asked
    (sending wire (record was { sender = x.sender; send_room = x.room })).sent) c.append-count.ensures.state
    (sending_load c.count_segments-load.result was.asked
    (record was { sender = c.append-count.new.self.sender; send_room = c.append-count.new.self.room }) _ _
    c.sent.ensures c.count_going-going.ensures.count (c.count_segments-load.ensures.load was.asked)) in
    rw (← c.self.view_is) (λ h. c.in-Err.ensures.succeeds was.asked (sending wire all).sent load h)
