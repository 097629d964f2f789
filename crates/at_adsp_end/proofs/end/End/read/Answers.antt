use Rattle.std.proofs.Common.{[], ◌∷◌, length, refl, sym, ◌∙◌}
use Rattle.at_adsp_end.specs.Calls.{after_read}
use Rattle.at_adsp_end.specs.Ends.{EndState, acknowledging}
use Rattle.at_adsp_end.specs.Positions.{wire}
use Rattle.at_adsp_end.proofs.LoadLemmas.{failed}
use Rattle.at_adsp_end.proofs.end.End.read.Goals as goal

pub returns-in_err-room-clause-memory : goal.returns-in_err-room-clause-memory
returns-in_err-room-clause-memory g c =
    let e = c.args.self.now in
    let answer = acknowledging wire (after_read e (length c.args.items.now)) in
    rw (sym c.reading_opens.ensures ∙ c.if-not-reading_opens.false)
    (λ h. failed (c.in_err-room.ensures.succeeds e.asked (answer ∷ []) (c.of_one.ensures.is e.asked answer refl) h))

pub unwrap-requires : goal.unwrap-requires
unwrap-requires g c =
    let o = c.self.inside in
    let e : EndState = record {
      id = o.id;
      listener = o.listener;
      asked = o.asked;
      remote = o.remote;
      phase = o.phase;
      sender = o.outgoing.sender;
      receiver = record { received = o.received; unread = c.read_into-count.new.self.items };
      ticks = o.ticks;
      receive_room = c.read_into-count.new.self.capacity;
      send_room = o.outgoing.room;
    } in
    let answer = acknowledging wire e in
    (c.acknowledge.ensures.room []
    (c.in_ok-room.ensures.ok e.asked (answer ∷ []) (c.of_one.ensures.is e.asked answer refl))).0
