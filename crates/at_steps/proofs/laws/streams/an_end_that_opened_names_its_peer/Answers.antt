use Rattle.std.proofs.Common.{◌∙◌, ap}
use Rattle.at_adsp_ends.specs.Tables.{EndTable, by_id}
use Rattle.at_stream_socket.specs.Sockets.{streams_at}
use Rattle.at_steps.proofs.Protocols.Streams.Ours.{all_ours}
use Rattle.at_steps.proofs.laws.streams.an_end_that_opened_names_its_peer.Goals as goal

pub returns : goal.returns
returns c setting history n id e st is opened =
    c.an_end_that_opened_names_its_peer.ensures setting history st.timely
    (all_ours n.seat.net setting history st.ours st.here) (streams_at n.seat.net n.seat.number) id e
    (ap (λ (t : EndTable). by_id t id) st.stands ∙ is) opened
