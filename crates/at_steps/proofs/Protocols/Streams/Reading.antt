-- What is read at a node reads from the peer.
use Rattle.std.proofs.Common.{◌≡◌, ℕ, List, ◌∷◌, Option, Some, None, Result, Ok, Err, refl, subst, ◌∙◌}
use Rattle.std.specs.List.{AllByRecursion}
use Rattle.at_ddp.specs.declared.address.Address.{Address}
use Rattle.at_adsp_end.specs.Fault.{number_of}
use Rattle.at_adsp_end.specs.Positions.{wire}
use Rattle.at_adsp_end.specs.declared.fault.StreamFault.{StreamFault}
use Rattle.at_adsp_end.specs.declared.item.Item.{Item}
use Rattle.at_adsp_ends.specs.Calls.{read_at}
use Rattle.at_adsp_ends.specs.Tables.{Done, by_id}
use Rattle.at_adsp.specs.Connections.{streams}
use Rattle.at_adsp.specs.Meetings.{ReadsWith}
use Rattle.at_adsp.specs.Network.{AllTimely, Happening, Reads, Setting, after}
use Rattle.at_adsp.specs.Orders.{ReadsInOrder}
use Rattle.at_adsp.specs.Pairs.{HappensHere}
use Rattle.at_event.specs.Outcomes.{refused_as}
use Rattle.at_event.specs.declared.Call.TheVariants.{Streams}
use Rattle.at_event.specs.declared.streams.StreamCall.TheVariants.{Read}
use Rattle.at_event.specs.declared.Report.{Report}
use Rattle.at_event.specs.declared.Report.TheVariants as report
use Rattle.at_event.specs.declared.streams.StreamReport.TheVariants as adsp_report
use Rattle.at_node.specs.Nodes.{NodeState, called}
use Rattle.at_stream_socket.specs.Calls as sockets
use Rattle.at_stream_socket.specs.Sockets.{streams_at, told_read}
use Rattle.at_steps.specs.StreamHappenings.{Stands}
use Rattle.at_steps.proofs.Protocols.Streams.Ours.{all_ours}

-- what is read reads from a peer
abbrev pub ReadsFromPeer : Type 0
ReadsFromPeer = (setting : Setting) (history : List Happening) (at : Address) (id count : ℕ) (d : Done (List Item))
    → AllTimely setting history → AllByRecursion (HappensHere setting) history →
    read_at setting.numbers ((after setting history).tables at) count (by_id ((after setting history).tables at) id)
    ≡ Ok d → ReadsInOrder (after setting (Reads at id count ∷ history))
    → ReadsWith (streams (after setting history)) at id d.answer

items_same : {A : Type 0} (a b : List Item)
    → ◌≡◌ {A = Report A} (report.Streams (adsp_report.Read a)) (report.Streams (adsp_report.Read b)) → a ≡ b
items_same a b h = cc

-- a refusal reads nothing
no_read : (A : Type 0) (number : Option ℕ) (items : List Item)
    → ◌≡◌ {A = Report A} (refused_as number) (report.Streams (adsp_report.Read items)) → ⊥
no_read A None items h = absurd (cc)
no_read A (Some k) items h = absurd (cc)

pub read_with : (A : Type 0) → ReadsFromPeer
    → (setting : Setting) (history : List Happening) (n : NodeState) (id count : ℕ) (items : List Item)
    → Stands setting history n.seat.net n.seat.number n → (called {A = A} n (Streams (Read id count))).report
    ≡ report.Streams (adsp_report.Read items) →
    ReadsInOrder (after setting (Reads (streams_at n.seat.net n.seat.number) id count ∷ history))
    → ReadsWith (streams (after setting history)) (streams_at n.seat.net n.seat.number) id items
read_with A law setting history n id count items st told order =
    go (read_at wire n.streams count (by_id n.streams id)) refl told
  where
    at : Address
    at = streams_at n.seat.net n.seat.number

    same : read_at setting.numbers ((after setting history).tables at) count
        (by_id ((after setting history).tables at) id) ≡ read_at wire n.streams count (by_id n.streams id)
    same = λ i. read_at (st.numbers i) (st.stands i) count (by_id (st.stands i) id)

    go : (r : Result (Done (List Item)) StreamFault) → read_at wire n.streams count (by_id n.streams id) ≡ r
        → (sockets.called {A = A} n.seat n.streams told_read r).report ≡ report.Streams (adsp_report.Read items)
        → ReadsWith (streams (after setting history)) at id items
    go (Err fault) e h = absurd (no_read A (number_of fault) items h)
    go (Ok d) e h =
        subst (ReadsWith (streams (after setting history)) at id) (items_same d.answer items h)
        (law setting history at id count d st.timely (all_ours n.seat.net setting history st.ours st.here) (same ∙ e)
        order)
