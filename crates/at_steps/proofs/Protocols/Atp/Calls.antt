-- What each call of a node is in the network.
use Rattle.std.proofs.Common.{◌≡◌, ℕ, Bool, true, false, cond, List, [], ◌∷◌, ◌++◌, length, Option, Some, None, refl}
use Rattle.std.proofs.Common.{ap, ◌∙◌, lit<}
use Rattle.std.specs.Prelude.{find, ◌&&◌, nat_lt, nat_le}
use Rattle.std.specs.List.{AllByRecursion}
use Rattle.std.proofs.lemmas.Bool.{and_parts, leb-true}
use Rattle.at_ddp.specs.Datagram.{IsAddress}
use Rattle.at_ddp.specs.declared.address.Address.{Address}
use Rattle.at_atp_frame.specs.Frames.{Content}
use Rattle.at_atp_frame.specs.Fault.{number_of}
use Rattle.at_atp_frame.specs.Packets.{Packet, IsPacket, AreWords}
use Rattle.at_atp_frame.specs.declared.fault.AtpFault.{AtpFault}
use Rattle.at_atp_frame.specs.declared.fault.AtpFault.TheVariants.{AtpTooLong}
use Rattle.at_atp_responder.specs.Records.{Record, is_key, after_answer, answer_fault, record_fault, asked_for, fit}
use Rattle.at_atp_responder.specs.declared.reception.Key.{Key}
use Rattle.at_atp.specs.Network as network
use Rattle.at_ddp.specs.Posts.{put, stamped}
use Rattle.at_atp.specs.Network.{Network, Happening, after, done}
use Rattle.at_atp.specs.Transactions.{Asked}
use Rattle.at_event.specs.Kinds.{IsCall}
use Rattle.at_transaction_socket.specs.TransactionSockets.{serving}
use Rattle.at_event.specs.Kinds.{speaker_of_call}
use Rattle.at_node.specs.Nodes.{with_atp, NodeState, called}
use Rattle.at_event.specs.Outcomes.{over, idle, refused_as}
use Rattle.at_transaction_socket.specs.ServiceSocket.{answered_with}
use Rattle.at_event.specs.declared.Call.{Call}
use Rattle.at_event.specs.declared.Call.TheVariants.{Transactions, Zones}
use Rattle.at_event.specs.declared.transactions.TransactionCall.TheVariants.{Ask, Answer}
use Rattle.at_event.specs.declared.zones.ZoneCall.TheVariants as zone
use Rattle.at_event.specs.declared.Report.TheVariants as report
use Rattle.at_event.specs.declared.transactions.TransactionReport.TheVariants as atp_report
use Rattle.at_steps.specs.Acts.{Act, Calls}
use Rattle.at_steps.specs.AtpSteps as steps
use Rattle.at_steps.specs.AtpHappenings.{Stands, is_atp}
use Rattle.at_steps.proofs.Protocols.Atp.Asking.{DrawsFree, zones_call, set_zones_call, ask_call}
use Rattle.at_steps.proofs.Protocols.Atp.Below.{CallLaws}
use Rattle.at_steps.proofs.Protocols.Atp.Moves.{idle_happens, gave_happens}
use Rattle.at_steps.proofs.Protocols.Atp.Standing.{IsIts, with_service}
use Rattle.at_steps.proofs.Protocols.Atp.Stories.{answers_match}
use Rattle.at_zone_socket.specs.AtpParts.{with_transactions}

-- a refusal by the transaction protocol
pub refused_happens : (A : Type 0) (history : List Happening) (n : NodeState) (act : Act A)
    (st : Stands A history n.seat.net n.seat.number n) (number : Option ℕ)
    → IsIts A history n act (over (with_atp n) (idle n.atp (refused_as number)))
refused_happens A history n act st None = idle_happens A history n act st report.NoMemory refl refl refl
refused_happens A history n act st (Some i) = idle_happens A history n act st (report.Refused i) refl refl refl

module _ (A : Type 0) (laws : CallLaws A) (history : List Happening) (n : NodeState)
    (st : Stands A history n.seat.net n.seat.number n) where
  serving_fits : IsAddress (serving n.seat.net n.seat.number)
  serving_fits = record { net = st.small_net; node = st.small_number; socket = lit< tt }

  -- an answer that is not refused has a record, and packets that fit
  found_record : (rs : List Record) (key : Key) (packets : List Packet) → answer_fault rs key packets ≡ None
      → ((r : Record) × (find (is_key key) rs ≡ Some r)) × (fit packets ≡ true)
  found_record rs key [] h = absurd (cc)
  found_record rs key (p ∷ ps) h = go (nat_le (length (p ∷ ps)) 8) (fit (p ∷ ps)) refl h
    where
      stands_there : (o : Option Record) → find (is_key key) rs ≡ o → record_fault o ≡ None → (r : Record)
          × (find (is_key key) rs ≡ Some r)
      stands_there None e g = absurd (cc)
      stands_there (Some r) e g = (r, e)

      go : (b c : Bool) → fit (p ∷ ps) ≡ c → cond (b && c) (record_fault (find (is_key key) rs)) (Some AtpTooLong)
          ≡ None → ((r : Record) × (find (is_key key) rs ≡ Some r)) × (fit (p ∷ ps) ≡ true)
      go true true e g = (stands_there (find (is_key key) rs) refl g, e)
      go true false e g = absurd (cc)
      go false c e g = absurd (cc)

  packets_fit : (packets : List Packet) → fit packets ≡ true → AllByRecursion AreWords packets
      → AllByRecursion IsPacket packets
  packets_fit [] h all = tt
  packets_fit (p ∷ ps) h all =
      let both = and_parts (nat_le (length p.data_) 578) (fit ps) h in
      let a = all.0 in (
        record { four = a.four; user = a.user; bytes = a.bytes; fits = leb-true (length p.data_) 578 both.0 },
        packets_fit ps both.1 all.1,
      )

  module _ (key : Key) (packets : List Packet) (range : IsCall {A = A} (Transactions (Answer key packets))) where
    -- the socket of the node's service, its records after the answer, and what is sent
    abbrev here : Address
    here = serving n.seat.net n.seat.number

    abbrev now : List Record
    now = after_answer n.atp.transactions.service_responder key packets

    abbrev sent : List (Address × Content)
    sent = asked_for (find (is_key key) n.atp.transactions.service_responder) key packets

    is_done : answer_fault n.atp.transactions.service_responder key packets ≡ None
        → done A (after A history) (network.Answers here key packets)
        ≡ network.answers (after A history) here key packets None
    is_done free = ap (λ f. network.answers (after A history) here key packets f)
        (ap (λ rs. answer_fault rs key packets) st.service ∙ free)

    answer_call : (fault : Option AtpFault) → answer_fault n.atp.transactions.service_responder key packets ≡ fault
        → IsIts A history n (Calls (Transactions (Answer key packets)))
        (over (with_atp n) (over (with_transactions n.atp) (answered_with n.seat n.atp.transactions key packets fault)))
    answer_call (Some fault) is =
        refused_happens A history n (Calls (Transactions (Answer key packets))) st (number_of fault)
    answer_call None is =
        let found = found_record n.atp.transactions.service_responder key packets is in
        let gives = laws.answers history st.timely in
        let held = ap (find (is_key key)) st.service ∙ found.0.1 in
        let asked : Asked (after A history).asked key.from key.tid here = gives.recorded here key found.0.0 held in
        let done_is = is_done is in
        gave_happens A history n (Calls (Transactions (Answer key packets))) st (network.Answers here key packets)
        (report.Transactions (atp_report.Answered (length sent))) here key.from key.tid packets
        n.atp.zones.zone_responder now
        sent
        tt (serving_fits, packets_fit packets found.1 range.1)
        (ap (λ (x : Network). x.event) done_is)
        (λ who. ap (λ (x : Network). x.requesters who) done_is)
        (λ at. ap (λ (x : Network). x.responders at) done_is
        ∙ ap (λ rs. put (after A history).responders here (after_answer rs key packets) at) st.service
        ∙ with_service A history n st now at)
        (ap (λ (x : Network). x.sent) done_is
        ∙ ap (λ rs. (after A history).sent ++ stamped (after A history).event here
        (asked_for (find (is_key key) rs) key packets)) st.service)
        (ap (λ (x : Network). x.drawn) done_is)
        (ap (λ (x : Network). x.asked) done_is) refl
        (answers_match A n.seat.net n.seat.number n.atp.zones.tables (after A history) here key packets (length sent)
        (ap (λ (x : Network). x.asked) done_is))
        (steps.Answers (record {
          key = key;
          packets = packets;
          count = length sent;
          act = refl;
          report = refl;
          newest = asked;
          few = laws.few (find (is_key key) n.atp.transactions.service_responder) key packets;
          asked = refl;
          reading = refl;
        }))

  pub call_happens : (call : Call A) → IsCall call → is_atp (speaker_of_call call) ≡ true
      → DrawsFree A history n (called n call).report → IsIts A history n (Calls call) (called n call)
  call_happens (Zones (zone.Read kind)) range own free =
      zones_call A laws history n st kind n.seat.router n.atp.zones.reading refl free
  call_happens (Zones (zone.Set kind names)) range own free =
      set_zones_call A laws history n st kind names n.atp.zones.tables refl
  call_happens (Transactions (Ask node socket user bytes wanted xo retries)) range own free =
      ask_call A laws history n st node socket
      user bytes wanted xo retries range (nat_lt 578 (length bytes)) refl free
  call_happens (Transactions (Answer key packets)) range own free =
      answer_call key packets range (answer_fault n.atp.transactions.service_responder key packets) refl
  call_happens other range own free = absurd (cc)
