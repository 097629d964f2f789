-- The sockets of a node that answer: their packets are safe.
use Rattle.std.proofs.Common.{◌≡◌, inl, inr, ℕ, ◌≤◌, Bool, true, false, cond, List, [], ◌∷◌, length, Option, Some, None}
use Rattle.std.proofs.Common.{refl, sym, ap, subst, ◌∙◌, arith}
use Rattle.std.specs.Prelude.{find, is_none, nat_le, option_map, ◌==◌, ◌&&◌}
use Rattle.std.proofs.lemmas.Bool.Decides.{nat_tests}
use Rattle.at_ddp.specs.Datagram.{Content as Datagram}
use Rattle.at_ddp.specs.declared.address.Address.{Address}
use Rattle.at_ddp.specs.Protocols.{atp_kind}
use Rattle.at_atp_frame.specs.Fault as atp
use Rattle.at_atp_frame.specs.Frames.{Content, Request, Response, Release, Spells, spelled_all}
use Rattle.at_atp_frame.specs.Packets.{Packet}
use Rattle.at_atp_frame.specs.declared.fault.AtpFault.{AtpFault}
use Rattle.at_atp_frame.specs.declared.fault.AtpFault.TheVariants as atps
use Rattle.at_atp_responder.specs.Records.{AsksForEight, Record, Received, asked_for, finds_no_place, is_key}
use Rattle.at_atp_responder.specs.Records.{is_new_and_full, is_passed_over, received}
use Rattle.at_atp_responder.specs.declared.reception.Key.{Key}
use Rattle.at_atp_responder.specs.declared.reception.Reception.{Reception}
use Rattle.at_atp_responder.specs.declared.reception.Reception.TheVariants as reception
use Rattle.at_event.specs.Outcomes.{Outcome, idle, refused_as, sent_by, over}
use Rattle.at_event.specs.declared.Report.TheVariants as report
use Rattle.at_event.specs.declared.transactions.TransactionReport.TheVariants as atp_report
use Rattle.at_event.specs.declared.service.Reply.{Reply}
use Rattle.at_event.specs.declared.service.Reply.TheVariants as reply
use Rattle.at_zone_socket.specs.AtpHearing.{AtSocket, AtpSocket, HearsAt, HearsAtp, Requester, Service}
use Rattle.at_zone_socket.specs.AtpHearing.{Zones as ZoneSocket, atp_socket}
use Rattle.at_zone_socket.specs.AtpParts.{AtpState, with_transactions, with_zones}
use Rattle.at_transaction_socket.specs.TransactionSockets.{serving}
use Rattle.at_zone_socket.specs.ZoneSockets.{zones_at, ZoneState}
use Rattle.at_node.specs.Nodes.{NodeState}
use Rattle.at_zone_socket.specs.AtpTimers.{records_at}
use Rattle.at_transaction_socket.specs.Responders.{released_report}
use Rattle.at_transaction_socket.specs.ServiceSocket.{service_heard, at_service, handed_up, sent_by_reply}
use Rattle.at_transaction_socket.specs.ServiceSocket.{service_taken}
use Rattle.at_zip.specs.Tables.{Tables, table_of}
use Rattle.at_zone_socket.specs.ZoneSocket.{AtZones, at_zones, page_packet, zone_served, zone_taken}
use Rattle.at_steps.specs.Safety.{IsSafe, IsTrueOf, TransactionTable, Records, number_told}
use Rattle.at_event.specs.declared.Reason.TheVariants.{OfTransactions}
use Rattle.at_steps.proofs.Safety.By.{by, faulted, packets_few, quiet, refused}
use Rattle.at_steps.proofs.Protocols.Atp.SafeRecords.{RecordLaws}
use Rattle.at_steps.proofs.Protocols.Atp.SafeRequests.{heard_at_requester}

-- the mask of a packet that came has eight bits
asks_for_eight : (bytes : List ℕ) (f : Content) → Spells bytes f → AsksForEight f
asks_for_eight bytes (Request mask xo timer tid user more) spelled = spelled.mask_fits
asks_for_eight bytes (Response place eom sts tid user more) spelled = tt
asks_for_eight bytes (Release tid) spelled = tt

-- a request finds no place only if 64 records stand
full_records : (rs : List Record) (from : Address) (f : Content) → finds_no_place rs from f ≡ true → 64 ≤ length rs
full_records rs from (Request bitmap xo timer tid user bytes) h = go (is_passed_over bitmap) h
  where
    at : (a b : Bool) → nat_le 64 (length rs) ≡ b → (a && b) ≡ true → 64 ≤ length rs
    at true true is g = grind (arith, nat_tests, is)
    at true false is g = absurd (cc)
    at false b is g = absurd (cc)

    go : (b : Bool) → cond b false (is_new_and_full rs (record { from = from; tid = tid })) ≡ true → 64 ≤ length rs
    go true g = absurd (cc)
    go false g = at (is_none (find (is_key (record { from = from; tid = tid })) rs)) (nat_le 64 (length rs)) refl g
full_records rs from (Response place eom sts tid user bytes) h = absurd (cc)
full_records rs from (Release tid) h = absurd (cc)

-- the records of a socket that answers are those of its number
abbrev IsAt : AtpState → ℕ → AtpSocket → Type 0
IsAt a socket Requester = Unit {0}
IsAt a socket Service = records_at a socket ≡ a.transactions.service_responder
IsAt a socket (ZoneSocket tables) = records_at a socket ≡ a.zones.zone_responder

socket_at : (a : AtpState) (socket : ℕ) (x : AtpSocket) → atp_socket a socket ≡ Some x → IsAt a socket x
socket_at a socket x = go (socket == 128) (socket == 129) (socket == 6) refl refl
  where
    at : (b c : Bool) → AtpSocket → Type 0
    at b c Requester = Unit {0}
    at b c Service = cond b a.transactions.service_responder (cond c a.zones.zone_responder [])
        ≡ a.transactions.service_responder
    at b c (ZoneSocket tables) = cond b a.transactions.service_responder (cond c a.zones.zone_responder [])
        ≡ a.zones.zone_responder

    of : (b c : Bool) (y : AtpSocket) → Some y ≡ Some x → at b c y → at b c x
    of b c y is h = let same : y ≡ x = cc in subst (at b c) same h

    zones : (o : Option Tables) → option_map ZoneSocket o ≡ Some x → at false true x
    zones None is = absurd (cc)
    zones (Some tables) is = of false true (ZoneSocket tables) is refl

    whole : (b c : Bool) (y : AtpSocket) → (socket == 129) ≡ b → (socket == 6) ≡ c → at b c y → IsAt a socket y
    whole b c Requester is was h = tt
    whole b c Service is was h = rw (is, was) h
    whole b c (ZoneSocket tables) is was h = rw (is, was) h

    go : (r b c : Bool) → (socket == 129) ≡ b → (socket == 6) ≡ c
        → cond r (Some Requester) (cond b (Some Service) (cond c (option_map ZoneSocket a.zones.tables) None)) ≡ Some x
        → IsAt a socket x
    go true b c is was h = whole b c x is was (of b c Requester h tt)
    go false true c is was h = whole true c x is was (of true c Service h refl)
    go false false true is was h = whole false true x is was (zones a.zones.tables h)
    go false false false is was h = absurd (cc)

module _ (A : Type 0) (n : NodeState) (Wants : TransactionTable → Type 0) where
  abbrev Safe : Outcome A AtpState → Type 0
  Safe o = IsSafe Wants n n.atp o

  abbrev True : AtpFault → Type 0
  True fault = IsTrueOf Wants n (OfTransactions fault)

  released_quiet : (x : Reception) → number_told (released_report {A = A} x) ≡ None
  released_quiet reception.Ignored = refl
  released_quiet (reception.Again count) = refl
  released_quiet reception.Released = refl
  released_quiet (reception.New key) = refl

  ignored : (o : Outcome A AtpState) → o ≡ idle n.atp report.Ignored → Safe o
  ignored o is = by A Wants n n.atp o (idle n.atp report.Ignored) is
      (quiet A Wants n n.atp (idle n.atp report.Ignored) refl (omega arith))

  module _ (socket : ℕ) (here : Wants (Records socket)) (laws : RecordLaws) where
    full_true : (rs : List Record) → records_at n.atp socket ≡ rs → 64 ≤ length rs → True atps.Full
    full_true rs is most = (Records socket, here, subst (λ r. 64 ≤ length r) (sym is) most)

    or_full : {P : Type 0} (f : P → AtpState) (part : P) → f part ≡ n.atp → (b : Bool) (o : Outcome A AtpState)
        (q : Outcome A P) → Safe (over f q) → (b ≡ true → True atps.Full)
        → o ≡ over f (cond b (idle part (refused_as (atp.number_of atps.Full))) q) → Safe o
    or_full f part same true o q safe why is =
        by A Wants n n.atp o (idle n.atp (refused_as (atp.number_of atps.Full)))
        (is ∙ ap (λ (a : AtpState). idle a (refused_as (atp.number_of atps.Full))) same)
        (refused A Wants n n.atp (OfTransactions atps.Full) (why refl))
    or_full f part same false o q safe why is = by A Wants n n.atp o (over f q) is safe

    -- at the service

    service_few : (t : Received) → length t.sent ≤ 8
        → length (sent_by (serving n.seat.net n.seat.number) atp_kind (spelled_all t.sent)) ≤ 131070
    service_few t eight =
        packets_few (serving n.seat.net n.seat.number) atp_kind t.sent 131070 (omega (arith, eight))

    module _ (from : Address) (f : Content) (asks : AsksForEight f) where
      service_eight : length (received n.atp.transactions.service_responder from f).sent ≤ 8
      service_eight = laws.came n.atp.transactions.service_responder from f asks

      handed_up_few : (key : Key) (said : Reply A)
          → (received n.atp.transactions.service_responder from f).reception ≡ reception.New key
          → length (sent_by_reply (received n.atp.transactions.service_responder from f).after key said) ≤ 8
      handed_up_few key reply.Later new = omega arith
      handed_up_few key (reply.Now packets) new = laws.replied n.atp.transactions.service_responder from f key packets
          asks new

      service_safe : (user bytes : List ℕ) (said : Reply A) (x : Reception)
          → (received n.atp.transactions.service_responder from f).reception ≡ x
          → Safe (over (with_transactions n.atp) (at_service n.seat n.atp.transactions
          (received n.atp.transactions.service_responder from f) user bytes said x))
      service_safe user bytes said reception.Ignored is =
          let t = received n.atp.transactions.service_responder from f in
          quiet A Wants n n.atp (over (with_transactions n.atp)
          (service_taken n.seat n.atp.transactions t report.Ignored)) refl (service_few t service_eight)
      service_safe user bytes said (reception.Again count) is =
          let t = received n.atp.transactions.service_responder from f in
          quiet A Wants n n.atp (over (with_transactions n.atp)
          (service_taken n.seat n.atp.transactions t report.Again)) refl (service_few t service_eight)
      service_safe user bytes said reception.Released is =
          let t = received n.atp.transactions.service_responder from f in
          quiet A Wants n n.atp (over (with_transactions n.atp)
          (service_taken n.seat n.atp.transactions t (report.Transactions atp_report.Released))) refl
          (service_few t service_eight)
      service_safe user bytes said (reception.New key) is =
          let t = received n.atp.transactions.service_responder from f in
          quiet A Wants n n.atp (over (with_transactions n.atp)
          (handed_up n.seat n.atp.transactions t key user bytes said)) refl
          (packets_few (serving n.seat.net n.seat.number) atp_kind (sent_by_reply t.after key said) 131070
          (omega (arith, handed_up_few key said is)))

      zone_few : length (sent_by (zones_at n.seat.net n.seat.number) atp_kind
          (spelled_all (received n.atp.zones.zone_responder from f).sent)) ≤ 131070
      zone_few =
          packets_few (zones_at n.seat.net n.seat.number) atp_kind
          (received n.atp.zones.zone_responder from f).sent 131070
          (omega (arith, laws.came n.atp.zones.zone_responder from f asks))

      zones_safe : (packet : Packet) (x : Reception)
          → Safe (over (with_zones n.atp) (at_zones n.seat n.atp.zones
          (received n.atp.zones.zone_responder from f) packet
          x))
      zones_safe packet reception.Ignored =
          let t = received n.atp.zones.zone_responder from f in
          quiet A Wants n n.atp (over (with_zones n.atp) (zone_taken n.seat n.atp.zones t report.Ignored)) refl zone_few
      zones_safe packet (reception.Again count) =
          let t = received n.atp.zones.zone_responder from f in
          quiet A Wants n n.atp (over (with_zones n.atp) (zone_taken n.seat n.atp.zones t report.Again)) refl zone_few
      zones_safe packet reception.Released =
          let t = received n.atp.zones.zone_responder from f in
          quiet A Wants n n.atp (over (with_zones n.atp)
          (zone_taken n.seat n.atp.zones t (report.Transactions atp_report.Released))) refl zone_few
      zones_safe packet (reception.New key) =
          let t = received n.atp.zones.zone_responder from f in
          let sent = asked_for (find (is_key key) t.after) key (packet ∷ []) in
          let one = laws.answered (find (is_key key) t.after) key (packet ∷ []) in
          quiet A Wants n n.atp (over (with_zones n.atp) (zone_served n.seat n.atp.zones t key packet)) refl
          (packets_few (zones_at n.seat.net n.seat.number) atp_kind sent 131070 (omega (arith, one)))

    serves : (said : Reply A) (from : Address) (f : Content) (o : Outcome A AtpState) → AsksForEight f
        → records_at n.atp socket ≡ n.atp.transactions.service_responder → o ≡ over (with_transactions n.atp)
        (service_heard said n.seat n.atp.transactions from f) → Safe o
    serves said from (Request mask xo timer tid user bytes) o asks there at =
        let f : Content = Request mask xo timer tid user bytes in
        let rs = n.atp.transactions.service_responder in
        let t = received rs from f in
        or_full (with_transactions n.atp) n.atp.transactions refl (finds_no_place rs from f) o
        (at_service n.seat n.atp.transactions t user bytes said t.reception)
        (service_safe from f asks user bytes said t.reception refl)
        (λ no. full_true rs there (full_records rs from f no)) at
    serves said from (Response place eom sts tid user bytes) o asks there at = ignored o at
    serves said from (Release tid) o asks there at =
        let t = received n.atp.transactions.service_responder from (Release tid) in
        let q = over (with_transactions n.atp) (service_taken n.seat n.atp.transactions t (released_report t.reception))
        in
        by A Wants n n.atp o q at
        (quiet A Wants n n.atp q (released_quiet t.reception) (service_few t (service_eight from (Release tid) asks)))

    -- what comes of a part, in the whole
    abbrev zoned : Outcome A ZoneState → Outcome A AtpState
    zoned p = over (with_zones n.atp) p

    serves_zones : (from : Address) (tables : Tables) (f : Content) (o : Outcome A ZoneState) → AsksForEight f
        → records_at n.atp socket ≡ n.atp.zones.zone_responder → AtZones n.seat n.atp.zones from tables f o
        → Safe (zoned o)
    serves_zones from tables (Request mask xo timer tid user bytes) o asks there (inr at) =
        ignored (zoned o) (ap zoned at.1)
    serves_zones from tables (Request mask xo timer tid user bytes) o asks there (inl at) =
        let f : Content = Request mask xo timer tid user bytes in
        let rs = n.atp.zones.zone_responder in
        let t = received rs from f in
        let page = page_packet (table_of at.which tables) at.start in
        or_full (with_zones n.atp) n.atp.zones refl (finds_no_place rs from f) (zoned o)
        (at_zones n.seat n.atp.zones t page t.reception) (zones_safe from f asks page t.reception)
        (λ no. full_true rs there (full_records rs from f no)) (ap zoned at.outcome)
    serves_zones from tables (Response place eom sts tid user bytes) o asks there at = ignored (zoned o) (ap zoned at)
    serves_zones from tables (Release tid) o asks there at =
        let t = received n.atp.zones.zone_responder from (Release tid) in
        let q = zoned (zone_taken n.seat n.atp.zones t (released_report t.reception)) in
        by A Wants n n.atp (zoned o) q (ap zoned at)
        (quiet A Wants n n.atp q (released_quiet t.reception) (zone_few from (Release tid) asks))

    at_a_socket : (said : Reply A) (from : Address) (x : AtpSocket) (f : Content) (o : Outcome A AtpState)
        → AsksForEight f → IsAt n.atp socket x → AtSocket said n.seat n.atp from (Some x) f o → Safe o
    at_a_socket said from Requester f o asks there at = heard_at_requester A n Wants from f o at
    at_a_socket said from Service f o asks there at = serves said from f o asks there at
    at_a_socket said from (ZoneSocket tables) f o asks there at =
        by A Wants n n.atp o (zoned at.0) at.2 (serves_zones from tables f at.0 asks there at.1)

  decoded : (fault : AtpFault) (bytes : List ℕ) → atp.IsFirstFault fault bytes → True fault
  decoded atps.Full bytes h = absurd h.stands
  decoded fault bytes h = tt

  hears_at : RecordLaws → (said : Reply A) (d : Datagram) (x : Option AtpSocket) (o : Outcome A AtpState)
      → Wants (Records d.to.socket) → atp_socket n.atp d.to.socket ≡ x → HearsAt said n.seat n.atp d x o → Safe o
  hears_at laws said d None o here is h = ignored o h
  hears_at laws said d (Some x) o here is (inl h) =
      at_a_socket d.to.socket here laws said d.from x h.packet o (asks_for_eight d.data_ h.packet h.spelled)
      (socket_at n.atp d.to.socket x is) h.outcome
  hears_at laws said d (Some x) o here is (inr h) =
      faulted A Wants n n.atp (OfTransactions h.fault) h.number o (decoded h.fault d.data_ h.first) h.numbered
      h.outcome

  pub atp_safe : RecordLaws → (said : Reply A) (d : Datagram) (o : Outcome A AtpState) → Wants (Records d.to.socket)
      → HearsAtp said n.seat n.atp d o → Safe o
  atp_safe laws said d o here h = hears_at laws said d (atp_socket n.atp d.to.socket) o here refl h
