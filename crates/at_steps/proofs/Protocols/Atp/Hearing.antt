-- What comes of a datagram at the sockets for transactions: all that is sent is of ATP, and the report is of ATP and
-- ZIP, or nobody's.
use Rattle.std.proofs.Common.{◌≡◌, inl, inr, ℕ, ◌+◌, Bool, true, false, cond, List, [], ◌∷◌, ◌++◌, Option, Some, None}
use Rattle.std.proofs.Common.{refl, sym, ap, subst}
use Rattle.std.specs.Prelude.{MatchBool, find, length, nat_lt}
use Rattle.at_ddp.specs.Datagram.{Content as Datagram}
use Rattle.at_ddp.specs.declared.address.Address.{Address}
use Rattle.at_ddp.specs.Protocols.{atp_kind}
use Rattle.at_atp_frame.specs.Fault as atp
use Rattle.at_atp_frame.specs.Frames.{Content, Request, Response, Release, number_of, spelled_all}
use Rattle.at_atp_frame.specs.Packets.{Packet}
use Rattle.at_atp_frame.specs.declared.fault.AtpFault.TheVariants.{Full}
use Rattle.at_atp_requester.specs.Requests.{Heard, heard}
use Rattle.at_atp_requester.specs.declared.progress.RequestProgress.{RequestProgress}
use Rattle.at_atp_requester.specs.declared.progress.RequestProgress.TheVariants as step
use Rattle.at_atp_responder.specs.Records.{Received, asked_for, finds_no_place, is_key, received}
use Rattle.at_atp_responder.specs.declared.reception.Reception.{Reception}
use Rattle.at_atp_responder.specs.declared.reception.Reception.TheVariants as reception
use Rattle.at_zip.specs.Page.{Page}
use Rattle.at_zip.specs.Tables.{Tables, table_of}
use Rattle.at_zone_socket.specs.AtpHearing.{AtSocket, AtpSocket, HearsAt, HearsAtp, Requester, Service, atp_socket}
use Rattle.at_zone_socket.specs.AtpHearing.{Zones as ZoneSocket, AtRequester}
use Rattle.at_zone_socket.specs.AtpParts.{AtpState, with_transactions, with_zones, with_reading}
use Rattle.at_zone_socket.specs.ZoneSockets.{Reading, zones_at, ZoneState}
use Rattle.at_transaction_socket.specs.TransactionSockets.{after_heard, asking as asker, asks, packet_in, serving}
use Rattle.at_event.specs.Kinds.{Atp}
use Rattle.at_node.specs.Nodes.{NodeState, over_atp}
use Rattle.at_event.specs.Outcomes.{Outcome, Through, idle, refused_as, over}
use Rattle.at_transaction_socket.specs.RequesterSocket.{hears_other, reported_other}
use Rattle.at_transaction_socket.specs.Responders.{released_report}
use Rattle.at_transaction_socket.specs.ServiceSocket.{service_heard, at_service, sent_by_reply, service_taken}
use Rattle.at_zone_socket.specs.ZoneReading.{AsksOn, ReadsPage, TakesPage, is_page, names_read, page_transaction}
use Rattle.at_zone_socket.specs.ZoneReading.{table_read, reading_ends}
use Rattle.at_zone_socket.specs.ZoneSocket.{AtZones, at_zones, page_packet, zone_taken}
use Rattle.at_event.specs.declared.Report.{Report}
use Rattle.at_event.specs.declared.Report.TheVariants as report
use Rattle.at_event.specs.declared.zones.ZoneReport.TheVariants as zip_report
use Rattle.at_event.specs.declared.seat.Seat.{Seat}
use Rattle.at_event.specs.declared.service.Reply.{Reply}
use Rattle.at_steps.specs.Acts.{Gets}
use Rattle.at_steps.proofs.Coming.{MaySay, all_sent}
use Rattle.at_steps.proofs.Protocols.Atp.Outcomes.{ComesOfAtp, IsOfTransactions}

module _ (A : Type 0) (s : Seat) (a : AtpState) (which : ℕ) where
  by : (o q : Outcome A AtpState) → o ≡ q → IsOfTransactions A (Gets which) q → IsOfTransactions A (Gets which) o
  by o q is h = subst (IsOfTransactions A (Gets which)) (sym is) h

  ignored : (o : Outcome A AtpState) → o ≡ idle a report.Ignored → IsOfTransactions A (Gets which) o
  ignored o is = by o (idle a report.Ignored) is (tt, (tt, tt))

  hearing : (o : Outcome A AtpState) (h : Heard A) (r : Report A) (now : Option Reading) → MaySay A Atp (Gets which) r
      → o ≡ over (with_reading a now) (after_heard s a.transactions h r) → IsOfTransactions A (Gets which) o
  hearing o h r now apart is =
      by o (over (with_reading a now) (after_heard s a.transactions h r)) is
      (all_sent atp_kind (asker s.net s.number) (spelled_all h.sent), apart)

  other_told : (tid : ℕ) (x : RequestProgress A) → MaySay A Atp (Gets which) (reported_other tid x)
  other_told tid step.Ignored = (tt, tt)
  other_told tid step.Kept = (refl, tt)
  other_told tid step.AskAgain = (tt, tt)
  other_told tid (step.Finished packets) = (refl, tt)

  -- what comes of a page
  paging : (h : Heard A) (from : Address) (names : List (List ℕ)) (q : Page) (o : Outcome A AtpState)
      → TakesPage s a h from names q o → IsOfTransactions A (Gets which) o
  paging h from names q o = go (nat_lt 1024 (length names + length q.names)) q.last
    where
      go : (long last : Bool) → MatchBool long (o ≡ reading_ends s a h (report.Zones (zip_report.Fault 34)))
          (MatchBool last
          (o ≡ reading_ends s a h (report.Zones (zip_report.List (table_read a.zones.reading) (names ++ q.names))))
          (AsksOn s a h from (names ++ q.names) o)) → IsOfTransactions A (Gets which) o
      go true last t = hearing o h (report.Zones (zip_report.Fault 34)) None (refl, tt) t
      go false true t =
          hearing o h (report.Zones (zip_report.List (table_read a.zones.reading) (names ++ q.names))) None (refl, tt) t
      go false false t = by o (over (with_reading a
          (Some (record { which = table_read a.zones.reading; tid = t.tid; names = names ++ q.names })))
          (asks s (record a.transactions { requester = h.after })
          (page_transaction from (table_read a.zones.reading) (names ++ q.names) t.tid)))
          t.outcome ((refl, tt), (refl, tt))

  reading_page : (h : Heard A) (from : Address) (names : List (List ℕ)) (p : Packet) (o : Outcome A AtpState)
      → ReadsPage s a h from names p o → IsOfTransactions A (Gets which) o
  reading_page h from names p o (inl t) = paging h from names t.page o t.outcome
  reading_page h from names p o (inr t) =
      hearing o h (report.Zones (zip_report.Fault t.number)) None (refl, tt) t.outcome

  at_requester : (from : Address) (f : Content) (o : Outcome A AtpState) → AtRequester s a from f o
      → IsOfTransactions A (Gets which) o
  at_requester from f o = go (is_page A a from f)
    where
      go : (b : Bool) → MatchBool b
          (ReadsPage s a (heard a.transactions.requester from f) from (names_read a.zones.reading) (packet_in f) o)
          (o ≡ over (with_transactions a) (hears_other s a.transactions (number_of f)
          (heard a.transactions.requester from f))) → IsOfTransactions A (Gets which) o
      go true t = reading_page (heard a.transactions.requester from f) from (names_read a.zones.reading) (packet_in f) o
          t
      go false t = hearing o (heard a.transactions.requester from f)
          (reported_other (number_of f) (heard {A = A} a.transactions.requester from f).step) a.zones.reading
          (other_told (number_of f) (heard {A = A} a.transactions.requester from f).step) t

  -- a part has no place for a request, or this comes of it
  full : {P : Type 0} (f : P → AtpState) (part : P) (b : Bool) (o : Outcome A AtpState) (q : Outcome A P)
      → o ≡ over f (cond b (idle part (refused_as (atp.number_of Full))) q)
      → IsOfTransactions A (Gets which) (over f q) → IsOfTransactions A (Gets which) o
  full f part true o q is h = by o (over f (idle part (refused_as (atp.number_of Full)))) is (tt, (tt, tt))
  full f part false o q is h = by o (over f q) is h

  released : (x : Reception) → MaySay A Atp (Gets which) (released_report x)
  released reception.Ignored = (tt, tt)
  released (reception.Again count) = (tt, tt)
  released reception.Released = (refl, tt)
  released (reception.New key) = (tt, tt)

  service : (t : Received) (user bytes : List ℕ) (said : Reply A) (x : Reception)
      → IsOfTransactions A (Gets which) (over (with_transactions a) (at_service s a.transactions t user bytes said x))
  service t user bytes said reception.Ignored =
      (all_sent atp_kind (serving s.net s.number) (spelled_all t.sent), (tt, tt))
  service t user bytes said (reception.Again count) =
      (all_sent atp_kind (serving s.net s.number) (spelled_all t.sent), (tt, tt))
  service t user bytes said reception.Released =
      (all_sent atp_kind (serving s.net s.number) (spelled_all t.sent), (refl, tt))
  service t user bytes said (reception.New key) =
      (all_sent atp_kind (serving s.net s.number) (spelled_all (sent_by_reply t.after key said)), (refl, tt))

  serves : (said : Reply A) (from : Address) (f : Content) (o : Outcome A AtpState) → o ≡ over (with_transactions a)
      (service_heard said s a.transactions from f)
      → IsOfTransactions A (Gets which) o
  serves said from (Request mask xo timer tid user bytes) o at =
      let f : Content = Request mask xo timer tid user bytes in
      let t = received a.transactions.service_responder from f in
      full (with_transactions a) a.transactions (finds_no_place a.transactions.service_responder from f) o
      (at_service s a.transactions t user bytes said t.reception) at
      (service t user bytes said t.reception)
  serves said from (Response place eom sts tid user bytes) o at = ignored o at
  serves said from (Release tid) o at =
      let t = received a.transactions.service_responder from (Release tid) in
      by o (over (with_transactions a) (service_taken s a.transactions t (released_report t.reception))) at
      (all_sent atp_kind (serving s.net s.number) (spelled_all t.sent), released t.reception)

  zones : (t : Received) (packet : Packet) (x : Reception) → IsOfTransactions A (Gets which)
      (over (with_zones a) (at_zones s a.zones t packet x))
  zones t packet reception.Ignored =
      (all_sent atp_kind (zones_at s.net s.number) (spelled_all t.sent), (tt, tt))
  zones t packet (reception.Again count) =
      (all_sent atp_kind (zones_at s.net s.number) (spelled_all t.sent), (tt, tt))
  zones t packet reception.Released =
      (all_sent atp_kind (zones_at s.net s.number) (spelled_all t.sent), (refl, tt))
  zones t packet (reception.New key) = (
    all_sent atp_kind (zones_at s.net s.number)
        (spelled_all (asked_for (find (is_key key) t.after) key (packet ∷ []))),
    (refl, tt),
  )

  -- what comes of a part, in the whole
  abbrev zoned : Outcome A ZoneState → Outcome A AtpState
  zoned p = over (with_zones a) p

  serves_zones : (from : Address) (tables : Tables) (f : Content) (o : Outcome A ZoneState)
      → AtZones s a.zones from tables f o → IsOfTransactions A (Gets which) (zoned o)
  serves_zones from tables (Request mask xo timer tid user bytes) o (inr at) = ignored (zoned o) (ap zoned at.1)
  serves_zones from tables (Request mask xo timer tid user bytes) o (inl at) =
      let f : Content = Request mask xo timer tid user bytes in
      let t = received a.zones.zone_responder from f in
      full (with_zones a) a.zones (finds_no_place a.zones.zone_responder from f) (zoned o)
      (at_zones s a.zones t (page_packet (table_of at.which tables) at.start) t.reception) (ap zoned at.outcome)
      (zones t (page_packet (table_of at.which tables) at.start) t.reception)
  serves_zones from tables (Response place eom sts tid user bytes) o at = ignored (zoned o) (ap zoned at)
  serves_zones from tables (Release tid) o at =
      let t = received a.zones.zone_responder from (Release tid) in
      by (zoned o) (zoned (zone_taken s a.zones t (released_report t.reception))) (ap zoned at)
      (all_sent atp_kind (zones_at s.net s.number) (spelled_all t.sent), released t.reception)

  at_a_socket : (said : Reply A) (from : Address) (x : AtpSocket) (f : Content) (o : Outcome A AtpState)
      → AtSocket said s a from (Some x) f o → IsOfTransactions A (Gets which) o
  at_a_socket said from Requester f o at = at_requester from f o at
  at_a_socket said from Service f o at = serves said from f o at
  at_a_socket said from (ZoneSocket tables) f o at = by o (zoned at.0) at.2 (serves_zones from tables f at.0 at.1)

  datagram_of_atp : (said : Reply A) (d : Datagram) (x : Option AtpSocket) (o : Outcome A AtpState)
      → HearsAt said s a d x o → IsOfTransactions A (Gets which) o
  datagram_of_atp said d None o h = ignored o h
  datagram_of_atp said d (Some x) o (inl h) = at_a_socket said d.from x h.packet o h.outcome
  datagram_of_atp said d (Some x) o (inr h) = by o (idle a (report.Refused h.number)) h.outcome (tt, (tt, tt))

-- and at the node, whose session keeps the list that a reading ends with
pub atp_heard : (A : Type 0) (n : NodeState) (which : ℕ) (said : Reply A) (d : Datagram) (o : Outcome A NodeState)
    → Through (over_atp n) (HearsAtp said n.seat n.atp d) o → ComesOfAtp A n (Gets which) o
atp_heard A n which said d o (p, may, is) =
    subst (ComesOfAtp A n (Gets which)) (sym is) (record {
      state = refl;
      its = datagram_of_atp A n.seat n.atp which said d (atp_socket n.atp d.to.socket) p may;
    })
