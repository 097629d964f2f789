-- What the calls that begin a transaction are in the network.
use Rattle.std.proofs.Common.{◌≡◌, ℕ, ◌/◌, ◌%◌, ◌<◌, ◌≤◌, Bool, true, false, cond, List, [], ◌∷◌, ◌++◌, length, Option}
use Rattle.std.proofs.Common.{Some, None, refl, sym, ap, subst, ◌∙◌, arith, lit<, lit≤}
use Rattle.std.specs.Prelude.{◌==◌, ◌||◌, nat_lt}
use Rattle.std.proofs.lemmas.Bool.{true≢false, false≢true, eq-eqb, eqb-true}
use Rattle.std.proofs.lemmas.Bool.Decides.{nat_tests}
use Rattle.std.proofs.lemmas.List.{length-replicate}
use Rattle.std.proofs.lemmas.List.Elements.{All-from_recursion, All-nil}
use Rattle.at_ddp.specs.Datagram.{IsAddress}
use Rattle.at_atp_frame.specs.Packets.{IsPacket}
use Rattle.at_atp_requester.specs.Answers as arrivals
use Rattle.at_atp_requester.specs.Requests as requests
use Rattle.at_atp_requester.specs.Requests.{has_number, next_number, beginning}
use Rattle.at_atp.specs.Network.{Happening, NoneHolds, after}
use Rattle.at_zip.specs.Fault as zip
use Rattle.at_zip.specs.Reading.{place_after}
use Rattle.at_zip.specs.Request.{code_of, request_user}
use Rattle.at_zip.specs.Tables.{Tables, with_table}
use Rattle.at_zip.specs.Zones.{table_fault}
use Rattle.at_zip.specs.declared.request.TableChoice.{TableChoice}
use Rattle.at_zip.specs.declared.request.TableChoice.TheVariants.{All, Local}
use Rattle.at_zip.specs.declared.fault.ZipFault.{ZipFault}
use Rattle.at_event.specs.Kinds.{IsCall}
use Rattle.at_node.specs.Numbers.{drawn_by}
use Rattle.at_zone_socket.specs.ZoneSockets.{Reading, zones_at}
use Rattle.at_transaction_socket.specs.TransactionSockets.{asking}
use Rattle.at_node.specs.Nodes.{with_atp, NodeState}
use Rattle.at_event.specs.Outcomes.{over, idle, refused_as}
use Rattle.at_transaction_socket.specs.RequesterSocket.{asked_as}
use Rattle.at_event.specs.Seats.{at_socket}
use Rattle.at_zone_socket.specs.ZoneReading.{reading_begins, zones_called, page_transaction}
use Rattle.at_zone_socket.specs.ZoneSocket.{set_zones_called, table_set}
use Rattle.at_node.specs.declared.numbers.Draw.TheVariants.{Tid}
use Rattle.at_event.specs.declared.Call.TheVariants.{Transactions, Zones}
use Rattle.at_event.specs.declared.transactions.TransactionCall.TheVariants.{Ask}
use Rattle.at_event.specs.declared.zones.ZoneCall.TheVariants as zone
use Rattle.at_event.specs.declared.Report.{Report}
use Rattle.at_event.specs.declared.Report.TheVariants as report
use Rattle.at_steps.specs.Acts.{Calls}
use Rattle.at_steps.specs.AtpHappenings.{Stands, IsOpen}
use Rattle.at_steps.specs.AtpSteps.{Begins, Reads, Sets}
use Rattle.at_steps.proofs.Protocols.Atp.Below.{CallLaws}
use Rattle.at_steps.proofs.Protocols.Atp.Beginning.{begun_happens}
use Rattle.at_steps.proofs.Protocols.Atp.Moves.{idle_happens, table_happens}
use Rattle.at_steps.proofs.Protocols.Atp.Standing.{IsIts}
use Rattle.at_steps.proofs.Protocols.Atp.Stories.{begins_match}
use Rattle.at_zone_socket.specs.AtpParts.{with_reading, with_transactions, with_zones}

-- ---- numbers that are open

open_more : (ts us : List requests.Transaction) (tid : ℕ) → has_number ts tid ≡ true → has_number (ts ++ us) tid ≡ true
open_more [] us tid h = absurd (false≢true h)
open_more (t ∷ ts) us tid h = go (t.tid == tid) h (open_more ts us tid)
  where
    go : (b : Bool) → (b || has_number ts tid) ≡ true → (has_number ts tid ≡ true → has_number (ts ++ us) tid ≡ true)
        → (b || has_number (ts ++ us) tid) ≡ true
    go true g ih = refl
    go false g ih = ih g

open_last : (ts : List requests.Transaction) (t : requests.Transaction) → has_number (ts ++ t ∷ []) t.tid ≡ true
open_last [] t = rw (eq-eqb t.tid t.tid refl) refl
open_last (u ∷ ts) t = go (u.tid == t.tid) (open_last ts t)
  where
    go : (b : Bool) → has_number (ts ++ t ∷ []) t.tid ≡ true → (b || has_number (ts ++ t ∷ []) t.tid) ≡ true
    go true h = refl
    go false h = h

-- a reading whose transaction begins is open
pub begun_is_open : (q : requests.Requests) (t : requests.Transaction) (mine r : Reading) → mine.tid ≡ t.tid
    → Some mine ≡ Some r → has_number (requests.begun q t).standing r.tid ≡ true
begun_is_open q t mine r numbered is =
    let same : mine ≡ r = cc in
    subst (λ k. has_number (q.standing ++ t ∷ []) k ≡ true) (sym numbered ∙ ap (λ (x : Reading). x.tid) same)
    (open_last q.standing t)

-- the request for a page is in range
pub asks_fit : (which : TableChoice) (names : List (List ℕ))
    → IsPacket (record { user = request_user which (place_after names); data_ = [] })
asks_fit which names = record {
  four = refl;
  user = All-from_recursion (λ b. b < 256) (request_user which (place_after names))
      (code which, (lit< tt, (high (place_after names), (low (place_after names), tt))));
  bytes = All-nil (λ b. b < 256);
  fits = lit≤ tt;
}
  where
    code : (v : TableChoice) → code_of v < 256
    code All = lit< tt
    code Local = lit< tt

    high : (k : ℕ) → k / 256 % 256 < 256
    high k = omega arith

    low : (k : ℕ) → k % 256 < 256
    low k = omega arith

-- no responder holds a number that a step with this report draws
abbrev pub DrawsFree : (A : Type 0) (history : List Happening) (n : NodeState) → Report A → Type 0
DrawsFree A history n r = (tid : ℕ) → drawn_by r ≡ Some (Tid tid)
    → NoneHolds (after A history).responders (asking n.seat.net n.seat.number) tid

module _ (A : Type 0) (laws : CallLaws A) (history : List Happening) (n : NodeState)
    (st : Stands A history n.seat.net n.seat.number n) where
  asking_fits : IsAddress (asking n.seat.net n.seat.number)
  asking_fits = record { net = st.small_net; node = st.small_number; socket = lit< tt }

  there_fits : (node socket : ℕ) → node < 256 → socket < 256 → IsAddress (at_socket n.seat node socket)
  there_fits node socket a b = record { net = st.small_net; node = a; socket = b }

  -- ---- a zone table

  reading_is_open : (kind : TableChoice) (router tid : ℕ)
      → IsOpen (with_reading n.atp (Some (record { which = kind; tid = tid; names = [] }))
      (record n.atp.transactions {
        requester = requests.begun n.atp.transactions.requester
            (page_transaction (zones_at n.seat.net router) kind [] tid);
      }))
  reading_is_open kind router tid r is =
      begun_is_open n.atp.transactions.requester (page_transaction (zones_at n.seat.net router) kind [] tid)
      (record { which = kind; tid = tid; names = [] }) r refl is

  reading_begun : (kind : TableChoice) (router : ℕ) → n.seat.router ≡ Some router → (drawn : Option ℕ)
      → next_number n.atp.transactions.requester ≡ drawn
      → DrawsFree A history n (over (with_atp n) (reading_begins {A = A} n.seat n.atp kind router drawn)).report
      → IsIts A history n (Calls (Zones (zone.Read kind)))
      (over (with_atp n) (reading_begins n.seat n.atp kind router drawn))
  reading_begun kind router is None is_drawn free =
      idle_happens A history n (Calls (Zones (zone.Read kind))) st (report.Refused 14) refl refl refl
  reading_begun kind router is (Some tid) is_drawn free =
      begun_happens A history n (Calls (Zones (zone.Read kind))) st (zones_at n.seat.net router)
      (request_user kind 1) [] 1 false 3 tid
      (Some (record { which = kind; tid = tid; names = [] })) is_drawn (free tid refl)
      (record {
        who_fits = asking_fits;
        to_fits = there_fits router 6 (st.small_router router is) (lit< tt);
        asks = asks_fit kind [];
        few = lit≤ tt;
      })
      refl (reading_is_open kind router tid)
      (begins_match A n.seat.net n.seat.number n.atp.zones.tables (after A history) tid (zones_at n.seat.net router)
      (request_user kind 1) [] 1 false 3 (Zones (zone.Read kind)) refl refl (ap next_number st.requester ∙ is_drawn))
      (Reads (record {
        which = kind;
        tid = tid;
        server = router;
        is_router = is;
        act = refl;
        report = refl;
        asked = refl;
        reading = refl;
      }))

  pub zones_call : (kind : TableChoice) (router : Option ℕ) (reading : Option Reading) → n.seat.router ≡ router
      → DrawsFree A history n (over (with_atp n) (zones_called {A = A} n.seat n.atp kind router reading)).report
      → IsIts A history n (Calls (Zones (zone.Read kind)))
      (over (with_atp n) (zones_called n.seat n.atp kind router reading))
  zones_call kind None reading is free = idle_happens A history n (Calls (Zones (zone.Read kind))) st
      (report.Refused 60) refl refl refl
  zones_call kind (Some router) (Some r) is free =
      idle_happens A history n (Calls (Zones (zone.Read kind))) st (report.Refused 63) refl refl refl
  zones_call kind (Some router) None is free = reading_begun kind router is (next_number n.atp.transactions.requester)
      refl free

  -- ---- the router's tables

  table_call : (kind : TableChoice) (names : List (List ℕ)) (tables : Tables) → n.atp.zones.tables ≡ Some tables
      → (fault : Option ZipFault) → table_fault names ≡ fault
      → IsIts A history n (Calls (Zones (zone.Set kind names)))
      (over (with_atp n) (over (with_zones n.atp) (table_set n.atp.zones tables kind names fault)))
  table_call kind names tables has None none =
      table_happens A history n (Calls (Zones (zone.Set kind names))) st (with_table kind names tables)
      (laws.sets kind names tables (laws.tables names none) (st.has_tables tables has)) refl
      (Sets (record {
        which = kind;
        names = names;
        tables = tables;
        act = refl;
        report = refl;
        was = has;
        becomes = refl;
        is_table = laws.tables names none;
        asked = refl;
        reading = refl;
      }))
  table_call kind names tables has (Some fault) is = refused (zip.number_of fault)
    where
      refused : (number : Option ℕ)
          → IsIts A history n (Calls (Zones (zone.Set kind names))) (over (with_atp n) (idle n.atp (refused_as number)))
      refused None = idle_happens A history n (Calls (Zones (zone.Set kind names))) st report.NoMemory refl refl refl
      refused (Some k) =
          idle_happens A history n (Calls (Zones (zone.Set kind names))) st (report.Refused k) refl refl refl

  pub set_zones_call : (kind : TableChoice) (names : List (List ℕ)) (tables : Option Tables)
      → n.atp.zones.tables ≡ tables
      → IsIts A history n (Calls (Zones (zone.Set kind names)))
      (over (with_atp n) (over (with_zones n.atp) (set_zones_called n.atp.zones tables kind names)))
  set_zones_call kind names None has = idle_happens A history n (Calls (Zones (zone.Set kind names))) st
      (report.Refused 60) refl refl refl
  set_zones_call kind names (Some tables) has = table_call kind names tables has (table_fault names) refl

  -- ---- asking

  -- a transaction that begins is not the one that reads the list
  apart_from_reading : (tid : ℕ) → next_number n.atp.transactions.requester ≡ Some tid → (r : Reading)
      → n.atp.zones.reading ≡ Some r
      → (tid == r.tid) ≡ false
  apart_from_reading tid drawn r is = go (tid == r.tid) refl
    where
      go : (b : Bool) → (tid == r.tid) ≡ b → b ≡ false
      go false e = refl
      go true e = absurd (true≢false
          (sym (st.is_open r is) ∙ ap (has_number n.atp.transactions.requester.standing) (sym (eqb-true tid r.tid e))
          ∙ laws.drawn n.atp.transactions.requester tid drawn))

  module _ (node socket : ℕ) (user bytes : List ℕ) (wanted : ℕ) (xo : Bool) (retries : ℕ)
      (range : IsCall {A = A} (Transactions (Ask node socket user bytes wanted xo retries))) where
    asked_for : length bytes ≤ 578 → (drawn : Option ℕ) → next_number n.atp.transactions.requester ≡ drawn
        → DrawsFree A history n (over (with_atp n)
        (over (with_transactions n.atp) (asked_as {A = A} n.seat n.atp.transactions (at_socket n.seat node socket) user
        bytes wanted xo retries drawn))).report →
        IsIts A history n (Calls (Transactions (Ask node socket user bytes wanted xo retries)))
        (over (with_atp n) (over (with_transactions n.atp)
        (asked_as n.seat n.atp.transactions (at_socket n.seat node socket) user bytes wanted xo retries
        drawn)))
    asked_for few None is_drawn free =
        idle_happens A history n (Calls (Transactions (Ask node socket user bytes wanted xo retries))) st
        (report.Refused 14) refl refl refl
    asked_for few (Some tid) is_drawn free =
        begun_happens A history n (Calls (Transactions (Ask node socket user bytes wanted xo retries))) st
        (at_socket n.seat node socket) user bytes wanted xo retries tid n.atp.zones.reading is_drawn (free tid refl)
        (record {
          who_fits = asking_fits;
          to_fits = there_fits node socket range.0 range.1;
          asks = record { four = range.2; user = range.3; bytes = range.4; fits = few };
          few = range.6;
        })
        refl (λ r is. open_more n.atp.transactions.requester.standing
        (beginning tid (at_socket n.seat node socket) user bytes wanted xo retries ∷ []) r.tid (st.is_open r is))
        (begins_match A n.seat.net n.seat.number n.atp.zones.tables (after A history) tid
        (at_socket n.seat node socket) user bytes wanted xo retries
        (Transactions (Ask node socket user bytes wanted xo retries)) refl refl
        (ap next_number st.requester ∙ is_drawn))
        (Begins (record {
          tid = tid;
          node = node;
          socket = socket;
          user = user;
          bytes = bytes;
          wanted = wanted;
          xo = xo;
          retries = retries;
          act = refl;
          report = refl;
          asked = λ i. record {
            requester = asking n.seat.net n.seat.number;
            tid = tid;
            responder = at_socket n.seat node socket;
            user = user;
            data_ = bytes;
            wanted = length-replicate {A = Option arrivals.AnswerPart} wanted None i;
            xo = xo;
            answers = [];
          } ∷
              (after A history).asked;
          reading = refl;
          apart = apart_from_reading tid is_drawn;
        }))

    pub ask_call : (b : Bool) → nat_lt 578 (length bytes) ≡ b
        → DrawsFree A history n (over (with_atp n)
        (over (with_transactions n.atp) (cond b (idle {A = A} n.atp.transactions (report.Refused 13))
        (asked_as n.seat n.atp.transactions (at_socket n.seat node socket) user bytes wanted xo retries
        (next_number n.atp.transactions.requester))))).report →
        IsIts A history n (Calls (Transactions (Ask node socket user bytes wanted xo retries)))
        (over (with_atp n) (over (with_transactions n.atp)
        (cond b (idle n.atp.transactions (report.Refused 13))
        (asked_as n.seat n.atp.transactions (at_socket n.seat node socket) user bytes wanted xo retries
        (next_number n.atp.transactions.requester)))))
    ask_call true e free =
        idle_happens A history n (Calls (Transactions (Ask node socket user bytes wanted xo retries))) st
        (report.Refused 13) refl refl refl
    ask_call false e free = asked_for (few_bytes (length bytes) e) (next_number n.atp.transactions.requester) refl free
      where
        few_bytes : (len : ℕ) → nat_lt 578 len ≡ false → len ≤ 578
        few_bytes len h = grind (arith, nat_tests)
