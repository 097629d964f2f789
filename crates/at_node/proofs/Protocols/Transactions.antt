-- Which numbers calls, timers and packets of transactions and of zone tables draw.
use Rattle.std.proofs.Common.{◌∙◌, ◌≡◌, ◌⊎◌, Bool, List, None, Option, Some, ap, arith, cond, false, find, inl, inr}
use Rattle.std.proofs.Common.{length, option_map, refl, subst, sym, true, ℕ}
use Rattle.std.specs.Prelude.{◌||◌, is_none, is_some, nat_lt}
use Rattle.at_ddp.specs.declared.address.Address.{Address}
use Rattle.at_atp_frame.specs.Packets.{Packet}
use Rattle.at_atp_frame.specs.declared.fault.AtpFault.{AtpFault}
use Rattle.at_atp_frame.specs.declared.fault.AtpFault.TheVariants.{AtpTooLong}
use Rattle.at_atp_requester.specs.Requests.{Retried, next_number, retried}
use Rattle.at_atp_requester.specs.declared.progress.Retry.{Retry}
use Rattle.at_atp_responder.specs.Records.{answer_fault, expiry_fault, is_key}
use Rattle.at_atp_responder.specs.declared.reception.Key.{Key}
use Rattle.at_zip.specs.Tables.{Tables}
use Rattle.at_zip.specs.declared.request.TableChoice.{TableChoice}
use Rattle.at_zip.specs.Zones.{table_fault}
use Rattle.at_zip.specs.declared.fault.ZipFault.{ZipFault}
use Rattle.at_event.specs.Outcomes.{Outcome, Through, idle, refused_as, over}
use Rattle.at_event.specs.Seats.{at_socket, is_for_all, is_mine}
use Rattle.at_event.specs.declared.transactions.TransactionCall.{TransactionCall}
use Rattle.at_event.specs.declared.transactions.TransactionCall.TheVariants.{Answer, Ask}
use Rattle.at_event.specs.declared.zones.ZoneCall.{ZoneCall}
use Rattle.at_event.specs.declared.Call.TheVariants.{Transactions, Zones}
use Rattle.at_event.specs.declared.Report.{Report}
use Rattle.at_event.specs.declared.seat.Seat.{Seat}
use Rattle.at_zone_socket.specs.AtpParts.{AtpState, with_transactions, with_zones}
use Rattle.at_zone_socket.specs.ZoneSockets.{Reading}
use Rattle.at_node.specs.Nodes.{KeepsSeat, NodeState, called, over_atp, speaker_of, timed}
use Rattle.at_node.specs.Numbers.{DrawsBy, drawn_by, transaction_draw, zone_draw}
use Rattle.at_zone_socket.specs.AtpTimers.{after_retry, retry_fired, expired, records_at}
use Rattle.at_transaction_socket.specs.RequesterSocket.{asked_as}
use Rattle.at_transaction_socket.specs.ServiceSocket.{answered_with}
use Rattle.at_zone_socket.specs.ZoneReading.{after_failing, is_reading, reading_begins, zones_called}
use Rattle.at_zone_socket.specs.ZoneSocket.{set_zones_called, table_set}
use Rattle.at_node.specs.declared.numbers.Draw.{Draw}
use Rattle.at_node.specs.declared.numbers.Draw.TheVariants.{Tid}
use Rattle.at_ddp.specs.Datagram.{Content as Datagram}
use Rattle.at_ddp.specs.Protocols.{atp_kind}
use Rattle.at_event.specs.Kinds.{Atp, Nobody, reporter_of}
use Rattle.at_event.specs.declared.service.Reply.{Reply}
use Rattle.at_event.specs.declared.service.Reply.TheVariants.{Later}
use Rattle.at_zone_socket.specs.AtpHearing.{HearsAtp}
use Rattle.at_node.specs.Hearing.{HearsIt}
use Rattle.at_zone_socket.specs.Turning.{HasTurn}
use Rattle.at_node.proofs.NumberLemmas.{draw_same}
use Rattle.at_node.proofs.Drawn.{By, IsDrawn, refused}
use Rattle.at_event.specs.declared.transactions.TransactionTimer.{TransactionTimer}
use Rattle.at_atp_frame.specs.Fault as atp
use Rattle.at_atp_requester.specs.declared.progress.Retry.TheVariants as retry
use Rattle.at_zip.specs.Fault as zip
use Rattle.at_event.specs.declared.zones.ZoneCall.TheVariants as zone
use Rattle.at_event.specs.declared.Report.TheVariants as report
use Rattle.at_event.specs.declared.Timer.TheVariants as timer
use Rattle.at_event.specs.declared.transactions.TransactionTimer.TheVariants as atp_timer
use Rattle.at_event.specs.declared.transactions.TransactionReport.TheVariants as atp_report

-- which pages begin a transaction, and whose what is reported of a datagram of ATP is
pub record BeginningLaw (A : Type 0) : Type 0 where
  pub begins : (said : Reply A) (s : Seat) (a : AtpState) (d : Datagram) (tid : ℕ) → HasTurn a d tid
      → (o : Outcome A AtpState) × HearsAtp said s a d o × (o.report ≡ report.Transactions (atp_report.Begun tid))
  pub only : (said : Reply A) (s : Seat) (a : AtpState) (d : Datagram) (o : Outcome A AtpState) (tid : ℕ)
      → HearsAtp said s a d o → o.report ≡ report.Transactions (atp_report.Begun tid) → HasTurn a d tid
  pub own : (said : Reply A) (s : Seat) (a : AtpState) (d : Datagram) (o : Outcome A AtpState) → HearsAtp said s a d o
      → (reporter_of o.report ≡ Atp) ⊎ (reporter_of o.report ≡ Nobody)

module _ (A : Type 0) where
  module _ (s : Seat) (a : AtpState) where
    begins : (which : TableChoice) (router : ℕ) (o : Option ℕ) → By A (reading_begins s a which router o) (option_map
        (λ tid. Tid tid) o)
    begins which router None = refl
    begins which router (Some tid) = refl

    reads : (which : TableChoice) (router : Option ℕ) (now : Option Reading) → By A (zones_called s a which router now)
        (cond (is_none router || is_some now) None (option_map (λ tid. Tid tid) (next_number a.transactions.requester)))
    reads which None now = refl
    reads which (Some router) (Some r) = refl
    reads which (Some router) None = begins which router (next_number a.transactions.requester)

    asked : (to : Address) (user bytes : List ℕ) (wanted : ℕ) (xo : Bool) (retries : ℕ) (o : Option ℕ)
        → By A (over (with_transactions a) (asked_as s a.transactions to user bytes wanted xo retries o))
        (option_map (λ tid. Tid tid) o)
    asked to user bytes wanted xo retries None = refl
    asked to user bytes wanted xo retries (Some tid) = refl

    asks : (to : Address) (user bytes : List ℕ) (wanted : ℕ) (xo : Bool) (retries : ℕ) (b : Bool)
        → By A (over (with_transactions a) (cond b (idle a.transactions (refused_as (atp.number_of AtpTooLong)))
        (asked_as s a.transactions to user bytes wanted xo retries (next_number a.transactions.requester))))
        (cond b None (option_map (λ tid. Tid tid) (next_number a.transactions.requester)))
    asks to user bytes wanted xo retries true = refl
    asks to user bytes wanted xo retries false = asked to user bytes wanted xo retries
        (next_number a.transactions.requester)

    answers : (key : Key) (packets : List Packet) (o : Option AtpFault) → By A
        (over (with_transactions a) (answered_with s a.transactions key packets o)) None
    answers key packets None = refl
    answers key packets (Some fault) = refused A a (atp.number_of fault)

    sets : (tables : Tables) (which : TableChoice) (names : List (List ℕ)) (o : Option ZipFault)
        → By A (over (with_zones a) (table_set a.zones tables which names o)) None
    sets tables which names None = refl
    sets tables which names (Some fault) = refused A a (zip.number_of fault)

    sets_zones : (tables : Option Tables) (which : TableChoice) (names : List (List ℕ))
        → By A (over (with_zones a) (set_zones_called a.zones tables which names)) None
    sets_zones None which names = refl
    sets_zones (Some tables) which names = sets tables which names (table_fault names)

    failing : (tid : ℕ) (r : Retried) (b : Bool) → By A (after_failing a tid r.after b) None
    failing tid r true = refl
    failing tid r false = refl

    retries : (tid : ℕ) (r : Retried) (x : Retry) → By A (after_retry s a tid r x) None
    retries tid r retry.AskedAgain = refl
    retries tid r retry.Failed = failing tid r (is_reading a.zones.reading tid)

    retries_some : (tid : ℕ) (o : Option Retried) → By A (retry_fired s a tid o) None
    retries_some tid None = refl
    retries_some tid (Some r) = retries tid r r.step

    expires : (own : ℕ) (key : Key) (o : Option AtpFault) → By A (expired a own key o) None
    expires own key None = refl
    expires own key (Some fault) = refused A a (atp.number_of fault)

  -- ---- what comes of a call, of a timer and of a packet

  pub transaction_draws : (n : NodeState) (c : TransactionCall A)
      → By A (called n (Transactions c)) (transaction_draw n c)
  transaction_draws n (Ask node socket user bytes wanted xo retries) =
      asks n.seat n.atp (at_socket n.seat node socket) user bytes wanted xo retries (nat_lt 578 (length bytes))
  transaction_draws n (Answer key packets) =
      answers n.seat n.atp key packets (answer_fault n.atp.transactions.service_responder key packets)

  pub zone_draws : (n : NodeState) (c : ZoneCall A) → By A (called n (Zones c)) (zone_draw n c)
  zone_draws n (zone.Read which) = reads n.seat n.atp which n.seat.router n.atp.zones.reading
  zone_draws n (zone.Set which names) = sets_zones n.seat n.atp n.atp.zones.tables which names

  pub transaction_timer_draws : (n : NodeState) (time : TransactionTimer)
      → By A (timed n (timer.Transactions time)) None
  transaction_timer_draws n (atp_timer.Retry tid) = retries_some n.seat n.atp tid
      (retried n.atp.transactions.requester tid)
  transaction_timer_draws n (atp_timer.Release own key) =
      expires n.seat n.atp own key (expiry_fault (find (is_key key) (records_at n.atp own)))

  -- of its own reports the part of ATP tells a number only of a transaction
  begun_draws : (r : Report A) (draw : Draw) → (reporter_of r ≡ Atp) ⊎ (reporter_of r ≡ Nobody)
      → drawn_by r ≡ Some draw → (tid : ℕ) × (r ≡ report.Transactions (atp_report.Begun tid)) × (draw ≡ Tid tid)
  begun_draws (report.Transactions (atp_report.Begun tid)) draw own h = (tid, refl, sym (draw_same (Tid tid) draw h))
  begun_draws (report.Names it) draw (inl own) h = absurd (cc)
  begun_draws (report.Names it) draw (inr own) h = absurd (cc)
  begun_draws (report.Streams it) draw (inl own) h = absurd (cc)
  begun_draws (report.Streams it) draw (inr own) h = absurd (cc)
  begun_draws r draw own h = let both : None ≡ Some draw = h in absurd (cc)

  pub transaction_timer_stays : (n : NodeState) (time : TransactionTimer)
      → KeepsSeat {A = A} n (timed n (timer.Transactions time))
  transaction_timer_stays n (atp_timer.Retry tid) = refl
  transaction_timer_stays n (atp_timer.Release own key) = refl

  typed : (kind : ℕ) → speaker_of kind ≡ Atp → kind ≡ atp_kind
  typed kind its = grind arith

  pub packet_drawn : BeginningLaw A → (said : Reply A) (n : NodeState) (d : Datagram) (o : Outcome A NodeState)
      → speaker_of d.kind ≡ Atp → Through (over_atp n) (HearsAtp said n.seat n.atp d) o → IsDrawn A n d o
  packet_drawn beginning said n d o its (p, may, is) draw told =
      let begun = begun_draws p.report draw (beginning.own said n.seat n.atp d p may)
      (sym (ap (λ (y : Outcome A NodeState). drawn_by y.report) is) ∙ told) in
      subst (DrawsBy n d) (sym begun.2)
      (typed d.kind its, beginning.only said n.seat n.atp d p begun.0 may begun.1)

-- a page that makes the next one be asked for is heard so
module _ (A : Type 0) (beginning : BeginningLaw A) (n : NodeState) (d : Datagram)
    (mine : (is_for_all n.seat d.kind d.to || is_mine n.seat d.to) ≡ true) (kind : d.kind ≡ atp_kind) where
  pub turned_hears : (tid : ℕ) → HasTurn n.atp d tid → (said : Reply A) × (o : Outcome A NodeState)
      × HearsIt said n d o × (drawn_by o.report ≡ Some (Tid tid))
  turned_hears tid t =
      let b = beginning.begins Later n.seat n.atp d tid t in
      let its : speaker_of d.kind ≡ Atp = ap speaker_of kind in
      (Later, over_atp n b.0, rw (mine, its) (b.0, b.1, refl), ap drawn_by b.2)
