-- What each timer of a node is in the network.
use Rattle.std.proofs.Common.{◌≡◌, ℕ, zero, suc, Bool, true, false, cond, List, [], Option, Some, None, refl, sym, ap}
use Rattle.std.proofs.Common.{◌∙◌, lit<}
use Rattle.std.specs.Prelude.{find, option_map, ◌==◌}
use Rattle.std.proofs.lemmas.List.{append-nil}
use Rattle.std.proofs.lemmas.Bool.{true≢false, false≢true, eq-eqb, eqb-true}
use Rattle.at_ddp.specs.Datagram.{IsAddress}
use Rattle.at_ddp.specs.Tables.{without_first}
use Rattle.at_ddp.specs.declared.address.Address.{Address}
use Rattle.at_atp_frame.specs.Fault.{number_of}
use Rattle.at_atp_frame.specs.declared.fault.AtpFault.{AtpFault}
use Rattle.at_atp_requester.specs.Requests.{Requests, Retried, Transaction, is_numbered, retried_with, retried}
use Rattle.at_atp_requester.specs.declared.progress.Retry.{Retry}
use Rattle.at_atp_requester.specs.declared.progress.Retry.TheVariants as retry
use Rattle.at_atp_responder.specs.Records.{Record, expiry_fault, is_key}
use Rattle.at_atp_responder.specs.declared.reception.Key.{Key}
use Rattle.at_atp.specs.Network as network
use Rattle.at_ddp.specs.Posts.{put}
use Rattle.at_atp.specs.Network.{Happening, Expires, Retries, after, done, with_requester, with_responder}
use Rattle.at_zone_socket.specs.AtpParts.{AtpState, with_reading, with_transactions, with_zones}
use Rattle.at_zone_socket.specs.ZoneSockets.{Reading, zones_at}
use Rattle.at_transaction_socket.specs.TransactionSockets.{serving, asking}
use Rattle.at_event.specs.Kinds.{speaker_of_timer}
use Rattle.at_node.specs.Nodes.{with_atp, NodeState, timed}
use Rattle.at_event.specs.Outcomes.{over, Outcome, idle, refused_as}
use Rattle.at_zone_socket.specs.AtpTimers.{after_retry, retry_fired, records_at}
use Rattle.at_event.specs.Seats.{at_socket}
use Rattle.at_zone_socket.specs.ZoneReading.{is_reading, after_failing}
use Rattle.at_event.specs.declared.Report.TheVariants as report
use Rattle.at_event.specs.declared.transactions.TransactionReport.TheVariants as atp_report
use Rattle.at_event.specs.declared.zones.ZoneReport.TheVariants as zip_report
use Rattle.at_event.specs.declared.Timer.{Timer}
use Rattle.at_event.specs.declared.Timer.TheVariants as timer
use Rattle.at_event.specs.declared.transactions.TransactionTimer.TheVariants as atp_timer
use Rattle.at_steps.specs.Acts.{Fires}
use Rattle.at_steps.specs.AtpReports.{Matches}
use Rattle.at_steps.specs.AtpHappenings.{Stands, IsOpen, is_atp}
use Rattle.at_steps.specs.AtpSteps.{Plain, Fails}
use Rattle.at_steps.proofs.Protocols.Atp.Below.{StaysOpen}
use Rattle.at_steps.proofs.Protocols.Atp.Calls.{refused_happens}
use Rattle.at_steps.proofs.Protocols.Atp.Moves.{idle_happens, requester_happens, service_happens, zones_happen}
use Rattle.at_steps.proofs.Protocols.Atp.Standing.{IsIts}
use Rattle.at_steps.proofs.Protocols.Atp.Stories.{expires_match, retries_match}

-- what is closed without an answer sends nothing
failed_sends : (r : Requests) (tid : ℕ) (x : Retried) → retried r tid ≡ Some x → x.step ≡ retry.Failed → x.sent ≡ []
failed_sends r tid x is failed = go (find (is_numbered tid) r.standing) is
  where
    quiet : (t : Transaction) (n : ℕ) → (retried_with r tid t n).step ≡ retry.Failed → (retried_with r tid t n).sent
        ≡ []
    quiet t zero h = refl
    quiet t (suc n) h = absurd (cc)

    go : (o : Option Transaction) → option_map (λ (t : Transaction). retried_with r tid t t.retries) o ≡ Some x
        → x.sent ≡ []
    go None g = absurd (cc)
    go (Some t) g = let same : retried_with r tid t t.retries ≡ x = cc in ap (λ (y : Retried). y.sent) (sym same)
        ∙ quiet t t.retries (ap (λ (y : Retried). y.step) same ∙ failed)

-- the transaction of this number reads the list
pub reads_it : (reading : Option Reading) (tid : ℕ) → is_reading reading tid ≡ true → (r : Reading)
    × (reading ≡ Some r) × (r.tid ≡ tid)
reads_it None tid h = absurd (false≢true h)
reads_it (Some r) tid h = (r, refl, eqb-true r.tid tid h)

-- the transaction of this number is not the one that reads the list
pub reads_another : (reading : Option Reading) (tid : ℕ) (r : Reading) → is_reading reading tid ≡ false → reading
    ≡ Some r → (tid == r.tid) ≡ false
reads_another reading tid r h is = turned (tid == r.tid) refl (ap (λ o. is_reading o tid) (sym is) ∙ h)
  where
    turned : (b : Bool) → (tid == r.tid) ≡ b → (r.tid == tid) ≡ false → b ≡ false
    turned false e apart = refl
    turned true e apart = absurd (true≢false (sym (eq-eqb r.tid tid (sym (eqb-true tid r.tid e))) ∙ apart))

-- what comes of a release timer, by which socket it is for
abbrev pub expired_in : {A : Type 0} → AtpState → List Record → Bool → Bool → Key → Option AtpFault → Outcome A AtpState
expired_in a rs x y key (Some fault) = idle a (refused_as (number_of fault))
expired_in a rs x y key None = record {
  report = report.Transactions atp_report.Expired;
  state = cond x (with_transactions a (record a.transactions { service_responder = without_first (is_key key) rs }))
      (cond y (with_zones a (record a.zones { zone_responder = without_first (is_key key) rs })) a);
  out = [];
}

module _ (A : Type 0) (stays : StaysOpen) (history : List Happening) (n : NodeState)
    (st : Stands A history n.seat.net n.seat.number n) (tid : ℕ) where
  asking_fits : IsAddress (asking n.seat.net n.seat.number)
  asking_fits = record { net = st.small_net; node = st.small_number; socket = lit< tt }

  is_done : (r : Retried) → retried n.atp.transactions.requester tid ≡ Some r
      → done A (after A history) (Retries (asking n.seat.net n.seat.number) tid)
      ≡ with_requester (after A history) (asking n.seat.net n.seat.number) r.after r.sent
  is_done r is = ap (network.retries (after A history) (asking n.seat.net n.seat.number))
      (ap (λ q. retried q tid) st.requester ∙ is)

  -- a reading whose transaction is another, or asks again, goes on
  goes_on : (r : Retried) → retried n.atp.transactions.requester tid ≡ Some r
      → (r.step ≡ retry.Failed → is_reading n.atp.zones.reading tid ≡ false) → IsOpen
      (with_transactions n.atp (record n.atp.transactions { requester = r.after }))
  goes_on r is away read reads = stays n.atp.transactions.requester tid read.tid r is (st.is_open read reads)
      (λ failed. reads_another n.atp.zones.reading tid read (away failed) reads)

  nothing_open : (x : Requests) → IsOpen (with_reading n.atp None (record n.atp.transactions { requester = x }))
  nothing_open x read reads = absurd (cc)

  failing : (r : Retried) → retried n.atp.transactions.requester tid ≡ Some r → r.step ≡ retry.Failed → (b : Bool)
      → is_reading n.atp.zones.reading tid ≡ b
      → IsIts A history n (Fires (timer.Transactions (atp_timer.Retry tid)))
      (over (with_atp n) (after_failing n.atp tid r.after b))
  failing r is failed true e =
      requester_happens A history n (Fires (timer.Transactions (atp_timer.Retry tid))) st
      (Retries (asking n.seat.net n.seat.number) tid) r.after None [] (report.Zones zip_report.Unanswered) tt
      asking_fits
      (is_done r is ∙ ap (with_requester (after A history) (asking n.seat.net n.seat.number) r.after)
      (failed_sends n.atp.transactions.requester tid r is failed)) refl
      (nothing_open r.after)
      (retries_match A n.seat.net n.seat.number n.atp.zones.tables (after A history) (asking n.seat.net n.seat.number)
      tid
      (Fires (timer.Transactions (atp_timer.Retry tid))) (report.Zones zip_report.Unanswered) refl)
      (let it = reads_it n.atp.zones.reading tid e in
      Fails (record {
        time = timer.Transactions (atp_timer.Retry tid);
        act = refl;
        report = refl;
        read = it.0;
        reads = it.1;
        asked = refl;
        reading = refl;
      }))
  failing r is failed false e =
      requester_happens A history n (Fires (timer.Transactions (atp_timer.Retry tid))) st
      (Retries (asking n.seat.net n.seat.number) tid) r.after n.atp.zones.reading []
      (report.Transactions (atp_report.Failed tid))
      tt asking_fits
      (is_done r is ∙ ap (with_requester (after A history) (asking n.seat.net n.seat.number) r.after)
      (failed_sends n.atp.transactions.requester tid r is failed)) refl
      (goes_on r is (λ f. e))
      (retries_match A n.seat.net n.seat.number n.atp.zones.tables (after A history) (asking n.seat.net n.seat.number)
      tid
      (Fires (timer.Transactions (atp_timer.Retry tid))) (report.Transactions (atp_report.Failed tid)) refl)
      (Plain (record { plain = refl; asked = refl; reading = refl }))

  retried_so : (r : Retried) → retried n.atp.transactions.requester tid ≡ Some r → (s : Retry) → r.step ≡ s
      → IsIts A history n (Fires (timer.Transactions (atp_timer.Retry tid)))
      (over (with_atp n) (after_retry n.seat n.atp tid r s))
  retried_so r is retry.AskedAgain step =
      requester_happens A history n (Fires (timer.Transactions (atp_timer.Retry tid))) st
      (Retries (asking n.seat.net n.seat.number) tid) r.after n.atp.zones.reading r.sent report.Again tt asking_fits
      (is_done r is) refl
      (goes_on r is (λ failed. absurd (never r.step step failed)))
      (retries_match A n.seat.net n.seat.number n.atp.zones.tables (after A history) (asking n.seat.net n.seat.number)
      tid
      (Fires (timer.Transactions (atp_timer.Retry tid))) report.Again refl)
      (Plain (record { plain = refl; asked = refl; reading = refl }))
    where
      never : (x : Retry) → x ≡ retry.AskedAgain → x ≡ retry.Failed → ⊥
      never x a b = cc
  retried_so r is retry.Failed step = failing r is step (is_reading n.atp.zones.reading tid) refl

  retry_happens : (o : Option Retried) → retried n.atp.transactions.requester tid ≡ o
      → IsIts A history n (Fires (timer.Transactions (atp_timer.Retry tid)))
      (over (with_atp n) (retry_fired n.seat n.atp tid o))
  retry_happens None is =
      idle_happens A history n (Fires (timer.Transactions (atp_timer.Retry tid))) st (report.Refused 15) refl refl refl
  retry_happens (Some r) is = retried_so r is r.step refl

-- the release timer of a record
module _ (A : Type 0) (history : List Happening) (n : NodeState) (st : Stands A history n.seat.net n.seat.number n)
    (own : ℕ) (key : Key) where
  -- a record is taken away, and nothing is sent
  expired_is : (at : Address) (rs : List Record) → (after A history).responders at ≡ rs
      → expiry_fault (find (is_key key) rs) ≡ None →
      done A (after A history) (Expires at key)
      ≡ with_responder (after A history) at
      (without_first (is_key key) rs) []
  expired_is at rs is free =
      ap (network.expires (after A history) at key)
      (ap (λ l. expiry_fault (find (is_key key) l)) is
      ∙ free)
      ∙ (λ i. record (after A history) {
        responders = put (after A history).responders at
            (without_first (is_key key) (is i));
        sent = sym (append-nil (after A history).sent) i;
      })

  expiry_matches : (at : Address) (rs : List Record) → at ≡ at_socket n.seat n.seat.number own
      → (after A history).responders at ≡ rs
      → expiry_fault (find (is_key key) rs) ≡ None →
      Matches {A = A} n.seat.net n.seat.number n.atp.zones.tables (after A history)
      (Expires at key)
      (Fires (timer.Transactions (atp_timer.Release own key))) (report.Transactions atp_report.Expired)
  expiry_matches at rs here is free =
      expires_match A n.seat.net n.seat.number n.atp.zones.tables (after A history) own at
      key here
      (ap (λ l. expiry_fault (find (is_key key) l)) is ∙ free)

  release_happens : (x y : Bool) (fault : Option AtpFault) → (own == 129) ≡ x → (own == 6) ≡ y
      → expiry_fault (find (is_key key)
      (cond x n.atp.transactions.service_responder (cond y n.atp.zones.zone_responder []))) ≡ fault →
      IsIts A history n (Fires (timer.Transactions (atp_timer.Release own key)))
      (over (with_atp n) (expired_in n.atp (cond x n.atp.transactions.service_responder
      (cond y n.atp.zones.zone_responder [])) x y
      key fault))
  release_happens x y (Some fault) ex ey is =
      refused_happens A history n (Fires (timer.Transactions (atp_timer.Release own key))) st (number_of fault)
  release_happens true y None ex ey is =
      service_happens A history n (Fires (timer.Transactions (atp_timer.Release own key))) st
      (Expires (serving n.seat.net n.seat.number) key)
      (without_first (is_key key) n.atp.transactions.service_responder)
      [] (report.Transactions atp_report.Expired) tt tt
      (expired_is (serving n.seat.net n.seat.number) n.atp.transactions.service_responder st.service is) refl
      (expiry_matches (serving n.seat.net n.seat.number) n.atp.transactions.service_responder
      (ap (at_socket n.seat n.seat.number) (sym (eqb-true own 129 ex))) st.service is)
      (Plain (record { plain = refl; asked = refl; reading = refl }))
  release_happens false true None ex ey is =
      zones_happen A history n (Fires (timer.Transactions (atp_timer.Release own key))) st
      (Expires (zones_at n.seat.net n.seat.number) key)
      (without_first (is_key key) n.atp.zones.zone_responder) []
      (report.Transactions atp_report.Expired) tt tt
      (expired_is (zones_at n.seat.net n.seat.number) n.atp.zones.zone_responder st.zones is) refl
      (expiry_matches (zones_at n.seat.net n.seat.number) n.atp.zones.zone_responder
      (ap (at_socket n.seat n.seat.number) (sym (eqb-true own 6 ey))) st.zones is)
      (Plain (record { plain = refl; asked = refl; reading = refl }))
  release_happens false false None ex ey is = absurd (cc)

pub timer_happens : (A : Type 0) (stays : StaysOpen) (history : List Happening) (n : NodeState)
    (st : Stands A history n.seat.net n.seat.number n) (time : Timer) → is_atp (speaker_of_timer time) ≡ true
    → IsIts A history n (Fires time) (timed n time)
timer_happens A stays history n st (timer.Transactions (atp_timer.Retry tid)) its =
    retry_happens A stays history n st tid (retried n.atp.transactions.requester tid) refl
timer_happens A stays history n st (timer.Transactions (atp_timer.Release own key)) its =
    release_happens A history n st own key (own == 129) (own == 6)
    (expiry_fault (find (is_key key)
    (records_at n.atp own))) refl refl refl
timer_happens A stays history n st other its = absurd (cc)
