-- What a request or a release that comes to the router's zone socket is in the network.
use Rattle.std.proofs.Common.{◌≡◌, ℕ, Bool, true, false, cond, List, [], ◌∷◌, ◌++◌, length, Some, None, refl, sym, ap}
use Rattle.std.proofs.Common.{subst, ◌∙◌}
use Rattle.std.specs.Prelude.{find, nat_le, ◌&&◌}
use Rattle.std.proofs.lemmas.Bool.{le-leb}
use Rattle.std.proofs.lemmas.List.{append-nil}
use Rattle.at_atp_frame.specs.Frames.{Content, Request, Release, number_of}
use Rattle.at_atp_frame.specs.Packets.{IsPacket}
use Rattle.at_atp_frame.specs.declared.fault.AtpFault.TheVariants.{AtpTooLong}
use Rattle.at_atp_responder.specs.Once.{is_new_of}
use Rattle.at_atp_responder.specs.Records.{Record, is_key, after_answer, received, finds_no_place, record_fault}
use Rattle.at_atp_responder.specs.Records.{answer_fault, asked_for}
use Rattle.at_atp_responder.specs.declared.reception.Key.{Key}
use Rattle.at_atp_responder.specs.declared.reception.Reception.{Reception}
use Rattle.at_atp_responder.specs.declared.reception.Reception.TheVariants as reception
use Rattle.at_atp.specs.Network as network
use Rattle.at_ddp.specs.Posts.{packet_at, put, stamped}
use Rattle.at_ddp.proofs.PostLemmas.{put_here}
use Rattle.at_atp.specs.Network.{Network, Sent, Happening, Takes, after, done, with_responder, is_fresh}
use Rattle.at_atp.specs.Transactions.{Asked, answered}
use Rattle.at_zip.specs.Page.{page_of, page_data}
use Rattle.at_zip.specs.Request.{RequestSpells}
use Rattle.at_zip.specs.Tables.{Tables, table_of}
use Rattle.at_zip.specs.declared.request.TableChoice.{TableChoice}
use Rattle.at_zone_socket.specs.AtpParts.{AtpState, with_zones}
use Rattle.at_zone_socket.specs.ZoneSockets.{zones_at}
use Rattle.at_node.specs.Numbers.{drawn_by}
use Rattle.at_node.specs.Nodes.{with_atp, NodeState}
use Rattle.at_event.specs.Outcomes.{over, Outcome, idle}
use Rattle.at_transaction_socket.specs.Responders.{released_report}
use Rattle.at_zone_socket.specs.ZoneSocket.{page_packet, zone_served, zone_taken, at_zones, zone_asked, zone_released}
use Rattle.at_event.specs.declared.Report.{Report}
use Rattle.at_event.specs.declared.Report.TheVariants as report
use Rattle.at_event.specs.declared.transactions.TransactionReport.TheVariants as atp_report
use Rattle.at_event.specs.declared.zones.ZoneReport.TheVariants as zip_report
use Rattle.at_steps.specs.Acts.{Gets}
use Rattle.at_steps.specs.AtpReports.{AsksFrom}
use Rattle.at_steps.specs.AtpSteps as steps
use Rattle.at_steps.specs.AtpHappenings.{Stands}
use Rattle.at_steps.specs.AtpSteps.{Plain, is_plain}
use Rattle.at_steps.proofs.Protocols.Atp.Below.{HearingLaws}
use Rattle.at_steps.proofs.Protocols.Atp.Coming.{in_time}
use Rattle.at_steps.proofs.Protocols.Atp.Moves.{idle_happens, zones_happen, gave_happens}
use Rattle.at_steps.proofs.Protocols.Atp.Standing.{IsIts, with_served}
use Rattle.at_steps.proofs.Protocols.Atp.Requested.{asks, release_is_plain}
use Rattle.at_steps.proofs.Protocols.Atp.Stories.{is_quiet, takes_quietly, serves_new, release_is_old, release_is_quiet}
use Rattle.at_steps.proofs.Protocols.Atp.Values.{put_twice}

module _ (A : Type 0) (laws : HearingLaws A) (history : List Happening) (n : NodeState)
    (st : Stands A history n.seat.net n.seat.number n) (which : ℕ) (s : Sent)
    (was_sent : packet_at (after A history).sent which ≡ Some s) (fresh : is_fresh (after A history).drawn s ≡ true)
    (to_is : s.to ≡ zones_at n.seat.net n.seat.number) where
  its_records : (after A history).responders s.to ≡ n.atp.zones.zone_responder
  its_records = ap (after A history).responders to_is ∙ st.zones

  module _ (f : Content) (packet_is : s.packet ≡ f) where
    is_taken : done A (after A history) (Takes which)
        ≡ with_responder (after A history) (zones_at n.seat.net n.seat.number)
        (received n.atp.zones.zone_responder s.from f).after (received n.atp.zones.zone_responder s.from f).sent
    is_taken = ap (network.takes_in (after A history)) was_sent
        ∙ (λ i. with_responder (after A history) (to_is i) (received (its_records i) s.from (packet_is i)).after
        (received (its_records i) s.from (packet_is i)).sent)

    -- a packet that is not answered anew
    quietly : (r : Report A) (x : Reception) → (received n.atp.zones.zone_responder s.from f).reception ≡ x
        → ((key : Key) → is_new_of key x ≡ false) → is_quiet r (Gets which) ≡ true → is_plain (Gets which) r ≡ true
        → drawn_by r ≡ None →
        IsIts A history n (Gets which)
        (over (with_atp n) (over (with_zones n.atp)
        (zone_taken n.seat n.atp.zones (received n.atp.zones.zone_responder s.from f) r)))
    quietly r x is old quiet plain none =
        zones_happen A history n (Gets which) st (Takes which) (received n.atp.zones.zone_responder s.from f).after
        (received n.atp.zones.zone_responder s.from f).sent r (in_time (after A history) which s was_sent fresh) tt
        is_taken
        none
        (takes_quietly A n.seat.net n.seat.number n.atp.zones.tables (after A history) which s was_sent r x
        ((λ i. (received (its_records i) s.from (packet_is i)).reception) ∙ is) old quiet)
        (Plain (record { plain = plain; asked = refl; reading = refl }))

  -- ---- a release

  pub zone_release : (tid : ℕ) → s.packet ≡ Release tid
      → IsIts A history n (Gets which)
      (over (with_atp n) (over (with_zones n.atp)
      (zone_released n.seat n.atp.zones (received n.atp.zones.zone_responder s.from (Release tid)))))
  zone_release tid packet_is =
      let plain = release_is_plain A which (received n.atp.zones.zone_responder s.from (Release tid)).reception in
      quietly (Release tid) packet_is (released_report
      (received n.atp.zones.zone_responder s.from (Release tid)).reception)
      (received n.atp.zones.zone_responder s.from (Release tid)).reception refl
      (λ key. release_is_old n.atp.zones.zone_responder (record { from = s.from; tid = tid })
      (find (is_key (record { from = s.from; tid = tid })) n.atp.zones.zone_responder) key)
      (release_is_quiet A which (received n.atp.zones.zone_responder s.from (Release tid)).reception) plain.0 plain.1

  -- ---- a request

  module _ (mask : ℕ) (xo : Bool) (timer tid : ℕ) (user bytes : List ℕ)
      (packet_is : s.packet ≡ Request mask xo timer tid user bytes) (tables : Tables)
      (are_tables : n.atp.zones.tables ≡ Some tables) (kind : TableChoice) (start : ℕ)
      (asks_from : RequestSpells user kind start) where
    abbrev table : List (List ℕ)
    table = table_of kind tables

    page_fits : IsPacket (page_packet table start)
    page_fits = record {
      four = refl;
      user = laws.user table start;
      bytes = laws.bytes table start (st.has_tables tables are_tables kind);
      fits = laws.fits table start;
    }

    -- the page can be answered
    no_fault : (rs : List Record) (key : Key) → record_fault (find (is_key key) rs) ≡ None
        → answer_fault rs key (page_packet table start ∷ []) ≡ None
    no_fault rs key waits = ap
        (λ b. cond (nat_le 1 8 && (b && true)) (record_fault (find (is_key key) rs)) (Some AtpTooLong))
        (le-leb (length (page_data (page_of table start))) 578 (laws.fits table start)) ∙ waits

    -- the network once the request came and was answered
    is_answered : (key : Key) → (received n.atp.zones.zone_responder s.from
        (Request mask xo timer tid user bytes)).reception
        ≡ reception.New key →
        done A (after A history) (network.Serves which (page_packet table start ∷ []))
        ≡ network.answers (with_responder (after A history) (zones_at n.seat.net n.seat.number)
        (received n.atp.zones.zone_responder s.from (Request mask xo timer tid user bytes)).after
        (received n.atp.zones.zone_responder s.from (Request mask xo timer tid user bytes)).sent)
        (zones_at n.seat.net n.seat.number) key (page_packet table start ∷ []) None
    is_answered key is =
        let waits = laws.new_waits n.atp.zones.zone_responder s.from (Request mask xo timer tid user bytes) key is in
        ap (network.serves (after A history) (page_packet table start ∷ [])) was_sent
        ∙ (λ i. network.handed_up
        (with_responder (after A history) (to_is i) (received (its_records i) s.from (packet_is i)).after
        (received (its_records i) s.from (packet_is i)).sent) (to_is i) (page_packet table start ∷ [])
        (received (its_records i) s.from (packet_is i)).reception)
        ∙ ap (network.handed_up (with_responder (after A history) (zones_at n.seat.net n.seat.number)
        (received n.atp.zones.zone_responder s.from (Request mask xo timer tid user bytes)).after
        (received n.atp.zones.zone_responder s.from (Request mask xo timer tid user bytes)).sent)
        (zones_at n.seat.net n.seat.number) (page_packet table start ∷ [])) is
        ∙ ap (network.answers (with_responder (after A history) (zones_at n.seat.net n.seat.number)
        (received n.atp.zones.zone_responder s.from (Request mask xo timer tid user bytes)).after
        (received n.atp.zones.zone_responder s.from (Request mask xo timer tid user bytes)).sent)
        (zones_at n.seat.net n.seat.number) key (page_packet table start ∷ []))
        (ap (λ rs. answer_fault rs key (page_packet table start ∷ []))
        (put_here (after A history).responders (zones_at n.seat.net n.seat.number)
        (received n.atp.zones.zone_responder s.from (Request mask xo timer tid user bytes)).after)
        ∙ no_fault (received n.atp.zones.zone_responder s.from
        (Request mask xo timer tid user bytes)).after key waits.0)

    served : (key : Key) → (received n.atp.zones.zone_responder s.from (Request mask xo timer tid user bytes)).reception
        ≡ reception.New key → IsIts A history n (Gets which)
        (over (with_atp n) (over (with_zones n.atp) (zone_served n.seat n.atp.zones
        (received n.atp.zones.zone_responder s.from (Request mask xo timer tid user bytes)) key
        (page_packet table start))))
    served key is =
        let waits = laws.new_waits n.atp.zones.zone_responder s.from (Request mask xo timer tid user bytes) key is in
        let d = is_answered key is in
        let a = asks A laws history n st which s was_sent fresh mask xo timer tid user bytes packet_is in
        let here = put_here (after A history).responders (zones_at n.seat.net n.seat.number)
        (received n.atp.zones.zone_responder s.from (Request mask xo timer tid user bytes)).after in
        let joined = ap (λ (x : Network). x.asked) d
        ∙ (λ i. answered (after A history).asked (waits.2 i).from (waits.2 i).tid (page_packet table start ∷ [])) in
        let newest : Asked (after A history).asked s.from tid (zones_at n.seat.net n.seat.number) =
        record { transaction = (a.0).transaction; newest = (a.0).newest; asked_it = (a.0).asked_it ∙ to_is } in
        gave_happens A history n (Gets which) st (network.Serves which (page_packet table start ∷ []))
        (report.Zones (zip_report.Served (length (asked_for
        (find (is_key key) (received n.atp.zones.zone_responder s.from
        (Request mask xo timer tid user bytes)).after) key
        (page_packet table start ∷ [])))))
        (zones_at n.seat.net n.seat.number) s.from tid (page_packet table start ∷ [])
        (after_answer (received n.atp.zones.zone_responder s.from (Request mask xo timer tid user bytes)).after key
        (page_packet table start ∷ [])) n.atp.transactions.service_responder
        (asked_for (find (is_key key) (received n.atp.zones.zone_responder s.from
        (Request mask xo timer tid user bytes)).after)
        key (page_packet table start ∷ []))
        (in_time (after A history) which s was_sent fresh) (page_fits, tt)
        (ap (λ (x : Network). x.event) d)
        (λ who. ap (λ (x : Network). x.requesters who) d)
        (λ at. ap (λ (x : Network). x.responders at) d
        ∙ ap (λ rs. put (put (after A history).responders (zones_at n.seat.net n.seat.number)
        (received n.atp.zones.zone_responder s.from (Request mask xo timer tid user bytes)).after)
        (zones_at n.seat.net n.seat.number) (after_answer rs key (page_packet table start ∷ [])) at) here
        ∙ put_twice (after A history).responders (zones_at n.seat.net n.seat.number)
        (received n.atp.zones.zone_responder s.from (Request mask xo timer tid user bytes)).after
        (after_answer (received n.atp.zones.zone_responder s.from (Request mask xo timer tid user bytes)).after key
        (page_packet table start ∷ [])) at
        ∙ with_served A history n st
        (after_answer (received n.atp.zones.zone_responder s.from (Request mask xo timer tid user bytes)).after key
        (page_packet table start ∷ [])) at)
        (ap (λ (x : Network). x.sent) d
        ∙ (λ i. ((after A history).sent ++ stamped (after A history).event (zones_at n.seat.net n.seat.number)
        (waits.1 i)) ++ stamped (after A history).event (zones_at n.seat.net n.seat.number)
        (asked_for (find (is_key key) (here i)) key (page_packet table start ∷ [])))
        ∙ ap (λ l. l ++ stamped (after A history).event (zones_at n.seat.net n.seat.number)
        (asked_for (find (is_key key)
        (received n.atp.zones.zone_responder s.from (Request mask xo timer tid user bytes)).after) key
        (page_packet table start ∷ []))) (append-nil (after A history).sent))
        (ap (λ (x : Network). x.drawn) d)
        joined refl
        (serves_new A n.seat.net n.seat.number n.atp.zones.tables (after A history) which s was_sent key
        (page_packet table start ∷ [])
        (length (asked_for (find (is_key key)
        (received n.atp.zones.zone_responder s.from (Request mask xo timer tid user bytes)).after) key
        (page_packet table start ∷ []))) ((λ i. (received (its_records i) s.from (packet_is i)).reception) ∙ is)
        (waits.2 ∙ ap (λ f. record { from = s.from; tid = number_of f }) (sym packet_is))
        (joined ∙ (λ i. answered (after A history).asked s.from (number_of (sym packet_is i))
        (page_packet table start ∷ [])))
        (record {
          has = tables;
          are_tables = are_tables;
          request = s;
          was_sent = was_sent;
          table = kind;
          start = start;
          asks_from = subst (λ f. AsksFrom f kind start) (sym packet_is) asks_from;
          page = refl;
        }))
        (steps.Serves (record {
          datagram = which;
          count = length (asked_for
              (find (is_key key) (received n.atp.zones.zone_responder s.from
              (Request mask xo timer tid user bytes)).after)
              key
              (page_packet table start ∷ []));
          act = refl;
          report = refl;
          tables = tables;
          are_tables = are_tables;
          requester = s.from;
          tid = tid;
          newest = newest;
          table = kind;
          start = start;
          asks_from = subst (λ u. RequestSpells u kind start) (sym a.1) asks_from;
          one = laws.few (find (is_key key)
              (received n.atp.zones.zone_responder s.from (Request mask xo timer tid user bytes)).after) key
              (page_packet table start ∷ []);
          asked = refl;
          reading = refl;
        }))

    by_reception : (o : Outcome A AtpState) (r : Reception)
        → (received n.atp.zones.zone_responder s.from (Request mask xo timer tid user bytes)).reception ≡ r → o
        ≡ over (with_zones n.atp) (at_zones n.seat n.atp.zones
        (received n.atp.zones.zone_responder s.from (Request mask xo timer tid user bytes))
        (page_packet table start) r) → IsIts A history n (Gets which) (over (with_atp n) o)
    by_reception o reception.Ignored is at = subst (λ p. IsIts A history n (Gets which) (over (with_atp n) p)) (sym at)
        (quietly (Request mask xo timer tid user bytes) packet_is report.Ignored reception.Ignored is
        (λ key. refl) refl refl refl)
    by_reception o (reception.Again count) is at = subst (λ p. IsIts A history n (Gets which) (over (with_atp n) p))
        (sym at) (quietly (Request mask xo timer tid user bytes) packet_is report.Again (reception.Again count) is
        (λ key. refl) refl refl refl)
    by_reception o reception.Released is at = subst (λ p. IsIts A history n (Gets which) (over (with_atp n) p))
        (sym at) (quietly (Request mask xo timer tid user bytes) packet_is (report.Transactions atp_report.Released)
        reception.Released is
        (λ key. refl) refl refl refl)
    by_reception o (reception.New key) is at = subst (λ p. IsIts A history n (Gets which) (over (with_atp n) p))
        (sym at) (served key is)

    pub zone_request : (o : Outcome A AtpState) → o
        ≡ over (with_zones n.atp) (zone_asked n.seat n.atp.zones s.from (Request mask xo timer tid user bytes) table
        start)
        → IsIts A history n (Gets which) (over (with_atp n) o)
    zone_request o at = go (finds_no_place n.atp.zones.zone_responder s.from (Request mask xo timer tid user bytes)) at
      where
        go : (b : Bool) → o ≡ over (with_zones n.atp)
            (cond b (idle n.atp.zones (report.Refused 14))
            (at_zones n.seat n.atp.zones (received n.atp.zones.zone_responder s.from
            (Request mask xo timer tid user bytes))
            (page_packet table start)
            (received n.atp.zones.zone_responder s.from (Request mask xo timer tid user bytes)).reception))
            → IsIts A history n (Gets which) (over (with_atp n) o)
        go true e = subst (λ p. IsIts A history n (Gets which) (over (with_atp n) p)) (sym e)
            (idle_happens A history n (Gets which) st (report.Refused 14) refl refl refl)
        go false e = by_reception o
            (received n.atp.zones.zone_responder s.from (Request mask xo timer tid user bytes)).reception refl e
