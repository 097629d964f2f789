-- What the page that a reading asked for is in the network: it ends the reading, or the next page is asked for.
use Rattle.std.proofs.Common.{◌≡◌, inl, inr, ℕ, ◌+◌, ◌≤◌, Bool, true, false, List, [], ◌∷◌, ◌++◌, length, Some, None}
use Rattle.std.proofs.Common.{refl, sym, ap, subst, ◌∙◌}
use Rattle.std.specs.Prelude.{MatchBool, nat_lt}
use Rattle.std.proofs.lemmas.Bool.{and_parts, ltb-false, ltb-true}
use Rattle.at_atp_frame.specs.Frames.{Content, Response}
use Rattle.at_atp_requester.specs.Requests as requests
use Rattle.at_atp_requester.specs.Requests.{Requests, begun, finishes, heard, next_number}
use Rattle.at_ddp.specs.Posts.{packet_at}
use Rattle.at_atp.specs.Network.{Sent, Happening, Hears, NoneHolds, after, done, with_requester, is_fresh}
use Rattle.at_atp.specs.Transactions.{Transaction, transaction_of, Asked, IsPart}
use Rattle.at_zip.specs.Page.{Page, Spells}
use Rattle.at_zip.specs.Reading.{place_after}
use Rattle.at_zip.specs.Request.{request_user}
use Rattle.at_zone_socket.specs.AtpParts.{AtpState, with_reading}
use Rattle.at_zone_socket.specs.ZoneSockets.{Reading}
use Rattle.at_transaction_socket.specs.TransactionSockets.{asking, asks as asks_page}
use Rattle.at_node.specs.Numbers.{drawn_by}
use Rattle.at_node.specs.Nodes.{with_atp, NodeState}
use Rattle.at_event.specs.Outcomes.{over, Outcome}
use Rattle.at_zone_socket.specs.ZoneReading.{AsksOn, ReadsPage, is_page, is_reading, page_transaction, table_read}
use Rattle.at_zone_socket.specs.ZoneReading.{reading_ends as ends_reading}
use Rattle.at_node.specs.declared.numbers.Draw.TheVariants.{Tid}
use Rattle.at_event.specs.declared.Report.{Report}
use Rattle.at_event.specs.declared.Report.TheVariants as report
use Rattle.at_event.specs.declared.transactions.TransactionReport.TheVariants as atp_report
use Rattle.at_event.specs.declared.zones.ZoneReport.TheVariants as zip_report
use Rattle.at_steps.specs.Acts.{Gets}
use Rattle.at_steps.specs.AtpHappenings.{Stands, IsOpen}
use Rattle.at_steps.specs.AtpSteps as steps
use Rattle.at_steps.specs.AtpSteps.{All, ComesToReading, Faulty, HasRead, Tells, TooMany, page_asked}
use Rattle.at_steps.proofs.Protocols.Atp.Asking.{asks_fit, begun_is_open}
use Rattle.at_steps.proofs.Protocols.Atp.Below.{HearingLaws}
use Rattle.at_steps.proofs.Protocols.Atp.Coming.{in_time}
use Rattle.at_steps.proofs.Protocols.Atp.Beginning.{it_draws, it_ends, turned_happens}
use Rattle.at_steps.proofs.Protocols.Atp.Moves.{requester_happens}
use Rattle.at_steps.proofs.Protocols.Atp.Standing.{IsIts}
use Rattle.at_steps.proofs.Protocols.Atp.Stories.{is_quiet, hears_matches, turns_match}

module _ (A : Type 0) (laws : HearingLaws A) (history : List Happening) (n : NodeState)
    (st : Stands A history n.seat.net n.seat.number n) (which : ℕ) (s : Sent)
    (was_sent : packet_at (after A history).sent which ≡ Some s) (fresh : is_fresh (after A history).drawn s ≡ true)
    (to_is : s.to ≡ asking n.seat.net n.seat.number)
    (place : ℕ) (eom sts : Bool) (tid : ℕ) (user bytes : List ℕ)
    (packet_is : s.packet ≡ Response place eom sts tid user bytes)
    (part : (a : Asked (after A history).asked (asking n.seat.net n.seat.number) tid s.from)
    × IsPart a.transaction place eom (record { user = user; data_ = bytes }))
    (is_done : done A (after A history) (Hears which)
    ≡ with_requester (after A history) (asking n.seat.net n.seat.number)
    (heard {A = A} n.atp.transactions.requester s.from (Response place eom sts tid user bytes)).after
    (heard {A = A} n.atp.transactions.requester s.from (Response place eom sts tid user bytes)).sent) where
  abbrev came_in : Content
  came_in = Response place eom sts tid user bytes

  -- what the requester makes of it
  abbrev received : requests.Heard A
  received = heard {A = A} n.atp.transactions.requester s.from came_in

  nothing_open : (x : Requests) → IsOpen (with_reading n.atp None (record n.atp.transactions { requester = x }))
  nothing_open x r reads = absurd (cc)

  module _ (r : Reading) (reads : n.atp.zones.reading ≡ Some r) (numbered : r.tid ≡ tid)
      (mine : is_page A n.atp s.from came_in ≡ true)
      (on_net : (s.from).net ≡ n.seat.net) where
    abbrev came : (ts : List Transaction) (now : AtpState) (told : Report A)
        → ComesToReading n.seat.net n.seat.number
        (record {
          asked = (after A history).asked;
          now_asked = ts;
          part = n.atp;
          now = now;
          act = Gets which;
          report = told;
        })
    came ts now told =
        let p = part in
        let a = p.0 in
        record {
          datagram = which;
          act = refl;
          read = r;
          reads = reads;
          from = s.from;
          newest = record {
            transaction = a.transaction;
            newest = ap (transaction_of (after A history).asked (asking n.seat.net n.seat.number)) numbered
                ∙ a.newest;
            asked_it = a.asked_it;
          };
          place = place;
          ends = eom;
          packet = record { user = user; data_ = bytes };
          part = p.1;
        }

    reading_ends : (told : Report A) (o : Outcome A AtpState) → drawn_by told ≡ None → is_quiet told (Gets which)
        ≡ true → Tells r.which r.names (record { user = user; data_ = bytes }) told →
        o ≡ ends_reading n.seat n.atp received told → IsIts A history n (Gets which) (over (with_atp n) o)
    reading_ends told o none quiet tells is =
        subst (λ x. IsIts A history n (Gets which) (over (with_atp n) x)) (sym is)
        (requester_happens A history n (Gets which) st (Hears which) received.after None received.sent told
        (in_time (after A history) which s was_sent fresh) tt is_done none (nothing_open received.after)
        (hears_matches A n.seat.net n.seat.number n.atp.zones.tables (after A history) which (Gets which) told quiet)
        (HasRead (record {
          came = came (after A history).asked (with_reading n.atp None
              (record n.atp.transactions { requester = received.after })) told;
          tells = tells;
          asked = refl;
          reading = refl;
        })))

    ended : finishes A n.atp.transactions.requester s.from came_in ≡ true
    ended = (and_parts (is_reading n.atp.zones.reading tid) (finishes A n.atp.transactions.requester s.from came_in)
        mine).1

    reading_turns : (p : Page) (o : Outcome A AtpState) → Spells user bytes p → p.last ≡ false
        → length r.names + length p.names ≤ 1024
        → ((k : ℕ) → drawn_by o.report ≡ Some (Tid k)
        → NoneHolds (after A history).responders (asking n.seat.net n.seat.number) k) →
        AsksOn n.seat n.atp received s.from (r.names ++ p.names) o
        → IsIts A history n (Gets which) (over (with_atp n) o)
    reading_turns p o spelled last few free asks =
        let names = r.names ++ p.names in
        let kind = table_read n.atp.zones.reading in
        let k = asks.tid in
        let as_packet : finishes A n.atp.transactions.requester s.from s.packet
        ≡ true = ap (finishes A n.atp.transactions.requester s.from) packet_is ∙ ended in
        let drawn : next_number (heard {A = A} n.atp.transactions.requester s.from s.packet).after
        ≡ Some k = ap (λ f. next_number (heard {A = A} n.atp.transactions.requester s.from f).after) packet_is
        ∙ asks.drawn in
        let nothing : (heard {A = A} n.atp.transactions.requester s.from s.packet).sent
        ≡ [] = ap (λ f. (heard {A = A} n.atp.transactions.requester s.from f).sent) packet_is
        ∙ laws.quiet_end n.atp.transactions.requester s.from came_in ended in
        let free_now : NoneHolds (after A history).responders (asking n.seat.net n.seat.number) k =
        free k (ap (λ (x : Outcome A AtpState). drawn_by x.report) asks.outcome) in
        subst (λ x. IsIts A history n (Gets which) (over (with_atp n) x)) (sym asks.outcome)
        (subst (λ (q : Requests). IsIts A history n (Gets which)
        (over (with_atp n) (over (with_reading n.atp (Some (record { which = kind; tid = k; names = names })))
        (asks_page n.seat (record n.atp.transactions { requester = q }) (page_transaction s.from kind names k)))))
        (ap (λ f. (heard {A = A} n.atp.transactions.requester s.from f).after) packet_is)
        (turned_happens A history n (Gets which) st which s
        (request_user kind (place_after names)) 3 k was_sent to_is as_packet drawn nothing
        (Some (record { which = kind; tid = k; names = names })) (in_time
        (after A history) which s was_sent fresh) free_now
        (asks_fit kind names) on_net
        (λ q is. begun_is_open (heard {A = A} n.atp.transactions.requester s.from s.packet).after
        (page_transaction s.from kind names k)
        (record { which = kind; tid = k; names = names }) q refl is)
        (turns_match A n.seat.net n.seat.number n.atp.zones.tables (after A history) which s
        (request_user kind (place_after names)) 3 k
        (it_ends A history n (Gets which) st which s
        (request_user kind (place_after names)) 3 k was_sent to_is as_packet drawn nothing)
        (it_draws A history n (Gets which) st which s
        (request_user kind (place_after names)) 3 k was_sent to_is as_packet drawn nothing) to_is)
        (steps.Turns (record {
          came = came (page_asked n.seat.net n.seat.number s.from kind names k ∷ (after A history).asked)
              (with_reading n.atp (Some (record { which = kind; tid = k; names = names }))
              (record n.atp.transactions {
                requester = begun
                    (heard {A = A} n.atp.transactions.requester s.from s.packet).after
                    (page_transaction s.from kind names k);
              })) (report.Transactions (atp_report.Begun k));
          page = p;
          spelled = spelled;
          last = last;
          few = few;
          tid = k;
          report = refl;
          asked = ap (λ v. page_asked n.seat.net n.seat.number s.from v names k ∷ (after A history).asked)
              (ap table_read reads);
          reading = ap (λ v. Some (record { which = v; tid = k; names = names })) (ap table_read reads);
        }))))

    pub page_happens : (o : Outcome A AtpState)
        → ((k : ℕ) → drawn_by o.report ≡ Some (Tid k)
        → NoneHolds (after A history).responders (asking n.seat.net n.seat.number) k) →
        ReadsPage n.seat n.atp received s.from r.names (record { user = user; data_ = bytes }) o
        → IsIts A history n (Gets which) (over (with_atp n) o)
    page_happens o free (inr h) = reading_ends (report.Zones (zip_report.Fault h.number)) o refl refl
        (Faulty (record { fault = h.fault; number = h.number; first = h.first; tells = refl })) h.outcome
    page_happens o free (inl h) = go (nat_lt 1024 (length r.names + length (h.page).names))
        (h.page).last refl refl h.outcome
      where
        go : (long last : Bool) → nat_lt 1024 (length r.names + length (h.page).names) ≡ long → (h.page).last ≡ last →
            MatchBool long (o ≡ ends_reading n.seat n.atp received (report.Zones (zip_report.Fault 34)))
            (MatchBool last (o ≡ ends_reading n.seat n.atp received
            (report.Zones (zip_report.List (table_read n.atp.zones.reading) (r.names ++ (h.page).names))))
            (AsksOn n.seat n.atp received s.from (r.names ++ (h.page).names) o))
            → IsIts A history n (Gets which) (over (with_atp n) o)
        go true last e f g = reading_ends (report.Zones (zip_report.Fault 34)) o refl refl
            (TooMany (record {
              page = h.page;
              spelled = h.spelled;
              many = ltb-true 1024 (length r.names + length (h.page).names) e;
              tells = refl;
            })) g
        go false true e f g =
            reading_ends (report.Zones (zip_report.List (table_read n.atp.zones.reading) (r.names ++ (h.page).names))) o
            refl refl (All (record {
              page = h.page;
              spelled = h.spelled;
              last = f;
              tells = ap (λ v. report.Zones (zip_report.List v (r.names ++ (h.page).names))) (ap table_read reads);
            })) g
        go false false e f g = reading_turns h.page o h.spelled f
            (ltb-false 1024 (length r.names + length (h.page).names) e) free g
