-- The kinds of happenings at a node: nothing, a requester or a responder changes, an answer joins, the router's tables
-- change.
use Rattle.std.proofs.Common.{◌≡◌, ℕ, Bool, true, false, cond, List, [], ◌∷◌, ◌++◌, Option, Some, None, refl, sym, ap}
use Rattle.std.proofs.Common.{subst, ◌∙◌}
use Rattle.std.specs.List.{AllByRecursion}
use Rattle.std.proofs.lemmas.Bool.{true≢false}
use Rattle.at_ddp.specs.declared.address.Address.{Address}
use Rattle.at_atp_frame.specs.Frames.{Content, spelled_all}
use Rattle.at_atp_frame.specs.Packets.{Packet}
use Rattle.at_atp_requester.specs.Requests.{Requests}
use Rattle.at_atp_responder.specs.Records.{Record}
use Rattle.at_atp.specs.Lawfully.{IsInRange}
use Rattle.at_ddp.specs.Posts.{put, stamped}
use Rattle.at_ddp.specs.Protocols.{atp_kind}
use Rattle.at_steps.proofs.Entries.{entries_of}
use Rattle.at_atp.specs.Network.{Network, Happening, Other, after, done, with_requester, with_responder, IsTimely}
use Rattle.at_atp.specs.Transactions.{Transaction, is_transaction, answered}
use Rattle.at_zip.specs.Tables.{Tables, AreTables}
use Rattle.at_zone_socket.specs.ZoneSockets.{Reading, zones_at}
use Rattle.at_transaction_socket.specs.TransactionSockets.{asking, serving}
use Rattle.at_node.specs.Numbers.{drawn_by}
use Rattle.at_node.specs.Nodes.{NodeState, with_atp}
use Rattle.at_event.specs.Outcomes.{idle, sent_by}
use Rattle.at_event.specs.declared.Report.{Report}
use Rattle.at_event.specs.declared.Report.TheVariants as report
use Rattle.at_event.specs.declared.zones.ZoneReport.TheVariants as zip_report
use Rattle.at_steps.specs.Acts.{Act}
use Rattle.at_steps.specs.AtpReports.{Matches}
use Rattle.at_steps.specs.AtpHappenings.{Stands, IsOn, IsOpen, atp_coding, sets_table}
use Rattle.at_steps.specs.AtpSteps.{Plain, is_plain}
use Rattle.at_steps.proofs.Protocols.Atp.Stories.{is_quiet, other_matches}
use Rattle.at_steps.proofs.Coming.{all_sent}
use Rattle.at_steps.proofs.Protocols.Atp.Standing.{IsIts, StepTo, no_draw, requesters_stay, responders_stay}
use Rattle.at_steps.proofs.Protocols.Atp.Standing.{with_served}
use Rattle.at_steps.proofs.Protocols.Atp.Standing.{with_service}
use Rattle.at_zone_socket.specs.AtpParts.{both as joined, with_reading, with_transactions, with_zones}

-- ---- lists of transactions

-- what holds of each transaction, and of the one that an answer joins, once it joined
pub answered_all : (P : Transaction → Type 0) (ts : List Transaction) (from : Address) (tid : ℕ)
    (packets : List Packet) → AllByRecursion P ts →
    ((a : Transaction) → P a → P (record a { answers = a.answers ++ packets ∷ [] }))
    → AllByRecursion P (answered ts from tid packets)
answered_all P [] from tid packets all joins = tt
answered_all P (t ∷ ts) from tid packets all joins = go (answered_all P ts from tid packets all.1 joins)
    (is_transaction from tid t)
  where
    go : AllByRecursion P (answered ts from tid packets) → (b : Bool)
        → AllByRecursion P (cond b (record t { answers = t.answers ++ packets ∷ [] } ∷ ts)
        (t ∷ answered ts from tid packets))
    go rest true = (joins t all.0, all.1)
    go rest false = (all.0, rest)

module _ (A : Type 0) (history : List Happening) (n : NodeState) (act : Act A)
    (st : Stands A history n.seat.net n.seat.number n) where
  -- ---- nothing happens at a socket

  -- the router may get other tables
  rests : (now : Option Tables) (r : Report A) → is_quiet r act ≡ true → drawn_by r ≡ None
      → (sets_table r ≡ false → now ≡ n.atp.zones.tables) → ((tables : Tables) → now ≡ Some tables → AreTables tables)
      → StepTo A history n act (after A history).asked (with_zones n.atp (record n.atp.zones { tables = now })) r
      → IsIts A history n act (record {
        report = r;
        state = with_atp n
            (with_zones n.atp (record n.atp.zones { tables = now }));
        out = [];
      })
  rests now r quiet none same are step = (
    record {
      happening = Other 0;
      timely = tt;
      in_range = tt;
      same_event = refl;
      requesters = requesters_stay A history n st;
      responders = responders_stay A history n st;
      more = [];
      sent = refl;
      posts = tt;
      drawn = no_draw A history n st r none;
      on_net = st.on_net;
      is_open = st.is_open;
      same_tables = same;
      has_tables = are;
      matches = other_matches A n.seat.net n.seat.number n.atp.zones.tables (after A history) 0 act r quiet;
    },
    step,
    tt,
  )

  pub idle_happens : (r : Report A) → is_plain act r ≡ true → is_quiet r act ≡ true → drawn_by r ≡ None
      → IsIts A history n act (idle n r)
  idle_happens r plain quiet none = rests n.atp.zones.tables r quiet none (λ no. refl) st.has_tables
      (Plain (record { plain = plain; asked = refl; reading = refl }))

  pub table_happens : (tables : Tables) → AreTables tables
      → is_quiet {A = A} (report.Zones zip_report.TableSet) act ≡ true
      → StepTo A history n act (after A history).asked (with_zones n.atp (record n.atp.zones { tables = Some tables }))
      (report.Zones zip_report.TableSet) →
      IsIts A history n act (record {
        report = report.Zones zip_report.TableSet;
        state = with_atp n (with_zones n.atp (record n.atp.zones { tables = Some tables }));
        out = [];
      })
  table_happens tables are quiet step =
      rests (Some tables) (report.Zones zip_report.TableSet) quiet refl (λ no. absurd (true≢false no))
      (λ now is. let same : tables ≡ now = cc in subst AreTables same are) step

  -- ---- one socket changes

  pub requester_happens : (h : Happening) (x : Requests) (reading : Option Reading) (sent : List (Address × Content))
      (r : Report A) → IsTimely A (after A history) h → IsInRange h →
      done A (after A history) h ≡ with_requester (after A history) (asking n.seat.net n.seat.number) x sent
      → drawn_by r ≡ None → IsOpen (with_reading n.atp reading (record n.atp.transactions { requester = x }))
      → Matches n.seat.net n.seat.number n.atp.zones.tables (after A history) h act r →
      StepTo A history n act (after A history).asked
      (with_reading n.atp reading (record n.atp.transactions { requester = x })) r →
      IsIts A history n act (record {
        report = r;
        state = with_atp n (with_reading n.atp reading (record n.atp.transactions { requester = x }));
        out = sent_by (asking n.seat.net n.seat.number) atp_kind (spelled_all sent);
      })
  requester_happens h x reading sent r timely range is none opened matches step = (
    record {
      happening = h;
      timely = timely;
      in_range = range;
      same_event = ap (λ (y : Network). y.event) is;
      requesters = λ who. ap (λ (y : Network). y.requesters who) is;
      responders = λ at. ap (λ (y : Network). y.responders at) is ∙ responders_stay A history n st at;
      more = stamped (after A history).event (asking n.seat.net n.seat.number) sent;
      sent = ap (λ (y : Network). y.sent) is;
      posts = entries_of atp_coding (after A history).event (asking n.seat.net n.seat.number) sent;
      drawn = ap (λ (y : Network). y.drawn) is ∙ no_draw A history n st r none;
      on_net = subst (AllByRecursion (IsOn n.seat.net)) (ap (λ (y : Network). y.asked) (sym is)) st.on_net;
      is_open = opened;
      same_tables = λ no. refl;
      has_tables = st.has_tables;
      matches = matches;
    },
    subst (λ ts. StepTo A history n act ts (with_reading n.atp reading (record n.atp.transactions { requester = x })) r)
        (ap (λ (y : Network). y.asked) (sym is)) step,
    all_sent atp_kind (asking n.seat.net n.seat.number) (spelled_all sent),
  )

  -- the records of a socket that answers become these, and so those of both are these
  responder_happens : (h : Happening) (own : Address) (rs served service : List Record)
      (sent : List (Address × Content)) (r : Report A)
      → ((at : Address) → put (after A history).responders own rs at
      ≡ put (put (after A history).responders (serving n.seat.net n.seat.number) service)
      (zones_at n.seat.net n.seat.number) served at) →
      IsTimely A (after A history) h → IsInRange h → done A (after A history) h
      ≡ with_responder (after A history) own rs sent → drawn_by r ≡ None
      → Matches n.seat.net n.seat.number n.atp.zones.tables (after A history) h act r →
      StepTo A history n act (after A history).asked
      (joined (record n.atp.transactions { service_responder = service })
      (record n.atp.zones { zone_responder = served })) r →
      IsIts A history n act (record {
        report = r;
        state = with_atp n (joined (record n.atp.transactions { service_responder = service })
            (record n.atp.zones { zone_responder = served }));
        out = sent_by own atp_kind (spelled_all sent);
      })
  responder_happens h own rs served service sent r both timely range is none matches step = (
    record {
      happening = h;
      timely = timely;
      in_range = range;
      same_event = ap (λ (y : Network). y.event) is;
      requesters = λ who. ap (λ (y : Network). y.requesters who) is ∙ requesters_stay A history n st who;
      responders = λ at. ap (λ (y : Network). y.responders at) is ∙ both at;
      more = stamped (after A history).event own sent;
      sent = ap (λ (y : Network). y.sent) is;
      posts = entries_of atp_coding (after A history).event own sent;
      drawn = ap (λ (y : Network). y.drawn) is ∙ no_draw A history n st r none;
      on_net = subst (AllByRecursion (IsOn n.seat.net)) (ap (λ (y : Network). y.asked) (sym is)) st.on_net;
      is_open = st.is_open;
      same_tables = λ no. refl;
      has_tables = st.has_tables;
      matches = matches;
    },
    subst (λ ts. StepTo A history n act ts (joined (record n.atp.transactions { service_responder = service })
        (record n.atp.zones { zone_responder = served })) r)
        (ap (λ (y : Network). y.asked) (sym is)) step,
    all_sent atp_kind own (spelled_all sent),
  )

  pub service_happens : (h : Happening) (rs : List Record) (sent : List (Address × Content)) (r : Report A)
      → IsTimely A (after A history) h → IsInRange h → done A (after A history) h
      ≡ with_responder (after A history) (serving n.seat.net n.seat.number) rs sent →
      drawn_by r ≡ None → Matches n.seat.net n.seat.number n.atp.zones.tables (after A history) h act r
      → StepTo A history n act (after A history).asked
      (with_transactions n.atp (record n.atp.transactions { service_responder = rs })) r →
      IsIts A history n act (record {
        report = r;
        state = with_atp n (with_transactions n.atp (record n.atp.transactions { service_responder = rs }));
        out = sent_by (serving n.seat.net n.seat.number) atp_kind (spelled_all sent);
      })
  service_happens h rs sent r timely range is none matches step =
      responder_happens h (serving n.seat.net n.seat.number) rs n.atp.zones.zone_responder rs sent r
      (with_service A history n st rs) timely range is none matches step

  pub zones_happen : (h : Happening) (rs : List Record) (sent : List (Address × Content)) (r : Report A)
      → IsTimely A (after A history) h → IsInRange h → done A (after A history) h
      ≡ with_responder (after A history) (zones_at n.seat.net n.seat.number) rs sent →
      drawn_by r ≡ None → Matches n.seat.net n.seat.number n.atp.zones.tables (after A history) h act r
      → StepTo A history n act (after A history).asked (with_zones n.atp (record n.atp.zones { zone_responder = rs })) r
      →
      IsIts A history n act (record {
        report = r;
        state = with_atp n (with_zones n.atp (record n.atp.zones { zone_responder = rs }));
        out = sent_by (zones_at n.seat.net n.seat.number) atp_kind (spelled_all sent);
      })
  zones_happen h rs sent r timely range is none matches step =
      responder_happens h (zones_at n.seat.net n.seat.number) rs rs n.atp.transactions.service_responder sent r
      (with_served A history n st rs) timely range is none matches step

  -- ---- an answer is given at a socket of this node, whose records become these

  pub gave_happens : (h : Happening) (r : Report A) (own from : Address) (tid : ℕ) (packets : List Packet)
      (served service : List Record) (sent : List (Address × Content)) →
      IsTimely A (after A history) h → IsInRange h → (done A (after A history) h).event ≡ (after A history).event
      → ((who : Address) → (done A (after A history) h).requesters who ≡ (after A history).requesters who) →
      ((at : Address) → (done A (after A history) h).responders at
      ≡ put (put (after A history).responders (serving n.seat.net n.seat.number) service)
      (zones_at n.seat.net n.seat.number) served at) →
      (done A (after A history) h).sent ≡ (after A history).sent ++ stamped (after A history).event own sent
      → (done A (after A history) h).drawn ≡ (after A history).drawn →
      (done A (after A history) h).asked ≡ answered (after A history).asked from tid packets → drawn_by r ≡ None
      → Matches n.seat.net n.seat.number n.atp.zones.tables (after A history) h act r →
      StepTo A history n act (answered (after A history).asked from tid packets)
      (joined (record n.atp.transactions { service_responder = service })
      (record n.atp.zones { zone_responder = served })) r →
      IsIts A history n act (record {
        report = r;
        state = with_atp n (joined (record n.atp.transactions { service_responder = service })
            (record n.atp.zones { zone_responder = served }));
        out = sent_by own atp_kind (spelled_all sent);
      })
  gave_happens h r own from tid packets served service sent timely range event requesters responders is drawn is_asked
      none matches step = (
        record {
          happening = h;
          timely = timely;
          in_range = range;
          same_event = event;
          requesters = λ who. requesters who ∙ requesters_stay A history n st who;
          responders = responders;
          more = stamped (after A history).event own sent;
          sent = is;
          posts = entries_of atp_coding (after A history).event own sent;
          drawn = drawn ∙ no_draw A history n st r none;
          on_net = subst (AllByRecursion (IsOn n.seat.net)) (sym is_asked)
              (answered_all (IsOn n.seat.net) (after A history).asked from tid packets st.on_net (λ a on. on));
          is_open = st.is_open;
          same_tables = λ no. refl;
          has_tables = st.has_tables;
          matches = matches;
        },
        subst (λ ts. StepTo A history n act ts (joined (record n.atp.transactions { service_responder = service })
            (record n.atp.zones { zone_responder = served }))
            r)
            (sym is_asked) step,
        all_sent atp_kind own (spelled_all sent),
      )
