-- A transaction begins at a node, by a call or by a packet that ends another one.
use Rattle.std.proofs.Common.{◌≡◌, ℕ, Bool, true, false, cond, List, [], ◌∷◌, ◌++◌, Option, Some, None, refl, sym, ap}
use Rattle.std.proofs.Common.{subst, ◌∙◌}
use Rattle.std.specs.List.{AllByRecursion}
use Rattle.std.proofs.lemmas.List.{append-nil}
use Rattle.at_ddp.specs.declared.address.Address.{Address}
use Rattle.at_atp_frame.specs.Frames.{spelled_all}
use Rattle.at_atp_frame.specs.Packets.{IsPacket}
use Rattle.at_atp_requester.specs.Requests as requests
use Rattle.at_atp_requester.specs.Requests.{Requests, finishes, heard, next_number, beginning, request_by}
use Rattle.at_atp.specs.Lawfully.{IsInRange, IsAsking}
use Rattle.at_atp.specs.Network as network
use Rattle.at_ddp.specs.Posts.{packet_at, put, stamped}
use Rattle.at_ddp.proofs.PostLemmas.{put_here}
use Rattle.at_ddp.specs.Protocols.{atp_kind}
use Rattle.at_steps.proofs.Entries.{entries_of}
use Rattle.at_atp.specs.Network.{Network, Sent, Happening, Begins, Turns, ComesInTime, NoneHolds, ending, number_after}
use Rattle.at_atp.specs.Network.{after, done, with_requester, new_transaction, IsTimely}
use Rattle.at_zone_socket.specs.AtpParts.{AtpState, with_reading}
use Rattle.at_zone_socket.specs.ZoneSockets.{Reading}
use Rattle.at_transaction_socket.specs.TransactionSockets.{asking}
use Rattle.at_node.specs.Numbers.{drawn_by}
use Rattle.at_node.specs.Nodes.{NodeState, with_atp}
use Rattle.at_event.specs.Outcomes.{sent_by}
use Rattle.at_event.specs.declared.Report.{Report}
use Rattle.at_event.specs.declared.Report.TheVariants as report
use Rattle.at_event.specs.declared.transactions.TransactionReport.TheVariants as atp_report
use Rattle.at_steps.specs.Acts.{Act}
use Rattle.at_steps.specs.AtpReports.{Matches}
use Rattle.at_steps.specs.AtpHappenings.{Stands, IsOn, IsOpen, numbers_drawn, atp_coding}
use Rattle.at_steps.proofs.Protocols.Atp.Values.{put_twice}
use Rattle.at_steps.proofs.Coming.{all_sent}
use Rattle.at_steps.proofs.Protocols.Atp.Standing.{IsIts, StepTo, responders_stay}

-- a network that differs from an older one in a requester alone, which is this one
record Differs (old now : Network) (who : Address) (x : Requests) : Type 0 where
  event : now.event ≡ old.event
  requesters : (f : Requests → Requests) (at : Address)
      → put now.requesters who (f (now.requesters who)) at ≡ put old.requesters who (f x) at
  responders : now.responders ≡ old.responders
  sent : now.sent ≡ old.sent
  drawn : now.drawn ≡ old.drawn
  asked : now.asked ≡ old.asked

module _ (A : Type 0) (history : List Happening) (n : NodeState) (act : Act A)
    (st : Stands A history n.seat.net n.seat.number n) where
  abbrev who : Address
  who = asking n.seat.net n.seat.number

  -- the part after a transaction began at this requester, with this reading
  abbrev began : Requests → requests.Transaction → Option Reading → AtpState
  began x t reading = with_reading n.atp reading (record n.atp.transactions { requester = requests.begun x t })

  abbrev told : requests.Transaction → Report A
  told t = report.Transactions (atp_report.Begun t.tid)

  begins_so : (h : Happening) (now : Network) (x : Requests) (t : requests.Transaction) (reading : Option Reading)
      → Differs (after A history) now who x → done A (after A history) h ≡ network.begun now who t
      → IsTimely A (after A history) h → IsInRange h → (t.to).net ≡ n.seat.net → IsOpen (began x t reading)
      → Matches n.seat.net n.seat.number n.atp.zones.tables (after A history) h act (told t)
      → StepTo A history n act (new_transaction who t ∷ (after A history).asked) (began x t reading) (told t)
      → IsIts A history n act (record {
        report = told t;
        state = with_atp n (began x t reading);
        out = sent_by who atp_kind (spelled_all ((t.to, request_by t) ∷ []));
      })
  begins_so h now x t reading d is timely range on_net opened matches step =
      let asked : (done A (after A history) h).asked ≡ new_transaction who t ∷ (after A history).asked =
      ap (λ (y : Network). y.asked) is ∙ ap (λ ts. new_transaction who t ∷ ts) d.asked in (
        record {
          happening = h;
          timely = timely;
          in_range = range;
          same_event = ap (λ (y : Network). y.event) is ∙ d.event;
          requesters = λ at. ap (λ (y : Network). y.requesters at) is ∙ d.requesters (λ r. requests.begun r t) at;
          responders = λ at. ap (λ (y : Network). y.responders at) is ∙ (λ i. d.responders i at)
              ∙ responders_stay A history n st at;
          more = stamped (after A history).event who ((t.to, request_by t) ∷ []);
          sent = ap (λ (y : Network). y.sent) is
              ∙ (λ i. d.sent i ++ stamped (d.event i) who ((t.to, request_by t) ∷ []));
          posts = entries_of atp_coding (after A history).event who ((t.to, request_by t) ∷ []);
          drawn = ap (λ (y : Network). y.drawn) is
              ∙ (λ i. d.drawn i ++ numbers_drawn (d.event i) who (drawn_by (told t)));
          on_net = subst (AllByRecursion (IsOn n.seat.net)) (sym asked) ((refl, on_net), st.on_net);
          is_open = opened;
          same_tables = λ no. refl;
          has_tables = st.has_tables;
          matches = matches;
        },
        subst (λ ts. StepTo A history n act ts (began x t reading) (told t)) (sym asked) step,
        all_sent atp_kind who (spelled_all ((t.to, request_by t) ∷ [])),
      )

  -- ---- a transaction begins

  pub begun_happens : (to : Address) (user bytes : List ℕ) (wanted : ℕ) (xo : Bool) (retries tid : ℕ)
      (reading : Option Reading) → next_number n.atp.transactions.requester ≡ Some tid
      → NoneHolds (after A history).responders (asking n.seat.net n.seat.number) tid →
      IsAsking (asking n.seat.net n.seat.number) to user bytes wanted → to.net ≡ n.seat.net
      → IsOpen (with_reading n.atp reading (record n.atp.transactions
      { requester = requests.begun n.atp.transactions.requester (beginning tid to user bytes wanted xo retries) })) →
      Matches n.seat.net n.seat.number n.atp.zones.tables (after A history)
      (Begins (asking n.seat.net n.seat.number) to user bytes wanted xo retries) act
      (report.Transactions (atp_report.Begun tid)) →
      StepTo A history n act (new_transaction (asking n.seat.net n.seat.number)
      (beginning tid to user bytes wanted xo retries) ∷ (after A history).asked)
      (with_reading n.atp reading (record n.atp.transactions
      { requester = requests.begun n.atp.transactions.requester (beginning tid to user bytes wanted xo retries) }))
      (report.Transactions (atp_report.Begun tid)) →
      IsIts A history n act (record {
        report = report.Transactions (atp_report.Begun tid);
        state = with_atp n (with_reading n.atp reading
            (record n.atp.transactions {
              requester = requests.begun n.atp.transactions.requester
                  (beginning tid to user bytes wanted xo retries);
            }));
        out = sent_by (asking n.seat.net n.seat.number) atp_kind
            (spelled_all ((to, request_by (beginning tid to user bytes wanted xo retries)) ∷ []));
      })
  begun_happens to user bytes wanted xo retries tid reading drawn free range on_net opened matches step =
      begins_so (Begins who to user bytes wanted xo retries) (after A history) n.atp.transactions.requester
      (beginning tid to user bytes wanted xo retries) reading
      (record {
        event = refl;
        requesters = λ f at. ap (λ r. put (after A history).requesters who (f r) at) st.requester;
        responders = refl;
        sent = refl;
        drawn = refl;
        asked = refl;
      })
      (ap (λ o. network.begins (after A history) who to user bytes wanted xo retries o)
      (ap next_number st.requester ∙ drawn))
      (λ number is. let same : tid
      ≡ number = some_number tid number (sym drawn ∙ ap next_number (sym st.requester) ∙ is) in subst
      (NoneHolds (after A history).responders who) same free)
      range on_net opened matches step
    where
      some_number : (a b : ℕ) → Some a ≡ Some b → a ≡ b
      some_number a b h = cc

  -- ---- a packet ends a transaction, and the next one begins

  module _ (which : ℕ) (s : Sent) (user : List ℕ) (times tid : ℕ)
      (was_sent : packet_at (after A history).sent which ≡ Some s) (to_is : s.to ≡ asking n.seat.net n.seat.number)
      (ends : finishes A n.atp.transactions.requester s.from s.packet ≡ true)
      (drawn : next_number (heard {A = A} n.atp.transactions.requester s.from s.packet).after ≡ Some tid)
      (nothing : (heard {A = A} n.atp.transactions.requester s.from s.packet).sent ≡ []) where
    its : (after A history).requesters s.to ≡ n.atp.transactions.requester
    its = ap (after A history).requesters to_is ∙ st.requester

    abbrev next : requests.Transaction
    next = beginning tid s.from user [] 1 false times

    pub it_ends : ending A (after A history) (packet_at (after A history).sent which) ≡ Some s
    it_ends = ap (ending A (after A history)) was_sent
        ∙ ap (λ b. cond b (Some s) None) (ap (λ r. finishes A r s.from s.packet) its ∙ ends)

    pub it_draws : number_after A (after A history) s ≡ Some tid
    it_draws = ap (λ r. next_number (heard {A = A} r s.from s.packet).after) its ∙ drawn

    turned : done A (after A history) (Turns which user times)
        ≡ network.begun (with_requester (after A history) (asking n.seat.net n.seat.number)
        (heard {A = A} n.atp.transactions.requester s.from s.packet).after []) (asking n.seat.net n.seat.number)
        (beginning tid s.from user [] 1 false times)
    turned =
        ap (network.turns A (after A history) user times) it_ends
        ∙ ap (network.begins (network.hears A (after A history) (Some s)) s.to s.from user [] 1 false times) it_draws
        ∙ (λ i. network.begun (with_requester (after A history) (to_is i) (heard {A = A} (its i) s.from s.packet).after
        (heard {A = A} (its i) s.from s.packet).sent) (to_is i) (beginning tid s.from user [] 1 false times))
        ∙ ap (λ l. network.begun
        (with_requester (after A history) (asking n.seat.net n.seat.number)
        (heard {A = A} n.atp.transactions.requester s.from s.packet).after l) (asking n.seat.net n.seat.number)
        (beginning tid s.from user [] 1 false times)) nothing

    pub turned_happens : (reading : Option Reading) → ComesInTime (after A history) which
        → NoneHolds (after A history).responders (asking n.seat.net n.seat.number) tid
        → IsPacket (record { user = user; data_ = [] }) → (s.from).net ≡ n.seat.net →
        IsOpen (with_reading n.atp reading (record n.atp.transactions {
          requester = requests.begun (heard {A = A} n.atp.transactions.requester s.from s.packet).after
              (beginning tid s.from user [] 1 false times);
        })) →
        Matches n.seat.net n.seat.number n.atp.zones.tables (after A history) (Turns which user times) act
        (report.Transactions (atp_report.Begun tid)) →
        StepTo A history n act (new_transaction (asking n.seat.net n.seat.number)
        (beginning tid s.from user [] 1 false times) ∷ (after A history).asked)
        (with_reading n.atp reading (record n.atp.transactions {
          requester = requests.begun (heard {A = A} n.atp.transactions.requester s.from s.packet).after
              (beginning tid s.from user [] 1 false times);
        })) (report.Transactions (atp_report.Begun tid)) →
        IsIts A history n act (record {
          report = report.Transactions (atp_report.Begun tid);
          state = with_atp n (with_reading n.atp reading
              (record n.atp.transactions {
                requester = requests.begun
                    (heard {A = A} n.atp.transactions.requester s.from s.packet).after
                    (beginning tid s.from user [] 1 false times);
              }));
          out = sent_by (asking n.seat.net n.seat.number) atp_kind
              (spelled_all ((s.from, request_by (beginning tid s.from user [] 1 false times)) ∷ []));
        })
    turned_happens reading in_time free asks on_net opened matches step =
        begins_so (Turns which user times)
        (with_requester (after A history) who (heard {A = A} n.atp.transactions.requester s.from s.packet).after [])
        (heard {A = A} n.atp.transactions.requester s.from s.packet).after next reading
        (record {
          event = refl;
          requesters = λ f at. put_twice (after A history).requesters who
              (heard {A = A} n.atp.transactions.requester s.from s.packet).after
              (f (put (after A history).requesters who (heard {A = A} n.atp.transactions.requester s.from
              s.packet).after who)) at
              ∙ ap (λ r. put (after A history).requesters who (f r) at)
              (put_here (after A history).requesters who
              (heard {A = A} n.atp.transactions.requester s.from s.packet).after);
          responders = refl;
          sent = append-nil (after A history).sent;
          drawn = refl;
          asked = refl;
        })
        turned (
          in_time,
          λ x k is drew.
              let same : s ≡ x = some_sent (sym it_ends ∙ is) in
              let number : tid ≡ k = some_number (sym it_draws ∙ ap (number_after A (after A history)) same ∙ drew) in
              subst (λ y. NoneHolds (after A history).responders y k) (sym to_is ∙ ap (λ (y : Sent). y.to) same)
              (subst (NoneHolds (after A history).responders who) number free),
        )
        asks on_net opened matches step
      where
        some_number : {a b : ℕ} → Some a ≡ Some b → a ≡ b
        some_number h = cc

        some_sent : {a b : Sent} → Some a ≡ Some b → a ≡ b
        some_sent h = cc
