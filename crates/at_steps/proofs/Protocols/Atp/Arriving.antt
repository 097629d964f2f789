-- What a datagram of the network that comes to a node is there, by the socket that it was sent to.
use Rattle.std.proofs.Common.{◌≡◌, inl, inr, ℕ, Bool, true, false, cond, List, Option, Some, None, refl, sym, ap, subst}
use Rattle.std.proofs.Common.{◌∙◌}
use Rattle.std.specs.Prelude.{MatchBool, option_map, ◌==◌, ◌||◌}
use Rattle.std.proofs.lemmas.Bool.{and_parts, eqb-true}
use Rattle.std.proofs.Math.Bool.{and-false}
use Rattle.at_ddp.specs.Datagram.{canonical}
use Rattle.at_atp_frame.specs.Frames.{Content, Request, Response, Release, spelled}
use Rattle.at_atp.specs.Lawfully.{IsLawfullySent}
use Rattle.at_ddp.specs.Posts.{packet_at}
use Rattle.at_ddp.proofs.PostLemmas.{sent_at}
use Rattle.at_ddp.specs.Protocols.{atp_kind}
use Rattle.at_atp.specs.Network.{Sent, Happening, NoneHolds, is_fresh, after}
use Rattle.at_zone_socket.specs.AtpHearing.{AtSocket, Requester, Service, Zones, atp_socket, AtRequester}
use Rattle.at_zone_socket.specs.AtpParts.{AtpState, with_zones, with_transactions}
use Rattle.at_transaction_socket.specs.TransactionSockets.{asking}
use Rattle.at_node.specs.Numbers.{drawn_by}
use Rattle.at_node.specs.Hearing.{Hears, HearsSent}
use Rattle.at_event.specs.Seats.{at_socket, is_mine}
use Rattle.at_node.specs.Nodes.{over_atp, with_atp, NodeState}
use Rattle.at_session.specs.Sessions.{list_kept}
use Rattle.at_event.specs.Outcomes.{Through, over, Outcome, idle}
use Rattle.at_event.specs.Services.{is_asked}
use Rattle.at_transaction_socket.specs.ServiceSocket.{service_heard}
use Rattle.at_zip.specs.Tables.{Tables}
use Rattle.at_zone_socket.specs.ZoneSocket.{AtZones}
use Rattle.at_zone_socket.specs.ZoneReading.{is_reading}
use Rattle.at_node.specs.declared.numbers.Draw.TheVariants.{Tid}
use Rattle.at_event.specs.declared.Report.TheVariants as report
use Rattle.at_event.specs.declared.service.Reply.{Reply}
use Rattle.at_event.specs.declared.service.Reply.TheVariants as reply
use Rattle.at_steps.specs.Acts.{Gets}
use Rattle.at_steps.specs.AtpHappenings.{Stands}
use Rattle.at_steps.proofs.Protocols.Atp.Below.{HearingLaws}
use Rattle.at_steps.proofs.Protocols.Atp.Coming.{requester_on_net, responder_on_net}
use Rattle.at_steps.proofs.Protocols.Atp.Heard.{response_happens}
use Rattle.at_steps.proofs.Protocols.Atp.Keeping.{keeping}
use Rattle.at_steps.proofs.Protocols.Atp.Moves.{idle_happens}
use Rattle.at_steps.proofs.Protocols.Atp.Standing.{IsIts}
use Rattle.at_steps.proofs.Protocols.Atp.Requested.{asks, released_where, service_release, service_request}
use Rattle.at_steps.proofs.Protocols.Atp.Served.{zone_release, zone_request}
use Rattle.at_zone_socket.specs.ZoneSockets.{ZoneState}

module _ (A : Type 0) (laws : HearingLaws A) (history : List Happening) (n : NodeState)
    (st : Stands A history n.seat.net n.seat.number n) (which : ℕ) (s : Sent)
    (was_sent : packet_at (after A history).sent which ≡ Some s) (fresh : is_fresh (after A history).drawn s ≡ true)
  where
    ignoring : (o : Outcome A AtpState) → o ≡ idle n.atp report.Ignored
        → IsIts A history n (Gets which) (over (with_atp n) o)
    ignoring o is = subst (λ p. IsIts A history n (Gets which) (over (with_atp n) p)) (sym is)
        (idle_happens A history n (Gets which) st report.Ignored refl refl refl)

    -- an address of this node
    its_address : (socket : ℕ) → s.to.net ≡ n.seat.net → s.to.node ≡ n.seat.number → s.to.socket ≡ socket → s.to
        ≡ at_socket n.seat n.seat.number socket
    its_address socket a b e = λ i. record { net = a i; node = b i; socket = e i }

    -- what the step of a packet draws is held by no responder
    abbrev Free : Outcome A AtpState → Type 0
    Free o = (k : ℕ) → drawn_by o.report ≡ Some (Tid k)
        → NoneHolds (after A history).responders (asking n.seat.net n.seat.number) k

    at_asker : (f : Content) (o : Outcome A AtpState) → Free o → s.packet ≡ f → s.to.node ≡ n.seat.number → s.to.socket
        ≡ 128 → AtRequester n.seat n.atp s.from f o → IsIts A history n (Gets which) (over (with_atp n) o)
    at_asker (Request mask xo timer tid user bytes) o free is here socket at =
        ignoring o (rw (and-false (is_reading n.atp.zones.reading tid)) at at)
    at_asker (Release tid) o free is here socket at = ignoring o
        (rw (and-false (is_reading n.atp.zones.reading tid)) at at)
    at_asker (Response place eom sts tid user bytes) o free is here socket at =
        let gives = laws.answers history st.timely in
        let p = gives.responded which s place eom sts tid user bytes was_sent fresh is in
        let on_net = requester_on_net n.seat.net (after A history).asked s.to tid s.from st.on_net p.0 in
        response_happens A laws history n st which s was_sent fresh (its_address 128 on_net here socket) place eom sts
        tid user bytes is (responder_on_net n.seat.net (after A history).asked s.to tid s.from st.on_net p.0) o
        free at

    at_service : (said : Reply A) (f : Content) (o : Outcome A AtpState)
        → (is_asked o.report ≡ true → said ≡ reply.Later) → s.packet ≡ f → s.to.node ≡ n.seat.number → s.to.socket ≡ 129
        → o ≡ over (with_transactions n.atp) (service_heard said n.seat n.atp.transactions s.from f) → IsIts A history n
        (Gets which) (over (with_atp n) o)
    at_service said (Response place eom sts tid user bytes) o later is here socket at = ignoring o at
    at_service said (Release tid) o later is here socket at =
        let a = released_where A laws history n st which s was_sent fresh tid is in
        let on_net = responder_on_net n.seat.net (after A history).asked s.from tid s.to st.on_net a in
        subst (λ p. IsIts A history n (Gets which) (over (with_atp n) p)) (sym at)
        (service_release A laws history n st which s was_sent fresh tid is (its_address 129 on_net here socket))
    at_service said (Request mask xo timer tid user bytes) o later is here socket at =
        let a = asks A laws history n st which s was_sent fresh mask xo timer tid user bytes is in
        let on_net = responder_on_net n.seat.net (after A history).asked s.from tid s.to st.on_net a.0 in
        service_request A laws history n st which s was_sent fresh (its_address 129 on_net here socket) mask xo timer
        tid
        user bytes is said o later at

    -- what comes of a part, in the whole
    abbrev zoned : Outcome A ZoneState → Outcome A AtpState
    zoned p = over (with_zones n.atp) p

    at_zone_socket : (f : Content) (o : Outcome A ZoneState) (tables : Tables) → n.atp.zones.tables ≡ Some tables
        → s.packet ≡ f → s.to.node ≡ n.seat.number → s.to.socket ≡ 6
        → AtZones n.seat n.atp.zones s.from tables f o → IsIts A history n (Gets which) (over (with_atp n) (zoned o))
    at_zone_socket (Response place eom sts tid user bytes) o tables has is here socket at =
        ignoring (zoned o) (ap zoned at)
    at_zone_socket (Release tid) o tables has is here socket at =
        let a = released_where A laws history n st which s was_sent fresh tid is in
        let on_net = responder_on_net n.seat.net (after A history).asked s.from tid s.to st.on_net a in
        subst (λ p. IsIts A history n (Gets which) (over (with_atp n) (zoned p))) (sym at)
        (zone_release A laws history n st which s was_sent fresh (its_address 6 on_net here socket) tid is)
    at_zone_socket (Request mask xo timer tid user bytes) o tables has is here socket (inr at) =
        ignoring (zoned o) (ap zoned at.1)
    at_zone_socket (Request mask xo timer tid user bytes) o tables has is here socket (inl at) =
        let a = asks A laws history n st which s was_sent fresh mask xo timer tid user bytes is in
        let on_net = responder_on_net n.seat.net (after A history).asked s.from tid s.to st.on_net a.0 in
        zone_request A laws history n st which s was_sent fresh (its_address 6 on_net here socket) mask xo timer tid
        user
        bytes is tables has at.which at.start at.asks (zoned o) (ap zoned at.outcome)

    -- which socket it comes to
    at_router : (o : Outcome A AtpState) (tables : Option Tables) (said : Reply A) → n.atp.zones.tables ≡ tables
        → s.to.node ≡ n.seat.number → s.to.socket ≡ 6 →
        AtSocket said n.seat n.atp s.from (option_map Zones tables) s.packet o
        → IsIts A history n (Gets which) (over (with_atp n) o)
    at_router o None said has here socket at = ignoring o at
    at_router o (Some tables) said has here socket at =
        subst (λ p. IsIts A history n (Gets which) (over (with_atp n) p)) (sym at.2)
        (at_zone_socket s.packet at.0 tables has refl here socket at.1)

    at_mine : (said : Reply A) (o : Outcome A AtpState) → Free o → (is_asked o.report ≡ true → said ≡ reply.Later)
        → s.to.node ≡ n.seat.number → (x y z : Bool) → (s.to.socket == 128) ≡ x → (s.to.socket == 129) ≡ y
        → (s.to.socket == 6) ≡ z →
        AtSocket said n.seat n.atp s.from
        (cond x (Some Requester) (cond y (Some Service) (cond z (option_map Zones n.atp.zones.tables) None))) s.packet o
        → IsIts A history n (Gets which) (over (with_atp n) o)
    at_mine said o free later here true y z e f g at = at_asker s.packet o free refl here
        (eqb-true s.to.socket 128 e) at
    at_mine said o free later here false true z e f g at = at_service said s.packet o later refl here
        (eqb-true s.to.socket 129 f) at
    at_mine said o free later here false false true e f g at = at_router o n.atp.zones.tables said refl here
        (eqb-true s.to.socket 6 g) at
    at_mine said o free later here false false false e f g at = ignoring o at

    pub datagram_happens : (said : Reply A) (o : Outcome A NodeState)
        → ((k : ℕ) → drawn_by o.report ≡ Some (Tid k)
        → NoneHolds (after A history).responders (asking n.seat.net n.seat.number) k)
        → (is_asked o.report ≡ true → said ≡ reply.Later)
        → Hears said n (canonical s.to s.from atp_kind (spelled s.packet)) o → IsIts A history n (Gets which) o
    datagram_happens said o free later h = go (is_mine n.seat s.to) refl heard_so
      where
        heard_so : HearsSent said n s.to s.from s.packet o
        heard_so =
            let l = sent_at IsLawfullySent (after A history).sent which s
            (laws.lawful_sent history st.in_range) was_sent in
            laws.hears said n s.to s.from s.packet o l.to_fits l.from_fits l.lawful h

        here : is_mine n.seat s.to ≡ true → s.to.node ≡ n.seat.number
        here e = let both = and_parts ((s.to.net == n.seat.net) || (s.to.net == 0)) (s.to.node == n.seat.number) e in
            eqb-true s.to.node n.seat.number both.1

        go : (b : Bool) → is_mine n.seat s.to ≡ b
            → MatchBool b (Through (over_atp n)
            (AtSocket said n.seat n.atp s.from (atp_socket n.atp s.to.socket) s.packet) o) (o ≡ idle n report.Ignored)
            → IsIts A history n (Gets which) o
        go false e g = subst (IsIts A history n (Gets which)) (sym g)
            (idle_happens A history n (Gets which) st report.Ignored refl refl refl)
        go true e g = subst (IsIts A history n (Gets which)) (sym g.2)
            (keeping A history n (Gets which) (over (with_atp n) g.0) (list_kept n.session g.0.report)
            (at_mine said g.0 (λ k is. free k (ap (λ (x : Outcome A NodeState). drawn_by x.report) g.2 ∙ is))
            (λ asked. later (ap (λ (x : Outcome A NodeState). is_asked x.report) g.2 ∙ asked)) (here e)
            (s.to.socket == 128) (s.to.socket == 129) (s.to.socket == 6) refl refl refl g.1))
