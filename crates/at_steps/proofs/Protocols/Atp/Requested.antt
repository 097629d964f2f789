-- What a request or a release that comes to a node's service is in the network.
use Rattle.std.proofs.Common.{◌≡◌, ℕ, Bool, true, false, cond, List, [], Some, None, refl, sym, ap, subst, ◌∙◌}
use Rattle.std.specs.Prelude.{find}
use Rattle.at_atp_frame.specs.Frames.{Content, Request, Release}
use Rattle.at_atp_responder.specs.Once.{is_new_of}
use Rattle.at_atp_responder.specs.Records.{is_key, received, finds_no_place}
use Rattle.at_atp_responder.specs.declared.reception.Key.{Key}
use Rattle.at_atp_responder.specs.declared.reception.Reception.{Reception}
use Rattle.at_atp_responder.specs.declared.reception.Reception.TheVariants as reception
use Rattle.at_atp.specs.Network as network
use Rattle.at_ddp.specs.Posts.{packet_at}
use Rattle.at_atp.specs.Network.{Sent, Happening, Takes, after, done, with_responder, is_fresh}
use Rattle.at_atp.specs.Transactions.{Asked, transaction_of}
use Rattle.at_zone_socket.specs.AtpParts.{AtpState, with_transactions}
use Rattle.at_transaction_socket.specs.TransactionSockets.{serving}
use Rattle.at_node.specs.Numbers.{drawn_by}
use Rattle.at_node.specs.Nodes.{with_atp, NodeState}
use Rattle.at_event.specs.Outcomes.{over, Outcome, idle}
use Rattle.at_transaction_socket.specs.Responders.{released_report}
use Rattle.at_event.specs.Services.{is_asked}
use Rattle.at_transaction_socket.specs.ServiceSocket.{service_taken, handed_up, at_service, service_asked}
use Rattle.at_transaction_socket.specs.ServiceSocket.{service_released}
use Rattle.at_event.specs.declared.Report.{Report}
use Rattle.at_event.specs.declared.Report.TheVariants as report
use Rattle.at_event.specs.declared.transactions.TransactionReport.TheVariants as atp_report
use Rattle.at_event.specs.declared.service.Reply.{Reply}
use Rattle.at_event.specs.declared.service.Reply.TheVariants as reply
use Rattle.at_steps.specs.Acts.{Gets}
use Rattle.at_steps.specs.AtpSteps as steps
use Rattle.at_steps.specs.AtpHappenings.{Stands}
use Rattle.at_steps.specs.AtpSteps.{Plain, is_plain}
use Rattle.at_steps.proofs.Protocols.Atp.Below.{HearingLaws}
use Rattle.at_steps.proofs.Protocols.Atp.Coming.{in_time}
use Rattle.at_steps.proofs.Protocols.Atp.Moves.{idle_happens, service_happens}
use Rattle.at_steps.proofs.Protocols.Atp.Standing.{IsIts}
use Rattle.at_steps.proofs.Protocols.Atp.Stories.{is_quiet, takes_quietly, takes_new, release_is_old, release_is_quiet}

-- whatever is reported of a release says nothing of transactions
pub release_is_plain : (A : Type 0) (which : ℕ) (r : Reception)
    → (is_plain (Gets which) (released_report {A = A} r) ≡ true) × (drawn_by (released_report {A = A} r) ≡ None)
release_is_plain A which reception.Ignored = (refl, refl)
release_is_plain A which (reception.New key) = (refl, refl)
release_is_plain A which (reception.Again count) = (refl, refl)
release_is_plain A which reception.Released = (refl, refl)

module _ (A : Type 0) (laws : HearingLaws A) (history : List Happening) (n : NodeState)
    (st : Stands A history n.seat.net n.seat.number n) (which : ℕ) (s : Sent)
    (was_sent : packet_at (after A history).sent which ≡ Some s) (fresh : is_fresh (after A history).drawn s ≡ true)
  where
    -- the newest transaction of this number, which asked this
    pub asks : (mask : ℕ) (xo : Bool) (timer tid : ℕ) (user bytes : List ℕ) → s.packet
        ≡ Request mask xo timer tid user bytes → (a : Asked (after A history).asked s.from tid s.to)
        × ((a.transaction).user ≡ user) × ((a.transaction).data_ ≡ bytes)
    asks mask xo timer tid user bytes packet_is =
        let gives = laws.answers history st.timely in
        let p = gives.requested which s mask xo timer tid user bytes was_sent fresh packet_is in
        (p.0, p.1, p.2)

    -- the newest transaction of this number, which asked the address that a release came to
    pub released_where : (tid : ℕ) → s.packet ≡ Release tid → Asked (after A history).asked s.from tid s.to
    released_where tid packet_is = let gives = laws.answers history st.timely in
        gives.released which s tid was_sent fresh packet_is

    module _ (to_is : s.to ≡ serving n.seat.net n.seat.number) (f : Content) (packet_is : s.packet ≡ f) where
      its_records : (after A history).responders s.to ≡ n.atp.transactions.service_responder
      its_records = ap (after A history).responders to_is ∙ st.service

      is_taken : done A (after A history) (Takes which)
          ≡ with_responder (after A history) (serving n.seat.net n.seat.number)
          (received n.atp.transactions.service_responder s.from f).after
          (received n.atp.transactions.service_responder s.from f).sent
      is_taken = ap (network.takes_in (after A history)) was_sent
          ∙ (λ i. with_responder (after A history) (to_is i) (received (its_records i) s.from (packet_is i)).after
          (received (its_records i) s.from (packet_is i)).sent)

      -- a packet that is not delivered
      quietly : (r : Report A) (x : Reception) → (received n.atp.transactions.service_responder s.from f).reception ≡ x
          → ((key : Key) → is_new_of key x ≡ false) → is_quiet r (Gets which) ≡ true → is_plain (Gets which) r ≡ true
          → drawn_by r ≡ None →
          IsIts A history n (Gets which)
          (over (with_atp n) (over (with_transactions n.atp)
          (service_taken n.seat n.atp.transactions (received n.atp.transactions.service_responder s.from f) r)))
      quietly r x is old quiet plain none =
          service_happens A history n (Gets which) st (Takes which)
          (received n.atp.transactions.service_responder s.from f).after
          (received n.atp.transactions.service_responder s.from f).sent r
          (in_time (after A history) which s was_sent fresh) tt
          is_taken none
          (takes_quietly A n.seat.net n.seat.number n.atp.zones.tables (after A history) which s was_sent r x
          ((λ i. (received (its_records i) s.from (packet_is i)).reception) ∙ is) old quiet)
          (Plain (record { plain = plain; asked = refl; reading = refl }))

    -- ---- a release

    pub service_release : (tid : ℕ) → s.packet ≡ Release tid → s.to ≡ serving n.seat.net n.seat.number
        → IsIts A history n (Gets which)
        (over (with_atp n) (over (with_transactions n.atp)
        (service_released n.seat n.atp.transactions (received n.atp.transactions.service_responder s.from
        (Release tid)))))
    service_release tid packet_is to_is =
        let plain = release_is_plain A which (received n.atp.transactions.service_responder s.from
        (Release tid)).reception
        in
        quietly to_is (Release tid) packet_is
        (released_report (received n.atp.transactions.service_responder s.from (Release tid)).reception)
        (received n.atp.transactions.service_responder s.from (Release tid)).reception refl
        (λ key. release_is_old n.atp.transactions.service_responder (record { from = s.from; tid = tid })
        (find (is_key (record { from = s.from; tid = tid })) n.atp.transactions.service_responder) key)
        (release_is_quiet A which (received n.atp.transactions.service_responder s.from
        (Release tid)).reception) plain.0
        plain.1

    -- ---- a request

    module _ (to_is : s.to ≡ serving n.seat.net n.seat.number) (mask : ℕ) (xo : Bool) (timer tid : ℕ)
        (user bytes : List ℕ) (packet_is : s.packet ≡ Request mask xo timer tid user bytes) where
      delivered : (key : Key) → (received n.atp.transactions.service_responder s.from
          (Request mask xo timer tid user bytes)).reception
          ≡ reception.New key → IsIts A history n (Gets which)
          (over (with_atp n) (over (with_transactions n.atp) (handed_up n.seat n.atp.transactions
          (received n.atp.transactions.service_responder s.from (Request mask xo timer tid user bytes)) key user bytes
          reply.Later)))
      delivered key is =
          let waits = laws.new_waits n.atp.transactions.service_responder s.from (Request mask xo timer tid user bytes)
          key is in
          let a = asks mask xo timer tid user bytes packet_is in
          service_happens A history n (Gets which) st (Takes which)
          (received n.atp.transactions.service_responder s.from (Request mask xo timer tid user bytes)).after []
          (report.Transactions (atp_report.Asked key user bytes)) (in_time (after A history) which s was_sent fresh) tt
          (is_taken to_is (Request mask xo timer tid user bytes) packet_is
          ∙ ap (with_responder (after A history) (serving n.seat.net n.seat.number)
          (received n.atp.transactions.service_responder s.from (Request mask xo timer tid user bytes)).after) waits.1)
          refl
          (takes_new A n.seat.net n.seat.number n.atp.zones.tables (after A history) which s was_sent key user bytes
          ((λ i. (received (its_records to_is (Request mask xo timer tid user bytes) packet_is i) s.from
          (packet_is i)).reception) ∙ is))
          (steps.Delivers (record {
            datagram = which;
            key = key;
            user = user;
            bytes = bytes;
            act = refl;
            report = refl;
            newest = record {
              transaction = (a.0).transaction;
              newest = (λ i. transaction_of (after A history).asked (waits.2 i).from (waits.2 i).tid) ∙ (a.0).newest;
              asked_it = (a.0).asked_it ∙ to_is;
            };
            is_user = a.1;
            is_data = a.2;
            asked = refl;
            reading = refl;
          }))

      by_reception : (said : Reply A) (o : Outcome A AtpState) (r : Reception)
          → (is_asked o.report ≡ true → said ≡ reply.Later)
          → (received n.atp.transactions.service_responder s.from (Request mask xo timer tid user bytes)).reception
          ≡ r →
          o ≡ over (with_transactions n.atp) (at_service n.seat n.atp.transactions
          (received n.atp.transactions.service_responder s.from (Request mask xo timer tid user bytes)) user
          bytes said r) → IsIts A history n (Gets which) (over (with_atp n) o)
      by_reception said o reception.Ignored later is at =
          subst (λ p. IsIts A history n (Gets which) (over (with_atp n) p)) (sym at)
          (quietly to_is (Request mask xo timer tid user bytes) packet_is report.Ignored reception.Ignored is
          (λ key. refl) refl refl refl)
      by_reception said o (reception.Again count) later is at =
          subst (λ p. IsIts A history n (Gets which) (over (with_atp n) p)) (sym at)
          (quietly to_is (Request mask xo timer tid user bytes) packet_is report.Again (reception.Again count) is
          (λ key. refl) refl refl refl)
      by_reception said o reception.Released later is at =
          subst (λ p. IsIts A history n (Gets which) (over (with_atp n) p)) (sym at)
          (quietly to_is (Request mask xo timer tid user bytes) packet_is (report.Transactions atp_report.Released)
          reception.Released is
          (λ key. refl) refl refl refl)
      by_reception said o (reception.New key) later is at =
          let is_later : said ≡ reply.Later = later (ap (λ (x : Outcome A AtpState). is_asked x.report) at) in
          subst (λ p. IsIts A history n (Gets which) (over (with_atp n) p))
          (sym (at ∙ ap (λ x. over (with_transactions n.atp) (handed_up n.seat n.atp.transactions
          (received n.atp.transactions.service_responder s.from
          (Request mask xo timer tid user bytes)) key user bytes x))
          is_later))
          (delivered key is)

      pub service_request : (said : Reply A) (o : Outcome A AtpState) → (is_asked o.report ≡ true → said ≡ reply.Later)
          → o ≡ over (with_transactions n.atp) (service_asked n.seat n.atp.transactions s.from
          (Request mask xo timer tid user bytes) user bytes said)
          → IsIts A history n (Gets which) (over (with_atp n) o)
      service_request said o later at =
          go (finds_no_place n.atp.transactions.service_responder s.from (Request mask xo timer tid user bytes)) at
        where
          go : (b : Bool) → o ≡ over (with_transactions n.atp)
              (cond b (idle n.atp.transactions (report.Refused 14))
              (at_service n.seat n.atp.transactions (received n.atp.transactions.service_responder s.from
              (Request mask xo timer tid user bytes))
              user
              bytes said (received n.atp.transactions.service_responder s.from
              (Request mask xo timer tid user bytes)).reception))
              → IsIts A history n (Gets which) (over (with_atp n) o)
          go true e = subst (λ p. IsIts A history n (Gets which) (over (with_atp n) p)) (sym e)
              (idle_happens A history n (Gets which) st (report.Refused 14) refl refl refl)
          go false e = by_reception said o
              (received n.atp.transactions.service_responder s.from
              (Request mask xo timer tid user bytes)).reception later
              refl e
